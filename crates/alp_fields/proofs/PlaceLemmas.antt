-- Fields that are put one behind the other are one field.
use Rattle.std.proofs.Common.{◌≡◌, ℕ, ◌+◌, ◌-◌, ◌*◌, ◌<◌, ◌≤◌, List, [], ◌∷◌, ◌++◌, length, get_or, take, drop, replicate, Some, None, true, refl, sym, ap, subst, ◌∙◌, append_assoc, arith, length-append}
use Rattle.std.specs.List.{flat_map, AllByRecursion}
use Rattle.std.proofs.lemmas.List.{append-nil, length-take-le, take_at, drop_at, drop-drop, take-append-drop, take_more, take_all, length_push, drop_all}
use Rattle.std.proofs.lemmas.Bool.{le-leb}
use Rattle.alp_base.specs.declared.lists.TheConstants.{NAMES_PER_LIST}
use Rattle.alp_base.specs.declared.name.TheConstants.{NAME_BYTES}
use Rattle.alp_base.specs.Names.{is_name}
use Rattle.alp_base.specs.Padded.{padded}
use Rattle.alp_fields.specs.Forms.{Form, HasLength, IsSet, pair, mapped, repeated, zeros_of, zeros_behind, u8}
use Rattle.alp_base.specs.Pages.{overwritten}
use Rattle.alp_fields.specs.Fields.{name_length, text_field, named_field, name_field, name_field_bytes, list_count, list_field}
use Rattle.alp_base.proofs.NameLemmas as names
use Rattle.alp_fields.proofs.FieldLaws.{u8_spell}
use Rattle.alp_fields.proofs.FixedLaws.{u8_length, text_fits, repeated_length, names_length}

pub overwritten-overwritten : (old : List ℕ) (at j : ℕ) (first second : List ℕ) → at ≤ length old → j ≡ at + length first → overwritten (overwritten old at first) j second ≡ overwritten old at (first ++ second)
overwritten-overwritten old at j first second room is =
    let front : List ℕ = take at old ++ first in
    let behind : List ℕ = drop (at + length first) old in
    let mid : overwritten old at first ≡ front ++ behind = sym (append_assoc (take at old) first behind) in
    let len : length front ≡ j = omega (arith, length-append (take at old) first, length-take-le at old room) in
    let before : take j (overwritten old at first) ≡ front = ap (take j) mid ∙ take_at front behind j len in
    let after : drop j (overwritten old at first) ≡ behind = ap (drop j) mid ∙ drop_at front behind j len in
    let rest : drop (j + length second) (overwritten old at first) ≡ drop (at + length (first ++ second)) old =
    sym (drop-drop (length second) j (overwritten old at first)) ∙ ap (drop (length second)) after ∙ drop-drop (length second) (at + length first) old
    ∙ ap (λ (k : ℕ). drop k old) (omega (arith, length-append first second)) in
    ap (λ (bs : List ℕ). bs ++ (second ++ drop (j + length second) (overwritten old at first))) before
    ∙ ap (λ (bs : List ℕ). front ++ (second ++ bs)) rest
    ∙ append_assoc (take at old) first (second ++ drop (at + length (first ++ second)) old)
    ∙ ap (λ (bs : List ℕ). take at old ++ bs) (sym (append_assoc first second (drop (at + length (first ++ second)) old)))

-- two fields, the second right behind the first
pub set_pair : {A B : Type 0} (a : Form A) (b : Form B) (x : A) (y : B) (at j : ℕ) (old mid new : List ℕ) → at ≤ length old → j ≡ at + length (a.spell x) → IsSet a x at old mid → IsSet b y j mid new → IsSet (pair a b) (x, y) at old new
set_pair a b x y at j old mid new room is first second = record {
  set = second.set ∙ ap (λ (bs : List ℕ). overwritten bs j (b.spell y)) first.set ∙ overwritten-overwritten old at j (a.spell x) (b.spell y) room is;
  fits = (first.fits, second.fits);
}

-- ---- names in fields

pub named_set : (v : List ℕ) (at : ℕ) (old mid new : List ℕ) → at ≤ length old → is_name v ≡ true → IsSet u8 (length v) at old mid → new ≡ overwritten mid (at + 1) (padded v) → IsSet named_field v at old new
unfolding named_field text_field name_length
named_set v at old mid new room named size rest =
    let short : length v ≤ NAME_BYTES = names.name_length v named in
    record {
      set = rest ∙ ap (λ (bs : List ℕ). overwritten bs (at + 1) (padded v)) size.set
          ∙ overwritten-overwritten old at (at + 1) (u8.spell (length v)) (padded v) room (omega (arith, u8_length (length v)));
      fits = (text_fits v short, named);
    }

pub name_field_some : (v : List ℕ) (at : ℕ) (old new : List ℕ) → IsSet named_field v at old new → IsSet name_field (Some v) at old new
unfolding name_field named_field
name_field_some v at old new named = record { set = named.set; fits = named.fits.1 }

pub name_field_none : (at : ℕ) (old new : List ℕ) → new ≡ overwritten old at (replicate name_field_bytes 0) → IsSet name_field None at old new
unfolding name_field text_field name_length
name_field_none at old new zeros = record { set = zeros ∙ ap (λ (bs : List ℕ). overwritten old at (bs ++ replicate NAME_BYTES 0)) (sym (u8_spell 0)); fits = tt }

-- ---- several fields of one length in a row

all_push : {A : Type 0} (P : A → Type 0) (vs : List A) (v : A) → AllByRecursion P vs → P v → AllByRecursion P (vs ++ v ∷ [])
all_push P [] v all here = (here, tt)
all_push P (x ∷ vs) v all here = (all.0, all_push P vs v all.1 here)

spell_push : {A : Type 0} (a : Form A) (vs : List A) (v : A) → flat_map a.spell (vs ++ v ∷ []) ≡ flat_map a.spell vs ++ a.spell v
spell_push a [] v = append-nil (a.spell v)
spell_push a (x ∷ vs) v = ap (λ (bs : List ℕ). a.spell x ++ bs) (spell_push a vs v) ∙ sym (append_assoc (a.spell x) (flat_map a.spell vs) (a.spell v))

pub set_none : {A : Type 0} (a : Form A) (vs : List A) (at : ℕ) (old : List ℕ) → IsSet (repeated a 0) (take 0 vs) at old old
set_none a vs at old = record { set = sym (take-append-drop at old) ∙ ap (λ (k : ℕ). take at old ++ drop k old) (omega arith); fits = (refl, tt) }

pub set_more : {A : Type 0} (a : Form A) (k : ℕ) (vs : List A) (i : ℕ) (v : A) (at j : ℕ) (old mid new : List ℕ) → HasLength a k → i < length vs → v ≡ get_or vs i v → at ≤ length old → j ≡ at + i * k
    → IsSet (repeated a i) (take i vs) at old mid → IsSet a v j mid new → IsSet (repeated a (i + 1)) (take (i + 1) vs) at old new
set_more a k vs i v at j old mid new long lt is room place so_far one =
    let more : take (i + 1) vs ≡ take i vs ++ v ∷ [] = take_more vs i v lt ∙ ap (λ (x : _). take i vs ++ x ∷ []) (sym is) in
    let len : length (flat_map a.spell (take i vs)) ≡ i * k = repeated_length a k long (take i vs) so_far.fits.1 ∙ ap (λ (n : ℕ). n * k) so_far.fits.0 in
    rw more (record {
      set = one.set ∙ ap (λ (bs : List ℕ). overwritten bs j (a.spell v)) so_far.set
          ∙ overwritten-overwritten old at j (flat_map a.spell (take i vs)) (a.spell v) room (place ∙ ap (λ (n : ℕ). at + n) (sym len))
          ∙ ap (overwritten old at) (sym (spell_push a (take i vs) v));
      fits = (rw (length_push, so_far.fits.0) refl, all_push a.Fits (take i vs) v so_far.fits.1 one.fits);
    })

pub set_all : {A : Type 0} (a : Form A) (vs : List A) (i : ℕ) (at : ℕ) (old new : List ℕ) → length vs ≤ i → IsSet (repeated a i) (take i vs) at old new → IsSet (repeated a (length vs)) vs at old new
set_all a vs i at old new le done =
    let every : take i vs ≡ vs = take_all i vs le in
    record {
      set = done.set ∙ ap (λ (ws : List _). overwritten old at (flat_map a.spell ws)) every;
      fits = (refl, subst (λ (ws : List _). AllByRecursion a.Fits ws) every done.fits.1);
    }

-- a count, the names, and zeros in place of those that are left out
pub list_field_set : (vs : List (List ℕ)) (at : ℕ) (old first second new : List ℕ) → at ≤ length old → length vs ≤ NAMES_PER_LIST → IsSet u8 (length vs) at old first
    → IsSet (repeated named_field (length vs)) vs (at + 1) first second → length first ≡ length old → at + 1 ≤ length old
    → new ≡ overwritten second (at + 1 + length vs * name_field_bytes) (replicate ((NAMES_PER_LIST - length vs) * name_field_bytes) 0) → IsSet list_field vs at old new
unfolding list_field list_count
list_field_set vs at old first second new room few count every same more zeros =
    let n : ℕ = length vs in
    let unused : List ℕ = replicate ((NAMES_PER_LIST - n) * name_field_bytes) 0 in
    let len : length (flat_map named_field.spell vs) ≡ n * name_field_bytes = names_length vs every.fits.1 in
    let behind : new ≡ overwritten first (at + 1) (flat_map named_field.spell vs ++ unused) =
    zeros ∙ ap (λ (bs : List ℕ). overwritten bs (at + 1 + n * name_field_bytes) unused) every.set
    ∙ overwritten-overwritten first (at + 1) (at + 1 + n * name_field_bytes) (flat_map named_field.spell vs) unused (omega arith) (ap (λ (k : ℕ). at + 1 + k) (sym len)) in
    record {
      set = behind ∙ ap (λ (bs : List ℕ). overwritten bs (at + 1) (flat_map named_field.spell vs ++ unused)) count.set
          ∙ overwritten-overwritten old at (at + 1) (u8.spell n) (flat_map named_field.spell vs ++ unused) room (omega (arith, u8_length n));
      fits = ((count.fits, le-leb n NAMES_PER_LIST few), (every.fits, tt));
    }

-- a field that is put over all of the bytes
pub set_whole : {A : Type 0} (a : Form A) (x : A) (old new : List ℕ) → length (a.spell x) ≡ length old → IsSet a x 0 old new → new ≡ a.spell x
set_whole a x old new len done =
    let nothing : drop (0 + length (a.spell x)) old ≡ [] = drop_all (0 + length (a.spell x)) old (omega (arith, len)) in
    done.set ∙ ap (λ (bs : List ℕ). take 0 old ++ (a.spell x ++ bs)) nothing ∙ append-nil (a.spell x)

-- the same bytes for other values
pub set_mapped : {A T : Type 0} (into : A → T) (out : T → A) (a : Form A) (v : T) (at : ℕ) (old new : List ℕ) → IsSet a (out v) at old new → IsSet (mapped into out a) v at old new
set_mapped into out a v at old new done = record { set = done.set; fits = done.fits }

-- a field and zeros behind it
pub set_zeros_behind : {A : Type 0} (a : Form A) (x : A) (n at j : ℕ) (old mid new : List ℕ) → at ≤ length old → j ≡ at + length (a.spell x) → IsSet a x at old mid → new ≡ overwritten mid j (replicate n 0) → IsSet (zeros_behind n a) x at old new
set_zeros_behind a x n at j old mid new room is front zeros =
    set_mapped (λ v. v.0) (λ v. (v, tt)) (pair a (zeros_of n)) x at old new
    (set_pair a (zeros_of n) x tt at j old mid new room is front (record { set = zeros; fits = tt }))
