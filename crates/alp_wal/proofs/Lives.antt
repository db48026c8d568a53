-- Live notes: what changes make of them, how long records are, and the batch of the notes.
use Rattle.std.proofs.Common.{◌≡◌, inl, inr, ◌<◌, ◌≤◌, ◌+◌, ℕ, suc, Bool, true, false, List, [], ◌∷◌, ◌++◌, length, Option, Some, None, refl, sym, ap, subst, ◌∙◌, append_assoc, arith}
use Rattle.std.specs.Prelude.{◌^◌, ◌&&◌, cond, not, zip, map as list_map}
use Rattle.std.specs.List.{AllByRecursion}
use Rattle.std.proofs.Math.Dec.{T}
use Rattle.std.specs.Ordering.{is_lt, eq_by_cmp, ordering_reverse}
use Rattle.std.specs.Cmp.Lexicographic.{nat_list_cmp_total}
use Rattle.std.specs.FinMap as map
use Rattle.std.specs.FinMap.{entries_sorted, entries-insert, len-entries, same_entries_map}
use Rattle.std.specs.FinMap.Entries.{by_order, put, where_key, below_all}
use Rattle.std.specs.declared.cmp.Ordering.{Ordering}
use Rattle.std.specs.declared.cmp.Ordering.TheVariants.{Less, Equal, Greater}
use Rattle.std.proofs.lemmas.List.{append-nil}
use Rattle.alp_base.specs.Notes.{Notes, text_cmp, noted, notes_after}
use Rattle.alp_base.specs.declared.bytes.NoteChange.{NoteChange}
use Rattle.alp_batch.specs.declared.batch.Batch.{Batch}
use Rattle.alp_fields.specs.Rising.{rises_from, is_rising}
use Rattle.alp_batch.specs.Batch.{puts_note, IsBatch, IsShort, IsShortValue, name_below, valued_length, notes_length}
use Rattle.alp_notes.proofs.RowLemmas.{entries-remove, entries-empty}
use Rattle.alp_wal.specs.Live.{puts, notes_batch, batch_pages, notes_pages, AreLive, AreWithin, BothFit}

abbrev Entries : Type 0
Entries = List (List ℕ × List ℕ)

-- how long the notes are
abbrev live_length : Notes → ℕ
live_length notes = notes_length (puts (map.entries notes))

abbrev pub AreShort : Notes → Type 0
AreShort notes = AllByRecursion IsShort (puts (map.entries notes))

-- ---- how long the notes are after a change

put_length : (name value : List ℕ) (es : Entries) → notes_length (puts (put text_cmp name value es)) ≤ 6 + length name + length value + notes_length (puts es)
put_length name value [] = omega arith
put_length name value (e ∷ es) = go (text_cmp name e.0) (put_length name value es)
  where
    go : (o : Ordering) → notes_length (puts (put text_cmp name value es)) ≤ 6 + length name + length value + notes_length (puts es)
        → notes_length (puts (by_order o ((name, value) ∷ e ∷ es) ((e.0, value) ∷ es) (e ∷ put text_cmp name value es))) ≤ 6 + length name + length value + notes_length (puts (e ∷ es))
    go Less rest = omega arith
    go Equal rest = omega arith
    go Greater rest = omega (arith, rest)

where_length : (p : List ℕ → Bool) (es : Entries) → notes_length (puts (where_key text_cmp p es)) ≤ notes_length (puts es)
where_length p [] = omega arith
where_length p (e ∷ es) = go (p e.0) (where_length p es)
  where
    go : (b : Bool) → notes_length (puts (where_key text_cmp p es)) ≤ notes_length (puts es) → notes_length (puts (cond b (e ∷ where_key text_cmp p es) (where_key text_cmp p es))) ≤ notes_length (puts (e ∷ es))
    go true rest = omega (arith, rest)
    go false rest = omega (arith, rest)

noted_length : (name : List ℕ) (value : Option (List ℕ)) (notes : Notes) → live_length (noted name value notes) ≤ 2 + length name + valued_length value + live_length notes
noted_length name None notes =
    let others : live_length (map.remove notes name) ≡ notes_length (puts (where_key text_cmp (λ k. not (eq_by_cmp text_cmp name k)) (map.entries notes))) = ap (λ (es : Entries). notes_length (puts es)) (entries-remove notes name) in
    omega (arith, others, where_length (λ k. not (eq_by_cmp text_cmp name k)) (map.entries notes))
noted_length name (Some value) notes =
    let all : live_length (map.insert notes name value) ≡ notes_length (puts (put text_cmp name value (map.entries notes))) = ap (λ (es : Entries). notes_length (puts es)) (entries-insert nat_list_cmp_total notes name value) in
    omega (arith, all, put_length name value (map.entries notes))

after_length : (cs : List NoteChange) (notes : Notes) → live_length (notes_after cs notes) ≤ live_length notes + notes_length cs
after_length [] notes = omega arith
after_length (c ∷ cs) notes = omega (arith, after_length cs (noted c.name c.value notes), noted_length c.name c.value notes)

-- ---- records of the notes fit

pub none_long : (notes : Notes) → notes ≡ map.empty → live_length notes ≡ 0
none_long notes none = ap (λ (n : Notes). live_length n) none ∙ ap (λ (es : Entries). notes_length (puts es)) entries-empty

pub none_live : (notes : Notes) → notes ≡ map.empty → AreLive notes
none_live notes none =
    let nothing : map.entries notes ≡ [] = ap (λ (n : Notes). map.entries n) none ∙ entries-empty in
    record {
      few = omega (arith, len-entries notes, ap (λ (es : Entries). length es) nothing);
      short = subst (λ (es : Entries). AllByRecursion IsShort (puts es)) (sym nothing) tt;
    }

pub none_fit : (area : ℕ) (notes : Notes) → notes ≡ map.empty → 64 ≤ area → notes_pages notes ≤ area
none_fit area notes none enough = omega (arith, none_long notes none, enough)

pub within_next : (first end : ℕ) (notes : Notes) (b : Batch) → AreWithin first end notes → first ≤ end → AreWithin first (end + batch_pages b) (notes_after b.notes notes)
within_next first end notes b (inl none) above = inr (omega (arith, after_length b.notes notes, none_long notes none, above))
within_next first end notes b (inr within) above = inr (omega (arith, after_length b.notes notes, within, above))

pub fits_within : (first end area : ℕ) (notes : Notes) → AreWithin first end notes → end ≤ first + area → 64 ≤ area → notes_pages notes ≤ area
fits_within first end area notes (inl none) inside enough = omega (arith, none_long notes none, enough)
fits_within first end area notes (inr within) inside enough = omega (arith, within, inside)

pub fits_next : (area : ℕ) (notes : Notes) (b : Batch) → BothFit area notes b → notes_pages (notes_after b.notes notes) ≤ area
fits_next area notes b fit = omega (arith, after_length b.notes notes, fit)

-- ---- they stay short

short_put : (name value : List ℕ) (es : Entries) → length name < 2 ^ 8 → length value < 2 ^ 32 → AllByRecursion IsShort (puts es) → AllByRecursion IsShort (puts (put text_cmp name value es))
short_put name value [] small few all = ((small, few), tt)
short_put name value (e ∷ es) small few all = go (text_cmp name e.0) (short_put name value es small few all.1)
  where
    go : (o : Ordering) → AllByRecursion IsShort (puts (put text_cmp name value es)) → AllByRecursion IsShort (puts (by_order o ((name, value) ∷ e ∷ es) ((e.0, value) ∷ es) (e ∷ put text_cmp name value es)))
    go Less rest = ((small, few), all)
    go Equal rest = ((all.0.0, few), all.1)
    go Greater rest = (all.0, rest)

short_where : (p : List ℕ → Bool) (es : Entries) → AllByRecursion IsShort (puts es) → AllByRecursion IsShort (puts (where_key text_cmp p es))
short_where p [] all = tt
short_where p (e ∷ es) all = go (p e.0) (short_where p es all.1)
  where
    go : (b : Bool) → AllByRecursion IsShort (puts (where_key text_cmp p es)) → AllByRecursion IsShort (puts (cond b (e ∷ where_key text_cmp p es) (where_key text_cmp p es)))
    go true rest = (all.0, rest)
    go false rest = rest

short_noted : (name : List ℕ) (value : Option (List ℕ)) (notes : Notes) → length name < 2 ^ 8 → IsShortValue value → AreShort notes → AreShort (noted name value notes)
short_noted name None notes small few all =
    subst (λ (es : Entries). AllByRecursion IsShort (puts es)) (sym (entries-remove notes name)) (short_where (λ k. not (eq_by_cmp text_cmp name k)) (map.entries notes) all)
short_noted name (Some value) notes small few all =
    subst (λ (es : Entries). AllByRecursion IsShort (puts es)) (sym (entries-insert nat_list_cmp_total notes name value)) (short_put name value (map.entries notes) small few all)

pub short_after : (cs : List NoteChange) (notes : Notes) → AllByRecursion IsShort cs → AreShort notes → AreShort (notes_after cs notes)
short_after [] notes short all = all
short_after (c ∷ cs) notes short all = short_after cs (noted c.name c.value notes) short.1 (short_noted c.name c.value notes short.0.0 short.0.1 all)

-- ---- the batch of the notes

T-left : (a b : Bool) → T (a && b) → T a
T-left true b h = tt
T-left false b h = absurd h

T-right : (a b : Bool) → T (a && b) → T b
T-right true b h = h
T-right false b h = absurd h

less : (o : Ordering) → T (is_lt o) → o ≡ Less
less Less h = refl
less Equal h = absurd h
less Greater h = absurd h

pub length-puts : (es : Entries) → length (puts es) ≡ length es
length-puts [] = refl
length-puts (e ∷ es) = ap suc (length-puts es)

rises_puts : (e : List ℕ × List ℕ) (es : Entries) → T (below_all text_cmp e.0 es) → T (map.is_sorted text_cmp es) → rises_from name_below (puts_note e) (puts es) ≡ true
rises_puts e [] below up = refl
rises_puts e (f ∷ es) below up =
    ap (λ (o : Ordering). is_lt o && rises_from name_below (puts_note f) (puts es)) (less (text_cmp e.0 f.0) (T-left (is_lt (text_cmp e.0 f.0)) (below_all text_cmp e.0 es) below))
    ∙ rises_puts f es (T-left (below_all text_cmp f.0 es) (map.is_sorted text_cmp es) up) (T-right (below_all text_cmp f.0 es) (map.is_sorted text_cmp es) up)

rising_puts : (es : Entries) → T (map.is_sorted text_cmp es) → is_rising name_below (puts es) ≡ true
rising_puts [] up = refl
rising_puts (e ∷ es) up = rises_puts e es (T-left (below_all text_cmp e.0 es) (map.is_sorted text_cmp es) up) (T-right (below_all text_cmp e.0 es) (map.is_sorted text_cmp es) up)

pub is_batch_of : (notes : Notes) → AreLive notes → IsBatch (notes_batch notes)
is_batch_of notes live = record {
  few_images = omega arith;
  pages_rise = refl;
  few_notes = omega (arith, length-puts (map.entries notes), len-entries notes, live.few);
  names_rise = rising_puts (map.entries notes) (entries_sorted notes);
  short = live.short;
}

-- ---- its changes make the notes of none

abbrev Below : List ℕ → Entries → Type 0
Below name es = AllByRecursion (λ (e : List ℕ × List ℕ). text_cmp e.0 name ≡ Less) es

-- each of these names is above all of those
abbrev AreAbove : Entries → Entries → Type 0
AreAbove es fs = AllByRecursion (λ (f : List ℕ × List ℕ). Below f.0 es) fs

put_last : (name value : List ℕ) (es : Entries) → Below name es → put text_cmp name value es ≡ es ++ (name, value) ∷ []
put_last name value [] all = refl
put_last name value (e ∷ es) all =
    ap (λ (o : Ordering). by_order o ((name, value) ∷ e ∷ es) ((e.0, value) ∷ es) (e ∷ put text_cmp name value es)) (nat_list_cmp_total.antisymm name e.0 ∙ ap ordering_reverse all.0)
    ∙ ap (λ (l : Entries). e ∷ l) (put_last name value es all.1)

below_push : (es : Entries) (e : List ℕ × List ℕ) (m : List ℕ) → Below m es → text_cmp e.0 m ≡ Less → Below m (es ++ e ∷ [])
below_push [] e m all low = (low, tt)
below_push (x ∷ es) e m all low = (all.0, below_push es e m all.1 low)

above_push : (es : Entries) (e : List ℕ × List ℕ) (fs : Entries) → AreAbove es fs → T (below_all text_cmp e.0 fs) → AreAbove (es ++ e ∷ []) fs
above_push es e [] all up = tt
above_push es e (f ∷ fs) all up = (
  below_push es e f.0 all.0 (less (text_cmp e.0 f.0) (T-left (is_lt (text_cmp e.0 f.0)) (below_all text_cmp e.0 fs) up)),
  above_push es e fs all.1 (T-right (is_lt (text_cmp e.0 f.0)) (below_all text_cmp e.0 fs) up),
)

above_none : (fs : Entries) → AreAbove [] fs
above_none [] = tt
above_none (f ∷ fs) = (tt, above_none fs)

after_puts : (es : Entries) (notes : Notes) → T (map.is_sorted text_cmp es) → AreAbove (map.entries notes) es → map.entries (notes_after (puts es) notes) ≡ map.entries notes ++ es
after_puts [] notes up all = sym (append-nil (map.entries notes))
after_puts (e ∷ es) notes up all =
    let new : Notes = map.insert notes e.0 e.1 in
    let grown : map.entries new ≡ map.entries notes ++ e ∷ [] = entries-insert nat_list_cmp_total notes e.0 e.1 ∙ put_last e.0 e.1 (map.entries notes) all.0 in
    let above : AreAbove (map.entries new) es = subst (λ (l : Entries). AreAbove l es) (sym grown) (above_push (map.entries notes) e es all.1 (T-left (below_all text_cmp e.0 es) (map.is_sorted text_cmp es) up)) in
    after_puts es new (T-right (below_all text_cmp e.0 es) (map.is_sorted text_cmp es) up) above ∙ ap (λ (l : Entries). l ++ es) grown ∙ append_assoc (map.entries notes) (e ∷ []) es

pub notes_again : (notes : Notes) → notes_after (puts (map.entries notes)) map.empty ≡ notes
notes_again notes =
    let above : AreAbove (map.entries map.empty) (map.entries notes) = subst (λ (l : Entries). AreAbove l (map.entries notes)) (sym entries-empty) (above_none (map.entries notes)) in
    same_entries_map _ _ (after_puts (map.entries notes) map.empty (entries_sorted notes) above ∙ ap (λ (l : Entries). l ++ map.entries notes) entries-empty)

-- ---- names and values

pub length-names : (es : Entries) → length (list_map (λ (e : List ℕ × List ℕ). e.0) es) ≡ length es
length-names [] = refl
length-names (e ∷ es) = ap suc (length-names es)

pub length-values : (es : Entries) → length (list_map (λ (e : List ℕ × List ℕ). e.1) es) ≡ length es
length-values [] = refl
length-values (e ∷ es) = ap suc (length-values es)

pub zip_parts : (es : Entries) → zip (list_map (λ (e : List ℕ × List ℕ). e.0) es) (list_map (λ (e : List ℕ × List ℕ). e.1) es) ≡ es
zip_parts [] = refl
zip_parts (e ∷ es) = ap (λ (l : Entries). e ∷ l) (zip_parts es)
