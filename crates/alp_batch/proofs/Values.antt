-- Names and values that are written one beside the other.
use Rattle.std.proofs.Common.{◌≡◌, ◌<◌, ℕ, zero, suc, ◌+◌, List, [], ◌∷◌, ◌++◌, length, take, get_or, refl, sym, ap, subst, ◌∙◌, append_assoc, arith}
use Rattle.std.specs.Prelude.{zip, true, Result, Ok, Err, OnOk}
use Rattle.std.specs.List.{flat_map, AllByRecursion}
use Rattle.std.proofs.lemmas.List.{take_more, append-nil}
use Rattle.alp_base.specs.declared.bytes.NoteChange.{NoteChange}
use Rattle.alp_fields.specs.Forms.{Form, IsWritten, repeated, u16}
use Rattle.alp_fields.specs.Rising.{is_rising}
use Rattle.alp_batch.specs.Batch.{puts_note, note, notes, name_below}
use Rattle.alp_batch.specs.Values.{puts}

pub length-values : (ns vs : List (List ℕ)) → length ns ≡ length vs → length (puts (zip ns vs)) ≡ length ns
length-values [] vs paired = refl
length-values (n ∷ ns) [] paired = absurd (omega (arith, paired))
length-values (n ∷ ns) (v ∷ vs) paired = ap suc (length-values ns vs (omega (arith, paired)))

pub value_at : (ns vs : List (List ℕ)) (i : ℕ) (name value : List ℕ) (d : NoteChange) → i < length ns → length ns ≡ length vs → name ≡ get_or ns i name → value ≡ get_or vs i value → puts_note (name, value) ≡ get_or (puts (zip ns vs)) i d
value_at [] vs i name value d low paired named valued = absurd (omega (arith, low))
value_at (n ∷ ns) [] i name value d low paired named valued = absurd (omega (arith, paired))
value_at (n ∷ ns) (v ∷ vs) zero name value d low paired named valued = λ k. puts_note (named k, valued k)
value_at (n ∷ ns) (v ∷ vs) (suc i) name value d low paired named valued = value_at ns vs i name value d (omega (arith, low)) (omega (arith, paired)) named valued

-- ---- one more that is written

module _ {T : Type 0} (form : Form T) where
  flat-push : (xs : List T) (x : T) → flat_map form.spell (xs ++ x ∷ []) ≡ flat_map form.spell xs ++ form.spell x
  flat-push [] x = append-nil (form.spell x)
  flat-push (y ∷ xs) x = ap (λ (l : List ℕ). form.spell y ++ l) (flat-push xs x) ∙ sym (append_assoc (form.spell y) (flat_map form.spell xs) (form.spell x))

  all-push : (xs : List T) (x : T) → AllByRecursion form.Fits xs → form.Fits x → AllByRecursion form.Fits (xs ++ x ∷ [])
  all-push [] x all one = (one, tt)
  all-push (y ∷ xs) x all one = (all.0, all-push xs x all.1 one)

  length-push : (xs : List T) (x : T) → length (xs ++ x ∷ []) ≡ length xs + 1
  length-push [] x = refl
  length-push (y ∷ xs) x = omega (arith, length-push xs x)

  pub written_more : (i : ℕ) (xs : List T) (x : T) (old mid new : List ℕ) → i < length xs → x ≡ get_or xs i x → IsWritten (repeated form i) (take i xs) old mid → IsWritten form x mid new → IsWritten (repeated form (i + 1)) (take (i + 1) xs) old new
  written_more i xs x old mid new low is before now =
      let more : take (i + 1) xs ≡ take i xs ++ x ∷ [] = take_more xs i x low ∙ (λ k. take i xs ++ sym is k ∷ []) in
      record {
        appended =
            now.appended ∙ ap (λ (l : List ℕ). l ++ form.spell x) before.appended ∙ append_assoc old (flat_map form.spell (take i xs)) (form.spell x)
            ∙ ap (λ (l : List ℕ). old ++ l) (sym (flat-push (take i xs) x)) ∙ ap (λ (l : List T). old ++ flat_map form.spell l) (sym more);
        fits = (
          ap (λ (l : List T). length l) more ∙ length-push (take i xs) x ∙ ap (λ (n : ℕ). n + 1) before.fits.0,
          subst (λ (l : List T). AllByRecursion form.Fits l) (sym more) (all-push (take i xs) x before.fits.1 now.fits),
        );
      }

-- the changes behind their number
pub written_notes : (n : ℕ) (xs : List NoteChange) (old mid new : List ℕ) → length xs ≡ n → is_rising name_below xs ≡ true → IsWritten u16 n old mid → IsWritten (repeated note n) xs mid new → IsWritten notes xs old new
unfolding notes
written_notes n xs old mid new long rise count each = record {
  appended = each.appended ∙ ap (λ (l : List ℕ). l ++ flat_map note.spell xs) count.appended ∙ append_assoc old (u16.spell n) (flat_map note.spell xs) ∙ ap (λ (k : ℕ). old ++ (u16.spell k ++ flat_map note.spell xs)) (sym long);
  fits = ((subst (λ (k : ℕ). u16.Fits k) (sym long) count.fits, (refl, each.fits.1)), rise);
}

pub on_ok : {T E : Type 0} (r : Result T E) (P Q : Type 0) → (P → Q) → OnOk r P → OnOk r Q
on_ok (Ok x) P Q f p = f p
on_ok (Err e) P Q f p = tt
