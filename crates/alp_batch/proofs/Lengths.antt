-- How long changes of notes are, one by one and summed.
use Rattle.std.proofs.Common.{◌≡◌, ◌<◌, ◌≤◌, ◌+◌, ◌*◌, ℕ, zero, suc, List, [], ◌∷◌, ◌++◌, length, take, get_or, Option, Some, None, ap, ◌∙◌, arith}
use Rattle.std.specs.Prelude.{◌^◌}
use Rattle.std.specs.List.{AllByRecursion}
use Rattle.std.proofs.lemmas.List.{take_more}
use Rattle.alp_base.specs.declared.bytes.NoteChange.{NoteChange}
use Rattle.alp_batch.specs.Batch.{IsShort, IsShortValue, valued_length, note_length, notes_length}

pub short_at : (ns : List NoteChange) (i : ℕ) (d : NoteChange) → AllByRecursion IsShort ns → i < length ns → IsShort (get_or ns i d)
short_at [] i d all low = absurd (omega (arith, low))
short_at (n ∷ ns) zero d all low = all.0
short_at (n ∷ ns) (suc i) d all low = short_at ns i d all.1 (omega (arith, low))

value_small : (value : Option (List ℕ)) → IsShortValue value → valued_length value ≤ 2 ^ 32 + 4
value_small None small = omega arith
value_small (Some value) small = omega (arith, small)

pub note_small : (n : NoteChange) → IsShort n → note_length n ≤ 2 ^ 33
note_small n short = omega (arith, short.0, value_small n.value short.1)

pub notes_small : (i : ℕ) (ns : List NoteChange) → AllByRecursion IsShort ns → notes_length (take i ns) ≤ 2 ^ 33 * i
notes_small zero ns all = omega arith
notes_small (suc i) [] all = omega arith
notes_small (suc i) (n ∷ ns) all = omega (arith, note_small n all.0, notes_small i ns all.1)

pub notes_length-push : (ns : List NoteChange) (n : NoteChange) → notes_length (ns ++ n ∷ []) ≡ notes_length ns + note_length n
notes_length-push [] n = omega arith
notes_length-push (m ∷ ns) n = omega (arith, notes_length-push ns n)

-- ---- one change more

pub sum_next : (ns : List NoteChange) (i bytes size : ℕ) (x d : NoteChange) → i < length ns → x ≡ get_or ns i d → bytes ≡ notes_length (take i ns) → size ≡ note_length x → bytes + size ≡ notes_length (take (i + 1) ns)
sum_next ns i bytes size x d low is so_far size_is =
    let more : notes_length (take (i + 1) ns) ≡ notes_length (take i ns) + note_length (get_or ns i d) = ap (λ (l : List NoteChange). notes_length l) (take_more ns i d low) ∙ notes_length-push (take i ns) (get_or ns i d) in
    let same : note_length x ≡ note_length (get_or ns i d) = ap (λ (n : NoteChange). note_length n) is in
    omega (arith, more, same, so_far, size_is)
