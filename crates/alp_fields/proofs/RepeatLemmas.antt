-- steps of a loop that reads one form a count of times
use Rattle.std.proofs.Common.{◌≡◌, ℕ, suc, ◌+◌, ◌-◌, ◌<◌, ◌≤◌, List, [], ◌∷◌, ◌++◌, length, Option, Some, None, refl, sym, ap, ◌∙◌, append_assoc, arith}
use Rattle.std.proofs.lemmas.List.{append-nil, length_push}
use Rattle.alp_fields.specs.Forms.{Form, ◌>>=◌, read_repeated}

-- what is read, with the values before it
abbrev pub with_front : {A : Type 0} → List A → Option (List A × List ℕ) → Option (List A × List ℕ)
with_front front None = None
with_front front (Some x) = Some (front ++ x.0, x.1)

regroup : {A : Type 0} (front : List A) (v : A) (read : Option (List A × List ℕ)) → with_front front (read >>= λ xs. Some (v ∷ xs.0, xs.1)) ≡ with_front (front ++ v ∷ []) read
regroup front v None = refl
regroup front v (Some x) = ap (λ (vs : List _). Some (vs, x.1)) (sym (append_assoc front (v ∷ []) x.0))

none_before : {A : Type 0} (read : Option (List A × List ℕ)) → with_front [] read ≡ read
none_before None = refl
none_before (Some x) = refl

-- i of the count are read and stand in front; with them, what the rest gives is what the whole gives
pub record RepeatsSoFar {A : Type 0} (a : Form A) (count i : ℕ) (front : List A) (bytes start : List ℕ) : Type 0 where
  pub whole : with_front front (read_repeated a (count - i) bytes) ≡ read_repeated a count start
  pub read : length front ≡ i

pub begins : {A : Type 0} (a : Form A) (count : ℕ) (start : List ℕ) → RepeatsSoFar a count 0 [] start start
begins a count start =
    let none_less : count - 0 ≡ count = omega arith in
    record { whole = rw none_less (none_before (read_repeated a count start)); read = refl }

pub goes_on : {A : Type 0} (a : Form A) (count i : ℕ) (front : List A) (bytes start after : List ℕ) (v : A) → i < count → a.read bytes ≡ Some (v, after)
    → RepeatsSoFar a count i front bytes start → RepeatsSoFar a count (i + 1) (front ++ v ∷ []) after start
goes_on a count i front bytes start after v lt h so_far =
    let k : count - i ≡ suc (count - (i + 1)) = omega arith in
    let one : with_front front (read_repeated a (count - i) bytes) ≡ with_front (front ++ v ∷ []) (read_repeated a (count - (i + 1)) after) = rw (k, h) (regroup front v (read_repeated a (count - (i + 1)) after)) in
    record { whole = sym one ∙ so_far.whole; read = rw (length_push, so_far.read) refl }

pub ends : {A : Type 0} (a : Form A) (count i : ℕ) (front : List A) (bytes start : List ℕ) → i < count → a.read bytes ≡ None
    → RepeatsSoFar a count i front bytes start → read_repeated a count start ≡ None
ends a count i front bytes start lt h so_far =
    let k : count - i ≡ suc (count - (i + 1)) = omega arith in
    let one : with_front front (read_repeated a (count - i) bytes) ≡ None = rw (k, h) refl in
    sym so_far.whole ∙ one

pub is_done : {A : Type 0} (a : Form A) (count i : ℕ) (front : List A) (bytes start : List ℕ) → count ≤ i
    → RepeatsSoFar a count i front bytes start → read_repeated a count start ≡ Some (front, bytes)
is_done a count i front bytes start le so_far =
    let k : count - i ≡ 0 = omega arith in
    let one : with_front front (read_repeated a (count - i) bytes) ≡ Some (front, bytes) = rw k (ap (λ (vs : List _). Some (vs, bytes)) (append-nil front)) in
    sym so_far.whole ∙ one
