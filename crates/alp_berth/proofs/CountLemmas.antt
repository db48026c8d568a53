-- messages among the acts of an entry
use Rattle.std.specs.Prelude.{slice_get, slice_index_or, Bool, true, false, Some, None}
use Rattle.std.proofs.Common.{◌≡◌, ℕ, zero, suc, ◌+◌, ◌<◌, ◌≤◌, List, [], ◌∷◌, ◌++◌, length, take, drop, refl, sym, ap, ◌∙◌, subst, arith, length-append}
use mathlib.Core.List.{append_assoc, append-nil}
use Rattle.alp_journal.specs.declared.act.Act.{Act}
use Rattle.alp_journal.specs.declared.act.Act.TheVariants as act
use Rattle.alp_journal.specs.declared.message.Envelope.{Envelope}
use Rattle.alp_journal.specs.declared.message.Message.{Message}
use Rattle.alp_node.specs.Nodes as node
use Rattle.alp_berth.specs.Sends.{is_sending, sent_by}
use Rattle.alp_berth.proofs.SendLemmas.{get_first, get_second}

sent_both : (xs ys : List Act) → sent_by (xs ++ ys) ≡ sent_by xs ++ sent_by ys
sent_both [] ys = refl
sent_both (x ∷ xs) ys = ap (λ l. node.sent_by x ++ l) (sent_both xs ys) ∙ sym (append_assoc (node.sent_by x) (sent_by xs) (sent_by ys))

-- one act more, which sends or does not
sends_one : (a : Act) → is_sending a ≡ true → length (node.sent_by a) ≡ 1
sends_one (act.Sent to message) is = refl
sends_one (act.Granted t) is = cc
sends_one (act.Drawn t) is = cc
sends_one (act.Registered t j) is = cc
sends_one (act.Readied t j ts) is = cc
sends_one (act.Decided s ps) is = cc
sends_one (act.Applied j s) is = cc
sends_one (act.Released t) is = cc
sends_one (act.Forgot t) is = cc
sends_one (act.Regained e c r d) is = cc
sends_one act.Stopped is = cc
sends_one act.Failed is = cc

sends_none : (a : Act) → is_sending a ≡ false → node.sent_by a ≡ []
sends_none (act.Sent to message) is = cc
sends_none (act.Granted t) is = refl
sends_none (act.Drawn t) is = refl
sends_none (act.Registered t j) is = refl
sends_none (act.Readied t j ts) is = refl
sends_none (act.Decided s ps) is = refl
sends_none (act.Applied j s) is = refl
sends_none (act.Released t) is = refl
sends_none (act.Forgot t) is = refl
sends_none (act.Regained e c r d) is = refl
sends_none act.Stopped is = refl
sends_none act.Failed is = refl

take_more : (xs : List Act) (i : ℕ) (d : Act) → i < length xs → take (i + 1) xs ≡ take i xs ++ slice_index_or xs i d ∷ []
take_more [] i d low = absurd (omega (arith, low))
take_more (x ∷ xs) zero d low = refl
take_more (x ∷ xs) (suc i) d low = (let m : suc i + 1 ≡ suc (i + 1) = omega arith in ap (λ n. take n (x ∷ xs)) m) ∙ ap (λ l. x ∷ l) (take_more xs i d (omega (arith, low)))

-- with the act at a place
module _ (xs : List Act) (i : ℕ) (a : Act) (low : i < length xs) (is : slice_index_or xs i a ≡ a) where
  upto : sent_by (take (i + 1) xs) ≡ sent_by (take i xs) ++ node.sent_by a
  upto = ap sent_by (take_more xs i a low ∙ ap (λ x. take i xs ++ x ∷ []) is) ∙ (sent_both (take i xs) (a ∷ []) ∙ ap (λ l. sent_by (take i xs) ++ l) (append-nil (node.sent_by a)))

  pub count_one : is_sending a ≡ true → length (sent_by (take (i + 1) xs)) ≡ length (sent_by (take i xs)) + 1
  count_one s = ap length upto ∙ (length-append (sent_by (take i xs)) (node.sent_by a) ∙ ap (λ n. length (sent_by (take i xs)) + n) (sends_one a s))

  pub count_none : is_sending a ≡ false → length (sent_by (take (i + 1) xs)) ≡ length (sent_by (take i xs))
  count_none s = ap length (upto ∙ (ap (λ l. sent_by (take i xs) ++ l) (sends_none a s) ∙ append-nil (sent_by (take i xs))))

pub at_end : (xs : List Act) (i : ℕ) → length xs ≤ i → take i xs ≡ xs
at_end [] zero low = refl
at_end [] (suc i) low = refl
at_end (x ∷ xs) zero low = absurd (omega (arith, low))
at_end (x ∷ xs) (suc i) low = ap (λ l. x ∷ l) (at_end xs i (omega (arith, low)))

-- the message of the act at a place stands behind those of the acts before
pub sent_here : (xs : List Act) (i : ℕ) (to : ℕ) (m : Message) (place : ℕ) → i < length xs → slice_index_or xs i (act.Sent to m) ≡ act.Sent to m → place ≡ length (sent_by (take i xs)) → slice_get (sent_by xs) place ≡ Some (record { to = to; message = m })
sent_here [] i to m place low is at = absurd (omega (arith, low))
sent_here (x ∷ xs) zero to m place low is at = ap (λ n. slice_get (sent_by (x ∷ xs)) n) at ∙ ap (λ (y : Act). slice_get (node.sent_by y ++ sent_by xs) 0) is
sent_here (x ∷ xs) (suc i) to m place low is at =
    let n = length-append (node.sent_by x) (sent_by (take i xs)) in
    ap (λ k. slice_get (sent_by (x ∷ xs)) k) (at ∙ n)
    ∙ (get_second (node.sent_by x) (sent_by xs) (length (sent_by (take i xs))) ∙ sent_here xs i to m (length (sent_by (take i xs))) (omega (arith, low)) is refl)

-- ---- where a place is

get_at : (cs : List ℕ) (i : ℕ) → i < length cs → (n : ℕ) × (slice_get cs i ≡ Some n)
get_at [] i low = absurd (omega (arith, low))
get_at (c ∷ cs) zero low = (c, refl)
get_at (c ∷ cs) (suc i) low = get_at cs i (omega (arith, low))

pub index_is : (cs : List ℕ) (i x n : ℕ) → x ≡ slice_index_or cs i x → slice_get cs i ≡ Some n → n ≡ x
index_is [] i x n is e = absurd (let f : None ≡ Some n = e in cc)
index_is (c ∷ cs) zero x n is e = sym (same c n e) ∙ sym is
  where
    same : (a b : ℕ) → Some a ≡ Some b → a ≡ b
    same a b e = cc
index_is (c ∷ cs) (suc i) x n is e = index_is cs i x n is e

-- it is the last one that counts no more
pub found_last : (cs : List ℕ) (low high place : ℕ) → low < high → high ≤ length cs → high ≤ low + 1 → ((n : ℕ) → slice_get cs low ≡ Some n → n ≤ place) → ((m : ℕ) → slice_get cs high ≡ Some m → place < m)
    → (n : ℕ) × (slice_get cs low ≡ Some n) × (n ≤ place) × ((m : ℕ) → slice_get cs (low + 1) ≡ Some m → place < m)
found_last cs low high place below within near here there =
    let x = get_at cs low (omega (arith, below, within)) in
    let is : low + 1 ≡ high = omega (arith, below, near) in
    (x.0, x.1, here x.0 x.1, λ m e. there m (ap (λ k. slice_get cs k) (sym is) ∙ e))

module _ {A : Type 0} where
  pub get_of_or : (xs : List A) (i : ℕ) (x : A) → i < length xs → x ≡ slice_index_or xs i x → slice_get xs i ≡ Some x
  get_of_or [] i x low is = absurd (omega (arith, low))
  get_of_or (y ∷ ys) zero x low is = ap (λ (z : A). Some z) (sym is)
  get_of_or (y ∷ ys) (suc i) x low is = get_of_or ys i x (omega (arith, low)) is

  pub get_or_there : (xs : List A) (i : ℕ) (d : A) → i < length xs → slice_get xs i ≡ Some (slice_index_or xs i d)
  get_or_there [] i d low = absurd (omega (arith, low))
  get_or_there (y ∷ ys) zero d low = refl
  get_or_there (y ∷ ys) (suc i) d low = get_or_there ys i d (omega (arith, low))
