-- The servers of a course, as one of them goes on.
use Rattle.std.specs.Prelude.{◌==◌, ◌⊎◌, ◌≢◌, Bool, true, false, not, cond, find, map as list_map, slice_get, slice_set, Option, None, Some, unwrap_or}
use Rattle.std.proofs.Common.{◌≡◌, ℕ, zero, suc, ◌+◌, ◌-◌, ◌<◌, ◌≤◌, List, [], ◌∷◌, ◌++◌, length, get_or, inl, inr, refl, sym, ◌∙◌, ap, subst, arith}
use Rattle.std.proofs.lemmas.List.{append-nil, length-set, get_or-set_same, get_or-set_other, get_or_append_left}
use Rattle.std.proofs.lemmas.Bool.{cases_eq}
use Rattle.std.proofs.lemmas.Bool.Decides.{eqb_tells}
use Rattle.alp_journal.specs.Opening.{Start}
use Rattle.alp_journal.specs.declared.entry.Entry.{Entry}
use Rattle.alp_history.specs.Log.{ServerLog, Log, nobody, of}
use Rattle.alp_history.specs.Items.{Handed}
use Rattle.alp_course.specs.Happens.{Stand}
use Rattle.alp_course.specs.Courses.{Course, Seat, no_seat, seat_at, seat_after, ranks_with, IsSeat, IsAt}
use Rattle.alp_course.specs.Links.{server_log, log_of, AreNumbered}
use Rattle.alp_course.proofs.RankLemmas.{below_or}

-- ---- one of them goes on

module _ (r after : Course) (n : ℕ) (x : Seat) (here : IsSeat r n) (seats : after.seats ≡ slice_set r.seats (n - 1) x) where
  pub as_many : length after.seats ≡ length r.seats
  as_many = ap (λ (ss : List Seat). length ss) seats ∙ length-set r.seats (n - 1) x

  pub seat_there : seat_at after n ≡ x
  seat_there = ap (λ (ss : List Seat). get_or ss (n - 1) no_seat) seats ∙ get_or-set_same r.seats (n - 1) x no_seat (omega (arith, here.first, here.last))

  pub seat_elsewhere : (m : ℕ) → 1 ≤ m → m ≢ n → seat_at after m ≡ seat_at r m
  seat_elsewhere m some away =
      ap (λ (ss : List Seat). get_or ss (m - 1) no_seat) seats ∙ get_or-set_other r.seats (n - 1) (m - 1) x no_seat (λ same. away (omega (arith, same, some, here.first)))

  -- what holds of it and of all others as they were holds of all
  pub each_seat : (P : ℕ → Seat → Type 0) → P n x → ((m : ℕ) → 1 ≤ m → m ≢ n → P m (seat_at r m)) → (m : ℕ) → 1 ≤ m → P m (seat_at after m)
  each_seat P now before m some = elim (cases_eq m n) [
    | inl same ↦ subst (λ (k : ℕ). P k (seat_at after k)) (sym same) (subst (P n) (sym seat_there) now)
    | inr away ↦ subst (P m) (sym (seat_elsewhere m some away)) (before m some away)
  ]

  pub still_seat : (m : ℕ) → IsSeat r m → IsSeat after m
  still_seat m s = record { first = s.first; last = (let all : length after.seats ≡ length r.seats = as_many in let most : m ≤ length r.seats = s.last in omega (arith, all, most)) }

-- ---- numbers

numbered_set : (n : ℕ) (ss : List Seat) (i : ℕ) (x : Seat) → AreNumbered n ss → (i < length ss → x.opening.server ≡ n + i) → AreNumbered n (slice_set ss i x)
numbered_set n [] i x h is = tt
numbered_set n (s ∷ ss) zero x h is = (is (omega arith) ∙ omega arith, h.1)
numbered_set n (s ∷ ss) (suc i) x h is = (h.0, numbered_set (n + 1) ss i x h.1 (λ less. is (omega (arith, less)) ∙ omega arith))

number_at : (n : ℕ) (ss : List Seat) (i : ℕ) → AreNumbered n ss → i < length ss → (get_or ss i no_seat).opening.server ≡ n + i
number_at n [] i h less = absurd (omega (arith, less))
number_at n (s ∷ ss) zero h less = h.0 ∙ omega arith
number_at n (s ∷ ss) (suc i) h less = number_at (n + 1) ss i h.1 (omega (arith, less)) ∙ omega arith

pub seat_number : (r : Course) (n : ℕ) → AreNumbered 1 r.seats → IsSeat r n → (seat_at r n).opening.server ≡ n
seat_number r n h s = number_at 1 r.seats (n - 1) h (omega (arith, s.first, s.last)) ∙ omega (arith, s.first)

pub still_numbered : (r : Course) (n : ℕ) (x : Seat) → AreNumbered 1 r.seats → IsSeat r n → x.opening ≡ (seat_at r n).opening → AreNumbered 1 (slice_set r.seats (n - 1) x)
still_numbered r n x h s same = numbered_set 1 r.seats (n - 1) x h (λ less. ap (λ (o : Start). o.server) same ∙ seat_number r n h s ∙ omega (arith, s.first))

-- ---- found by its number

abbrev has_number : ℕ → ServerLog → Bool
has_number n x = x.opening.server == n

found_at : (k : ℕ) (ss : List Seat) (i n : ℕ) → AreNumbered k ss → i < length ss → n ≡ k + i → find (has_number n) (list_map server_log ss) ≡ Some (server_log (get_or ss i no_seat))
found_at k [] i n h less is = absurd (omega (arith, less))
found_at k (s ∷ ss) zero n h less is = elim (eqb_tells s.opening.server n) [
  | inl same ↦ ap (λ (b : Bool). cond {A = Option ServerLog} b (Some (server_log s)) (find (has_number n) (list_map server_log ss))) same.0
  | inr away ↦ absurd (away.1 (h.0 ∙ omega (arith, is)))
]
found_at k (s ∷ ss) (suc i) n h less is = elim (eqb_tells s.opening.server n) [
  | inl same ↦ (let one : s.opening.server ≡ n = same.1 in let two : s.opening.server ≡ k = h.0 in absurd (omega (arith, one, two, is)))
  | inr away ↦ ap (λ (b : Bool). cond {A = Option ServerLog} b (Some (server_log s)) (find (has_number n) (list_map server_log ss))) away.0 ∙ found_at (k + 1) ss i n h.1 (omega (arith, less)) (omega (arith, is))
]

found_none : (k : ℕ) (ss : List Seat) (n : ℕ) → AreNumbered k ss → (n < k) ⊎ (k + length ss ≤ n) → find (has_number n) (list_map server_log ss) ≡ None
found_none k [] n h out = refl
found_none k (s ∷ ss) n h out = elim (eqb_tells s.opening.server n) [
  | inl same ↦ (let one : s.opening.server ≡ n = same.1 in let two : s.opening.server ≡ k = h.0 in absurd (not_here out one two))
  | inr away ↦ ap (λ (b : Bool). cond {A = Option ServerLog} b (Some (server_log s)) (find (has_number n) (list_map server_log ss))) away.0 ∙ found_none (k + 1) ss n h.1 (rest out)
]
  where
    not_here : (n < k) ⊎ (k + length (s ∷ ss) ≤ n) → s.opening.server ≡ n → s.opening.server ≡ k → ⊥
    not_here (inl low) one two = omega (arith, low, one, two)
    not_here (inr far) one two = omega (arith, far, one, two)

    rest : (n < k) ⊎ (k + length (s ∷ ss) ≤ n) → (n < k + 1) ⊎ (k + 1 + length ss ≤ n)
    rest (inl low) = inl (omega (arith, low))
    rest (inr far) = inr (omega (arith, far))

pub of_seat : (r : Course) (handed : Handed) (n : ℕ) → AreNumbered 1 r.seats → IsSeat r n → of (log_of r handed) n ≡ server_log (seat_at r n)
of_seat r handed n h s = ap (λ (o : Option ServerLog). unwrap_or o (nobody n)) (found_at 1 r.seats (n - 1) n h (omega (arith, s.first, s.last)) (omega (arith, s.first)))

of_nobody : (r : Course) (handed : Handed) (n : ℕ) → AreNumbered 1 r.seats → (n < 1) ⊎ (1 + length r.seats ≤ n) → of (log_of r handed) n ≡ nobody n
of_nobody r handed n h out = ap (λ (o : Option ServerLog). unwrap_or o (nobody n)) (found_none 1 r.seats n h out)

-- what the log has of a server: what the course has of it, or of nobody
pub data IsOf (r : Course) (n : ℕ) : ServerLog → Type 0 where
  its : IsSeat r n → IsOf r n (server_log (seat_at r n))
  nobodys : IsOf r n (nobody n)

pub of_course : (r : Course) (handed : Handed) (n : ℕ) → AreNumbered 1 r.seats → IsOf r n (of (log_of r handed) n)
of_course r handed n h = go (below_or n 1) (below_or (length r.seats) n)
  where
    go : (n < 1) ⊎ (1 ≤ n) → (length r.seats < n) ⊎ (n ≤ length r.seats) → IsOf r n (of (log_of r handed) n)
    go (inl low) far = subst (IsOf r n) (sym (of_nobody r handed n h (inl low))) nobodys
    go (inr some) (inl far) = subst (IsOf r n) (sym (of_nobody r handed n h (inr (omega (arith, far))))) nobodys
    go (inr some) (inr near) = (let s : IsSeat r n = record { first = some; last = near } in subst (IsOf r n) (sym (of_seat r handed n h s)) (its s))
