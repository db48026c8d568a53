-- the sum over ready parts, and what is in the way of a vote
use Rattle.std.specs.Prelude.{Bool, false, ◌==◌, max, is_some}
use Rattle.std.specs.List.{sum_by}
use Rattle.std.specs.List.Sorted.{IsPermutation}
use Rattle.std.proofs.Common.{◌≡◌, ℕ, ◌+◌, ◌*◌, ◌≤◌, List, [], ◌∷◌, refl, sym, ◌∙◌, ap, arith}
use Rattle.std.proofs.lemmas.List.Recursion.{is_sum_by, max_bounds, max_least}
use Rattle.std.proofs.lemmas.List.Sorted.{sum_by-IsPermutation, All-permutation, IsPermutation-sym}
use Rattle.alp_base.specs.declared.ids.TransId.{TransId}
use Rattle.alp_journal.specs.Counts.{weight, ready_sum}
use Rattle.alp_journal.specs.Desk.{waiting_of}
use Rattle.alp_journal.specs.Messages.{weight_of, weights, applying, greatest, all_ready, no_room, first_why, why_not, why_not_own, clock_end}
use Rattle.alp_journal.specs.State.{State}
use Rattle.alp_worker.specs.Rooms.{applying_of, sum_of, room_for, own_room, IsSizeOf, AreSizesOf}
use Rattle.alp_worker.specs.declared.room.PartSize.{PartSize}

-- ---- in whatever order

module _ (s : State) where
  weights_moved : (ts us : List TransId) → IsPermutation ts us → weights s us ≡ weights s ts
  weights_moved ts us h = sum us ∙ sum_by-IsPermutation (weight_of s) ts us h ∙ sym (sum ts)
    where
      sum : (ts : List TransId) → weights s ts ≡ sum_by (weight_of s) ts
      sum ts = is_sum_by (weights s) (weight_of s) refl (λ _ _. refl) ts

  greatest_below : (ts us : List TransId) → IsPermutation ts us → greatest s us ≤ greatest s ts
  greatest_below ts us h = max_least (greatest s) (applying s) refl (λ _ _. refl) us (record { server = 0; epoch = 0; counter = 0 }) (greatest s ts)
      (λ i within. All-permutation (λ (t : TransId). applying s t ≤ greatest s ts) ts us h (λ k d l. max_bounds (greatest s) (applying s) refl (λ _ _. refl) ts k d l) i (record { server = 0; epoch = 0; counter = 0 }) within)

  greatest_moved : (ts us : List TransId) → IsPermutation ts us → greatest s us ≡ greatest s ts
  greatest_moved ts us h =
      let one = greatest_below ts us h in
      let other = greatest_below us ts (IsPermutation-sym ts us h) in
      omega (arith, one, other)

  -- ---- as the sizes tell

  weight_its : (t : TransId) (n : PartSize) → IsSizeOf s t n → weight_of s t ≡ weight n.cells n.locks
  weight_its t n h = λ i. weight (h.0 i) (h.1 i)

  applying_its : (t : TransId) (n : PartSize) → IsSizeOf s t n → applying s t ≡ applying_of n
  applying_its t n h = ap (λ (c : ℕ). 4 * c + 4) h.0

  weights_its : (ts : List TransId) (ns : List PartSize) → AreSizesOf s ts ns → weights s ts ≡ (sum_of ns).weights
  weights_its [] [] h = refl
  weights_its (t ∷ ts) (n ∷ ns) h = λ i. weight_its t n h.0 i + weights_its ts ns h.1 i
  weights_its [] (n ∷ ns) h = absurd h
  weights_its (t ∷ ts) [] h = absurd h

  greatest_its : (ts : List TransId) (ns : List PartSize) → AreSizesOf s ts ns → greatest s ts ≡ (sum_of ns).greatest
  greatest_its [] [] h = refl
  greatest_its (t ∷ ts) (n ∷ ns) h = λ i. max (applying_its t n h.0 i) (greatest_its ts ns h.1 i)
  greatest_its [] (n ∷ ns) h = absurd h
  greatest_its (t ∷ ts) [] h = absurd h

  module _ (ts : List TransId) (ns : List PartSize) (moved : IsPermutation (all_ready s) ts) (sizes : AreSizesOf s ts ns) (t : TransId) (n : PartSize) (size : IsSizeOf s t n) where
    all_weights : weights s (all_ready s) ≡ (sum_of ns).weights
    all_weights = sym (weights_moved (all_ready s) ts moved) ∙ weights_its ts ns sizes

    all_greatest : greatest s (all_ready s) ≡ (sum_of ns).greatest
    all_greatest = sym (greatest_moved (all_ready s) ts moved) ∙ greatest_its ts ns sizes

    pub vote_told : (failed : Bool) (client : ℕ) → why_not failed s client t ≡ first_why failed (is_some (waiting_of s.desk client t)) (s.holder.clock == clock_end) (room_for s.sizes.area (sum_of ns) n)
    vote_told failed client = λ i.
        first_why failed (is_some (waiting_of s.desk client t)) (s.holder.clock == clock_end)
        (no_room s.sizes.area (ready_sum (all_weights i) (all_greatest i)) (ready_sum (weight_its t n size i + all_weights i) (max (applying_its t n size i) (all_greatest i))))

    pub own_told : (failed : Bool) → why_not_own failed s t ≡ first_why failed false (s.holder.clock == clock_end) (own_room s.sizes.area (sum_of ns) n)
    own_told failed = λ i.
        first_why failed false (s.holder.clock == clock_end) (no_room s.sizes.area (ready_sum (all_weights i) 0) (ready_sum (all_weights i) (applying_its t n size i)))
