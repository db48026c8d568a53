use Rattle.std.proofs.Common.{◌≡◌, ◌<◌, ◌≤◌, ◌++◌, ◌∷◌, [], length, slice_index_or, ℕ}
use Rattle.std.specs.Vec.{vec_len, vec_capacity}
use Rattle.alp_storm.proofs.opening.gather.Given as goal

abbrev pub invariant-loop-number : goal.invariant-loop-number
invariant-loop-number g l =
    (vec_len l.errands ≡ vec_len l.fn.errands)
    × (vec_len l.room ≡ l.number)
    × (vec_len l.fn.errands ≤ vec_capacity l.room)
    × ((k : ℕ) (d : _) → l.number ≤ k → slice_index_or l.errands.items k d ≡ slice_index_or l.fn.errands.items k d)
    × ((k : ℕ) (d : _) (p : _) → k < l.number → ((slice_index_or l.fn.errands.items k d).ring.items ≡ (slice_index_or l.errands.items k d).ring.items ++ slice_index_or l.room.items k p ∷ []) × ((slice_index_or l.errands.items k d).task ≡ (slice_index_or l.fn.errands.items k d).task))
