use Rattle.std.proofs.Common.{◌≡◌, ◌<◌, ◌≤◌, ◌++◌, ◌∷◌, [], length, slice_index_or, take, ℕ}
use Rattle.std.specs.Vec.{vec_len, vec_capacity}
use Rattle.alp_storm.proofs.opening.spread.Given as goal

abbrev pub invariant-loop-left : goal.invariant-loop-left
invariant-loop-left g l =
    (vec_len l.errands ≡ vec_len l.fn.errands)
    × (vec_len l.room ≡ l.left)
    × (l.left ≤ vec_len l.fn.errands)
    × (vec_capacity l.room ≡ vec_capacity l.fn.room)
    × ((k : ℕ) (p : _) → k < l.left → slice_index_or l.room.items k p ≡ slice_index_or l.fn.room.items k p)
    × ((k : ℕ) (d : _) → k < l.left → slice_index_or l.errands.items k d ≡ slice_index_or l.fn.errands.items k d)
    × ((k : ℕ) (d : _) (p : _) → l.left ≤ k → k < vec_len l.fn.errands → ((slice_index_or l.errands.items k d).ring.items ≡ (slice_index_or l.fn.errands.items k d).ring.items ++ slice_index_or l.fn.room.items k p ∷ []) × ((slice_index_or l.errands.items k d).task ≡ (slice_index_or l.fn.errands.items k d).task) × (vec_capacity (slice_index_or l.errands.items k d).ring ≡ vec_capacity (slice_index_or l.fn.errands.items k d).ring))

abbrev pub decreases-loop-left : goal.decreases-loop-left
decreases-loop-left g l = l.left
