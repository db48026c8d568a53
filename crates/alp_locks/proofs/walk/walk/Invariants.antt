use Rattle.std.proofs.Common.{◌≡◌, ◌+◌, ◌≤◌, ◌-◌, [], length, true, vec_capacity}
use Rattle.alp_locks.specs.Tables.{are_known}
use Rattle.alp_locks.specs.Releases.{walked}
use Rattle.alp_locks.proofs.WalkLemmas.{from_here}
use Rattle.alp_locks.proofs.walk.walk.Given as goal

abbrev pub invariant-loop-at : goal.invariant-loop-at
invariant-loop-at l =
    (from_here l.holders l.queue l.woken.items l.at ≡ walked (record { held = l.fn.holders; waiting = []; woken = l.fn.woken.items }) l.fn.queue)
    × ((are_known l.holders l.queue ≡ true)
    × ((length l.queue + length l.woken.items ≤ vec_capacity l.woken) × (l.at ≤ length l.queue)))

abbrev pub decreases-loop-at : goal.decreases-loop-at
decreases-loop-at l = length l.queue - l.at
