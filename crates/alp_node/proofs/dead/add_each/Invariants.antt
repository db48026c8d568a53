use Rattle.std.specs.Prelude.{vec_capacity}
use Rattle.std.proofs.Common.{◌≡◌, ℕ, ◌+◌, ◌++◌, drop, length}
use Rattle.alp_node.specs.Timeouts.{deads_of}
use Rattle.alp_node.proofs.dead.add_each.Given as goal

-- what was added, and what is to be added still; there is room for that
abbrev pub invariant-loop-live : goal.invariant-loop-live
invariant-loop-live l =
    (l.parts.items ++ deads_of l.fn.trans l.fn.cause (drop l.live-index l.fn.joins) ≡ l.fn.parts.items ++ deads_of l.fn.trans l.fn.cause l.fn.joins)
    × (length l.parts.items ≡ length l.fn.parts.items + l.live-index) × (vec_capacity l.parts ≡ vec_capacity l.fn.parts)
