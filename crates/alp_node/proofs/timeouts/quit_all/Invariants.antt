use Rattle.std.proofs.Common.{◌≡◌, drop}
use Rattle.alp_node.specs.Timeouts.{quitted_all}
use Rattle.alp_node.proofs.timeouts.quit_all.Given as goal

-- what is over, and what is to be over still
abbrev pub invariant-loop-live : goal.invariant-loop-live
invariant-loop-live l = quitted_all l.joins (drop l.live-index l.late) ≡ quitted_all l.fn.joins l.late
