use Rattle.std.proofs.Common.{◌≡◌, ◌++◌, drop}
use Rattle.alp_files.specs.Locks.{wholes_of}
use Rattle.alp_node.proofs.asks.wholes_in.Given as goal

abbrev pub invariant-loop-need : goal.invariant-loop-need
invariant-loop-need l = l.wholes.items ++ wholes_of (drop l.need-index l.needs) ≡ wholes_of l.needs
