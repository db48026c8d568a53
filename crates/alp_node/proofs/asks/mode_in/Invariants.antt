use Rattle.std.proofs.Common.{◌≡◌, drop}
use Rattle.alp_files.specs.Holdings.{join_held, held_by}
use Rattle.alp_node.proofs.asks.mode_in.Given as goal

abbrev pub invariant-loop-need : goal.invariant-loop-need
invariant-loop-need l = join_held l.mode (held_by (drop l.need-index l.needs) l.at) ≡ held_by l.needs l.at
