use Rattle.std.proofs.Common.{◌≡◌, ◌-◌, drop}
use Rattle.alp_node.specs.Eases.{shared_in}
use Rattle.alp_node.proofs.easing.places_left.Given as goal

abbrev pub invariant-loop-block : goal.invariant-loop-block
invariant-loop-block l = l.left - shared_in l.puts (drop l.block-index l.blocks) ≡ l.places - shared_in l.puts l.blocks
