use Rattle.std.proofs.Common.{◌≡◌, take}
use Rattle.alp_node.proofs.asks.asks_made.Given as goal

abbrev pub invariant-loop-need : goal.invariant-loop-need
invariant-loop-need l = l.needs.items ≡ take l.need-index l.list
