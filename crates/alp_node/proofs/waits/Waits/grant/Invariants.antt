use Rattle.std.proofs.Common.{◌≡◌, ◌++◌, take, drop}
use Rattle.alp_node.specs.Waits.{grant_of}
use Rattle.alp_node.proofs.waits.Waits.grant.Given as goal

abbrev pub invariant-loop-call : goal.invariant-loop-call
invariant-loop-call l = l.call-items ≡ grant_of l.trans (take l.call-index l.initial.call-items) ++ drop l.call-index l.initial.call-items
