use Rattle.std.proofs.Common.{◌≡◌, drop}
use Rattle.alp_node.specs.Dead.{cause_from, cause_in}
use Rattle.alp_node.proofs.dead.last_cause.Given as goal

abbrev pub invariant-loop-part : goal.invariant-loop-part
invariant-loop-part l = cause_from l.cause (drop l.part-index l.parts) l.client l.trans ≡ cause_in l.parts l.client l.trans
