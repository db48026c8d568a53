use Rattle.std.proofs.Common.{◌≡◌, [], drop}
use Rattle.alp_worker.specs.Regained.{with_parts}
use Rattle.alp_worker.proofs.regain.lives_of.Given as goal

abbrev pub invariant-loop-part : goal.invariant-loop-part
invariant-loop-part l = with_parts l.lives (drop l.part-index l.parts) ≡ with_parts [] l.parts
