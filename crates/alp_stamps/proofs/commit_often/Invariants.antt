use Rattle.alp_acknowledge.specs.Turns.{InStep}
use Rattle.alp_stamps.proofs.commit_often.Given as goal

abbrev pub invariant-loop-round : goal.invariant-loop-round
invariant-loop-round g l = InStep l.caller
