use Rattle.std.specs.FinMap as map
use Rattle.std.proofs.Common.{◌≡◌, drop}
use Rattle.alp_coord.specs.Coordinators.{noted_courses}
use Rattle.alp_coord.proofs.coordinator.courses_of.Given as goal

abbrev pub invariant-loop-decision : goal.invariant-loop-decision
invariant-loop-decision l = noted_courses l.courses (drop l.decision-index l.decisions) ≡ noted_courses map.empty l.decisions
