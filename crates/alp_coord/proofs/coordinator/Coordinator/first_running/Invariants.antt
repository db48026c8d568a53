use Rattle.std.specs.Prelude.{find}
use Rattle.std.specs.BTreeMap.{keys}
use Rattle.std.proofs.Common.{◌≡◌}
use Rattle.alp_coord.specs.Coordinators.{fate_in, is_running_fate}
use Rattle.alp_coord.proofs.coordinator.Coordinator.first_running.Given as goal

abbrev pub invariant-loop-trans : goal.invariant-loop-trans
invariant-loop-trans l = find (λ t. is_running_fate (fate_in l.self t)) l.trans-iterator ≡ find (λ t. is_running_fate (fate_in l.self t)) (keys l.courses)
