use Rattle.std.specs.Prelude.{filter, ◌^◌}
use Rattle.std.specs.BTreeMap.{keys, btree_map_len}
use Rattle.std.proofs.Common.{◌≡◌, ◌+◌, ◌≤◌, ◌<◌, length}
use Rattle.alp_journal.specs.Answers.{is_counted}
use Rattle.alp_coord.specs.Coordinators.{fate_in}
use Rattle.alp_coord.proofs.coordinator.Coordinator.count_all.Given as goal

abbrev pub invariant-loop-trans : goal.invariant-loop-trans
invariant-loop-trans l = record {
  count : l.count + length (filter (λ t. is_counted (fate_in l.self t)) l.trans-iterator) ≡ length (filter (λ t. is_counted (fate_in l.self t)) (keys l.courses));
  few : l.count + length l.trans-iterator ≤ btree_map_len l.courses;
  small : btree_map_len l.courses < 2 ^ 63;
}
