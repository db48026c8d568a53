use Rattle.std.specs.Prelude.{flat_map, map as list_map}
use Rattle.std.proofs.Common.{◌≡◌, ◌++◌, drop}
use Rattle.alp_journal.specs.Messages.{commit_again}
use Rattle.alp_coord.specs.Coordinators.{fate_in, enveloped, to_run}
use Rattle.alp_coord.proofs.coordinator.Coordinator.commit_all.Given as goal

abbrev pub invariant-loop-trans : goal.invariant-loop-trans
invariant-loop-trans l =
    l.out.items ++ flat_map (λ t. list_map enveloped (to_run l.self.server l.servers (commit_again t (fate_in l.self t)))) (drop l.trans-index l.ids)
    ≡ l.fn.out.items ++ flat_map (λ t. list_map enveloped (to_run l.self.server l.servers (commit_again t (fate_in l.self t)))) l.ids
