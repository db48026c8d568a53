use Rattle.std.specs.Prelude.{map as list_map}
use Rattle.std.proofs.Common.{◌≡◌, ◌++◌, drop}
use Rattle.alp_coord.specs.Coordinators.{noted}
use Rattle.alp_regain.specs.Notes.{parts_under, decisions_under, are_good}
use Rattle.alp_regain.proofs.notes.notes_of.Given as goal

abbrev pub invariant-loop-name : goal.invariant-loop-name
invariant-loop-name g l = record {
  parts : l.notes.parts.items ++ parts_under (g.V.Vault.held l.vault).notes (drop l.name-index l.names) ≡ parts_under (g.V.Vault.held l.vault).notes l.names;
  decisions : list_map noted l.notes.decisions.items ++ decisions_under (g.V.Vault.held l.vault).notes (drop l.name-index l.names) ≡ decisions_under (g.V.Vault.held l.vault).notes l.names;
  format : are_good l.server l.servers (g.V.Vault.held l.vault).notes (drop l.name-index l.names) ≡ are_good l.server l.servers (g.V.Vault.held l.vault).notes l.names;
}
