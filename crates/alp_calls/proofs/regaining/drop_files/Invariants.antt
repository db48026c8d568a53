use Rattle.std.specs.Prelude.{None, map as list_map}
use Rattle.std.proofs.Common.{drop}
use Rattle.alp_files.specs.Edits.{Drop}
use Rattle.alp_calls.specs.Looks.{Looks}
use Rattle.alp_calls.proofs.RegainLemmas.{Taking}
use Rattle.alp_calls.proofs.regaining.drop_files.Given as goal

abbrev pub invariant-loop-file : goal.invariant-loop-file
invariant-loop-file g l = record {
  left : Looks g.V.Vault l.initial.vault l.vault None;
  taking : Taking (g.V.Vault.tells l.initial.vault) (g.V.Vault.held l.initial.vault).cells l.initial.part l.part (list_map Drop l.files) (list_map Drop (drop l.file-index l.files));
}
