use Rattle.std.specs.Prelude.{None, ℕ, map as list_map}
use Rattle.std.proofs.Common.{drop}
use Rattle.alp_base.specs.declared.ids.FileId.{FileId}
use Rattle.alp_files.specs.Edits.{Cut}
use Rattle.alp_calls.specs.Looks.{Looks}
use Rattle.alp_calls.proofs.RegainLemmas.{Taking}
use Rattle.alp_calls.proofs.regaining.cut_files.Given as goal

abbrev pub invariant-loop-cut : goal.invariant-loop-cut
invariant-loop-cut g l = record {
  left : Looks g.V.Vault l.initial.vault l.vault None;
  taking : Taking (g.V.Vault.tells l.initial.vault) (g.V.Vault.held l.initial.vault).cells l.initial.part l.part (list_map (λ (p : FileId × ℕ). Cut p.0 p.1) l.cuts) (list_map (λ (p : FileId × ℕ). Cut p.0 p.1) (drop l.cut-index l.cuts));
}
