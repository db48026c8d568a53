use Rattle.std.proofs.Common.{ap, sym, subst}
use Rattle.alp_files.specs.Cells.{Cells}
use Rattle.alp_files.proofs.UndoLemmas.{when_ok}
use Rattle.alp_vault.specs.Contents.{Contents}
use Rattle.alp_vault.specs.Stages.{IsFit}
use Rattle.alp_vault.specs.Volumes.{IsVolumeOf}
use Rattle.alp_vault.specs.declared.stage.Stage.{Stage}
use Rattle.alp_vault.proofs.mem_vault.MemVault.recovered.Goals as goal

pub invariant_of-result : goal.invariant_of-result
invariant_of-result c = record {
  within = c.args.self.within;
  numbered = c.args.self.numbered;
  fits =
      subst (λ (m : Cells). IsVolumeOf c.args.self.sizes m) (sym (ap (λ (x : Contents). x.cells) (when_ok c.make.result _ c.make.ensures.ok (sym c.if-is_err.ensures.value))))
      (subst (λ (s : Stage). IsFit c.args.self.sizes s c.args.self.held.cells) c.in-Made.is c.args.self.fit);
  fit = tt;
}
