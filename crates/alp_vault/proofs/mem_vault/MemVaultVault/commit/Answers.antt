use Rattle.std.proofs.Common.{sym, subst}
use Rattle.alp_files.specs.Edits.{edits_map}
use Rattle.alp_vault.specs.Contents.{Contents}
use Rattle.alp_files.specs.Changes.{edits_of}
use Rattle.alp_vault.specs.MemVault.{kept_by}
use Rattle.alp_vault.specs.Volumes.{IsVolumeOf}
use Rattle.alp_base.specs.declared.change.Change.{Change}
use Rattle.alp_vault.proofs.StageLemmas.{held-serving}
use Rattle.alp_vault.proofs.mem_vault.MemVaultVault.commit.Goals as goal

pub invariant_of-self-in-Ok : goal.invariant_of-self-in-Ok
invariant_of-self-in-Ok c = record {
  within = c.args.self.now.within;
  numbered = c.args.self.now.numbered;
  fits = c.args.self.now.fits;
  fit =
      subst (λ (x : Change). IsVolumeOf c.args.self.now.sizes (edits_map (edits_of x) c.args.self.now.held.cells)) (sym c.in-Ok.ensures.0)
      (subst (λ (x : Contents). IsVolumeOf c.args.self.now.sizes (edits_map (edits_of c.args.change.now) x.cells)) (held-serving c.args.self.now.stage (kept_by c.args.self.now) c.requires.serving) c.requires.room);
}
