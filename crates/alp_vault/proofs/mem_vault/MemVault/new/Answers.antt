use Rattle.std.proofs.Common.{ap, sym, subst}
use Rattle.alp_files.specs.Cells.{Cells}
use Rattle.alp_vault.specs.Contents.{Contents}
use Rattle.alp_vault.specs.Volumes.{IsVolumeOf}
use Rattle.alp_vault.proofs.VolumeLemmas.{empty_volume}
use Rattle.alp_vault.proofs.mem_vault.MemVault.new.Goals as goal

pub invariant_of-result : goal.invariant_of-result
invariant_of-result c = record {
  within = c.requires.sizes;
  numbered = c.requires.server;
  fits = subst (λ (m : Cells). IsVolumeOf c.args.sizes m) (sym (ap (λ (x : Contents). x.cells) c.new.ensures)) (empty_volume c.args.sizes c.requires.sizes);
  fit = tt;
}
