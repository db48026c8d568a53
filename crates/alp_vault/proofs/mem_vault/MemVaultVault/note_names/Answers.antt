use Rattle.std.proofs.Common.{◌∙◌, ap, sym}
use Rattle.std.specs.FinMap as map
use Rattle.alp_vault.specs.Contents.{Contents}
use Rattle.alp_vault.proofs.StageLemmas.{held-serving}
use Rattle.alp_vault.specs.MemVault.{kept_by}
use Rattle.alp_vault.proofs.mem_vault.MemVaultVault.note_names.Goals as goal

pub returns : goal.returns
returns c = c.names.ensures ∙ ap (λ (x : Contents). map.keys x.notes) (sym (held-serving c.args.self.now.stage (kept_by c.args.self.now) c.requires))
