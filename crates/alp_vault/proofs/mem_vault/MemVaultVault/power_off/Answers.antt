use Rattle.std.proofs.Common.{sym, subst}
use Rattle.alp_vault.specs.MemVault.{kept_by}
use Rattle.alp_vault.specs.Stages.{MayLeave}
use Rattle.alp_vault.specs.Vault.{IsOneOf}
use Rattle.alp_vault.specs.declared.stage.Stage.{Stage}
use Rattle.alp_vault.proofs.StageLemmas.{fallen_left}
use Rattle.alp_vault.proofs.mem_vault.MemVaultVault.power_off.Goals as goal

pub returns-clause-left : goal.returns-clause-left
returns-clause-left c =
    subst (λ (s : Stage). IsOneOf (MayLeave c.args.self.stage (kept_by c.args.self)) (MayLeave s (kept_by c.args.self))) (sym c.fallen.ensures)
    (fallen_left c.args.pick c.args.self.stage (kept_by c.args.self))
