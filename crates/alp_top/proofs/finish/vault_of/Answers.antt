use Rattle.std.specs.Prelude.{Some}
use Rattle.std.proofs.Common.{◌≡◌, refl, sym, ◌∙◌, ap, subst}
use Rattle.alp_cluster.specs.Station.{HasVault}
use Rattle.alp_top.specs.Disks.{IsServerRight}
use Rattle.alp_top.proofs.finish.vault_of.Goals as goal

pub returns-in-Up-clause-vault : goal.returns-in-Up-clause-vault
returns-in-Up-clause-vault g c =
    subst (λ o. HasVault o c.into_parts-vault.result.1) (sym (c.into_parts-server.ensures.server ∙ ap (λ s. Some s) c.in-Up.is))
    (ap (λ p. p.1) c.into_parts-vault.ensures)

pub returns-in-Up-clause-known : goal.returns-in-Up-clause-known
returns-in-Up-clause-known g c = subst (λ o. IsServerRight g.V.Vault o) (sym (c.into_parts-server.ensures.server ∙ ap (λ s. Some s) c.in-Up.is)) c.knows.ensures

pub returns-in-Fallen-clause-vault : goal.returns-in-Fallen-clause-vault
returns-in-Fallen-clause-vault g c =
    subst (λ o. HasVault o c.into_parts-vault-in-Fallen.result.1) (sym (c.into_parts-server.ensures.server ∙ ap (λ s. Some s) c.in-Fallen.is))
    (ap (λ p. p.1) c.into_parts-vault-in-Fallen.ensures)

pub returns-in-Fallen-clause-known : goal.returns-in-Fallen-clause-known
returns-in-Fallen-clause-known g c = subst (λ o. IsServerRight g.V.Vault o) (sym (c.into_parts-server.ensures.server ∙ ap (λ s. Some s) c.in-Fallen.is)) c.knows-in-Fallen.ensures
