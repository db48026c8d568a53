use Rattle.std.specs.Prelude.{IsTrue}
use Rattle.std.proofs.Common.{◌∙◌, ap, subst}
use Rattle.alp_vault.specs.Vault.{IsOneOf}
use Rattle.alp_wal.specs.Wal.{disk_of, anchor_of}
use Rattle.alp_wal.specs.declared.wal.Wal.{Wal}
use Rattle.alp_store.specs.Holding.{MayLeave}
use Rattle.alp_store.specs.StoreStates.{StoreOf}
use Rattle.alp_store.proofs.RightLaws.{fallen_right, fallen_one}
use Rattle.alp_store.proofs.store.StoreVault.power_off.Goals as goal

pub invariant_of-result : goal.invariant_of-result
invariant_of-result g c =
    let s = c.self.inside in
    let from = c.apart-disk.ensures.disk ∙ ap (λ (x : Wal g.row.D.Denot). disk_of x) c.into_log.ensures in
    let anchor = c.over-log.ensures.anchor ∙ c.apart-disk.ensures.anchor ∙ ap (λ (x : Wal g.row.D.Denot). anchor_of x) c.into_log.ensures in
    fallen_right g.D.Disk s.server s.servers s.serves s.stage c.apart-disk.result.0 c.power_off.result c.over-log.result from c.over-log.ensures.disk anchor c.power_off.ensures.tells c.power_off.ensures.size c.power_off.ensures.left c.power_off.ensures.still c.self.invariant

pub returns-clause-left : goal.returns-clause-left
returns-clause-left g c =
    let s = c.self.inside in
    let from = c.apart-disk.ensures.disk ∙ ap (λ (x : Wal g.row.D.Denot). disk_of x) c.into_log.ensures in
    let anchor = c.over-log.ensures.anchor ∙ c.apart-disk.ensures.anchor ∙ ap (λ (x : Wal g.row.D.Denot). anchor_of x) c.into_log.ensures in
    subst (λ (x : Wal g.row.D.Denot). IsTrue (g.D.Disk.tells (disk_of x)) → IsOneOf (MayLeave g.D.Disk x) (MayLeave g.D.Disk c.over-log.result)) (ap (λ (x : StoreOf g.row.D.Denot). x.log) c.self.view_is)
    (fallen_one g.D.Disk s.server s.servers s.serves s.stage c.apart-disk.result.0 c.power_off.result c.over-log.result from c.over-log.ensures.disk anchor c.power_off.ensures.tells c.power_off.ensures.size c.power_off.ensures.left c.power_off.ensures.still g.met.D.Disk.as_read c.self.invariant.store)
