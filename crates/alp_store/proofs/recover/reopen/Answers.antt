use Rattle.std.proofs.Common.{sym, ◌∙◌, ap, subst}
use Rattle.alp_base.specs.declared.faults.VaultFault.TheVariants as fault
use Rattle.alp_disk.specs.Calls.{Looked}
use Rattle.alp_wal.specs.Wal.{disk_of}
use Rattle.alp_wal.specs.declared.wal.Wal.{Wal}
use Rattle.alp_store.proofs.RecoverLaws.{given_back, not_of_volume, reopened, has_its_sizes}
use Rattle.alp_store.proofs.recover.reopen.Goals as goal

pub returns-in-Err : goal.returns-in-Err
returns-in-Err g c =
    let d = c.apart-disk.result.0 in
    given_back g.D.Disk g.met.D.Disk.counts_now g.met.D.Disk.as_read g.met.D.Disk.only_now c.args.log c.over.result d c.in-Err.disk c.in-Err.fault c.args.server c.args.servers c.apart-disk.ensures.disk c.over.ensures.disk c.in-Err.ensures.below
    (c.over.ensures.anchor ∙ c.apart-disk.ensures.anchor) (c.over.ensures.index ∙ c.apart-disk.ensures.index) (c.over.ensures.notes ∙ c.apart-disk.ensures.notes) c.requires.store c.in-Err.ensures.cause.cause c.in-Err.ensures.cause.still
    (not_of_volume g.D.Disk g.met.D.Disk.counts_now g.met.D.Disk.as_read c.args.log d c.args.server c.args.servers c.in-Err.fault c.apart-disk.ensures.disk c.requires.store c.requires.number c.requires.of_all c.in-Err.ensures.why_not)

pub returns-then-not-are_same : goal.returns-then-not-are_same
returns-then-not-are_same g c =
    let d = c.apart-disk.result.0 in
    let s = c.in-Ok.shelf in
    let last = c.close-disk.ensures ∙ ap (λ (w : Wal g.row.D.Denot). disk_of w) c.close.ensures in
    given_back g.D.Disk g.met.D.Disk.counts_now g.met.D.Disk.as_read g.met.D.Disk.only_now c.args.log c.over-then-not-are_same.result d c.close-disk.result (fault.Damaged 1) c.args.server c.args.servers c.apart-disk.ensures.disk c.over-then-not-are_same.ensures.disk
    (subst (λ (x : g.row.D.Denot). Looked g.D.Disk d x) (sym last) c.in-Ok.ensures.below)
    (c.over-then-not-are_same.ensures.anchor ∙ c.apart-disk.ensures.anchor) (c.over-then-not-are_same.ensures.index ∙ c.apart-disk.ensures.index) (c.over-then-not-are_same.ensures.notes ∙ c.apart-disk.ensures.notes) c.requires.store
    (record { failed = λ e. cc; stopped = λ e. cc })
    (ap g.D.Disk.faults last ∙ c.in-Ok.ensures.cause.still)
    (λ told. (
    let sizes = has_its_sizes g.D.Disk g.met.D.Disk.counts_now g.met.D.Disk.as_read c.args.log s d c.args.server c.args.servers c.apart-disk.ensures.disk c.in-Ok.ensures.below c.requires.number c.requires.of_all c.in-Ok.ensures.named.0 c.in-Ok.ensures.named.1 c.requires.store c.in-Ok.ensures.shelf c.in-Ok.ensures.holds told in
    absurd (c.are_same.ensures.other c.if-not-are_same.true (c.sizes.ensures ∙ sizes ∙ sym c.sizes-sizes.ensures))
    ))

pub returns-else-not-are_same : goal.returns-else-not-are_same
returns-else-not-are_same g c =
    let d = c.apart-disk.result.0 in
    reopened g.D.Disk g.met.D.Disk.counts_now g.met.D.Disk.as_read g.met.D.Disk.only_now c.args.log c.in-Ok.shelf d c.args.server c.args.servers c.apart-disk.ensures.disk c.in-Ok.ensures.below c.requires.number c.requires.of_all c.in-Ok.ensures.named.0 c.in-Ok.ensures.named.1
    (sym c.sizes.ensures ∙ c.are_same.ensures.yes c.if-not-are_same.false ∙ c.sizes-sizes.ensures) c.requires.store c.in-Ok.ensures.shelf c.in-Ok.ensures.holds c.in-Ok.ensures.cause.still
