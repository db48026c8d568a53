use Rattle.std.proofs.Common.{IsTrue, Err, sym, ap, subst}
use Rattle.alp_disk.specs.Disk.{Image}
use Rattle.alp_anchor.specs.declared.anchor.Anchor.{Anchor}
use Rattle.alp_wal.specs.Mount.{Finds, IsBad}
use Rattle.alp_wal.proofs.Mounts.{why_bad}
use Rattle.alp_wal.proofs.mounting.recover.Goals as goal

pub returns-in-Ok-replay-clause-finds : goal.returns-in-Ok-replay-clause-finds
returns-in-Ok-replay-clause-finds g c told =
    let told2 = subst IsTrue (sym c.begin.ensures.tells) told in
    subst (λ (t : Image × Anchor). Finds t.0 t.1 c.replay.new.found) (λ i. (c.begin.ensures.seen i, sym c.replay.ensures.anchor i)) (c.in-Ok-replay.ensures.finds told2)

pub returns-in-Err-clause-why_not : goal.returns-in-Err-clause-why_not
returns-in-Err-clause-why_not g c told =
    let told2 = subst IsTrue (sym c.begin.ensures.tells) told in
    why_bad c.args.server c.args.servers (g.D.Disk.size c.args.disk.now) (g.D.Disk.seen c.args.disk.now) c.in_ok-anchor.anchor c.in-Err.fault (c.in_ok-anchor.ensures.counts told) c.in_ok-anchor.ensures.named
    (λ place e. subst (λ (t : Image × Anchor). IsBad t.0 t.1 place) (λ i. (c.begin.ensures.seen i, c.in-Ok.ensures.anchor i)) (c.in-Err.ensures.bad told2 place (ap Err e)))
    (λ bytes e. c.in-Err.ensures.is_volume bytes (ap Err e))
