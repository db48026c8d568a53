use Rattle.std.specs.Prelude.{Some, Err}
use Rattle.std.proofs.Common.{◌≡◌, ap, subst, arith}
use Rattle.alp_base.specs.declared.faults.Sizes.{Sizes}
use Rattle.alp_pages.specs.Damage.{damage_of}
use Rattle.alp_pages.specs.Volume.{StandFor}
use Rattle.alp_pool.specs.Pools.{log_of}
use Rattle.alp_volume.specs.Known.{Knows}
use Rattle.alp_wal.specs.Wal.{anchor_of}
use Rattle.alp_store.specs.Told.{pages_of, told_by}
use Rattle.alp_store.proofs.DamageLaws.{damage_within}
use Rattle.alp_store.proofs.open.read_catalog.Goals as goal

pub returns-in-Ok-clause-known : goal.returns-in-Ok-clause-known
returns-in-Ok-clause-known g c told m standing =
    subst (λ (z : Sizes). (st : StandFor z.home (pages_of (told_by g.D.Disk (log_of c.args.pages.now))) m) → Knows z.home st.volume c.in-Ok.catalog) c.sizes-sizes.ensures (λ st. c.in-Ok.ensures.known m st told) standing

pub returns-in-Err-Damaged-clause-damaged : goal.returns-in-Err-Damaged-clause-damaged
returns-in-Err-Damaged-clause-damaged g c told place e =
    let w = log_of c.args.pages.now in
    let at = pages_of (told_by g.D.Disk w) in
    let p = c.in-Err-Damaged.place in
    let here : damage_of c.sizes-sizes.result.home at ≡ Some p = c.in-Err-Damaged.ensures.damaged p told (ap Err c.in-Err-Damaged.field-0-is) in
    let wrong : damage_of (anchor_of w).sizes.home at ≡ Some p = subst (λ (z : Sizes). damage_of z.home at ≡ Some p) c.sizes-sizes.ensures here in
    let low = damage_within (anchor_of w).sizes.home p at (omega (arith, c.knows.ensures.log.anchor.sizes.least_home)) wrong in
    let same : c.saturating_add.result ≡ place = cc in
    let area : c.sizes-sizes.result.area ≡ (anchor_of w).sizes.area = ap (λ (z : Sizes). z.area) c.sizes-sizes.ensures in
    record { page = p; wrong = wrong; there = omega (arith, same, low, area, c.saturating_add.ensures, c.knows.ensures.log.anchor.sizes.most_home, c.knows.ensures.log.anchor.sizes.most_area) }
