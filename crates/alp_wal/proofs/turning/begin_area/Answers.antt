use Rattle.std.proofs.Common.{◌-◌, ◌<◌, IsTrue, sym, subst, arith}
use Rattle.alp_disk.proofs.Moments.{adds_weaker, adds_more}
use Rattle.alp_anchor.proofs.Gates.{is_closed}
use Rattle.alp_record.proofs.Bodies.{on_ok}
use Rattle.alp_wal.proofs.Turns.{outside_but, outside_then, torn_outside, adding_outside, only_record}
use Rattle.alp_wal.proofs.turning.begin_area.Goals as goal

pub add_record-requires-clause-closed : goal.add_record-requires-clause-closed
add_record-requires-clause-closed g c told =
    let told0 = subst IsTrue c.write_synced.ensures.tells told in
    let a = c.args.area.now in
    let closed = is_closed (g.D.Disk.size c.args.disk.now) (g.D.Disk.seen c.args.disk.now) (g.D.Disk.seen c.write_synced.new.disk) a.first (g.D.Disk.may_leave c.write_synced.new.disk) (g.met.D.Disk.is_image c.args.disk.now told0)
    (omega (arith, c.requires.room, c.requires.area)) (c.in_ok-write_synced.ensures.durable told0) (c.in_ok-write_synced.ensures.written told0) in
    closed.gate

pub returns-in_err-write_synced-clause-any_moment : goal.returns-in_err-write_synced-clause-any_moment
returns-in_err-write_synced-clause-any_moment g c told =
    let a = c.args.area.now in
    adds_weaker g.D.Disk.left_since _ _ _ _ c.write_synced.ensures.any_moment (torn_outside a.first a.end (g.D.Disk.seen c.args.disk.now) (g.D.Disk.may_leave c.args.disk.now) (omega (arith, c.requires.room)) (c.requires.durable told))

pub returns-clause-any_moment : goal.returns-clause-any_moment
returns-clause-any_moment g c told =
    let l = g.D.Disk.left_since in
    let a = c.args.area.now in
    let old = g.D.Disk.seen c.args.disk.now in
    let mid = g.D.Disk.seen c.write_synced.new.disk in
    let room : a.first < a.end = omega (arith, c.requires.room) in
    let told2 = subst IsTrue (sym c.write_synced.ensures.tells) told in
    let closed = is_closed (g.D.Disk.size c.args.disk.now) old mid a.first (g.D.Disk.may_leave c.write_synced.new.disk) (g.met.D.Disk.is_image c.args.disk.now told)
    (omega (arith, c.requires.room, c.requires.area)) (c.in_ok-write_synced.ensures.durable told) (c.in_ok-write_synced.ensures.written told) in
    adds_more l _ _ _ _ _ (adds_weaker l _ _ _ _ c.write_synced.ensures.any_moment (torn_outside a.first a.end old (g.D.Disk.may_leave c.args.disk.now) room (c.requires.durable told)))
    (c.add_record.ensures.any_moment told2) (λ x adding. adding_outside a.generation a.end a.first c.args.body.now old mid x (outside_but a.first a.end old mid room closed.others) adding)

pub returns-clause-others : goal.returns-clause-others
returns-clause-others g c told =
    let a = c.args.area.now in
    let old = g.D.Disk.seen c.args.disk.now in
    let mid = g.D.Disk.seen c.write_synced.new.disk in
    let told2 = subst IsTrue (sym c.write_synced.ensures.tells) told in
    let closed = is_closed (g.D.Disk.size c.args.disk.now) old mid a.first (g.D.Disk.may_leave c.write_synced.new.disk) (g.met.D.Disk.is_image c.args.disk.now told)
    (omega (arith, c.requires.room, c.requires.area)) (c.in_ok-write_synced.ensures.durable told) (c.in_ok-write_synced.ensures.written told) in
    on_ok c.add_record.result _ _ (λ added. outside_then a.first (a.end - a.first) old mid _ (outside_but a.first a.end old mid (omega (arith, c.requires.room)) closed.others) added.others) (c.add_record.ensures.added told2)

pub returns-clause-records : goal.returns-clause-records
returns-clause-records g c told =
    let a = c.args.area.now in
    let told2 = subst IsTrue (sym c.write_synced.ensures.tells) told in
    on_ok c.add_record.result _ _ (λ added. only_record a.generation a.end a.first c.args.body.now (g.D.Disk.seen c.write_synced.new.disk) _ added) (c.add_record.ensures.added told2)
