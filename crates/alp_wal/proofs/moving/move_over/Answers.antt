use Rattle.std.proofs.Common.{inl, inr, IsTrue, sym, subst, arith}
use Rattle.alp_disk.proofs.Moments.{adds_weaker, adds_more}
use Rattle.alp_anchor.specs.Anchor.{IsSound, Counts}
use Rattle.alp_record.proofs.Bodies.{on_ok}
use Rattle.alp_wal.specs.Reading.{home_first}
use Rattle.alp_wal.specs.Home.{SameUnlogged, BroughtHome}
use Rattle.alp_wal.specs.Checkpoint.{Turned, Turning}
use Rattle.alp_wal.proofs.States.{counts_kept}
use Rattle.alp_wal.proofs.moving.move_over.Goals as goal

pub bring_home-requires : goal.bring_home-requires
bring_home-requires g c = omega (arith, c.requires.index, c.requires.sound.sizes.total)

pub turn-requires-clause-sound : goal.turn-requires-clause-sound
turn-requires-clause-sound g c = subst (λ n. IsSound n c.args.anchor.now) (sym c.bring_home.ensures.size) c.requires.sound

pub turn-requires-clause-counts : goal.turn-requires-clause-counts
turn-requires-clause-counts g c told =
    let a = c.args.anchor.now in
    let old = g.D.Disk.seen c.args.disk.now in
    let mid = g.D.Disk.seen c.bring_home.new.disk in
    let told0 = subst IsTrue c.bring_home.ensures.tells told in
    let brought = c.in_ok-bring_home.ensures.home told0 in
    subst (λ n. Counts n mid a) (sym c.bring_home.ensures.size) (counts_kept (g.D.Disk.size c.args.disk.now) a old mid (λ q low. brought.same.before q (omega (arith, low))) (c.requires.counts told0))

pub returns-in_err-bring_home-clause-any_moment : goal.returns-in_err-bring_home-clause-any_moment
returns-in_err-bring_home-clause-any_moment g c told =
    let a = c.args.anchor.now in
    adds_weaker g.D.Disk.left_since _ _ _ _ c.bring_home.ensures.any_moment (λ x after. inl (subst (λ i. SameUnlogged (home_first a) c.args.index.now i x) (c.requires.durable told after.0 after.1) after.2))

pub returns-clause-any_moment : goal.returns-clause-any_moment
returns-clause-any_moment g c told =
    let l = g.D.Disk.left_since in
    let a = c.args.anchor.now in
    let old = g.D.Disk.seen c.args.disk.now in
    let mid = g.D.Disk.seen c.bring_home.new.disk in
    let told2 = subst IsTrue (sym c.bring_home.ensures.tells) told in
    let brought = subst (λ n. BroughtHome (home_first a) n c.args.index.now old mid) c.requires.index (c.in_ok-bring_home.ensures.home told) in
    adds_more l _ _ _ _ _
    (adds_weaker l _ _ _ _ c.bring_home.ensures.any_moment (λ x after. inl (subst (λ i. SameUnlogged (home_first a) c.args.index.now i x) (c.requires.durable told after.0 after.1) after.2)))
    (c.turn.ensures.any_moment told2)
    (λ x turning. inr (mid, brought, subst (λ n. Turning n a c.args.body.now mid x) c.bring_home.ensures.size turning))

pub returns-clause-moved : goal.returns-clause-moved
returns-clause-moved g c told =
    let a = c.args.anchor.now in
    let old = g.D.Disk.seen c.args.disk.now in
    let mid = g.D.Disk.seen c.bring_home.new.disk in
    let new = g.D.Disk.seen c.turn.new.disk in
    let told2 = subst IsTrue (sym c.bring_home.ensures.tells) told in
    let brought = subst (λ n. BroughtHome (home_first a) n c.args.index.now old mid) c.requires.index (c.in_ok-bring_home.ensures.home told) in
    on_ok c.turn.result _ _ (λ to. (mid, brought, subst (λ n. Turned n a c.args.body.now mid new) c.bring_home.ensures.size to)) (c.turn.ensures.turned told2)
