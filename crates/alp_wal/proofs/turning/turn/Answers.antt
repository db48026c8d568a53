use Rattle.std.proofs.Common.{◌-◌, [], ◌∷◌, IsTrue, sym, subst, arith}
use Rattle.alp_disk.proofs.Moments.{adds_weaker, adds_more}
use Rattle.alp_disk.specs.Runs.{SameOutside}
use Rattle.alp_anchor.specs.Anchor.{IsSound, Counts, after, Switching, Switched}
use Rattle.alp_record.specs.declared.area.Area.{Area}
use Rattle.alp_record.specs.Record.{Records}
use Rattle.alp_wal.specs.Reading.{area_first, area_end}
use Rattle.alp_wal.specs.Checkpoint.{turned}
use Rattle.alp_wal.proofs.Turns.{area_is, idle_inside, counts_idle, idle_turns, switching_turns, switched_turned, ok_on}
use Rattle.alp_wal.proofs.turning.turn.Goals as goal

pub begin_area-requires-clause-room : goal.begin_area-requires-clause-room
begin_area-requires-clause-room g c = let area = c.idle_area-area.ensures in omega (arith, area.first, area.end, c.requires.room)

pub begin_area-requires-clause-area : goal.begin_area-requires-clause-area
begin_area-requires-clause-area g c = omega (arith, c.idle_area-area.ensures.end, idle_inside (g.D.Disk.size c.args.disk.now) c.args.old.now c.requires.sound)

pub begin_area-requires-clause-size : goal.begin_area-requires-clause-size
begin_area-requires-clause-size g c = omega (arith, c.requires.room, c.requires.sound.sizes.most_area)

pub switch_anchor-requires-clause-sound : goal.switch_anchor-requires-clause-sound
switch_anchor-requires-clause-sound g c = subst (λ n. IsSound n c.args.old.now) (sym c.begin_area.ensures.size) c.requires.sound

pub switch_anchor-requires-clause-counts : goal.switch_anchor-requires-clause-counts
switch_anchor-requires-clause-counts g c told x left =
    let a = c.args.old.now in
    let n = g.D.Disk.size c.args.disk.now in
    let old = g.D.Disk.seen c.args.disk.now in
    let mid = g.D.Disk.seen c.begin_area.new.disk in
    let told0 = subst IsTrue c.begin_area.ensures.tells told in
    let area = c.idle_area-area.ensures in
    let same = area_is c.idle_area-area.result (area_first (turned a)) (area_end (turned a)) (after a.generation) area.first area.end area.generation in
    let outside = subst (λ (r : Area). SameOutside r.first (r.end - r.first) old mid) same (c.in_ok-begin_area.ensures.others told0) in
    subst (λ i. Counts (g.D.Disk.size c.begin_area.new.disk) i a) (sym (c.in_ok-begin_area.ensures.durable told0 x left))
    (subst (λ k. Counts k mid a) (sym c.begin_area.ensures.size) (counts_idle n a c.requires.sound old mid outside (c.requires.counts told0)))

pub returns-in_err-begin_area-clause-any_moment : goal.returns-in_err-begin_area-clause-any_moment
returns-in_err-begin_area-clause-any_moment g c told =
    let a = c.args.old.now in
    let n = g.D.Disk.size c.args.disk.now in
    let old = g.D.Disk.seen c.args.disk.now in
    let area = c.idle_area-area.ensures in
    let same = area_is c.idle_area-area.result (area_first (turned a)) (area_end (turned a)) (after a.generation) area.first area.end area.generation in
    adds_weaker g.D.Disk.left_since _ _ _ _ (c.begin_area.ensures.any_moment told)
    (λ x outside. idle_turns n a c.requires.sound c.args.body.now old (c.requires.counts told) x (subst (λ (r : Area). SameOutside r.first (r.end - r.first) old x) same outside))

pub returns-clause-any_moment : goal.returns-clause-any_moment
returns-clause-any_moment g c told =
    let l = g.D.Disk.left_since in
    let a = c.args.old.now in
    let n = g.D.Disk.size c.args.disk.now in
    let old = g.D.Disk.seen c.args.disk.now in
    let mid = g.D.Disk.seen c.begin_area.new.disk in
    let left = g.D.Disk.may_leave c.begin_area.new.disk in
    let told2 = subst IsTrue (sym c.begin_area.ensures.tells) told in
    let area = c.idle_area-area.ensures in
    let same = area_is c.idle_area-area.result (area_first (turned a)) (area_end (turned a)) (after a.generation) area.first area.end area.generation in
    let outside = subst (λ (r : Area). SameOutside r.first (r.end - r.first) old mid) same (c.in_ok-begin_area.ensures.others told) in
    let records = subst (λ (r : Area). Records mid r.generation r.end r.first (c.args.body.now ∷ [])) same (c.in_ok-begin_area.ensures.records told) in
    adds_more l _ _ _ _ _
    (adds_weaker l _ _ _ _ (c.begin_area.ensures.any_moment told) (λ x was. idle_turns n a c.requires.sound c.args.body.now old (c.requires.counts told) x (subst (λ (r : Area). SameOutside r.first (r.end - r.first) old x) same was)))
    (c.switch_anchor.ensures.any_moment told2).adds
    (λ x switching. switching_turns n a c.requires.sound c.args.body.now old mid outside records (omega (arith, c.requires.room)) left (c.in_ok-begin_area.ensures.durable told) x
    (subst (λ k. Switching k a (1 - a.area) left mid x) c.begin_area.ensures.size switching))

pub returns-clause-turned : goal.returns-clause-turned
returns-clause-turned g c told =
    let a = c.args.old.now in
    let n = g.D.Disk.size c.args.disk.now in
    let old = g.D.Disk.seen c.args.disk.now in
    let mid = g.D.Disk.seen c.begin_area.new.disk in
    let new = g.D.Disk.seen c.switch_anchor.new.disk in
    let left = g.D.Disk.may_leave c.switch_anchor.new.disk in
    let told2 = subst IsTrue (sym c.begin_area.ensures.tells) told in
    let area = c.idle_area-area.ensures in
    let same = area_is c.idle_area-area.result (area_first (turned a)) (area_end (turned a)) (after a.generation) area.first area.end area.generation in
    let outside = subst (λ (r : Area). SameOutside r.first (r.end - r.first) old mid) same (c.in_ok-begin_area.ensures.others told) in
    let records = subst (λ (r : Area). Records mid r.generation r.end r.first (c.args.body.now ∷ [])) same (c.in_ok-begin_area.ensures.records told) in
    ok_on c.switch_anchor.result _ _ (λ x switched. switched_turned n a c.requires.sound c.args.body.now old mid outside records (omega (arith, c.requires.room)) left new
    (subst (λ k. Switched k a (1 - a.area) mid new left) c.begin_area.ensures.size switched)) (c.switch_anchor.ensures.switched told2)

pub returns-clause-durable : goal.returns-clause-durable
returns-clause-durable g c told =
    let told2 = subst IsTrue (sym c.begin_area.ensures.tells) told in
    ok_on c.switch_anchor.result _ _ (λ x switched. switched.durable) (c.switch_anchor.ensures.switched told2)
