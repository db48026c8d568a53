use Rattle.std.proofs.Common.{IsTrue, inl, slice_index, ◌-◌, ◌∙◌, ap, sym, subst}
use Rattle.alp_disk.proofs.Moments.{adds_weaker, adds_more, leaves_only}
use Rattle.alp_anchor.specs.Gate.{Opening, Opened}
use Rattle.alp_anchor.proofs.Anchors.{closing_crash, opening_crash, is_switched, open_anchor_gate}
use Rattle.alp_anchor.proofs.switch.switch_anchor.Goals as goal

pub returns-in_err-close_gate-clause-any_moment : goal.returns-in_err-close_gate-clause-any_moment
returns-in_err-close_gate-clause-any_moment g c told =
    let l = g.D.Disk.left_since in
    let closing = closing_crash _ c.args.old.now c.args.area c.requires.sound c.requires.area (g.D.Disk.may_leave c.args.disk.now) _ (c.requires.counts told) (g.met.D.Disk.as_read c.args.disk.now told) in
    leaves_only l _ _ _ (λ k left. closing k (inl (g.met.D.Disk.only_now c.args.disk.now k left))) (adds_weaker l _ _ _ _ (c.close_gate.ensures.any_moment told) closing)

pub open_gate-requires-clause-gate : goal.open_gate-requires-clause-gate
open_gate-requires-clause-gate g c = ap (λ p. slice_index p 0) c.anchor_page-page.ensures ∙ open_anchor_gate _

pub returns-in_err-open_gate-clause-any_moment : goal.returns-in_err-open_gate-clause-any_moment
returns-in_err-open_gate-clause-any_moment g c told =
    let l = g.D.Disk.left_since in
    let old = c.args.old.now in
    let told2 = subst IsTrue (sym c.close_gate.ensures.tells) told in
    let as_read = g.met.D.Disk.as_read c.args.disk.now told in
    let closing = closing_crash _ old c.args.area c.requires.sound c.requires.area (g.D.Disk.may_leave c.args.disk.now) _ (c.requires.counts told) as_read in
    let opening = opening_crash _ old c.args.area c.requires.sound c.requires.area (g.D.Disk.may_leave c.args.disk.now) _ (c.requires.counts told) as_read (g.D.Disk.seen c.close_gate.new.disk) in
    let closed = c.in_ok-close_gate.ensures.closed told in
    let so_far = adds_weaker l _ _ _ _ (c.close_gate.ensures.any_moment told) closing in
    leaves_only l _ _ _ (λ k left. closing k (inl (g.met.D.Disk.only_now c.args.disk.now k left)))
    (adds_more l _ _ _ _ _ so_far (c.open_gate.ensures.any_moment told2) (λ k left. opening k closed.others (subst (λ p. Opening (1 - old.page) p (g.D.Disk.seen c.close_gate.new.disk) k) c.anchor_page-page.ensures left)))

pub returns-clause-any_moment : goal.returns-clause-any_moment
returns-clause-any_moment g c told =
    let l = g.D.Disk.left_since in
    let old = c.args.old.now in
    let told2 = subst IsTrue (sym c.close_gate.ensures.tells) told in
    let as_read = g.met.D.Disk.as_read c.args.disk.now told in
    let closing = closing_crash _ old c.args.area c.requires.sound c.requires.area (g.D.Disk.may_leave c.args.disk.now) _ (c.requires.counts told) as_read in
    let opening = opening_crash _ old c.args.area c.requires.sound c.requires.area (g.D.Disk.may_leave c.args.disk.now) _ (c.requires.counts told) as_read (g.D.Disk.seen c.close_gate.new.disk) in
    let closed = c.in_ok-close_gate.ensures.closed told in
    let so_far = adds_weaker l _ _ _ _ (c.close_gate.ensures.any_moment told) closing in
    leaves_only l _ _ _ (λ k left. closing k (inl (g.met.D.Disk.only_now c.args.disk.now k left)))
    (adds_more l _ _ _ _ _ so_far (c.open_gate.ensures.any_moment told2) (λ k left. opening k closed.others (subst (λ p. Opening (1 - old.page) p (g.D.Disk.seen c.close_gate.new.disk) k) c.anchor_page-page.ensures left)))

pub returns-clause-switched : goal.returns-clause-switched
returns-clause-switched g c told =
    let old = c.args.old.now in
    let told2 = subst IsTrue (sym c.close_gate.ensures.tells) told in
    let closed = c.in_ok-close_gate.ensures.closed told in
    is_switched _ old c.args.area c.requires.sound c.requires.area (g.D.Disk.may_leave c.args.disk.now) _ (c.requires.counts told) (g.met.D.Disk.as_read c.args.disk.now told) (g.D.Disk.seen c.close_gate.new.disk) _ _ closed.others
    (subst (λ p. Opened (1 - old.page) p (g.D.Disk.seen c.close_gate.new.disk) (g.D.Disk.seen c.open_gate.new.disk) (g.D.Disk.may_leave c.open_gate.new.disk)) c.anchor_page-page.ensures (c.in_ok-open_gate.ensures.opened told2))
