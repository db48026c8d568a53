use Rattle.std.proofs.Common.{inl, IsTrue, slice_index, refl, sym, ◌∙◌, ap, subst}
use Rattle.alp_disk.proofs.Moments.{adds_weaker, adds_more, leaves_only}
use Rattle.alp_anchor.specs.Gate.{Opening}
use Rattle.alp_anchor.proofs.Anchors.{open_anchor_gate}
use Rattle.alp_record.proofs.Bodies.{on_ok}
use Rattle.alp_format.specs.Format.{Formatting}
use Rattle.alp_format.proofs.Formats.{new_volume, opening_leaves}
use Rattle.alp_format.proofs.formatting.establish.Goals as goal

pub open_gate-requires-clause-gate : goal.open_gate-requires-clause-gate
open_gate-requires-clause-gate g c = ap (λ p. slice_index p 0) c.anchor_page-page.ensures ∙ open_anchor_gate _

pub returns-clause-blank : goal.returns-clause-blank
returns-clause-blank g c told =
    let told2 = subst IsTrue (sym c.wipe.ensures.tells) told in
    let cleared = c.in_ok-wipe.ensures.cleared told in
    on_ok c.open_gate.result _ _
    (λ opened. new_volume (g.D.Disk.size c.args.disk.now) c.args.anchor.now c.requires.sound c.requires.page c.requires.area (g.D.Disk.seen c.wipe.new.disk) cleared _ opened.others (opened.whole ∙ c.anchor_page-page.ensures))
    (c.open_gate.ensures.opened told2)

pub returns-clause-any_moment : goal.returns-clause-any_moment
returns-clause-any_moment g c told =
    let l = g.D.Disk.left_since in
    let a = c.args.anchor.now in
    let n = g.D.Disk.size c.args.disk.now in
    let left = g.D.Disk.may_leave c.args.disk.now in
    let mid = g.D.Disk.seen c.wipe.new.disk in
    let told2 = subst IsTrue (sym c.wipe.ensures.tells) told in
    let P = Formatting a.server a.servers n a.sizes left in
    leaves_only l _ _ P (λ k was. inl (k, g.met.D.Disk.only_now c.args.disk.now k was, λ q above below. refl))
    (adds_more l _ _ _ P _ (adds_weaker l _ _ _ P c.wipe.ensures.any_moment (λ k after. inl after)) (c.open_gate.ensures.any_moment told2)
    (λ k opening. opening_leaves n a c.requires.sound c.requires.page c.requires.area mid (c.in_ok-wipe.ensures.cleared told) left (c.wipe.ensures.crash mid (g.met.D.Disk.as_read c.wipe.new.disk told2)) k
    (subst (λ p. Opening 0 p mid k) c.anchor_page-page.ensures opening)))
