use Rattle.std.specs.Prelude.{cond, Bool, true, false, ◌==◌, ◌&&◌, Option, None, Some}
use Rattle.std.specs.Option.{option_copied}
use Rattle.std.specs.FinMap as map
use Rattle.std.proofs.Common.{◌≡◌, ℕ, List, [], ◌∷◌, ◌++◌, refl, ap, sym, subst, ◌∙◌}
use Rattle.alp_base.specs.declared.ids.TransId.{TransId}
use Rattle.alp_coord.specs.declared.course.Course.{Course}
use Rattle.alp_coord.specs.declared.begun.Settled.{Settled}
use Rattle.alp_coord.specs.declared.coordinator.Coordinator.{Coordinator}
use Rattle.alp_journal.specs.Deeds.{Acknowledges}
use Rattle.alp_coord.specs.declared.course.Stage.TheVariants as stage
use Rattle.alp_coord.specs.Courses.{CourseMap}
use Rattle.alp_coord.specs.Coordinators.{ComesLike, Keeps}
use Rattle.alp_coord.proofs.MoveLemmas.{decided_at, ack_fates, ack_still, told_keeps}
use Rattle.alp_coord.proofs.coordinator.Coordinator.acknowledge.Goals as goal

pub returns-then-not-is_decided-clause-kept : goal.returns-then-not-is_decided-clause-kept
returns-then-not-is_decided-clause-kept c its = ack_still c.args.self.now c.args.trans.now c.args.join.now (sym c.is_decided.ensures ∙ c.if-not-is_decided.true) its

pub returns-then-not-is_decided-clause-dropped : goal.returns-then-not-is_decided-clause-dropped
returns-then-not-is_decided-clause-dropped c none t = refl

pub returns-clause-kept : goal.returns-clause-kept
returns-clause-kept c its =
    let s = c.args.self.now in
    let t = c.args.trans.now in
    let d = decided_at s t (sym c.is_decided.ensures ∙ c.if-not-is_decided.false) in
    subst (λ (m : CourseMap). ComesLike (Acknowledges t c.args.join.now) s (record s { courses = m })) (sym c.hear.ensures) (ack_fates s t c.args.join.now 0 d.ts d.there its)

pub returns-clause-dropped : goal.returns-clause-dropped
returns-clause-dropped c none =
    let s = c.args.self.now in
    let t = c.args.trans.now in
    let d = decided_at s t (sym c.is_decided.ensures ∙ c.if-not-is_decided.false) in
    subst (λ (m : CourseMap). Keeps s (record s { courses = m })) (sym c.hear.ensures) (told_keeps s t c.args.join.now 0 (stage.Decided d.ts) d.there none)
