use Rattle.std.specs.Prelude.{cond, Bool, true, false, ◌==◌, ◌&&◌, Option, None, Some}
use Rattle.std.specs.Option.{option_copied}
use Rattle.std.specs.FinMap as map
use Rattle.std.proofs.Common.{◌≡◌, ℕ, List, [], ◌∷◌, ◌++◌, refl, ap, sym, subst, ◌∙◌}
use Rattle.alp_base.specs.declared.ids.TransId.{TransId}
use Rattle.alp_coord.specs.declared.course.Course.{Course}
use Rattle.alp_coord.specs.declared.begun.Settled.{Settled}
use Rattle.alp_coord.specs.declared.coordinator.Coordinator.{Coordinator}
use Rattle.alp_journal.specs.Deeds.{Hears}
use Rattle.alp_coord.specs.declared.course.Stage.TheVariants as stage
use Rattle.alp_coord.specs.Courses.{CourseMap}
use Rattle.alp_coord.specs.Coordinators.{ComesLike, Keeps}
use Rattle.alp_coord.proofs.MoveLemmas.{finishing_at, hear_fates, hear_still, told_keeps}
use Rattle.alp_coord.proofs.coordinator.Coordinator.hear.Goals as goal

pub returns-then-not-finishes-clause-heard : goal.returns-then-not-finishes-clause-heard
returns-then-not-finishes-clause-heard c its = hear_still c.args.self.now c.args.trans.now c.args.join.now c.args.time (sym c.finishes.ensures ∙ c.if-not-finishes.true)

pub returns-then-not-finishes-clause-dropped : goal.returns-then-not-finishes-clause-dropped
returns-then-not-finishes-clause-dropped c none t = refl

pub returns-clause-heard : goal.returns-clause-heard
returns-clause-heard c its =
    let s = c.args.self.now in
    let t = c.args.trans.now in
    subst (λ (m : CourseMap). ComesLike (Hears t c.args.join.now c.args.time) s (record s { courses = m })) (sym c.hear.ensures)
    (hear_fates s t c.args.join.now c.args.time (finishing_at s t (sym c.finishes.ensures ∙ c.if-not-finishes.false)) its)

pub returns-clause-dropped : goal.returns-clause-dropped
returns-clause-dropped c none =
    let s = c.args.self.now in
    let t = c.args.trans.now in
    subst (λ (m : CourseMap). Keeps s (record s { courses = m })) (sym c.hear.ensures)
    (told_keeps s t c.args.join.now c.args.time stage.Finishing (finishing_at s t (sym c.finishes.ensures ∙ c.if-not-finishes.false)) none)
