use Rattle.std.specs.Prelude.{cond, Bool, true, false, ◌==◌, ◌&&◌, Option, None, Some}
use Rattle.std.specs.Option.{option_copied}
use Rattle.std.specs.FinMap as map
use Rattle.std.proofs.Common.{◌≡◌, ℕ, List, [], ◌∷◌, ◌++◌, refl, ap, sym, subst, ◌∙◌}
use Rattle.alp_base.specs.declared.ids.TransId.{TransId}
use Rattle.alp_coord.specs.declared.course.Course.{Course}
use Rattle.alp_coord.specs.declared.begun.Settled.{Settled}
use Rattle.alp_coord.specs.declared.coordinator.Coordinator.{Coordinator}
use Rattle.alp_journal.specs.Deeds.{Finishes}
use Rattle.alp_coord.specs.Courses.{CourseMap}
use Rattle.alp_coord.specs.Coordinators.{Comes}
use Rattle.alp_coord.proofs.MoveLemmas.{running_at, finish_fates, finish_still}
use Rattle.alp_coord.proofs.coordinator.Coordinator.finish.Goals as goal

pub returns-then-not-runs-clause-finished : goal.returns-then-not-runs-clause-finished
returns-then-not-runs-clause-finished c = finish_still c.args.self.now c.args.trans.now (sym c.runs.ensures ∙ c.if-not-runs.true)

pub returns-clause-finished : goal.returns-clause-finished
returns-clause-finished c =
    let s = c.args.self.now in
    let t = c.args.trans.now in
    subst (λ (m : CourseMap). Comes (Finishes t) s (record s { courses = m })) (sym c.turn.ensures) (finish_fates s t (running_at s t (sym c.runs.ensures ∙ c.if-not-runs.false)))
