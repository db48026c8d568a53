use Rattle.std.specs.Prelude.{cond, Bool, true, false, ◌==◌, ◌&&◌, Option, None, Some}
use Rattle.std.specs.Option.{option_copied}
use Rattle.std.specs.FinMap as map
use Rattle.std.proofs.Common.{◌≡◌, ℕ, List, [], ◌∷◌, ◌++◌, refl, ap, sym, subst, ◌∙◌}
use Rattle.alp_base.specs.declared.ids.TransId.{TransId}
use Rattle.alp_coord.specs.declared.course.Course.{Course}
use Rattle.alp_coord.specs.declared.begun.Settled.{Settled}
use Rattle.alp_coord.specs.declared.coordinator.Coordinator.{Coordinator}
use Rattle.alp_journal.specs.Deeds.{Registers}
use Rattle.alp_coord.specs.Courses.{CourseMap}
use Rattle.alp_coord.specs.Coordinators.{IsAlong, Comes}
use Rattle.alp_coord.proofs.MoveLemmas.{let_in, enter_fates}
use Rattle.alp_coord.proofs.coordinator.Coordinator.register.Goals as goal

pub returns-clause-after : goal.returns-clause-after
returns-clause-after c =
    let s = c.args.self.now in
    let t = c.args.trans.now in
    let l = let_in s t c.args.join c.args.client c.args.servers (sym c.registration-answer.ensures ∙ c.in-Registered.is) in (
      record { server_same = refl; epoch_same = refl; count_same = refl },
      subst (λ (m : CourseMap). Comes (Registers t c.args.join) s (record s { courses = m })) (sym c.in_ok-enter.ensures.ok) (enter_fates s t c.args.join l.there.course l.there.stands l.there.at l.new),
    )
