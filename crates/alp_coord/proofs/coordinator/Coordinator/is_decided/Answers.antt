use Rattle.std.specs.Prelude.{cond, Bool, true, false, ◌==◌, ◌&&◌, Option, None, Some}
use Rattle.std.specs.Option.{option_copied}
use Rattle.std.specs.FinMap as map
use Rattle.std.proofs.Common.{◌≡◌, ℕ, List, [], ◌∷◌, ◌++◌, refl, ap, sym, subst, ◌∙◌}
use Rattle.alp_base.specs.declared.ids.TransId.{TransId}
use Rattle.alp_coord.specs.declared.course.Course.{Course}
use Rattle.alp_coord.specs.declared.begun.Settled.{Settled}
use Rattle.alp_coord.specs.declared.coordinator.Coordinator.{Coordinator}
use Rattle.alp_coord.specs.Courses.{is_decided_stage}
use Rattle.alp_coord.specs.Coordinators.{at_stage}
use Rattle.alp_coord.proofs.coordinator.Coordinator.is_decided.Goals as goal

pub returns-in-Some : goal.returns-in-Some
returns-in-Some c = c.is_decided.ensures ∙ sym (ap (at_stage is_decided_stage) (sym c.course.ensures ∙ ap option_copied c.in-Some.is))

pub returns-in-None : goal.returns-in-None
returns-in-None c = sym (ap (at_stage is_decided_stage) (sym c.course.ensures ∙ ap option_copied c.in-None.is))
