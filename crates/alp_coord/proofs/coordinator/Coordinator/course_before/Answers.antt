use Rattle.std.specs.Prelude.{cond, Bool, true, false, ◌==◌, ◌&&◌, Option, None, Some}
use Rattle.std.specs.Option.{option_copied}
use Rattle.std.specs.FinMap as map
use Rattle.std.proofs.Common.{◌≡◌, ℕ, List, [], ◌∷◌, ◌++◌, refl, ap, sym, subst, ◌∙◌}
use Rattle.alp_base.specs.declared.ids.TransId.{TransId}
use Rattle.alp_coord.specs.declared.course.Course.{Course}
use Rattle.alp_coord.specs.declared.begun.Settled.{Settled}
use Rattle.alp_coord.specs.declared.coordinator.Coordinator.{Coordinator}
use Rattle.alp_coord.specs.Coordinators.{if_standing}
use Rattle.alp_coord.proofs.coordinator.Coordinator.course_before.Goals as goal

pub returns-in_default : goal.returns-in_default
returns-in_default c = sym (ap if_standing (sym c.get.ensures ∙ ap option_copied c.in_default.is))

pub returns-then-not-is_standing : goal.returns-then-not-is_standing
returns-then-not-is_standing c =
    sym (ap if_standing (sym c.get.ensures ∙ ap option_copied c.in-Some.is)
    ∙ ap (λ (b : Bool). cond {A = Option Course} b (Some c.in-Some.course.now) None) (sym c.is_standing.ensures ∙ c.if-not-is_standing.true))

pub returns : goal.returns
returns c =
    sym (ap if_standing (sym c.get.ensures ∙ ap option_copied c.in-Some.is)
    ∙ ap (λ (b : Bool). cond {A = Option Course} b (Some c.in-Some.course.now) None) (sym c.is_standing.ensures ∙ c.if-not-is_standing.false))
