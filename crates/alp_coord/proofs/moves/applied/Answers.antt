use Rattle.std.specs.Prelude.{cond, Bool, true, false, ◌==◌, ◌&&◌, Option, None, Some}
use Rattle.std.specs.Option.{option_copied}
use Rattle.std.specs.FinMap as map
use Rattle.std.proofs.Common.{◌≡◌, ℕ, List, [], ◌∷◌, ◌++◌, refl, ap, sym, subst, ◌∙◌}
use Rattle.alp_base.specs.declared.ids.TransId.{TransId}
use Rattle.alp_coord.specs.declared.course.Course.{Course}
use Rattle.alp_coord.specs.declared.begun.Settled.{Settled}
use Rattle.alp_coord.specs.declared.coordinator.Coordinator.{Coordinator}
use Rattle.alp_coord.specs.Members.{are_none, have_all_said}
use Rattle.alp_coord.proofs.MoveLemmas.{time_early, time_there}
use Rattle.alp_coord.proofs.moves.applied.Goals as goal

pub returns-in_default : goal.returns-in_default
returns-in_default c t = sym (time_early t c.args.course.now (sym c.time.ensures ∙ c.in_default.is))

pub returns-then-are_none : goal.returns-then-are_none
returns-then-are_none c t =
    let d = c.args.course.now in
    sym (time_there t d c.in-Some.ts true (have_all_said d.members) (sym c.time.ensures ∙ c.in-Some.is) (sym (ap are_none c.as_slice-members.ensures) ∙ sym c.are_none.ensures ∙ c.if-are_none.true) refl)

pub returns-then-not-have_all_said : goal.returns-then-not-have_all_said
returns-then-not-have_all_said c t =
    let d = c.args.course.now in
    sym (time_there t d c.in-Some.ts false false (sym c.time.ensures ∙ c.in-Some.is) (sym (ap are_none c.as_slice-members.ensures) ∙ sym c.are_none.ensures ∙ c.if-are_none.false)
    (sym (ap have_all_said c.as_slice-members.ensures) ∙ sym c.have_all_said.ensures ∙ c.if-not-have_all_said.true))

pub returns : goal.returns
returns c t =
    let d = c.args.course.now in
    sym (time_there t d c.in-Some.ts false true (sym c.time.ensures ∙ c.in-Some.is) (sym (ap are_none c.as_slice-members.ensures) ∙ sym c.are_none.ensures ∙ c.if-are_none.false)
    (sym (ap have_all_said c.as_slice-members.ensures) ∙ sym c.have_all_said.ensures ∙ c.if-not-have_all_said.false))
