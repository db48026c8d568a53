use Rattle.std.specs.Prelude.{cond, Bool, true, false, ◌==◌, ◌&&◌, Option, None, Some}
use Rattle.std.specs.Option.{option_copied}
use Rattle.std.specs.FinMap as map
use Rattle.std.proofs.Common.{◌≡◌, ℕ, List, [], ◌∷◌, ◌++◌, refl, ap, sym, subst, ◌∙◌}
use Rattle.alp_base.specs.declared.ids.TransId.{TransId}
use Rattle.alp_coord.specs.declared.course.Course.{Course}
use Rattle.alp_coord.specs.declared.begun.Settled.{Settled}
use Rattle.alp_coord.specs.declared.coordinator.Coordinator.{Coordinator}
use Rattle.alp_journal.specs.Ids.{has_join, has_server}
use Rattle.alp_coord.specs.declared.answers.Registration.{Registration}
use Rattle.alp_coord.specs.declared.answers.Registration.TheVariants as registration
use Rattle.alp_coord.specs.declared.members.Member.{Member}
use Rattle.alp_coord.specs.Members.{joins}
use Rattle.alp_coord.specs.Coordinators.{admitted}
use Rattle.alp_coord.proofs.MoveLemmas.{registration_late, registration_there}
use Rattle.alp_coord.proofs.moves.registration_of.Goals as goal

pub returns-then-not-is_running : goal.returns-then-not-is_running
returns-then-not-is_running c t = sym (registration_late t c.args.other c.args.join.now c.args.client c.args.course.now (sym c.is_running.ensures ∙ c.if-not-is_running.true))

pub returns-then-not-is_owner : goal.returns-then-not-is_owner
returns-then-not-is_owner c t =
    sym (registration_there t c.args.other c.args.join.now c.args.client c.args.course.now false (sym c.is_running.ensures ∙ c.if-not-is_running.false) (sym c.is_owner.ensures ∙ c.if-not-is_owner.true))

pub returns : goal.returns
returns c t =
    c.admitted.ensures ∙ ap (λ (ms : List Member). admitted (has_join c.args.join.now (joins ms)) (has_server c.args.join.now.server (joins ms))) c.as_slice.ensures
    ∙ sym (registration_there t c.args.other c.args.join.now c.args.client c.args.course.now true (sym c.is_running.ensures ∙ c.if-not-is_running.false) (sym c.is_owner.ensures ∙ c.if-not-is_owner.false))
