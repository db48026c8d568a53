use Rattle.std.specs.Prelude.{cond, Bool, true, false, ◌==◌, ◌&&◌, Option, None, Some}
use Rattle.std.specs.Option.{option_copied}
use Rattle.std.specs.FinMap as map
use Rattle.std.proofs.Common.{◌≡◌, ℕ, List, [], ◌∷◌, ◌++◌, refl, ap, sym, subst, ◌∙◌}
use Rattle.alp_base.specs.declared.ids.TransId.{TransId}
use Rattle.alp_coord.specs.declared.course.Course.{Course}
use Rattle.alp_coord.specs.declared.begun.Settled.{Settled}
use Rattle.alp_coord.specs.declared.coordinator.Coordinator.{Coordinator}
use Rattle.alp_coord.specs.declared.answers.Receipt.{Receipt}
use Rattle.alp_coord.specs.declared.answers.Receipt.TheVariants as receipt
use Rattle.alp_coord.specs.Members.{takes_part, have_all_said, have_all_said_with}
use Rattle.alp_coord.proofs.MoveLemmas.{receipt_early, receipt_there}
use Rattle.alp_coord.proofs.moves.receipt_of.Goals as goal

pub returns-then-not-is_decided : goal.returns-then-not-is_decided
returns-then-not-is_decided c t = sym (receipt_early t c.args.join.now c.args.course.now (sym c.is_decided.ensures ∙ c.if-not-is_decided.true))

pub returns-then-not-takes_part : goal.returns-then-not-takes_part
returns-then-not-takes_part c t =
    let d = c.args.course.now in
    let j = c.args.join.now in
    sym (receipt_there t j d false (have_all_said d.members) (have_all_said_with j d.members) (sym c.is_decided.ensures ∙ c.if-not-is_decided.false)
    (sym (ap (takes_part j) c.as_slice-members.ensures) ∙ sym c.takes_part.ensures ∙ c.if-not-takes_part.true) refl refl)

pub returns-then-have_all_said : goal.returns-then-have_all_said
returns-then-have_all_said c t =
    let d = c.args.course.now in
    let j = c.args.join.now in
    sym (receipt_there t j d true true (have_all_said_with j d.members) (sym c.is_decided.ensures ∙ c.if-not-is_decided.false)
    (sym (ap (takes_part j) c.as_slice-members.ensures) ∙ sym c.takes_part.ensures ∙ c.if-not-takes_part.false)
    (sym (ap have_all_said c.as_slice-members.ensures) ∙ sym c.have_all_said.ensures ∙ c.if-have_all_said.true) refl)

pub returns-then-not-have_all_said_with : goal.returns-then-not-have_all_said_with
returns-then-not-have_all_said_with c t =
    let d = c.args.course.now in
    let j = c.args.join.now in
    sym (receipt_there t j d true false false (sym c.is_decided.ensures ∙ c.if-not-is_decided.false)
    (sym (ap (takes_part j) c.as_slice-members.ensures) ∙ sym c.takes_part.ensures ∙ c.if-not-takes_part.false)
    (sym (ap have_all_said c.as_slice-members.ensures) ∙ sym c.have_all_said.ensures ∙ c.if-have_all_said.false)
    (sym (ap (have_all_said_with j) c.as_slice-members.ensures) ∙ sym c.have_all_said_with.ensures ∙ c.if-not-have_all_said_with.true))

pub returns : goal.returns
returns c t =
    let d = c.args.course.now in
    let j = c.args.join.now in
    sym (receipt_there t j d true false true (sym c.is_decided.ensures ∙ c.if-not-is_decided.false)
    (sym (ap (takes_part j) c.as_slice-members.ensures) ∙ sym c.takes_part.ensures ∙ c.if-not-takes_part.false)
    (sym (ap have_all_said c.as_slice-members.ensures) ∙ sym c.have_all_said.ensures ∙ c.if-have_all_said.false)
    (sym (ap (have_all_said_with j) c.as_slice-members.ensures) ∙ sym c.have_all_said_with.ensures ∙ c.if-not-have_all_said_with.false))
