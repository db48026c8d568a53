use Rattle.std.specs.Prelude.{cond, Bool, true, false, ◌==◌, ◌&&◌, Option, None, Some}
use Rattle.std.specs.Option.{option_copied}
use Rattle.std.specs.FinMap as map
use Rattle.std.proofs.Common.{◌≡◌, ℕ, List, [], ◌∷◌, ◌++◌, refl, ap, sym, subst, ◌∙◌}
use Rattle.alp_base.specs.declared.ids.TransId.{TransId}
use Rattle.alp_coord.specs.declared.course.Course.{Course}
use Rattle.alp_coord.specs.declared.begun.Settled.{Settled}
use Rattle.alp_coord.specs.declared.coordinator.Coordinator.{Coordinator}
use Rattle.alp_coord.specs.declared.answers.Ballot.{Ballot}
use Rattle.alp_coord.specs.declared.answers.Ballot.TheVariants as ballot
use Rattle.alp_coord.specs.declared.members.Member.{Member}
use Rattle.alp_journal.specs.Coordinator.{with_vote}
use Rattle.alp_journal.specs.Laws.{latest_vote}
use Rattle.alp_coord.specs.Members.{votes, takes_part, have_all_said_with}
use Rattle.alp_coord.proofs.MoveLemmas.{ballot_early, ballot_there}
use Rattle.alp_coord.proofs.moves.ballot_of.Goals as goal

pub returns-then-not-is_finishing : goal.returns-then-not-is_finishing
returns-then-not-is_finishing c t = sym (ballot_early t c.args.join.now c.args.time c.args.least c.args.course.now (sym c.is_finishing.ensures ∙ c.if-not-is_finishing.true))

pub returns-then-not-takes_part : goal.returns-then-not-takes_part
returns-then-not-takes_part c t =
    let d = c.args.course.now in
    let j = c.args.join.now in
    sym (ballot_there t j c.args.time c.args.least d false (have_all_said_with j d.members) (sym c.is_finishing.ensures ∙ c.if-not-is_finishing.false)
    (sym (ap (takes_part j) c.as_slice-members.ensures) ∙ sym c.takes_part.ensures ∙ c.if-not-takes_part.true) refl)

pub returns-then-not-have_all_said_with : goal.returns-then-not-have_all_said_with
returns-then-not-have_all_said_with c t =
    let d = c.args.course.now in
    let j = c.args.join.now in
    sym (ballot_there t j c.args.time c.args.least d true false (sym c.is_finishing.ensures ∙ c.if-not-is_finishing.false)
    (sym (ap (takes_part j) c.as_slice-members.ensures) ∙ sym c.takes_part.ensures ∙ c.if-not-takes_part.false)
    (sym (ap (have_all_said_with j) c.as_slice-members.ensures) ∙ sym c.have_all_said_with.ensures ∙ c.if-not-have_all_said_with.true))

pub returns : goal.returns
returns c t =
    let d = c.args.course.now in
    let j = c.args.join.now in
    ap ballot.Last (c.latest_with.ensures ∙ ap (λ (ms : List Member). latest_vote c.args.least (with_vote j c.args.time (votes ms))) c.as_slice-members.ensures)
    ∙ sym (ballot_there t j c.args.time c.args.least d true true (sym c.is_finishing.ensures ∙ c.if-not-is_finishing.false)
    (sym (ap (takes_part j) c.as_slice-members.ensures) ∙ sym c.takes_part.ensures ∙ c.if-not-takes_part.false)
    (sym (ap (have_all_said_with j) c.as_slice-members.ensures) ∙ sym c.have_all_said_with.ensures ∙ c.if-not-have_all_said_with.false))
