use Rattle.std.specs.Prelude.{cond, Bool, true, false, ◌==◌, ◌&&◌, Option, None, Some}
use Rattle.std.specs.Option.{option_copied}
use Rattle.std.specs.FinMap as map
use Rattle.std.proofs.Common.{◌≡◌, ℕ, List, [], ◌∷◌, ◌++◌, refl, ap, sym, subst, ◌∙◌}
use Rattle.alp_base.specs.declared.ids.TransId.{TransId}
use Rattle.alp_coord.specs.declared.course.Course.{Course}
use Rattle.alp_coord.specs.declared.begun.Settled.{Settled}
use Rattle.alp_coord.specs.declared.coordinator.Coordinator.{Coordinator}
use Rattle.std.specs.Prelude.{max}
use Rattle.alp_coord.proofs.MemberLemmas.{latest-votes, latest-new, latest-again}
use Rattle.alp_coord.proofs.moves.latest_with.Goals as goal

pub returns-then-has_said : goal.returns-then-has_said
returns-then-has_said c =
    let ms = c.args.members.now in
    let j = c.args.join.now in
    c.latest-latest.ensures ∙ latest-votes c.args.least ms ∙ sym (latest-again j c.args.time c.args.least ms (sym c.has_said.ensures ∙ c.if-has_said.true))

pub returns : goal.returns
returns c =
    let ms = c.args.members.now in
    let j = c.args.join.now in
    c.max.ensures ∙ ap (λ (n : ℕ). max n c.args.time) (c.latest-latest.ensures ∙ latest-votes c.args.least ms) ∙ sym (latest-new j c.args.time c.args.least ms (sym c.has_said.ensures ∙ c.if-has_said.false))
