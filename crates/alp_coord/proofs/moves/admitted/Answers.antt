use Rattle.std.specs.Prelude.{cond, Bool, true, false, ◌==◌, ◌&&◌, Option, None, Some}
use Rattle.std.specs.Option.{option_copied}
use Rattle.std.specs.FinMap as map
use Rattle.std.proofs.Common.{◌≡◌, ℕ, List, [], ◌∷◌, ◌++◌, refl, ap, sym, subst, ◌∙◌}
use Rattle.alp_base.specs.declared.ids.TransId.{TransId}
use Rattle.alp_coord.specs.declared.course.Course.{Course}
use Rattle.alp_coord.specs.declared.begun.Settled.{Settled}
use Rattle.alp_coord.specs.declared.coordinator.Coordinator.{Coordinator}
use Rattle.alp_journal.specs.Ids.{has_join, has_server}
use Rattle.alp_coord.specs.declared.answers.Registration.{Registration}
use Rattle.alp_coord.specs.declared.answers.Registration.TheVariants as registration
use Rattle.alp_coord.specs.Members.{joins}
use Rattle.alp_coord.specs.Coordinators.{admitted}
use Rattle.alp_coord.proofs.MemberLemmas.{takes_part-joins, has_server-joins}
use Rattle.alp_coord.proofs.moves.admitted.Goals as goal

as_admitted : (a b x y : Bool) → a ≡ x → b ≡ y → admitted x y ≡ admitted a b
as_admitted a b x y p q = λ i. admitted (sym p i) (sym q i)

pub returns-then-takes_part : goal.returns-then-takes_part
returns-then-takes_part c =
    let ms = c.args.members.now in
    let j = c.args.join.now in
    sym (ap (λ (b : Bool). admitted b (has_server j.server (joins ms))) (sym (takes_part-joins j ms) ∙ sym c.takes_part.ensures ∙ c.if-takes_part.true))

pub returns-then-has_server : goal.returns-then-has_server
returns-then-has_server c =
    let ms = c.args.members.now in
    let j = c.args.join.now in
    as_admitted (has_join j (joins ms)) (has_server j.server (joins ms)) false true (sym (takes_part-joins j ms) ∙ sym c.takes_part.ensures ∙ c.if-takes_part.false) (sym (has_server-joins j.server ms) ∙ sym c.has_server.ensures ∙ c.if-has_server.true)

pub returns : goal.returns
returns c =
    let ms = c.args.members.now in
    let j = c.args.join.now in
    as_admitted (has_join j (joins ms)) (has_server j.server (joins ms)) false false (sym (takes_part-joins j ms) ∙ sym c.takes_part.ensures ∙ c.if-takes_part.false) (sym (has_server-joins j.server ms) ∙ sym c.has_server.ensures ∙ c.if-has_server.false)
