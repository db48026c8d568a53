use Rattle.std.specs.Prelude.{cond, Bool, true, false, ◌==◌, ◌&&◌, Option, None, Some}
use Rattle.std.specs.Option.{option_copied}
use Rattle.std.specs.FinMap as map
use Rattle.std.proofs.Common.{◌≡◌, ℕ, List, [], ◌∷◌, ◌++◌, refl, ap, sym, subst, ◌∙◌}
use Rattle.alp_base.specs.declared.ids.TransId.{TransId}
use Rattle.alp_coord.specs.declared.course.Course.{Course}
use Rattle.alp_coord.specs.declared.begun.Settled.{Settled}
use Rattle.alp_coord.specs.declared.coordinator.Coordinator.{Coordinator}
use Rattle.alp_journal.specs.declared.message.Message.{Message}
use Rattle.alp_journal.specs.declared.message.Message.TheVariants as msg
use Rattle.alp_coord.proofs.MemberLemmas.{takes_part-joins}
use Rattle.alp_coord.proofs.words.commit.Goals as goal

pub returns-then-not-takes_part : goal.returns-then-not-takes_part
returns-then-not-takes_part c =
    let j = c.args.join.now in
    let t = c.args.trans.now in
    sym (ap (λ (b : Bool). cond {A = Option Message} b (Some (msg.Commit t j (record { ts = c.args.ts; trans = t }))) None) (sym (takes_part-joins j c.args.members.now) ∙ sym c.takes_part.ensures ∙ c.if-not-takes_part.true))

pub returns : goal.returns
returns c =
    let j = c.args.join.now in
    let t = c.args.trans.now in
    sym (ap (λ (b : Bool). cond {A = Option Message} b (Some (msg.Commit t j (record { ts = c.args.ts; trans = t }))) None) (sym (takes_part-joins j c.args.members.now) ∙ sym c.takes_part.ensures ∙ c.if-not-takes_part.false))
