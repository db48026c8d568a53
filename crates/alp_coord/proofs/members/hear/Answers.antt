use Rattle.std.specs.Prelude.{cond, Bool, true, false}
use Rattle.std.proofs.Common.{◌≡◌, List, ap, sym, ◌∙◌}
use Rattle.alp_coord.specs.declared.members.Member.{Member}
use Rattle.alp_coord.specs.Members.{saying}
use Rattle.alp_coord.proofs.members.hear.Goals as goal

pub returns-then-has_said : goal.returns-then-has_said
returns-then-has_said c =
    let ms = c.args.members.now in
    sym (ap (λ (b : Bool). cond {A = List Member} b ms (saying c.args.join.now c.args.time ms)) (sym c.has_said.ensures ∙ c.if-has_said.true))

pub returns : goal.returns
returns c =
    let ms = c.args.members.now in
    c.say.ensures ∙ sym (ap (λ (b : Bool). cond {A = List Member} b ms (saying c.args.join.now c.args.time ms)) (sym c.has_said.ensures ∙ c.if-has_said.false))
