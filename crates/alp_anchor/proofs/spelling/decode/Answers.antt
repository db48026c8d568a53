use Rattle.std.proofs.Common.{◌≡◌, sym, ◌∙◌, ap, rules, arith}
use Rattle.std.proofs.lemmas.Grind.{common_steps}
use Rattle.alp_anchor.specs.Anchor.{open_anchor}
use Rattle.alp_anchor.proofs.Choices.{same_bytes}
use Rattle.alp_anchor.proofs.spelling.decode.Goals as goal

pub returns-then-ne : goal.returns-then-ne
returns-then-ne c b is =
    let spelled = c.anchor_page-spelled.ensures ∙ ap open_anchor (c.fields-anchor.ensures.bytes b c.args.pages is) ∙ same_bytes b c.args.index ∙ sym is.bytes in
    let same : c.bytes.result.now ≡ c.bytes-2.result.now = c.bytes.ensures.same ∙ sym (c.bytes-2.ensures.same ∙ spelled) in
    let f = c.if-ne.ensures in
    first_of (search (rules, common_steps), grind (arith, common_steps))
