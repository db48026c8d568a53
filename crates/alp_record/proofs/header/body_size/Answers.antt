use Rattle.std.proofs.Common.{◌≡◌, sym, ◌∙◌, ap, rules, arith}
use Rattle.std.proofs.lemmas.Grind.{common_steps}
use Rattle.alp_record.specs.Record.{header}
use Rattle.alp_record.proofs.Headers.{size_is}
use Rattle.alp_record.proofs.header.body_size.Goals as goal

pub returns-then-ne : goal.returns-then-ne
returns-then-ne c n small is =
    let there : c.bytes-b.result.now ≡ header c.args.generation n = c.bytes-b.ensures.same ∙ is in
    let size = c.from_be_bytes-size.ensures ∙ size_is c.bytes-b.result.now c.args.generation n small there in
    let same : c.bytes-b.result.now ≡ c.bytes.result.now = there ∙ sym (c.bytes.ensures.same ∙ c.header_page-spelled.ensures ∙ ap (header c.args.generation) size) in
    let f = c.if-ne.ensures in
    first_of (search (rules, common_steps), grind (arith, common_steps))
