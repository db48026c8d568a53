use Rattle.std.proofs.Common.{List, ℕ, sym, ◌∙◌, subst}
use Rattle.alp_anchor.specs.Anchor.{IsOpen}
use Rattle.alp_anchor.proofs.Choices.{generation_is, area_pages_are, home_is, bytes_are}
use Rattle.alp_anchor.proofs.spelling.fields.Goals as goal

pub returns-clause-bytes : goal.returns-clause-bytes
returns-clause-bytes c b n is =
    let is_r : IsOpen n c.bytes-b.result.now b = subst (λ (q : List ℕ). IsOpen n q b) (sym c.bytes-b.ensures.same) is in
    let generation = c.from_be_bytes.ensures ∙ generation_is _ b n is_r in
    let area_pages = c.from_be_bytes-2.ensures ∙ area_pages_are _ b n is_r in
    let home = c.from_be_bytes-3.ensures ∙ home_is _ b n is_r in
    let bytes = bytes_are _ b n is_r in
    λ i. record { page = c.args.index; generation = generation i; area = bytes.0 i; server = bytes.1 i; servers = bytes.2 i; sizes = record { home = home i; area = area_pages i } }
