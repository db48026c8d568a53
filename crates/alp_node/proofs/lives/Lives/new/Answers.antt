use Rattle.std.proofs.Common.{sym, ap, ◌∙◌}
use Rattle.std.specs.FinMap as map
use Rattle.alp_node.specs.Totals.{totals_of}
use Rattle.alp_node.proofs.TotalLemmas.{empty_totals}
use Rattle.alp_node.proofs.lives.Lives.new.Goals as goal

pub invariant_of-result : goal.invariant_of-result
invariant_of-result c = c.none.ensures ∙ sym empty_totals ∙ ap (λ es. totals_of (map.from_entries es)) (sym c.new.ensures.empty)
