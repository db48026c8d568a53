use Rattle.std.proofs.Common.{sym, ap, ◌∙◌}
use Rattle.alp_node.specs.Eases.{puts_in}
use Rattle.alp_vault.proofs.CountLemmas.{block_known}
use Rattle.alp_node.proofs.easing.puts_in.Goals as goal

pub returns-in-PageOf : goal.returns-in-PageOf
returns-in-PageOf c =
    sym (block_known c.args.puts.now c.in-PageOf.file c.in-PageOf.number c.has_page_in.result c.has_page_in.ensures.page c.has_page_in.ensures.none) ∙ ap (puts_in c.args.puts.now) (sym c.in-PageOf.is)
