use Rattle.std.proofs.Common.{ap, sym, ◌∙◌, option_map, List}
use Rattle.std.specs.List.{find}
use Rattle.alp_base.specs.declared.ids.TransId.{TransId}
use Rattle.alp_base.specs.Orders.{transactions_total, exact_transactions}
use Rattle.alp_base.proofs.TreeLemmas.{entries_back, tree_sorted}
use Rattle.alp_queue.specs.Rises.{Held}
use Rattle.alp_locks.specs.Tables.{Holders}
use Rattle.alp_locks.specs.Asks.{disagrees, holder_on}
use Rattle.alp_locks.proofs.holders.Holders.holder_on.Goals as goal

pub returns : goal.returns
returns c =
    c.holder_in.ensures.least
    ∙ ap (λ (es : List (TransId × Held)). option_map (λ (part : TransId × Held). part.0) (find (disagrees c.args.trans.now (c.args.resource.now, c.args.mode)) es))
    (sym (entries_back transactions_total exact_transactions c.self.inside.locks.entries (tree_sorted transactions_total exact_transactions c.self.inside.locks.entries c.holder_in.ensures.rising)))
    ∙ ap (λ (m : Holders). holder_on m c.args.trans.now (c.args.resource.now, c.args.mode)) c.self.view_is
