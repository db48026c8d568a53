use Rattle.std.proofs.Common.{ap, sym, ◌∙◌}
use Rattle.std.specs.FinMap as map
use Rattle.alp_base.specs.Orders.{transactions_total, exact_transactions}
use Rattle.alp_base.proofs.TreeLemmas.{get_at}
use Rattle.alp_coord.proofs.courses.Courses.get.Goals as goal

pub returns : goal.returns
returns c =
    c.get.ensures.value ∙ sym (get_at transactions_total exact_transactions c.self.inside.courses.entries c.args.trans.now) ∙ ap (λ m. map.get m c.args.trans.now) c.self.view_is
