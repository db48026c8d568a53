use Rattle.std.proofs.Common.{ap, sym, ◌∙◌}
use Rattle.std.specs.FinMap as map
use Rattle.alp_base.specs.Orders.{transactions_total, exact_transactions}
use Rattle.alp_base.proofs.TreeLemmas.{get_at, remove_at}
use Rattle.alp_coord.proofs.courses.Courses.remove.Goals as goal

pub returns-clause-after : goal.returns-clause-after
returns-clause-after c =
    remove_at transactions_total exact_transactions c.self.inside.courses.entries c.remove.new.self.entries c.args.trans.now c.remove.ensures.updates.0
    ∙ ap (λ m. map.remove m c.args.trans.now) c.self.view_is

pub returns-clause-before : goal.returns-clause-before
returns-clause-before c =
    c.remove.ensures.value ∙ sym (get_at transactions_total exact_transactions c.self.inside.courses.entries c.args.trans.now) ∙ ap (λ m. map.get m c.args.trans.now) c.self.view_is
