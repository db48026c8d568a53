use Rattle.std.proofs.Common.{ap, ◌∙◌}
use Rattle.std.specs.FinMap as map
use Rattle.alp_base.specs.Orders.{transactions_total, exact_transactions}
use Rattle.alp_base.proofs.TreeLemmas.{put_at}
use Rattle.alp_coord.proofs.courses.Courses.add.Goals as goal

pub returns-clause-ok : goal.returns-clause-ok
returns-clause-ok c =
    put_at transactions_total exact_transactions c.self.inside.courses.entries c.insert.new.self.entries c.args.trans c.args.course c.in_ok-insert.ensures.updates.0
    ∙ ap (λ m. map.insert m c.args.trans c.args.course) c.self.view_is
