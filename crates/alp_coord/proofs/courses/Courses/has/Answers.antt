use Rattle.std.specs.Prelude.{Option, is_some}
use Rattle.std.proofs.Common.{ap, sym, ◌∙◌}
use Rattle.std.specs.FinMap as map
use Rattle.alp_base.specs.Orders.{transactions_total, exact_transactions}
use Rattle.alp_base.proofs.TreeLemmas.{get_at}
use Rattle.alp_coord.specs.declared.course.Course.{Course}
use Rattle.alp_coord.specs.Courses.{CourseMap}
use Rattle.alp_coord.proofs.courses.Courses.has.Goals as goal

pub returns : goal.returns
returns c =
    c.contains_key.ensures ∙ ap (λ (x : Option Course). is_some x) (sym (get_at transactions_total exact_transactions c.self.inside.courses.entries c.args.trans.now))
    ∙ ap (λ (m : CourseMap). is_some (map.get m c.args.trans.now)) c.self.view_is
