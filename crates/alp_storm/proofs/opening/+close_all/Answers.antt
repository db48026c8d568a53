use Rattle.std.proofs.Common.{rules, ◌≡◌, length, ◌∙◌, sym, subst, refl}
use Rattle.std.specs.Vec.{vec_len}
use Rattle.alp_storm.specs.Storms.{IsClosed}
use Rattle.alp_storm.proofs.Closes.{closed_more, tasks_through, tasks_same}
use Rattle.alp_storm.proofs.opening.+close_all.Goals as goal

pub returns-clause-closed : goal.returns-clause-closed
returns-clause-closed g t c =
    let o = c.close_last-state.ensures.others in
    closed_more g.S.Story.base g.S.Story.entries c.args.monitors.now.items c.close_last-state.new.monitors.items o.0 c.args.errands.now.items c.close_last-state.new.errands.items c.close_all.new.states.items c.push_reserved.new.self.items c.close_last-state.result o.1
    (subst (λ n. IsClosed g.S.Story.base g.S.Story.entries o.0 n c.args.errands.now.items c.close_last-state.result) (search rules) o.2) c.close_last-state.ensures.before c.close_all.ensures.closed (search rules) c.push_reserved.ensures.items

pub returns-then-is_empty-clause-tasks : goal.returns-then-is_empty-clause-tasks
returns-then-is_empty-clause-tasks g t c = tasks_same c.args.errands.now.items c.args.errands.now.items refl

pub returns-clause-tasks : goal.returns-clause-tasks
returns-clause-tasks g t c = tasks_through c.args.errands.now.items c.close_last-state.new.errands.items c.close_all.new.errands.items (search rules) c.close_last-state.ensures.tasks c.close_all.ensures.tasks
