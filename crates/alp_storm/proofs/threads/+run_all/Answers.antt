use Rattle.std.proofs.Common.{rules}
use Rattle.alp_storm.proofs.BackLemmas.{back_pushed, due_last, due_rest}
use Rattle.alp_storm.proofs.threads.+run_all.Goals as goal

pub returns-in-Ok-clause-back : goal.returns-in-Ok-clause-back
returns-in-Ok-clause-back g t c =
    back_pushed g.S.Story.base g.S.Host.log g.S.Station.sight c.args.scene.now.plan.seed c.args.scene.now.monitors.now c.args.errands.now.items c.pop.new.self.items c.run_all.new.done.items c.push_reserved.new.self.items c.in-Some.errand c.join.result c.len-number.result
    c.in-Some.ensures.items (search rules) c.run_all.ensures.back (search rules) c.push_reserved.ensures.items

pub returns-in-Err-clause-back : goal.returns-in-Err-clause-back
returns-in-Err-clause-back g t c =
    back_pushed g.S.Story.base g.S.Host.log g.S.Station.sight c.args.scene.now.plan.seed c.args.scene.now.monitors.now c.args.errands.now.items c.pop.new.self.items c.run_all.new.done.items c.push_reserved-in-Err.new.self.items c.in-Some.errand c.spawn_with.result c.len-number.result
    c.in-Some.ensures.items (search rules) c.run_all.ensures.back (search rules) c.push_reserved-in-Err.ensures.items
