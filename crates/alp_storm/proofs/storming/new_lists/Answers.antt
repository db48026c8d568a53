use Rattle.std.proofs.Common.{rules, refl}
use Rattle.alp_storm.proofs.OpenLemmas.{rooms_more}
use Rattle.alp_storm.proofs.storming.new_lists.Goals as goal

pub loop-preserved : goal.loop-preserved
loop-preserved g c = (rooms_more c.loop.lists.items c.push_reserved.new.self.items c.in_ok-list.list c.args.room c.loop.invariant.0 (search rules) (search rules) (search rules) c.push_reserved.ensures.items, search rules, search rules)
