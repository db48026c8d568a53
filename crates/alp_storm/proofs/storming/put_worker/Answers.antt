use Rattle.alp_storm.proofs.OpenLemmas.{one_fewer, open_more}
use Rattle.alp_storm.proofs.storming.put_worker.Goals as goal

pub returns-clause-rings : goal.returns-clause-rings
returns-clause-rings g c = one_fewer c.args.rings.now.items c.take_last-ring.new.self.items c.take_last-ring.result c.args.servers c.take_last-ring.ensures.items c.requires.rings.0

pub returns-clause-open : goal.returns-clause-open
returns-clause-open g c =
    open_more g.S.Story.base c.args.servers c.args.errands.now.items c.push_reserved.new.self.items _ c.args.rings.now.items c.take_last-ring.new.self.items c.take_last-ring.ensures.items c.requires.rings.0 c.requires.errands.0 c.push_reserved.ensures.items
