use Rattle.std.proofs.Common.{rules, arith, ap}
use Rattle.alp_monitor.proofs.Ends.{splits}
use Rattle.alp_monitor.proofs.Passes.{dealt_none, dealt_more}
use Rattle.alp_monitor.proofs.monitor.Monitor.deal.Goals as goal

pub loop-init : goal.loop-init
loop-init g c = (dealt_none g.S.Story.base c.args.self.now _ _ c.requires.founder c.requires.room.0, search rules, search rules)

pub split_seat-seat-requires : goal.split_seat-seat-requires
split_seat-seat-requires g c =
    let count = c.requires.count in let more = c.loop-test.true in
    (search rules, search rules, splits g.S.Story.base g.S.Story.entries _ _ _ _ _ _ (ap (λ m. m.0) c.loop.invariant.0.counts.1) (omega arith))

pub loop-preserved : goal.loop-preserved
loop-preserved g c = let e = c.split_seat-seat.ensures in (dealt_more g.S.Story.base c.args.self.now _ _ _ _ _ _ c.loop.invariant.0 e.0 e.2 e.3 e.4 c.push_reserved.ensures.items, search rules, search rules)
