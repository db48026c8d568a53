use Rattle.std.proofs.Common.{rules, refl}
use Rattle.alp_storm.proofs.WorkLemmas.{ok_turn, err_turn, no_turn}
use Rattle.alp_storm.proofs.worker.Worker.turn.Goals as goal

pub turn_at-requires-clause-ring : goal.turn_at-requires-clause-ring
turn_at-requires-clause-ring g c = (c.args.self.now.number, c.requires.ring)

pub returns-in_default-clause-err : goal.returns-in_default-clause-err
returns-in_default-clause-err g c =
    no_turn g.S.Story.base g.S.Host.log c.args.monitors.now c.args.server 0 c.args.event c.args.self.now.ring.items c.args.self.now.ring.items c.args.self.now.job c.args.self.now.job refl c.in_default.ensures.none c.requires.due

pub returns-clause-ok : goal.returns-clause-ok
returns-clause-ok g c = ok_turn g.S.Story.base g.S.Host.log c.args.monitors.now c.args.server c.in-Some.at c.args.event c.args.self.now.ring.items _ c.turn_at.result c.in-Some.ensures.some c.turn_at.ensures.took

pub returns-clause-err : goal.returns-clause-err
returns-clause-err g c = err_turn g.S.Story.base g.S.Host.log c.args.monitors.now c.args.server c.in-Some.at c.args.event c.args.self.now.ring.items _ c.args.self.now.job c.args.self.now.job refl c.turn_at.result c.in-Some.ensures.some c.requires.due c.turn_at.ensures.took

pub returns-clause-ring : goal.returns-clause-ring
returns-clause-ring g c = c.turn_at.ensures.ring c.args.self.now.number c.requires.ring
