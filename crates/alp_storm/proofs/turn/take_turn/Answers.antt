use Rattle.std.proofs.Common.{rules, subst, List}
use Rattle.alp_monitor.specs.History.{AddsAtMostOne}
use Rattle.alp_storm.specs.Logs.{HasAnswered, EndsStep}
use Rattle.alp_storm.proofs.TurnLemmas.{later_turn, base_there, adds_one, took, ok_of, err_of}
use Rattle.alp_storm.proofs.turn.take_turn.Goals as goal

pub leave-requires-clause-history : goal.leave-requires-clause-history
leave-requires-clause-history g c =
    subst (λ (l : List _). AddsAtMostOne l (g.S.Story.entries c.step-answered.new.self)) c.enter-turn.ensures.history
    (adds_one g.S.Host.log (g.S.Story.base c.enter-turn.result.state) c.args.event c.step-answered.result (g.S.Story.entries c.enter-turn.result.state) (g.S.Story.entries c.step-answered.new.self)
    (ok_of (HasAnswered g.S.Host.log (g.S.Story.base c.enter-turn.result.state) (g.S.Story.entries c.enter-turn.result.state) (g.S.Story.entries c.step-answered.new.self) c.args.event) c.step-answered.result c.step-answered.ensures.ok)
    (err_of (EndsStep g.S.Host.log (g.S.Story.base c.enter-turn.result.state) (g.S.Story.entries c.enter-turn.result.state) (g.S.Story.entries c.step-answered.new.self) c.args.event) c.step-answered.result c.step-answered.ensures.err))

pub returns : goal.returns
returns g c =
    took g.S.Story.base g.S.Host.log c.args.monitor.now c.args.event c.args.pass c.enter-turn.result.pass c.leave.result (g.S.Story.base c.enter-turn.result.state) (g.S.Story.entries c.enter-turn.result.state) (g.S.Story.entries c.step-answered.new.self)
    (later_turn g.S.Story.base c.args.monitor.now c.args.pass c.enter-turn.result.pass c.leave.result c.requires.held c.enter-turn.ensures.pass.0 c.enter-turn.ensures.front c.leave.ensures.pass.0 c.leave.ensures.pass.1 c.leave.ensures.front)
    (base_there g.S.Story.base c.args.monitor.now c.args.pass c.enter-turn.result.state c.requires.held c.enter-turn.ensures.base) c.enter-turn.ensures.turns c.enter-turn.ensures.history c.leave.ensures.pass.0.number c.leave.ensures.front c.leave.ensures.none c.leave.ensures.entry
    c.leave.ensures.turn c.step-answered.result
    (ok_of (HasAnswered g.S.Host.log (g.S.Story.base c.enter-turn.result.state) (g.S.Story.entries c.enter-turn.result.state) (g.S.Story.entries c.step-answered.new.self) c.args.event) c.step-answered.result c.step-answered.ensures.ok)
    (err_of (EndsStep g.S.Host.log (g.S.Story.base c.enter-turn.result.state) (g.S.Story.entries c.enter-turn.result.state) (g.S.Story.entries c.step-answered.new.self) c.args.event) c.step-answered.result c.step-answered.ensures.err)
