use Rattle.std.specs.Prelude.{None, Ok}
use Rattle.std.proofs.Common.{sym, ◌∙◌, subst}
use Rattle.alp_journal.specs.declared.event.Event.{Event}
use Rattle.alp_journal.specs.declared.event.Event.TheVariants as event
use Rattle.alp_journal.proofs.TickLemmas.{force_leads}
use Rattle.alp_node.specs.Orders.{order_in}
use Rattle.alp_node.specs.Served.{IsServed}
use Rattle.alp_node.specs.Steps.{IsStepAs}
use Rattle.alp_node.proofs.SayLemmas.{quiet_step}
use Rattle.alp_node.proofs.server_state.ServerState.answer.Goals as goal

-- a call is one of a client of the run, and may be asked
pub call-requires-clause-client : goal.call-requires-clause-client
call-requires-clause-client g c = (subst IsServed c.in-Call.is c.requires.served).1

pub call-requires-clause-some : goal.call-requires-clause-some
call-requires-clause-some g c = (subst IsServed c.in-Call.is c.requires.served).0

pub call-requires-clause-asked : goal.call-requires-clause-asked
call-requires-clause-asked g c = (subst IsServed c.in-Call.is c.requires.served).2

pub arrive-requires-clause-timely : goal.arrive-requires-clause-timely
arrive-requires-clause-timely g c = subst IsServed c.in-Arrive.is c.requires.served

pub unreachable-requires : goal.unreachable-requires
unreachable-requires g c = absurd (subst IsServed c.in-Restart.is c.requires.served)

pub returns-in-Call : goal.returns-in-Call
returns-in-Call g c =
    let k = c.args.self.now in
    subst (λ (e : Event). IsStepAs g.V.Vault (order_in k e) k c.call.new.self e c.call.result) (sym c.in-Call.is) c.call.ensures

pub returns-in-Timeout : goal.returns-in-Timeout
returns-in-Timeout g c =
    let k = c.args.self.now in
    subst (λ (e : Event). IsStepAs g.V.Vault (order_in k e) k c.time_out.new.self e c.time_out.result) (sym c.in-Timeout.is) c.time_out.ensures

pub returns-in-Arrive : goal.returns-in-Arrive
returns-in-Arrive g c =
    let k = c.args.self.now in
    subst (λ (e : Event). IsStepAs g.V.Vault (order_in k e) k c.arrive.new.self e c.arrive.result) (sym c.in-Arrive.is) (c.arrive.ensures _)

pub returns-in-Tick : goal.returns-in-Tick
returns-in-Tick g c =
    let k = c.args.self.now in
    subst (λ (e : Event). IsStepAs g.V.Vault (order_in k e) k k e c.tick.result) (sym c.in-Tick.is) c.tick.ensures

pub returns-in-Force : goal.returns-in-Force
returns-in-Force g c =
    let k = c.args.self.now in
    subst (λ (e : Event). IsStepAs g.V.Vault (order_in k e) k k e (Ok c.silence.result)) (sym c.in-Force.is)
    (quiet_step g.V.Vault k event.Force c.silence.result c.requires.up c.silence.ensures (λ a h. force_leads a h.quiet (h.down ∙ c.requires.up)))
