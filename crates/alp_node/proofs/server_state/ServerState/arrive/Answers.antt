use Rattle.std.specs.Prelude.{None, Ok}
use Rattle.std.proofs.Common.{sym, subst}
use Rattle.alp_journal.specs.declared.event.Event.TheVariants as event
use Rattle.alp_journal.specs.declared.message.Message.{Message}
use Rattle.alp_journal.specs.Timely.{IsTimelyMessage}
use Rattle.alp_node.specs.Steps.{IsStepAs}
use Rattle.alp_node.proofs.server_state.ServerState.arrive.Goals as goal

pub ready-requires-clause-time : goal.ready-requires-clause-time
ready-requires-clause-time g c = subst IsTimelyMessage c.in-Ready.is c.requires.timely

pub committed-requires-clause-time : goal.committed-requires-clause-time
committed-requires-clause-time g c = subst IsTimelyMessage c.in-Commit.is c.requires.timely

pub returns-in-Register : goal.returns-in-Register
returns-in-Register g c from = subst (λ (m : Message). IsStepAs g.V.Vault None c.args.self.now c.register.new.self (event.Arrive from m) c.register.result) (sym c.in-Register.is) (c.register.ensures from)

pub returns-in-Joined : goal.returns-in-Joined
returns-in-Joined g c from = subst (λ (m : Message). IsStepAs g.V.Vault None c.args.self.now c.joined.new.self (event.Arrive from m) c.joined.result) (sym c.in-Joined.is) (c.joined.ensures from)

pub returns-in-JoinRefused : goal.returns-in-JoinRefused
returns-in-JoinRefused g c from = subst (λ (m : Message). IsStepAs g.V.Vault None c.args.self.now c.join_refused.new.self (event.Arrive from m) (Ok c.join_refused.result)) (sym c.in-JoinRefused.is) (c.join_refused.ensures from)

pub returns-in-Ask : goal.returns-in-Ask
returns-in-Ask g c from = subst (λ (m : Message). IsStepAs g.V.Vault None c.args.self.now c.ask.new.self (event.Arrive from m) c.ask.result) (sym c.in-Ask.is) (c.ask.ensures from)

pub returns-in-Ready : goal.returns-in-Ready
returns-in-Ready g c from = subst (λ (m : Message). IsStepAs g.V.Vault None c.args.self.now c.ready.new.self (event.Arrive from m) c.ready.result) (sym c.in-Ready.is) (c.ready.ensures from)

pub returns-in-No : goal.returns-in-No
returns-in-No g c from = subst (λ (m : Message). IsStepAs g.V.Vault None c.args.self.now c.no.new.self (event.Arrive from m) c.no.result) (sym c.in-No.is) (c.no.ensures from)

pub returns-in-Commit : goal.returns-in-Commit
returns-in-Commit g c from = subst (λ (m : Message). IsStepAs g.V.Vault None c.args.self.now c.committed.new.self (event.Arrive from m) c.committed.result) (sym c.in-Commit.is) (c.committed.ensures from)

pub returns-in-Abort : goal.returns-in-Abort
returns-in-Abort g c from = subst (λ (m : Message). IsStepAs g.V.Vault None c.args.self.now c.aborted.new.self (event.Arrive from m) c.aborted.result) (sym c.in-Abort.is) (c.aborted.ensures from)

pub returns-in-Done : goal.returns-in-Done
returns-in-Done g c from = subst (λ (m : Message). IsStepAs g.V.Vault None c.args.self.now c.done.new.self (event.Arrive from m) c.done.result) (sym c.in-Done.is) (c.done.ensures from)

pub returns-in-Inquire : goal.returns-in-Inquire
returns-in-Inquire g c from = subst (λ (m : Message). IsStepAs g.V.Vault None c.args.self.now c.args.self.now (event.Arrive from m) c.inquire.result) (sym c.in-Inquire.is) (c.inquire.ensures from)
