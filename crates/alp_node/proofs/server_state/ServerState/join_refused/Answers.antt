use Rattle.std.specs.Prelude.{None, Some, Ok, List}
use Rattle.std.proofs.Common.{◌≡◌, sym, ap, ◌∙◌, subst}
use Rattle.alp_journal.specs.declared.event.Event.TheVariants as event
use Rattle.alp_journal.specs.declared.message.Message.TheVariants as msg
use Rattle.alp_node.specs.Steps.{IsStepAs}
use Rattle.alp_node.specs.declared.waits.WaitingCall.{WaitingCall}
use Rattle.alp_worker.specs.declared.live.LiveJoin.{LiveJoin}
use Rattle.alp_worker.specs.declared.live.Stage.TheVariants as stage
use Rattle.alp_node.proofs.JoinMoves.{same_some}
use Rattle.alp_node.proofs.JoinedLemmas.{found_as}
use Rattle.alp_node.proofs.RefusedLemmas.{refused_step, unasked_step}
use Rattle.alp_node.proofs.server_state.ServerState.join_refused.Goals as goal

-- it is not here
pub returns-in_default : goal.returns-in_default
returns-in_default g c from =
    unasked_step g.V.Vault c.args.self.now from c.args.join.now c.args.trans c.silence.result c.requires.up c.silence.ensures
    (λ client who found. (let wrong : None ≡ Some (record { join = c.args.join.now; trans = c.args.trans; client = client; stage = stage.Joining who }) = sym c.in_default.is ∙ c.join_at.ensures ∙ found in cc))

-- it was let in already
pub returns-in_default-stage : goal.returns-in_default-stage
returns-in_default-stage g c from =
    unasked_step g.V.Vault c.args.self.now from c.args.join.now c.args.trans c.silence-in_default-stage.result c.requires.up c.silence-in_default-stage.ensures
    (λ client who found.
    let same = same_some c.in-Some.live (record { join = c.args.join.now; trans = c.args.trans; client = client; stage = stage.Joining who }) (sym c.in-Some.is ∙ c.join_at.ensures ∙ found) in
    c.in_default-stage.not-Joining who (ap (λ (y : LiveJoin). y.stage) same))

-- it is over
pub returns : goal.returns
returns g c from =
    let k = c.args.self.now in
    let t = c.args.trans in
    let j = c.args.join.now in
    subst (λ (ws : List WaitingCall). IsStepAs g.V.Vault None k (record k { joins = c.quit.new.self; waits = ws }) (event.Arrive from (msg.JoinRefused t j)) (Ok c.silence-2.result)) (sym c.remove_of.ensures)
    (refused_step g.V.Vault k from j t c.in-Some.live.client c.in-Joining.field-0
    (found_as t j k.joins.lives c.in-Some.live (stage.Joining c.in-Joining.field-0) (sym c.join_at.ensures ∙ c.in-Some.is) c.in-Joining.is) c.requires.up c.requires.ready c.quit.new.self c.quit.ensures.same
    (λ s h. c.quit.ensures.deed s t c.in-Some.live.client None h) c.silence-2.result c.silence-2.ensures)
