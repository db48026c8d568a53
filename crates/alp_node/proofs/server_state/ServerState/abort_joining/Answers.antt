use Rattle.std.specs.Prelude.{None, Some, Ok, List}
use Rattle.std.proofs.Common.{◌≡◌, ◌++◌, ◌∷◌, [], refl, sym, ◌∙◌, subst}
use Rattle.alp_journal.specs.declared.event.Event.TheVariants as event
use Rattle.alp_journal.specs.declared.message.Message.TheVariants as msg
use Rattle.alp_node.specs.Steps.{IsStepAs}
use Rattle.alp_node.specs.declared.dead.DeadPart.{DeadPart}
use Rattle.alp_node.proofs.QuitLemmas.{aborted_step}
use Rattle.alp_node.proofs.server_state.ServerState.abort_joining.Goals as goal

pub returns : goal.returns
returns g c from =
    let k = c.args.self.now in
    let t = c.args.trans in
    let j = c.args.join in
    subst (λ (ds : List DeadPart). IsStepAs g.V.Vault None k (record k { dead = ds; joins = c.quit.new.self }) (event.Arrive from (msg.Abort t j c.args.cause)) (Ok c.silence.result)) (sym c.in_ok-add.ensures.ok)
    (aborted_step g.V.Vault k from j t c.args.client c.requires.asks.0 c.requires.asks.1 c.requires.up c.requires.ready c.args.cause c.quit.new.self c.quit.ensures.same (λ s h. c.quit.ensures.deed s t c.args.client (Some c.args.cause) h) c.silence.result c.silence.ensures)
