use Rattle.std.specs.Prelude.{None, Some, Ok, List}
use Rattle.std.proofs.Common.{◌≡◌, ◌++◌, ◌∷◌, [], refl, sym, ◌∙◌, subst}
use Rattle.alp_files.specs.declared.refusal.Cause.TheVariants as cause
use Rattle.alp_files.specs.declared.refusal.Why.TheVariants as why
use Rattle.alp_journal.specs.declared.event.Event.TheVariants as event
use Rattle.alp_journal.specs.declared.message.Message.TheVariants as msg
use Rattle.alp_node.specs.Steps.{IsStepAs}
use Rattle.alp_node.specs.declared.dead.DeadPart.{DeadPart}
use Rattle.alp_node.proofs.QuitLemmas.{early_step}
use Rattle.alp_node.proofs.server_state.ServerState.vote_early.Goals as goal

pub returns : goal.returns
returns g c from =
    let k = c.args.self.now in
    let t = c.args.trans in
    let j = c.args.join in
    let x = c.in_ok-answer.answer in
    subst (λ (ds : List DeadPart). IsStepAs g.V.Vault None k (record k { dead = ds; joins = c.quit.new.self }) (event.Arrive from (msg.Ask t j)) (Ok x)) (sym c.in_ok-add.ensures.ok)
    (early_step g.V.Vault k from j t c.args.client c.requires.asks.0 c.requires.asks.1 c.requires.up c.requires.ready c.quit.new.self c.quit.ensures.same (λ s h. c.quit.ensures.deed s t c.args.client (Some (cause.Voted k.server why.Waiting)) h) x c.in_ok-answer.ensures)
