use Rattle.std.specs.Prelude.{None}
use Rattle.std.proofs.Common.{◌≡◌, sym, ◌∙◌}
use Rattle.alp_journal.specs.declared.event.Event.TheVariants as event
use Rattle.alp_journal.specs.declared.message.Message.TheVariants as msg
use Rattle.alp_node.specs.Says.{said_to}
use Rattle.alp_node.specs.Steps.{told_answer}
use Rattle.alp_node.proofs.AgainLemmas.{done_step, strange_step}
use Rattle.alp_node.proofs.SayLemmas.{said_or_wanting}
use Rattle.alp_node.proofs.server_state.ServerState.done_before.Goals as goal

-- it was not drawn here
pub returns-then-not-is_drawn : goal.returns-then-not-is_drawn
returns-then-not-is_drawn g c from =
    strange_step g.V.Vault c.args.self.now from c.args.trans c.args.join c.requires.up c.silence.result c.args.stamp c.requires.none (sym c.if-not-is_drawn.ensures.same) c.silence.ensures

-- it has applied it, or nothing
pub returns : goal.returns
returns g c from =
    let k = c.args.self.now in
    let t = c.args.trans in
    let j = c.args.join in
    said_or_wanting g.V.Vault k (event.Arrive from (msg.Commit t j c.args.stamp)) (λ x. x ≡ told_answer None (said_to k t.server (msg.Done t j))) c.word.result c.word.ensures
    (λ x so. done_step g.V.Vault k from t j c.requires.up x c.args.stamp c.requires.none (sym c.if-not-is_drawn.ensures.same) so)
