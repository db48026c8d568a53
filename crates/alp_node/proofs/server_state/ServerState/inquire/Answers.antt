use Rattle.std.specs.Prelude.{None}
use Rattle.std.proofs.Common.{◌≡◌, sym, ◌∙◌}
use Rattle.alp_journal.specs.declared.event.Event.TheVariants as event
use Rattle.alp_journal.specs.declared.message.Message.TheVariants as msg
use Rattle.alp_node.specs.Says.{said_to}
use Rattle.alp_node.specs.Steps.{told_answer}
use Rattle.alp_node.proofs.InquiryLemmas.{unanswered_step, answered_step}
use Rattle.alp_node.proofs.SayLemmas.{said_or_wanting}
use Rattle.alp_node.proofs.server_state.ServerState.inquire.Goals as goal

-- nothing is known of it
pub returns-in-None : goal.returns-in-None
returns-in-None g c from = unanswered_step g.V.Vault c.args.self.now from c.args.trans c.args.join c.requires.up c.silence.result (sym c.inquire.ensures ∙ c.in-None.is) c.silence.ensures

-- it is told
pub returns-in-Some : goal.returns-in-Some
returns-in-Some g c from =
    let k = c.args.self.now in
    let j = c.args.join in
    let m = c.in-Some.message in
    said_or_wanting g.V.Vault k (event.Arrive from (msg.Inquire c.args.trans j)) (λ x. x ≡ told_answer None (said_to k j.server m)) c.word.result c.word.ensures
    (λ x so. answered_step g.V.Vault k from c.args.trans j c.requires.up x m c.requires.ready (sym c.inquire.ensures ∙ c.in-Some.is) so)
