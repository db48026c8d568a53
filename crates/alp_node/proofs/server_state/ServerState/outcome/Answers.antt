use Rattle.std.specs.Prelude.{false, Some, Ok}
use Rattle.std.proofs.Common.{◌≡◌, [], refl, sym, ◌∙◌, ap, subst}
use Rattle.alp_files.specs.declared.call.Call.TheVariants as call
use Rattle.alp_files.specs.declared.refusal.Refusal.TheVariants as refusal
use Rattle.alp_files.specs.declared.reply.Ended.{Ended}
use Rattle.alp_files.specs.declared.reply.Reply.TheVariants as reply
use Rattle.alp_journal.specs.declared.event.Event.TheVariants as event
use Rattle.alp_coord.specs.Coordinators.{is_known}
use Rattle.alp_node.specs.Steps.{IsStep, counted_in, told_answer}
use Rattle.alp_node.specs.declared.server_state.ServerState.{ServerState}
use Rattle.alp_node.proofs.OutcomeLemmas.{ending_here, IsTold, ending_told, ending_strange, outcome_unknown_stepped, outcome_step}
use Rattle.alp_node.proofs.StepLemmas.{refused_step}
use Rattle.alp_node.proofs.server_state.ServerState.outcome.Goals as goal

pub returns-in_default : goal.returns-in_default
returns-in_default g c =
    let k = c.args.self.now in
    let G = g.V.Vault in
    let turn = c.args.turn.now in
    let t = c.args.trans in
    let strange : is_known k.coordinator t ≡ false = ending_strange k t (sym c.outcome.ensures ∙ c.in_default.is) in
    refused_step G k c.refuse.new.self turn (call.Outcome t) c.refuse.result refusal.UnknownTrans refl c.requires.turn c.requires.up c.refuse.ensures.kept c.refuse.ensures.answer
    (λ told a h. outcome_unknown_stepped a (G.faults k.vault) (G.faults k.vault) (G.held k.vault) k turn t c.refuse.result h c.requires.turn c.requires.up strange c.refuse.ensures.answer)
    tt

pub returns : goal.returns
returns g c =
    let k = c.args.self.now in
    let G = g.V.Vault in
    let turn = c.args.turn.now in
    let t = c.args.trans in
    let x = c.ended.result in
    let known : IsTold k t c.in-Some.ended = ending_told k t c.in-Some.ended (sym c.outcome.ensures ∙ c.in-Some.is) in
    let so : x ≡ told_answer (Some (reply.Ended (ending_here k t))) [] =
    c.ended.ensures ∙ ap (told_answer (Some (reply.Ended c.in-Some.ended))) (c.new-2.ensures ∙ c.new.ensures.items) ∙ ap (λ (e : Ended). told_answer (Some (reply.Ended e)) []) (sym known.is) in
    let counted : c.count.new.self ≡ counted_in k.sessions turn (reply.Ended (ending_here k t)) = c.count.ensures ∙ ap (λ (e : Ended). counted_in k.sessions turn (reply.Ended e)) (sym known.is) in
    subst (λ (y : ServerState _). IsStep G k y (event.Call turn.client k.epoch turn.number (call.Outcome t)) (Ok x)) (λ i. record k { sessions = sym counted i })
    (outcome_step G k turn t c.requires.ready.0 x c.requires.ready.2 c.requires.turn c.requires.up known.begun so)
