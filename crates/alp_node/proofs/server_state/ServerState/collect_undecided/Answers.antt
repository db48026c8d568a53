use Rattle.std.proofs.Common.{◌≡◌, [], refl, sym, ◌∙◌}
use Rattle.alp_files.specs.declared.call.Call.TheVariants as call
use Rattle.alp_files.specs.declared.refusal.Refusal.TheVariants as refusal
use Rattle.alp_node.proofs.OtherCollects.{finish_dead_stepped, finish_waits_stepped, stamp_none}
use Rattle.alp_node.proofs.OutcomeLemmas.{outcome_of}
use Rattle.alp_node.proofs.StepLemmas.{refused_step}
use Rattle.alp_node.proofs.server_state.ServerState.collect_undecided.Goals as goal

-- it ended
pub returns-in-Some : goal.returns-in-Some
returns-in-Some g c =
    let G = g.V.Vault in
    let k = c.args.self.now in
    let turn = c.args.turn.now in
    let n = c.args.number in
    let t = c.args.trans in
    let w = c.requires.waiting in
    refused_step G k c.refuse.new.self turn (call.Collect n) c.refuse.result (refusal.Aborted c.in-Some.cause) refl c.requires.turn c.requires.up c.refuse.ensures.kept c.refuse.ensures.answer
    (λ told a h. finish_dead_stepped a (G.faults k.vault) (G.faults k.vault) (G.held k.vault) k turn n w.0 c.requires.ready.0 (G.serves k.vault) c.requires.ready.2 w.1 w.2 w.3 h c.requires.turn c.requires.up t w.4 c.in-Some.cause c.refuse.result
    (stamp_none (outcome_of k t) c.requires.none) (sym c.cause.ensures ∙ c.in-Some.is) c.refuse.ensures.answer)
    tt

-- it goes on
pub returns-in-None : goal.returns-in-None
returns-in-None g c =
    let G = g.V.Vault in
    let k = c.args.self.now in
    let turn = c.args.turn.now in
    let n = c.args.number in
    let t = c.args.trans in
    let w = c.requires.waiting in
    let refuse = c.refuse-in-None in
    refused_step G k refuse.new.self turn (call.Collect n) refuse.result refusal.NotYet refl c.requires.turn c.requires.up refuse.ensures.kept refuse.ensures.answer
    (λ told a h. finish_waits_stepped a (G.faults k.vault) (G.faults k.vault) (G.held k.vault) k turn n w.0 c.requires.ready.0 (G.serves k.vault) c.requires.ready.2 w.1 w.2 w.3 h c.requires.turn c.requires.up t w.4 refuse.result
    (stamp_none (outcome_of k t) c.requires.none) (sym c.cause.ensures ∙ c.in-None.is) refuse.ensures.answer)
    tt
