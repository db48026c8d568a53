use Rattle.std.specs.Prelude.{Some}
use Rattle.std.proofs.Common.{◌≡◌, [], refl, sym, ◌∙◌, le_refl}
use Rattle.alp_files.specs.declared.call.Call.TheVariants as call
use Rattle.alp_files.specs.declared.refusal.Refusal.TheVariants as refusal
use Rattle.alp_files.specs.declared.reply.Reply.TheVariants as reply
use Rattle.alp_node.specs.Steps.{counted_in}
use Rattle.alp_node.specs.Waits.{without_other_at}
use Rattle.alp_node.specs.declared.served.Standing.TheVariants as standing
use Rattle.alp_node.specs.declared.server_state.ServerState.{ServerState}
use Rattle.alp_node.proofs.OtherCollects.{collected_step, join_dead_stepped, join_waits_stepped, joined_stepped}
use Rattle.alp_node.proofs.StepLemmas.{refused_step}
use Rattle.alp_node.proofs.TurnLemmas.{counts_on}
use Rattle.alp_node.proofs.server_state.ServerState.collect_join.Goals as goal

-- it was let in
pub returns-in-Work : goal.returns-in-Work
returns-in-Work g c =
    let G = g.V.Vault in
    let k = c.args.self.now in
    let turn = c.args.turn.now in
    let n = c.args.number in
    let w = c.requires.waiting in
    let x = c.collect_joined.result in
    let after : ServerState g.row.V.Denot = record k { waits = without_other_at turn.client n k.waits; sessions = counted_in k.sessions turn reply.Joined } in
    collected_step G k c.collect_joined.new.self turn n reply.Joined x c.requires.turn c.requires.up (record { inside = tt; times = tt }) refl c.collect_joined.ensures.kept c.collect_joined.ensures.answer
    (λ told a h. joined_stepped a (G.faults k.vault) (G.faults k.vault) (G.held k.vault) k turn n w.0 c.requires.ready.0 (G.serves k.vault) c.requires.ready.2 w.1 w.2 w.3 h c.requires.turn c.requires.up c.args.trans w.4 x
    (sym c.standing.ensures ∙ c.in-Work.is) c.collect_joined.ensures.answer)
    (counts_on k after turn c.requires.turn (call.Collect n) reply.Joined tt (le_refl k.clock) tt tt refl)

-- it ended
pub returns-in-Ended : goal.returns-in-Ended
returns-in-Ended g c =
    let G = g.V.Vault in
    let k = c.args.self.now in
    let turn = c.args.turn.now in
    let n = c.args.number in
    let w = c.requires.waiting in
    refused_step G k c.refuse.new.self turn (call.Collect n) c.refuse.result (refusal.Aborted c.in-Ended.cause) refl c.requires.turn c.requires.up c.refuse.ensures.kept c.refuse.ensures.answer
    (λ told a h. join_dead_stepped a (G.faults k.vault) (G.faults k.vault) (G.held k.vault) k turn n w.0 c.requires.ready.0 (G.serves k.vault) c.requires.ready.2 w.1 w.2 w.3 h c.requires.turn c.requires.up c.args.trans w.4 c.in-Ended.cause c.refuse.result
    (sym c.standing.ensures ∙ c.in-Ended.is) c.refuse.ensures.answer)
    tt

-- it waits on
pub returns-in-Unknown : goal.returns-in-Unknown
returns-in-Unknown g c =
    let G = g.V.Vault in
    let k = c.args.self.now in
    let turn = c.args.turn.now in
    let n = c.args.number in
    let w = c.requires.waiting in
    let refuse = c.refuse-in-Unknown in
    refused_step G k refuse.new.self turn (call.Collect n) refuse.result refusal.NotYet refl c.requires.turn c.requires.up refuse.ensures.kept refuse.ensures.answer
    (λ told a h. join_waits_stepped a (G.faults k.vault) (G.faults k.vault) (G.held k.vault) k turn n w.0 c.requires.ready.0 (G.serves k.vault) c.requires.ready.2 w.1 w.2 w.3 h c.requires.turn c.requires.up c.args.trans w.4 standing.Unknown refuse.result
    (sym c.standing.ensures ∙ c.in-Unknown.is) (λ e. cc) (λ y e. cc) refuse.ensures.answer)
    tt

pub returns-in-Joining : goal.returns-in-Joining
returns-in-Joining g c =
    let G = g.V.Vault in
    let k = c.args.self.now in
    let turn = c.args.turn.now in
    let n = c.args.number in
    let w = c.requires.waiting in
    let refuse = c.refuse-in-Joining in
    refused_step G k refuse.new.self turn (call.Collect n) refuse.result refusal.NotYet refl c.requires.turn c.requires.up refuse.ensures.kept refuse.ensures.answer
    (λ told a h. join_waits_stepped a (G.faults k.vault) (G.faults k.vault) (G.held k.vault) k turn n w.0 c.requires.ready.0 (G.serves k.vault) c.requires.ready.2 w.1 w.2 w.3 h c.requires.turn c.requires.up c.args.trans w.4 standing.Joining refuse.result
    (sym c.standing.ensures ∙ c.in-Joining.is) (λ e. cc) (λ y e. cc) refuse.ensures.answer)
    tt

pub returns-in-Finishing : goal.returns-in-Finishing
returns-in-Finishing g c =
    let G = g.V.Vault in
    let k = c.args.self.now in
    let turn = c.args.turn.now in
    let n = c.args.number in
    let w = c.requires.waiting in
    let refuse = c.refuse-in-Finishing in
    refused_step G k refuse.new.self turn (call.Collect n) refuse.result refusal.NotYet refl c.requires.turn c.requires.up refuse.ensures.kept refuse.ensures.answer
    (λ told a h. join_waits_stepped a (G.faults k.vault) (G.faults k.vault) (G.held k.vault) k turn n w.0 c.requires.ready.0 (G.serves k.vault) c.requires.ready.2 w.1 w.2 w.3 h c.requires.turn c.requires.up c.args.trans w.4 standing.Finishing refuse.result
    (sym c.standing.ensures ∙ c.in-Finishing.is) (λ e. cc) (λ y e. cc) refuse.ensures.answer)
    tt
