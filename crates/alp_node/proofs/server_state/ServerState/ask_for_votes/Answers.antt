use Rattle.std.specs.Prelude.{Some, Ok}
use Rattle.std.specs.FinMap as map
use Rattle.std.proofs.Common.{true, ◌≡◌, ℕ, ◌+◌, List, [], ◌∷◌, ◌++◌, refl, sym, ap, ◌∙◌, subst}
use Rattle.alp_base.specs.declared.ids.JoinNo.{JoinNo}
use Rattle.alp_files.specs.declared.call.Call.TheVariants as call
use Rattle.alp_files.specs.declared.refusal.Refusal.TheVariants as refusal
use Rattle.alp_files.specs.declared.reply.Reply.TheVariants as reply
use Rattle.alp_journal.specs.declared.act.Act.{Act}
use Rattle.alp_journal.specs.declared.event.Event.TheVariants as event
use Rattle.alp_journal.specs.declared.message.Message.TheVariants as msg
use Rattle.alp_journal.specs.Coordinator.{Fate, joins_of, Running}
use Rattle.alp_coord.specs.Coordinators.{count_of, fate_in}
use Rattle.alp_node.specs.Dead.{cause_in}
use Rattle.alp_node.specs.Says.{said_each}
use Rattle.alp_node.specs.ServerState.{IsReady}
use Rattle.alp_node.specs.Steps.{IsStep, Stepped, refused_answer}
use Rattle.alp_node.specs.declared.server_state.ServerState.{ServerState}
use Rattle.alp_node.specs.declared.served.Standing.TheVariants as standing
use Rattle.alp_node.specs.declared.waits.WaitingCall.{WaitingCall}
use Rattle.alp_node.proofs.AskVotes.{each_goes_on, each_caused, finish_call, asked_kept, asks_fated, asked_ready, asks_stepped}
use Rattle.alp_node.proofs.BehindLemmas.{same_without}
use Rattle.alp_node.proofs.BesideLemmas.{idle_told}
use Rattle.alp_node.proofs.FatedLemmas.{fated_noted}
use Rattle.alp_node.proofs.SeatLemmas.{KeepsNotes}
use Rattle.alp_node.proofs.StandingLemmas.{WorksHere, works_here, standing_here, own_works}
use Rattle.alp_node.proofs.StepLemmas.{plain_step}
use Rattle.alp_node.proofs.TurnLemmas.{counts_refused}
use Rattle.alp_node.proofs.WaitLemmas.{named_all}
use Rattle.alp_node.proofs.server_state.ServerState.ask_for_votes.Goals as goal

-- the joins are at least one
record IsSome (js : List JoinNo) : Type 0 where
  first : JoinNo
  rest : List JoinNo
  is : js ≡ first ∷ rest

some_of : (js : List JoinNo) → (js ≡ [] → ⊥) → IsSome js
some_of [] none = absurd (none refl)
some_of (j ∷ js) none = record { first = j; rest = js; is = refl }

pub returns : goal.returns
returns g c =
    let k = c.args.self.now in
    let turn = c.args.turn.now in
    let t = c.args.trans in
    let G = g.V.Vault in
    let faults = G.faults k.vault in
    let ready = c.requires.ready.2 in
    let serves = G.serves k.vault in
    let e = event.Call turn.client k.epoch turn.number (call.Finish t true) in
    let mine : WorksHere k turn.client t = works_here c.requires.ready.0 serves k ready turn.client t c.requires.works in
    let runs = own_works turn.client (cause_in k.dead turn.client t) (fate_in k.coordinator t) (standing_here k turn.client t standing.Work c.requires.here c.requires.works) in
    let joins : runs.0 ≡ c.args.joins.now = sym (ap joins_of runs.1) ∙ c.requires.joins in
    let some : IsSome c.args.joins.now = some_of c.args.joins.now c.requires.some in
    let run : fate_in k.coordinator t ≡ Running turn.client (some.first ∷ some.rest) = runs.1 ∙ ap (Running turn.client) (joins ∙ some.is) in
    let z = c.finish.new.self in
    let after : ServerState g.row.V.Denot = asked_kept k turn t z in
    let pushed : c.push.new.self ≡ k.waits ++ finish_call k turn t z ∷ [] = c.in_ok-push.ensures.ok in
    let kept : record k { waits = c.push.new.self; coordinator = z; sessions = c.count.new.self } ≡ after = (λ i. record k { waits = pushed i; coordinator = z; sessions = c.count.ensures i }) in
    let acts : c.tell_asks.new.acts.items ≡ said_each (msg.Ask t) (some.first ∷ some.rest) =
    c.tell_asks.ensures.said ∙ (λ i. c.in_ok-acts.ensures.items i ++ said_each (msg.Ask t) (some.is i)) in
    let so = c.refused.ensures ∙ ap (refused_answer refusal.NotYet) (c.new.ensures ∙ acts) in
    subst (λ (y : ServerState _). IsStep G k y e (Ok c.refused.result)) (sym kept)
    (plain_step G k after turn (call.Finish t true) c.refused.result (reply.Refused refusal.NotYet) (said_each (msg.Ask t) (some.first ∷ some.rest)) refl refl refl refl refl c.requires.up c.requires.up
    (λ notes h. fated_noted k.server k.servers k.epoch k.lives k.joins k.coordinator z notes (asks_fated k turn t z c.finish.ensures.along c.finish.ensures.finished) h) refl so
    (each_goes_on (msg.Ask t) (some.first ∷ some.rest)) (λ before now allowance. each_caused (msg.Ask t) (λ j. tt) (some.first ∷ some.rest) before now allowance)
    (λ n h. asked_ready k turn t z c.finish.ensures.along c.finish.ensures.finished n serves turn.client (some.first ∷ some.rest) c.requires.turn run (λ e. (let wrong : some.first ∷ some.rest ≡ [] = e in cc)) h)
    (λ told a h. asks_stepped k turn t z c.finish.ensures.along c.finish.ensures.finished a faults faults (G.held k.vault) mine.live some.first some.rest c.refused.result h c.requires.turn c.requires.up mine.there run
    (idle_told a turn.client t k.waits h.waits (named_all k.server k.epoch k.given (count_of k.coordinator) k.sizes k.lives k.waits ready.waits.calls) c.requires.idle) so)
    (counts_refused k after turn c.requires.turn (call.Finish t true) refusal.NotYet tt refl refl))
