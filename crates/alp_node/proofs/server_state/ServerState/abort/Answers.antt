use Rattle.std.specs.Prelude.{Some}
use Rattle.std.specs.FinMap as map
use Rattle.std.proofs.Common.{false, ◌≡◌, ℕ, ◌≤◌, List, [], ◌∷◌, ◌++◌, length, append_assoc, arith, refl, sym, ap, ◌∙◌, subst}
use Rattle.alp_base.specs.declared.ids.JoinNo.{JoinNo}
use Rattle.alp_files.specs.declared.call.Call.TheVariants as call
use Rattle.alp_files.specs.declared.refusal.Cause.TheVariants as cause
use Rattle.alp_files.specs.declared.refusal.Refusal.TheVariants as refusal
use Rattle.alp_files.specs.declared.reply.Reply.TheVariants as reply
use Rattle.alp_journal.specs.declared.act.Act.{Act}
use Rattle.alp_journal.specs.declared.act.Act.TheVariants as act
use Rattle.alp_journal.specs.declared.message.Message.TheVariants as msg
use Rattle.alp_journal.specs.Coordinator.{Fate, joins_of, Running}
use Rattle.alp_coord.specs.Coordinators.{fate_in}
use Rattle.alp_node.specs.Dead.{cause_in}
use Rattle.alp_node.specs.Releases.{granted_behind, grant_acts}
use Rattle.alp_node.specs.Says.{said_each}
use Rattle.alp_node.specs.Steps.{refused_answer}
use Rattle.alp_node.specs.declared.lives.Live.{Live}
use Rattle.alp_node.specs.declared.served.Standing.TheVariants as standing
use Rattle.alp_node.proofs.AskVotes.{each_goes_on, each_caused}
use Rattle.alp_node.proofs.EndingLemmas.{abort_stepped}
use Rattle.alp_node.proofs.PairedLemmas.{few_live}
use Rattle.alp_node.proofs.StandingLemmas.{WorksHere, works_here, standing_here, own_works}
use Rattle.alp_node.proofs.StepLemmas.{ended_step, ended_notes, ends_kept}
use Rattle.alp_node.proofs.server_state.ServerState.abort.Goals as goal

pub end-requires-clause-part : goal.end-requires-clause-part
end-requires-clause-part g c t l there = (c.requires.ready.2.within t l there).part

pub end-requires-clause-most : goal.end-requires-clause-most
end-requires-clause-most g c = few_live c.requires.ready.0 (g.V.Vault.serves c.args.self.now.vault) c.args.self.now c.requires.ready.2

pub returns : goal.returns
returns g c =
    let k = c.args.self.now in
    let turn = c.args.turn.now in
    let t = c.args.trans in
    let G = g.V.Vault in
    let faults = G.faults k.vault in
    let ready = c.requires.ready.2 in
    let mine : WorksHere k turn.client t = works_here c.requires.ready.0 (G.serves k.vault) k ready turn.client t c.requires.works in
    let runs = own_works turn.client (cause_in k.dead turn.client t) (fate_in k.coordinator t) (standing_here k turn.client t standing.Work c.requires.here c.requires.works) in
    let js : List JoinNo = runs.0 in
    let joins : c.in_ok-joins.joins.items ≡ js = c.in_ok-joins.ensures ∙ ap joins_of runs.1 in
    let z = c.end.new.self.coordinator in
    let ts = granted_behind k t in
    let sent : List Act = said_each (λ j. msg.Abort t j cause.Asked) js in
    let acts : c.tell_aborts.new.acts.items ≡ (act.Released t ∷ grant_acts ts) ++ sent =
    c.tell_aborts.ensures.said ∙ (λ i. (c.end.ensures.acts ∙ ap (λ (xs : List Act). xs ++ grant_acts ts) c.in_ok-acts.ensures.acts) i ++ said_each (λ j. msg.Abort t j cause.Asked) ((c.as_slice.ensures.value ∙ joins) i)) in
    let so = c.refused.ensures ∙ ap (refused_answer (refusal.Aborted cause.Asked)) (c.new.ensures ∙ acts) in
    ended_step G k c.end.new.self turn t ts sent (call.Finish t false) cause.Asked c.refused.result z c.end.ensures.along c.end.ensures.ends c.requires.here c.requires.turn c.requires.up c.end.ensures.kept so
    (each_goes_on (λ j. msg.Abort t j cause.Asked) js) (λ before now allowance. each_caused (λ j. msg.Abort t j cause.Asked) (λ j. tt) js before now allowance)
    (ended_notes c.requires.ready.0 (G.serves k.vault) k turn t (reply.Refused (refusal.Aborted cause.Asked)) z ready c.requires.here (ends_kept k.coordinator z t cause.Asked c.end.ensures.ends))
    (λ told a h. abort_stepped a faults faults (G.held k.vault) k turn t mine.live c.requires.ready.0 (G.serves k.vault) h ready c.requires.turn c.requires.up mine.there js runs.1 c.refused.result z c.end.ensures.along c.end.ensures.ends so)

pub tell_aborts-requires : goal.tell_aborts-requires
tell_aborts-requires g c =
    let one : length c.in_ok-acts.acts.items ≡ 1 = ap (λ (xs : List Act). length xs) c.in_ok-acts.ensures.acts in
    let so_many : length c.as_slice.result.now ≡ length c.in_ok-joins.joins.items = ap (λ (xs : List JoinNo). length xs) c.as_slice.ensures.value in
    record { room = omega (arith, c.end.ensures.few, one, so_many, c.end.ensures.capacity, c.in_ok-acts.ensures.room, c.len.ensures) }
