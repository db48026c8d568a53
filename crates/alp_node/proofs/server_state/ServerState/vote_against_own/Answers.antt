use Rattle.std.specs.Prelude.{Some}
use Rattle.std.specs.FinMap as map
use Rattle.std.proofs.Common.{true, ◌≡◌, ℕ, List, [], ◌∷◌, ◌++◌, append-nil, refl, sym, ap, ◌∙◌, subst}
use Rattle.alp_base.specs.declared.ids.JoinNo.{JoinNo}
use Rattle.alp_files.specs.declared.call.Call.TheVariants as call
use Rattle.alp_files.specs.declared.refusal.Cause.{Cause}
use Rattle.alp_files.specs.declared.refusal.Cause.TheVariants as cause
use Rattle.alp_files.specs.declared.refusal.Refusal.TheVariants as refusal
use Rattle.alp_files.specs.declared.reply.Reply.TheVariants as reply
use Rattle.alp_journal.specs.declared.act.Act.{Act}
use Rattle.alp_journal.specs.declared.act.Act.TheVariants as act
use Rattle.alp_journal.specs.Coordinator.{Fate, joins_of, Running}
use Rattle.alp_journal.specs.Deeds.{Ends}
use Rattle.alp_coord.specs.Coordinators.{Comes, count_of, fate_in}
use Rattle.alp_node.specs.Dead.{cause_in}
use Rattle.alp_node.specs.Releases.{granted_behind, grant_acts}
use Rattle.alp_node.specs.Steps.{ended, refused_answer}
use Rattle.alp_node.specs.declared.server_state.ServerState.{ServerState}
use Rattle.alp_node.specs.declared.served.Standing.TheVariants as standing
use Rattle.alp_node.proofs.BesideLemmas.{idle_told}
use Rattle.alp_node.proofs.EndingLemmas.{against_stepped}
use Rattle.alp_node.proofs.PairedLemmas.{few_live}
use Rattle.alp_node.proofs.StandingLemmas.{WorksHere, works_here, standing_here, own_works}
use Rattle.alp_node.proofs.StepLemmas.{ended_step, ended_notes, ends_kept}
use Rattle.alp_node.proofs.WaitLemmas.{named_all}
use Rattle.alp_node.proofs.server_state.ServerState.vote_against_own.Goals as goal

pub end-requires-clause-part : goal.end-requires-clause-part
end-requires-clause-part g c t l there = (c.requires.ready.2.within t l there).part

pub end-requires-clause-most : goal.end-requires-clause-most
end-requires-clause-most g c = few_live c.requires.ready.0 (g.V.Vault.serves c.args.self.now.vault) c.args.self.now c.requires.ready.2

pub returns : goal.returns
returns g c =
    let k = c.args.self.now in
    let turn = c.args.turn.now in
    let t = c.args.trans in
    let G = g.V.Vault in
    let faults = G.faults k.vault in
    let ready = c.requires.ready.2 in
    let mine : WorksHere k turn.client t = works_here c.requires.ready.0 (G.serves k.vault) k ready turn.client t c.requires.works in
    let runs = own_works turn.client (cause_in k.dead turn.client t) (fate_in k.coordinator t) (standing_here k turn.client t standing.Work c.requires.here c.requires.works) in
    let js : List JoinNo = runs.0 in
    let alone : js ≡ [] = sym (ap joins_of runs.1) ∙ c.requires.alone in
    let z = c.end.new.self.coordinator in
    let ts = granted_behind k t in
    let why : Cause = cause.Voted k.server c.args.why in
    let is : c.against-cause.result ≡ why = c.against-cause.ensures in
    let ends : (client : ℕ) → Comes (Ends t client why) k.coordinator z = subst (λ (x : Cause). (client : ℕ) → Comes (Ends t client x) k.coordinator z) is c.end.ensures.ends in
    let kept = c.end.ensures.kept ∙ ap (λ (x : Cause). record (ended k turn t (reply.Refused (refusal.Aborted x))) { coordinator = z }) is in
    let acts : c.end.new.acts.items ≡ act.Released t ∷ grant_acts ts = c.end.ensures.acts ∙ ap (λ (xs : List Act). xs ++ grant_acts ts) c.in_ok-acts.ensures.acts in
    let so = c.refused.ensures ∙ (λ i. refused_answer (refusal.Aborted (is i)) ((c.new.ensures ∙ acts) i)) in
    ended_step G k c.end.new.self turn t ts [] (call.Finish t true) why c.refused.result z c.end.ensures.along ends c.requires.here c.requires.turn c.requires.up kept
    (so ∙ ap (refused_answer (refusal.Aborted why)) (sym (append-nil (act.Released t ∷ grant_acts ts)))) refl (λ before now allowance. tt)
    (ended_notes c.requires.ready.0 (G.serves k.vault) k turn t (reply.Refused (refusal.Aborted why)) z ready c.requires.here (ends_kept k.coordinator z t why ends))
    (λ told a h. against_stepped a faults faults (G.held k.vault) k turn t mine.live c.requires.ready.0 (G.serves k.vault) h ready c.requires.turn c.requires.up mine.there js runs.1 c.args.why c.refused.result z alone c.end.ensures.along ends
    (idle_told a turn.client t k.waits h.waits (named_all k.server k.epoch k.given (count_of k.coordinator) k.sizes k.lives k.waits ready.waits.calls) c.requires.idle)
    (c.requires.journal a (G.held k.vault) h ∙ c.requires.against) so)
