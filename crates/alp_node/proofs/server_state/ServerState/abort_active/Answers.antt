use Rattle.std.specs.Prelude.{None, Ok, List}
use Rattle.std.proofs.Common.{◌≡◌, ◌++◌, ◌∷◌, [], refl, sym, ap, ◌∙◌, subst}
use Rattle.alp_journal.specs.declared.act.Act.{Act}
use Rattle.alp_journal.specs.declared.act.Act.TheVariants as act
use Rattle.alp_journal.specs.declared.event.Event.TheVariants as event
use Rattle.alp_journal.specs.declared.message.Message.TheVariants as msg
use Rattle.alp_node.specs.Releases.{grant_acts, granted_behind, let_go}
use Rattle.alp_node.specs.Steps.{IsStepAs, told_answer}
use Rattle.alp_node.specs.declared.dead.DeadPart.{DeadPart}
use Rattle.alp_node.specs.declared.server_state.ServerState.{ServerState}
use Rattle.alp_node.proofs.EndingLemmas.{let_go_aside}
use Rattle.alp_node.proofs.HoldingLemmas.{aborted_active_step}
use Rattle.alp_node.proofs.ReleaseLemmas.{let_go_of}
use Rattle.alp_worker.specs.Joins.{AreJoinsOf, with_aborted}
use Rattle.alp_worker.specs.declared.joins.Joins.{Joins}
use Rattle.alp_node.proofs.PairedLemmas.{few_live}
use Rattle.alp_node.proofs.server_state.ServerState.abort_active.Goals as goal

pub release-requires-clause-most : goal.release-requires-clause-most
release-requires-clause-most g c = few_live c.requires.ready.0 (g.V.Vault.serves c.args.self.now.vault) c.args.self.now c.requires.ready.2

pub release-requires-clause-part : goal.release-requires-clause-part
release-requires-clause-part g c t l there = (c.requires.ready.2.within t l there).part

pub returns : goal.returns
returns g c from =
    let k = c.args.self.now in
    let t = c.args.trans in
    let j = c.args.join in
    let why = c.args.cause in
    let dead : List DeadPart = k.dead ++ (record { client = c.args.client; trans = t; cause = why }) ∷ [] in
    let same : c.release.new.self ≡ record (let_go k t) { dead = dead } = c.release.ensures.after ∙ ap (λ (ds : List DeadPart). let_go (record k { dead = ds }) t) c.in_ok-add.ensures.ok ∙ let_go_aside k t dead in
    let joins_same : c.release.new.self.joins ≡ k.joins = ap (λ (s : ServerState _). s.joins) same ∙ ap (λ (s : ServerState _). s.joins) (let_go_of k t) in
    let so : c.silence.result ≡ told_answer None (act.Released t ∷ grant_acts (granted_behind k t)) =
    c.silence.ensures ∙ ap (told_answer None) (c.new.ensures ∙ c.release.ensures.acts ∙ ap (λ (acts : List Act). acts ++ grant_acts (granted_behind k t)) c.in_ok-acts.ensures.acts) in
    subst (λ (s : ServerState _). IsStepAs g.V.Vault None k (record s { joins = c.abort.new.self }) (event.Arrive from (msg.Abort t j why)) (Ok c.silence.result)) (sym same)
    (aborted_active_step g.V.Vault k from j t c.args.client c.requires.active.0 c.requires.active.1 c.requires.up c.requires.ready why c.abort.new.self (c.abort.ensures.same ∙ ap (λ (js : Joins). with_aborted js j t) joins_same) (λ s h. c.abort.ensures.deed s c.args.client why (subst (AreJoinsOf s) (sym joins_same) h)) c.silence.result so)
