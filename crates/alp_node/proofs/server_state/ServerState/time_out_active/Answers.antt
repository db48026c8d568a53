use Rattle.std.specs.Prelude.{None, Ok}
use Rattle.std.proofs.Common.{◌≡◌, ◌++◌, ◌∷◌, [], List, refl, sym, ap, ◌∙◌, subst}
use Rattle.alp_files.specs.declared.refusal.Cause.TheVariants as cause
use Rattle.alp_journal.specs.declared.act.Act.{Act}
use Rattle.alp_journal.specs.declared.act.Act.TheVariants as act
use Rattle.alp_journal.specs.declared.event.Event.TheVariants as event
use Rattle.alp_worker.specs.declared.joins.Joins.{Joins}
use Rattle.alp_node.specs.Releases.{grant_acts, granted_behind, let_go}
use Rattle.alp_node.specs.Steps.{IsStepAs, told_answer}
use Rattle.alp_node.specs.Timeouts.{deads_of, quitted_all}
use Rattle.alp_node.specs.declared.dead.DeadPart.{DeadPart}
use Rattle.alp_node.specs.declared.server_state.ServerState.{ServerState}
use Rattle.alp_node.proofs.EndingLemmas.{let_go_aside}
use Rattle.alp_node.proofs.LateSteps.{late_active_step}
use Rattle.alp_node.proofs.PairedLemmas.{few_live}
use Rattle.alp_node.proofs.ReleaseLemmas.{let_go_of}
use Rattle.alp_node.proofs.server_state.ServerState.time_out_active.Goals as goal

pub release-requires-clause-most : goal.release-requires-clause-most
release-requires-clause-most g c = few_live c.requires.ready.0 (g.V.Vault.serves c.args.self.now.vault) c.args.self.now c.requires.ready.2

pub release-requires-clause-part : goal.release-requires-clause-part
release-requires-clause-part g c t l there = (c.requires.ready.2.within t l there).part

pub returns : goal.returns
returns g c =
    let k = c.args.self.now in
    let t = c.args.trans in
    let dead : List DeadPart = k.dead ++ deads_of t cause.TimedOut c.args.late.now in
    let same : c.release.new.self ≡ record (let_go k t) { dead = dead } = c.release.ensures.after ∙ ap (λ (ds : List DeadPart). let_go (record k { dead = ds }) t) c.in_ok-add_all.ensures.ok ∙ let_go_aside k t dead in
    let joins_same : c.release.new.self.joins ≡ k.joins = ap (λ (s : ServerState _). s.joins) same ∙ ap (λ (s : ServerState _). s.joins) (let_go_of k t) in
    let over : c.quit_all.new.joins ≡ quitted_all k.joins c.args.late.now = c.quit_all.ensures ∙ ap (λ (js : Joins). quitted_all js c.args.late.now) joins_same in
    let so : c.silence.result ≡ told_answer None (act.Released t ∷ grant_acts (granted_behind k t)) =
    c.silence.ensures ∙ ap (told_answer None) (c.new.ensures ∙ c.release.ensures.acts ∙ ap (λ (acts : List Act). acts ++ grant_acts (granted_behind k t)) c.in_ok-acts.ensures.acts) in
    subst (λ (s : ServerState _). IsStepAs g.V.Vault None k (record s { joins = c.quit_all.new.joins }) (event.Timeout t) (Ok c.silence.result)) (sym same)
    (subst (λ (js : Joins). IsStepAs g.V.Vault None k (record (let_go k t) { dead = dead; joins = js }) (event.Timeout t) (Ok c.silence.result)) (sym over)
    (late_active_step g.V.Vault k t c.args.late.now c.requires.late c.requires.told c.requires.up c.requires.ready c.requires.active c.silence.result so))
