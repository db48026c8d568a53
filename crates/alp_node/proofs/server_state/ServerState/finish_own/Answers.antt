use Rattle.std.specs.Prelude.{Bool, true, Ok}
use Rattle.std.proofs.Common.{◌≡◌, refl, sym, ap, ◌∙◌, subst}
use Rattle.alp_files.specs.declared.call.Call.TheVariants as call
use Rattle.alp_files.specs.declared.refusal.Refusal.TheVariants as refusal
use Rattle.alp_journal.specs.declared.event.Event.TheVariants as event
use Rattle.alp_coord.specs.Coordinators.{count_of, fate_in}
use Rattle.alp_node.specs.Dead.{cause_in}
use Rattle.alp_node.specs.Steps.{IsStep}
use Rattle.alp_node.specs.declared.served.Standing.TheVariants as standing
use Rattle.alp_node.proofs.BesideLemmas.{IsBusy, busy_told}
use Rattle.alp_node.proofs.BlockLemmas.{busy_finish_stepped}
use Rattle.alp_node.proofs.ClearLemmas.{running_told}
use Rattle.alp_node.proofs.StandingLemmas.{standing_here, own_works}
use Rattle.alp_node.proofs.StepLemmas.{refused_step}
use Rattle.alp_node.proofs.WaitLemmas.{named_all}
use Rattle.alp_node.proofs.server_state.ServerState.finish_own.Goals as goal

-- a call of the part waits: it is not committed
pub returns-then-has : goal.returns-then-has
returns-then-has g c =
    let G = g.V.Vault in
    let k = c.args.self.now in
    let turn = c.args.turn.now in
    let t = c.args.trans in
    let commits : c.args.commit ≡ true = c.if-not-commit.false in
    let runs = own_works turn.client (cause_in k.dead turn.client t) (fate_in k.coordinator t) (standing_here k turn.client t standing.Work c.requires.here c.requires.works) in
    subst (λ (b : Bool). IsStep G k c.refuse.new.self (event.Call turn.client k.epoch turn.number (call.Finish t b)) (Ok c.refuse.result)) (sym commits)
    (refused_step G k c.refuse.new.self turn (call.Finish t true) c.refuse.result refusal.NotYet refl c.requires.turn c.requires.up c.refuse.ensures.kept c.refuse.ensures.answer
    (λ told a h. (
    let busy : IsBusy a turn.client t = busy_told a turn.client t k.waits h.waits (named_all k.server k.epoch k.given (count_of k.coordinator) k.sizes k.lives k.waits c.requires.ready.2.waits.calls) (sym c.has.ensures ∙ c.if-has.true) in
    busy_finish_stepped a (G.faults k.vault) (G.faults k.vault) (G.held k.vault) k turn t busy.call c.refuse.result h c.requires.turn c.requires.up runs.0 c.requires.here
    (running_told a.ids.epoch t (fate_in k.coordinator t) (a.fates t) turn.client runs.0 (h.coordinator.fates t) runs.1) busy.waits c.refuse.ensures.answer))
    tt)
