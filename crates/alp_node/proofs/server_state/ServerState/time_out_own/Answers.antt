use Rattle.std.specs.Prelude.{None, IfOk, List}
use Rattle.std.proofs.Common.{◌≡◌, ◌++◌, ◌∷◌, [], refl, sym, ap, ◌∙◌, subst}
use Rattle.alp_base.specs.declared.ids.JoinNo.{JoinNo}
use Rattle.alp_files.specs.declared.refusal.Cause.TheVariants as cause
use Rattle.alp_journal.specs.declared.act.Act.TheVariants as act
use Rattle.alp_journal.specs.declared.message.Message.TheVariants as msg
use Rattle.alp_journal.specs.Coordinator.{joins_of}
use Rattle.alp_coord.specs.Coordinators.{fate_in}
use Rattle.alp_node.specs.Releases.{grant_acts, granted_behind}
use Rattle.alp_node.specs.Says.{said_each}
use Rattle.alp_node.specs.Steps.{told_answer}
use Rattle.alp_node.proofs.LapseLemmas.{timed_out}
use Rattle.alp_node.proofs.server_state.ServerState.time_out_own.Goals as goal

pub returns : goal.returns
returns g c =
    let k = c.args.self.now in
    let t = c.args.trans in
    let items : c.as_slice.result.now ≡ joins_of (fate_in k.coordinator t) = c.as_slice.ensures.value ∙ c.in_ok-joins.ensures in
    timed_out g.V.Vault k t c.args.client c.requires.runs c.requires.up c.requires.ready c.lapse.new.self c.lapse.result c.lapse.ensures.kept c.lapse.ensures.along c.lapse.ensures.ends
    (subst (λ (js : List JoinNo). IfOk c.lapse.result (λ x. x ≡ told_answer None ((act.Released t ∷ grant_acts (granted_behind k t)) ++ said_each (λ i. msg.Abort t i cause.TimedOut) js))) items c.lapse.ensures.said)
    c.lapse.ensures.wanting
