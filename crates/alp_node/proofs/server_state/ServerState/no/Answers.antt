use Rattle.std.specs.Prelude.{None, Some, Ok, IfOk, List, Bool, true, false}
use Rattle.std.proofs.Common.{◌≡◌, ◌++◌, ◌∷◌, [], refl, sym, ap, ◌∙◌, subst}
use Rattle.alp_base.specs.declared.ids.JoinNo.{JoinNo}
use Rattle.alp_journal.specs.Coordinator.{Fate, client_of, joins_of}
use Rattle.alp_journal.specs.Ids.{has_join}
use Rattle.alp_coord.specs.Coordinators.{fate_in, is_finishing_fate}
use Rattle.alp_files.specs.declared.refusal.Cause.TheVariants as cause
use Rattle.alp_journal.specs.declared.act.Act.TheVariants as act
use Rattle.alp_journal.specs.declared.message.Message.TheVariants as msg
use Rattle.alp_node.specs.Releases.{grant_acts, granted_behind}
use Rattle.alp_node.specs.Says.{said_each}
use Rattle.alp_node.specs.Steps.{told_answer}
use Rattle.alp_node.proofs.LapseLemmas.{no_passed_step, no_lapsed, finishing_shape}
use Rattle.alp_node.proofs.server_state.ServerState.no.Goals as goal

-- it is not finishing
pub returns-then-not-is_finishing : goal.returns-then-not-is_finishing
returns-then-not-is_finishing g c from =
    no_passed_step g.V.Vault c.args.self.now from c.args.trans c.args.join c.args.why c.requires.up c.silence.result
    (λ o. (let wrong : false ≡ true = c.if-not-is_finishing.ensures ∙ ap is_finishing_fate o.is in cc)) c.silence.ensures

-- one that is finishing has a client
pub returns-in_default : goal.returns-in_default
returns-in_default g c from =
    no_passed_step g.V.Vault c.args.self.now from c.args.trans c.args.join c.args.why c.requires.up c.silence-in_default.result
    (λ o. (let wrong : None ≡ Some o.client = sym c.in_default.is ∙ c.client.ensures ∙ ap client_of o.is in cc)) c.silence-in_default.ensures

-- it is none of its parts
pub returns-then-not-has_join : goal.returns-then-not-has_join
returns-then-not-has_join g c from =
    let items : c.as_slice.result.now ≡ joins_of (fate_in c.args.self.now.coordinator c.args.trans) = c.as_slice.ensures.value ∙ c.in_ok-joins.ensures in
    no_passed_step g.V.Vault c.args.self.now from c.args.trans c.args.join c.args.why c.requires.up c.silence-then-not-has_join.result
    (λ o. (let wrong : false ≡ true = c.if-not-has_join.ensures ∙ ap (has_join c.args.join) (items ∙ ap joins_of o.is) ∙ o.its in cc)) c.silence-then-not-has_join.ensures

-- its transaction ends
pub returns : goal.returns
returns g c from =
    let k = c.args.self.now in
    let t = c.args.trans in
    let j = c.args.join in
    let f : Fate = fate_in k.coordinator t in
    let s = finishing_shape f c.in-Some.client (sym c.if-not-is_finishing.ensures) (sym c.client.ensures ∙ c.in-Some.is) in
    let items : c.as_slice-2.result.now ≡ joins_of f = c.as_slice-2.ensures.value ∙ c.in_ok-joins.ensures in
    let its : has_join j (joins_of f) ≡ true = ap (has_join j) (sym (c.as_slice.ensures.value ∙ c.in_ok-joins.ensures)) ∙ sym c.if-not-has_join.ensures in
    no_lapsed g.V.Vault k from t j c.args.why c.requires.up c.lapse.new.self c.lapse.result c.in-Some.client (joins_of f) s.votes s.is its c.requires.ready c.lapse.ensures.kept c.lapse.ensures.along c.lapse.ensures.ends
    (subst (λ (js : List JoinNo). IfOk c.lapse.result (λ x. x ≡ told_answer None ((act.Released t ∷ grant_acts (granted_behind k t)) ++ said_each (λ i. msg.Abort t i (cause.Voted j.server c.args.why)) js))) items c.lapse.ensures.said)
    c.lapse.ensures.wanting
