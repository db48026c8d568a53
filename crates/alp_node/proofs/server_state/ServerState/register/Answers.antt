use Rattle.std.specs.Prelude.{None}
use Rattle.std.proofs.Common.{◌≡◌, ℕ, [], refl, sym, ap, ◌∙◌, subst}
use Rattle.alp_journal.specs.declared.event.Event.TheVariants as event
use Rattle.alp_journal.specs.declared.message.Message.TheVariants as msg
use Rattle.alp_node.specs.EarlyFates.{AreEarly}
use Rattle.alp_node.specs.Says.{is_away, register_acts}
use Rattle.alp_node.specs.Steps.{told_answer}
use Rattle.alp_node.proofs.ArrivalLemmas.{register_stepped, registered_fated, register_goes_on, register_caused}
use Rattle.alp_node.proofs.EarlyLemmas.{early_registers}
use Rattle.alp_node.proofs.FatedLemmas.{fated_ready, fated_noted}
use Rattle.alp_node.proofs.ReadyLemmas.{stepped_ready}
use Rattle.alp_node.proofs.SayLemmas.{said_step}
use Rattle.alp_node.proofs.server_state.ServerState.register.Goals as goal

pub returns : goal.returns
returns g c from =
    let k = c.args.self.now in
    let G = g.V.Vault in
    let t = c.args.trans in
    let j = c.args.join in
    let z = c.register.new.self in
    let r = c.in_ok-answer.answer in
    let x = c.register_answer.result in
    let so : x ≡ told_answer None (register_acts (is_away k j.server) t j r) = c.register_answer.ensures in
    let fated = registered_fated k.coordinator z t j r c.in_ok-answer.ensures.after in
    said_step G k (record k { coordinator = z }) (event.Arrive from (msg.Register t j c.args.client)) x (register_acts (is_away k j.server) t j r)
    (record { vault = refl; server = refl; servers = refl; sizes = refl; epoch = refl; clock = refl; sessions = refl; down = refl }) c.requires.up so (register_goes_on (is_away k j.server) t j r) (register_caused (is_away k j.server) t j r)
    (λ n h. stepped_ready n (G.serves k.vault) (record k { coordinator = z }) (fated_ready n (G.serves k.vault) k z fated
    (subst (λ (m : ℕ). AreEarly k.servers m z) h.seat.0 (early_registers k.servers k.coordinator z t j c.args.client r c.in_ok-answer.ensures.answer c.in_ok-answer.ensures.after (subst (λ (m : ℕ). AreEarly k.servers m k.coordinator) (sym h.seat.0) h.fated))) h))
    (λ notes. fated_noted k.server k.servers k.epoch k.lives k.joins k.coordinator z (G.held k.vault).notes fated notes)
    (λ a h. register_stepped a (G.faults k.vault) (G.held k.vault) k from t j c.args.client x h c.requires.up r z c.in_ok-answer.ensures.answer c.in_ok-answer.ensures.after so)
