use Rattle.std.specs.Prelude.{Some, None, true, Ok}
use Rattle.std.proofs.Common.{◌≡◌, List, [], refl, sym, ap, ◌∙◌}
use Rattle.alp_files.specs.declared.refusal.Refusal.TheVariants as refusal
use Rattle.alp_files.specs.declared.reply.Reply.TheVariants as reply
use Rattle.alp_coord.specs.Coordinators.{count_of}
use Rattle.alp_node.specs.Releases.{buried}
use Rattle.alp_node.specs.Steps.{counted_in, told_answer}
use Rattle.alp_node.specs.declared.server_state.ServerState.{ServerState}
use Rattle.alp_node.proofs.BesideLemmas.{idle_told}
use Rattle.alp_node.proofs.JoinLemmas.{buried_step, join_busy_stepped, join_stepped}
use Rattle.alp_node.proofs.StandingLemmas.{busy_same}
use Rattle.alp_node.proofs.WaitLemmas.{named_all}
use Rattle.alp_node.proofs.server_state.ServerState.join_again.Goals as goal

-- a call of it waits
pub returns-then-has : goal.returns-then-has
returns-then-has g c =
    let k = c.args.self.now in
    let G = g.V.Vault in
    let turn = c.args.turn.now in
    let t = c.args.trans in
    let refuse = c.refuse_joining in
    let named = named_all k.server k.epoch k.given (count_of k.coordinator) k.sizes k.lives k.waits c.requires.ready.2.waits.calls in
    buried_step G k refuse.new.self turn t refuse.result (reply.Refused refusal.NotYet) refuse.ensures.kept c.requires.turn c.requires.up refl (record { inside = tt; times = tt }) tt refuse.ensures.answer
    (λ told a h. join_busy_stepped a (G.faults k.vault) (G.faults k.vault) (G.held k.vault) k turn t h c.requires.turn c.requires.up named refuse.result c.requires.works (sym (busy_same a (G.held k.vault) k turn.client t h named) ∙ sym c.has.ensures ∙ c.if-has.true) refuse.ensures.answer)

pub returns : goal.returns
returns g c =
    let k = c.args.self.now in
    let G = g.V.Vault in
    let turn = c.args.turn.now in
    let t = c.args.trans in
    let named = named_all k.server k.epoch k.given (count_of k.coordinator) k.sizes k.lives k.waits c.requires.ready.2.waits.calls in
    let kept : record c.bury.new.self { sessions = c.count.new.self } ≡ record (buried k turn.client) { sessions = counted_in k.sessions turn reply.Joined } =
    (λ i. record (c.bury.ensures i) { sessions = (c.count.ensures ∙ ap (λ (y : ServerState _). counted_in y.sessions turn reply.Joined) c.bury.ensures) i }) in
    let so = c.joined.ensures ∙ ap (told_answer (Some reply.Joined)) (c.new-2.ensures ∙ c.new.ensures.items) in
    buried_step G k (record c.bury.new.self { sessions = c.count.new.self }) turn t c.joined.result reply.Joined kept c.requires.turn c.requires.up refl (record { inside = tt; times = tt }) tt so
    (λ told a h. join_stepped a (G.faults k.vault) (G.faults k.vault) (G.held k.vault) k turn t h c.requires.turn c.requires.up named c.joined.result c.requires.works
    (idle_told a turn.client t k.waits h.waits named (sym c.has.ensures ∙ c.if-has.false)) so)
