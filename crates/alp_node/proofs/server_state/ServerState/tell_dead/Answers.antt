use Rattle.std.proofs.Common.{◌≡◌, [], ◌+◌, refl, sym, ap, ◌∙◌, subst}
use Rattle.alp_files.specs.declared.call.Call.TheVariants as call
use Rattle.alp_files.specs.declared.reply.Reply.TheVariants as reply
use Rattle.alp_files.specs.declared.refusal.Refusal.TheVariants as refusal
use Rattle.alp_journal.specs.declared.event.Event.TheVariants as event
use Rattle.std.specs.FinMap as map
use Rattle.std.specs.Prelude.{None}
use Rattle.alp_node.specs.Dead.{without_part}
use Rattle.alp_node.specs.Waits.{without_calls_of}
use Rattle.alp_node.specs.ServerState.{IsReady}
use Rattle.alp_node.specs.Steps.{Stepped, counted_in}
use Rattle.alp_node.specs.declared.server_state.ServerState.{ServerState}
use Rattle.alp_node.proofs.TurnLemmas.{counts_refused}
use Rattle.alp_node.proofs.FinishLemmas.{dead_stepped}
use Rattle.alp_node.proofs.ReadyLemmas.{counted_ready, buried_ready, without_ready, live_others}
use Rattle.alp_node.proofs.StandingLemmas.{ended_gone}
use Rattle.alp_node.proofs.SeatLemmas.{KeepsNotes}
use Rattle.alp_node.proofs.ReleaseLemmas.{alive_forgotten}
use Rattle.alp_node.proofs.StepLemmas.{plain_step}
use Rattle.alp_node.proofs.server_state.ServerState.tell_dead.Goals as goal

pub returns : goal.returns
returns g c =
    let k = c.args.self.now in
    let turn = c.args.turn.now in
    let G = g.V.Vault in
    let faults = G.faults k.vault in
    let t = c.args.trans in
    let r = reply.Refused (refusal.Aborted c.args.cause) in
    let after : ServerState g.row.V.Denot = record k { sessions = counted_in k.sessions turn r; dead = without_part turn.client t k.dead; waits = without_calls_of turn.client t k.waits } in
    let same : c.refuse.new.self ≡ after = c.refuse.ensures.kept ∙ (λ i. record k { sessions = counted_in k.sessions turn r; dead = c.remove.ensures i; waits = c.remove_of.ensures i }) in
    let none : map.get k.lives t ≡ None = ended_gone c.requires.ready.0 (G.serves k.vault) k turn.client t c.args.cause c.requires.ready.2 c.requires.here c.requires.dead in
    plain_step G k c.refuse.new.self turn (call.Finish t c.args.commit) c.refuse.result r [] (ap (λ (y : ServerState _). y.vault) same) (ap (λ (y : ServerState _). y.server) same) (ap (λ (y : ServerState _). y.servers) same)
    (ap (λ (y : ServerState _). y.sizes) same) (ap (λ (y : ServerState _). y.epoch) same) c.requires.up (ap (λ (y : ServerState _). y.is_down) same ∙ c.requires.up)
    (subst (KeepsNotes k) (sym same) (λ ns h. h)) refl c.refuse.ensures.answer refl (λ m n b. tt)
    (λ n h. subst (λ (y : ServerState _). IsReady (n + 1) (G.serves k.vault) y) (sym same)
    (buried_ready (n + 1) (G.serves k.vault) (record k { sessions = counted_in k.sessions turn r; waits = without_calls_of turn.client t k.waits }) (without_part turn.client t k.dead)
    (alive_forgotten turn.client t k.dead k.lives k.joins.lives h.alive)
    (counted_ready n (G.serves k.vault) (record k { waits = without_calls_of turn.client t k.waits }) turn r c.requires.turn (record { inside = tt; times = tt })
    (without_ready n (G.serves k.vault) k turn.client t (live_others n (G.serves k.vault) k t none h) h))))
    (λ told a h. subst (λ (y : ServerState _). Stepped a faults faults (G.held k.vault) y (event.Call turn.client k.epoch turn.number (call.Finish t c.args.commit)) c.refuse.result) (sym same)
    (dead_stepped a faults faults (G.held k.vault) k turn t c.args.commit c.requires.ready.0 (G.serves k.vault) c.args.cause c.refuse.result h c.requires.ready.2 c.requires.turn c.requires.up c.requires.here c.requires.dead c.refuse.ensures.answer))
    (counts_refused k c.refuse.new.self turn c.requires.turn (call.Finish t c.args.commit) (refusal.Aborted c.args.cause) tt (ap (λ (y : ServerState _). y.clock) same) (ap (λ (y : ServerState _). y.sessions) same))
