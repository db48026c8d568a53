use Rattle.std.specs.Prelude.{None, Some, Ok, max, nat_le}
use Rattle.std.specs.FinMap as map
use Rattle.std.proofs.Common.{◌≡◌, ℕ, ◌+◌, ◌<◌, List, [], ◌∷◌, ◌++◌, length, sym, ap, ◌∙◌, subst, refl, arith}
use Rattle.alp_base.specs.declared.ids.TransId.{TransId}
use Rattle.alp_files.specs.declared.call.Call.TheVariants as call
use Rattle.alp_files.specs.declared.refusal.Refusal.{Refusal}
use Rattle.alp_files.specs.declared.refusal.Refusal.TheVariants as refusal
use Rattle.alp_files.specs.declared.refusal.What.TheVariants as what
use Rattle.alp_files.specs.declared.reply.Reply.{Reply}
use Rattle.alp_files.specs.declared.reply.Reply.TheVariants as reply
use Rattle.alp_locks.specs.Asks.{entered}
use Rattle.alp_locks.proofs.LawLemmas.{entering-keeps-held}
use Rattle.alp_journal.specs.declared.act.Act.TheVariants as act
use Rattle.alp_journal.specs.declared.event.Event.TheVariants as event
use Rattle.alp_journal.specs.declared.act.Act.{Act}
use Rattle.alp_journal.specs.Deeds.{Begins}
use Rattle.alp_coord.specs.declared.coordinator.Coordinator.{Coordinator}
use Rattle.alp_coord.specs.Coordinators.{Comes, count_of, counted_of, next_id}
use Rattle.alp_node.specs.Draws.{HasDrawn}
use Rattle.alp_node.specs.Dead.{without_client}
use Rattle.alp_node.specs.ServerState.{IsReady}
use Rattle.alp_node.specs.Steps.{Stepped, IsStep, counted_in, told_answer, refused_answer}
use Rattle.alp_node.specs.declared.sessions.CallOrder.TheVariants as order
use Rattle.alp_node.specs.declared.lives.Live.{Live}
use Rattle.alp_node.specs.declared.server_state.ServerState.{ServerState}
use Rattle.alp_node.specs.Turns.{HasTurned}
use Rattle.alp_node.specs.declared.answer.Answer.{Answer}
use Rattle.alp_node.proofs.TurnLemmas.{counts_on, counts_refused}
use Rattle.alp_node.proofs.EndLemmas.{many_of, over_is, few_of, begin_stepped, begin_refused_stepped}
use Rattle.alp_node.proofs.WithinLemmas.{new_within}
use Rattle.alp_node.proofs.StepLemmas.{plain_step, begun_notes}
use Rattle.alp_node.proofs.GivenLemmas.{counts_none, reply_given}
use Rattle.alp_node.proofs.BesideLemmas.{AreNamed, AreOthers}
use Rattle.alp_node.proofs.BehindLemmas.{back_without}
use Rattle.alp_node.proofs.KeptLemmas.{session_of}
use Rattle.alp_node.proofs.ReadyLemmas.{begin_ready, refused_ready}
use Rattle.alp_node.proofs.PairedLemmas.{next_new}
use Rattle.alp_node.proofs.SeatLemmas.{KeepsNotes}
use Rattle.alp_node.proofs.WaitLemmas.{named_all, none_newer}
use Rattle.alp_node.specs.Releases.{cleared, with_trans}
use Rattle.alp_node.specs.Waits.{without_dead, live_calls}
use Rattle.alp_calls.proofs.LookLemmas.{left_same}
use Rattle.alp_node.proofs.SeatLemmas.{left_step}
use Rattle.alp_node.proofs.server_state.ServerState.begin.Goals as goal

pub returns : goal.returns
returns g c =
    let k = c.args.self.now in
    let G = g.V.Vault in
    let held = G.held k.vault in
    let faults = G.faults k.vault in
    let serves = G.serves k.vault in
    let turn = c.args.turn.now in
    let seen = c.args.seen in
    let drawn : HasDrawn turn c.in_ok-trans.trans k c.draw.new.self = c.in_ok-trans.ensures.drawn in
    let z : Coordinator = (c.draw.new.self).coordinator in
    let t : TransId = next_id k.coordinator in
    let l : Live = record { client = turn.client; who = Some turn.who; part = drawn.part; locks = 0; join = None } in
    let r : Reply = reply.Begun t in
    let e = event.Call turn.client k.epoch turn.number (call.Begin seen) in
    let x = c.begun.result in
    let n = c.max-self.result in
    let ready = c.requires.ready.2 in
    let begun : c.draw.new.self ≡ record (with_trans k t l) { coordinator = z } = drawn.kept ∙ ap (λ (u : TransId). record (with_trans k u l) { coordinator = z }) drawn.id in
    let comes : (who : List ℕ) (time : ℕ) → Comes (Begins t turn.client who time) k.coordinator z = subst (λ (u : TransId). (who : List ℕ) (time : ℕ) → Comes (Begins u turn.client who time) k.coordinator z) drawn.id drawn.begun in
    let is : x ≡ told_answer (Some r) (act.Drawn t ∷ []) =
    c.begun.ensures ∙ ap (told_answer (Some (reply.Begun c.in_ok-trans.trans))) (c.new.ensures ∙ c.push_reserved.ensures.items ∙ ap (λ (ys : List Act). ys ++ act.Drawn c.in_ok-trans.trans ∷ []) c.in_ok-acts.ensures.items)
    ∙ ap (λ (u : TransId). told_answer (Some (reply.Begun u)) (act.Drawn u ∷ [])) drawn.id in
    let none : many_of k ≡ None = sym c.too_many.ensures ∙ c.in_default.is in
    let clock : n ≡ max k.clock seen.ts = c.max-self.ensures ∙ ap (λ (y : ServerState _). max y.clock seen.ts) begun in
    let new = next_new k.servers k.server k.coordinator k.joins k.lives ready.paired ready.seat.0 in
    let after : ServerState g.row.V.Denot = record k {
      sessions = counted_in k.sessions turn r;
      clock = n;
      coordinator = z;
      dead = without_client turn.client k.dead;
      lives = map.insert k.lives t l;
      waits = live_calls turn.client z k.joins (without_dead turn.client k.dead k.waits);
      locks = entered k.locks t;
    } in
    let cleared_now : c.clear-2.new.self ≡ cleared (record (with_trans k t l) { coordinator = z; clock = n }) turn.client = c.clear-2.ensures ∙ ap (λ (y : ServerState _). cleared (record y { clock = n }) turn.client) begun in
    let counted : c.count.new.self ≡ counted_in k.sessions turn r =
    c.count.ensures ∙ ap (λ (y : ServerState _). counted_in y.sessions turn (reply.Begun c.in_ok-trans.trans)) cleared_now ∙ ap (λ (u : TransId). counted_in k.sessions turn (reply.Begun u)) drawn.id in
    let kept : record (c.clear-2.new.self) { sessions = c.count.new.self } ≡ after = (λ i. record (cleared_now i) { sessions = counted i }) in
    let named : AreNamed k.waits = named_all k.server k.epoch k.given (count_of k.coordinator) k.sizes k.lives k.waits ready.waits.calls in
    let away : AreOthers t k.waits = none_newer k.server k.epoch k.given (count_of k.coordinator) k.sizes k.lives t k.waits ready.seat.0 (omega arith) ready.waits.calls in
    subst (λ (y : ServerState _). IsStep G k y e (Ok x)) (sym kept)
    (left_step G k after refl refl refl refl (left_same G k.vault) e x c.requires.up (λ ns h. begun_notes c.requires.ready.0 serves k turn.client seen.ts turn.who l z ready (comes turn.who seen.ts) ns h)
    (λ told a h. subst (λ (m : ℕ). Stepped a faults faults held (record after { clock = m }) e x) (sym clock)
    (begin_stepped a held k turn.client turn.number (session_of turn c.requires.turn) seen drawn.part z faults faults x (entered k.locks t) h c.requires.turn.client c.requires.up c.requires.turn.session c.requires.turn.number ready.raised none new
    (λ u q. ap (λ y. map.get y q) (entering-keeps-held k.locks t u)) drawn.own drawn.intents drawn.counts drawn.one (comes turn.who seen.ts) named away refl (entering-keeps-held k.locks t) is))
    (reply_given faults faults (G.allowance k.vault) k.is_down r (act.Drawn t ∷ []) x is (counts_none faults faults k.is_down (Some r) refl refl c.requires.up) c.requires.up tt)
    (λ m h. begin_ready m serves k turn l n z c.requires.turn refl refl drawn.one comes refl drawn.own (new_within k.sizes turn.client (Some turn.who) drawn.part drawn.intents drawn.counts h.sized) (few_of k none) (omega (arith, clock)) (omega (arith, clock, h.clock, c.requires.time)) h)
    (λ on. subst (λ (y : Answer). HasTurned (Some order.Next) k after e y.kept) (sym is) (counts_on k after turn c.requires.turn (call.Begin seen) r tt (omega (arith, clock)) tt tt refl)))

-- as many count as there may be
pub returns-in-Some : goal.returns-in-Some
returns-in-Some g c =
    let k = c.args.self.now in
    let G = g.V.Vault in
    let turn = c.args.turn.now in
    let e = event.Call turn.client k.epoch turn.number (call.Begin c.args.seen) in
    let f : Refusal = refusal.TooMany what.Transactions 64 in
    let same : c.in-Some.refusal ≡ f = over_is (nat_le 64 (counted_of k.coordinator + length k.joins.lives)) f c.in-Some.refusal (sym c.too_many.ensures ∙ c.in-Some.is) in
    let many : many_of k ≡ Some f = sym c.too_many.ensures ∙ c.in-Some.is ∙ ap Some same in
    let so = c.refuse.ensures.answer ∙ ap (λ (x : Refusal). refused_answer x []) same in
    let kept : c.refuse.new.self ≡ record (cleared k turn.client) { sessions = counted_in k.sessions turn (reply.Refused f) } =
    c.refuse.ensures.kept ∙ ap (λ (y : ServerState _). record y { sessions = counted_in y.sessions turn (reply.Refused c.in-Some.refusal) }) c.clear.ensures
    ∙ ap (λ (x : Refusal). record (cleared k turn.client) { sessions = counted_in k.sessions turn (reply.Refused x) }) same in
    plain_step G k c.refuse.new.self turn (call.Begin c.args.seen) c.refuse.result (reply.Refused f) [] (ap (λ (y : ServerState _). y.vault) kept) (ap (λ (y : ServerState _). y.server) kept) (ap (λ (y : ServerState _). y.servers) kept) (ap (λ (y : ServerState _). y.sizes) kept)
    (ap (λ (y : ServerState _). y.epoch) kept) c.requires.up (ap (λ (y : ServerState _). y.is_down) kept ∙ c.requires.up) (subst (KeepsNotes k) (sym kept) (λ ns h. h)) refl so refl (λ m n b. tt)
    (λ n h. subst (λ (y : ServerState _). IsReady (n + 1) (G.serves k.vault) y) (sym kept) (refused_ready n (G.serves k.vault) k turn (reply.Refused f) c.requires.turn (record { inside = tt; times = tt }) h))
    (λ told a h. subst (λ (y : ServerState _). Stepped a (G.faults k.vault) (G.faults k.vault) (G.held k.vault) y e c.refuse.result) (sym kept)
    (begin_refused_stepped a (G.held k.vault) k turn.client turn.number (session_of turn c.requires.turn) c.args.seen (G.faults k.vault) (G.faults k.vault) c.refuse.result h c.requires.turn.client c.requires.up c.requires.turn.session c.requires.turn.number many
    (named_all k.server k.epoch k.given (count_of k.coordinator) k.sizes k.lives k.waits c.requires.ready.2.waits.calls) so))
    (counts_refused k c.refuse.new.self turn c.requires.turn (call.Begin c.args.seen) f tt (ap (λ (y : ServerState _). y.clock) kept) (ap (λ (y : ServerState _). y.sessions) kept))

-- there is no room for it
pub returns-in_err-trans : goal.returns-in_err-trans
returns-in_err-trans g c =
    let k = c.args.self.now in
    back_without g.V.Vault k c.draw.new.self (event.Call c.args.turn.now.client k.epoch c.args.turn.now.number (call.Begin c.args.seen)) c.from_residual-in_err-trans.result c.in_err-trans.ensures.err c.from_residual-in_err-trans.ensures.0
