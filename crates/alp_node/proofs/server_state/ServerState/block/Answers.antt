use Rattle.std.specs.Prelude.{Option, None, Some, IsSome}
use Rattle.std.specs.FinMap as map
use Rattle.std.proofs.Common.{◌≡◌, ◌+◌, List, [], ◌∷◌, ◌++◌, false, true, length, refl, sym, ap, ◌∙◌, subst}
use Rattle.alp_base.specs.declared.ids.TransId.{TransId}
use Rattle.alp_files.specs.Locks.{Need}
use Rattle.alp_files.proofs.UndoLemmas.{when_ok, when_err}
use Rattle.alp_files.specs.declared.refusal.Refusal.TheVariants as refusal
use Rattle.alp_files.specs.declared.reply.Reply.TheVariants as reply
use Rattle.alp_journal.specs.declared.event.Event.TheVariants as event
use Rattle.alp_locks.specs.Asks.{blocker, with_waiter}
use Rattle.alp_locks.specs.Sound.{IsPrepared}
use Rattle.alp_locks.specs.Tables.{holding}
use Rattle.alp_queue.specs.Order.{waits}
use Rattle.alp_queue.specs.declared.waiter.Waiter.{Waiter}
use Rattle.alp_coord.specs.Coordinators.{count_of}
use Rattle.alp_node.specs.Asks.{AreGiven, plan_of}
use Rattle.alp_node.specs.ServerState.{IsReady}
use Rattle.alp_node.specs.Shapes.{counts_then, too_locked, may_wait}
use Rattle.alp_node.specs.Steps.{Stepped, counted_in}
use Rattle.alp_node.specs.declared.lives.Live.{Live}
use Rattle.alp_node.specs.declared.lock_counts.LockCounts.{LockCounts}
use Rattle.alp_node.specs.declared.server_state.ServerState.{ServerState}
use Rattle.alp_node.specs.declared.waits.WaitingCall.{WaitingCall}
use Rattle.alp_node.proofs.AskLemmas.{asked_given, asked_told}
use Rattle.alp_node.proofs.BesideLemmas.{AreNamed, HasNoCall, idle_told}
use Rattle.alp_node.proofs.BlockLemmas.{new_call, blocked_locks, blocked_kept, blocked_is, blocked_ready, waits_stepped}
use Rattle.alp_node.proofs.BehindLemmas.{same_without, same_err}
use Rattle.alp_node.proofs.SeatLemmas.{KeepsNotes}
use Rattle.alp_node.proofs.StandingLemmas.{WorksHere, works_here}
use Rattle.alp_node.proofs.LockCallLemmas.{conflict_stepped}
use Rattle.alp_node.proofs.ShapeLemmas.{shape_given}
use Rattle.alp_node.proofs.StepLemmas.{refused_step, plain_step}
use Rattle.alp_node.proofs.TurnLemmas.{counts_refused}
use Rattle.alp_node.proofs.WaitLemmas.{named_all, none_waiting, asks_none, idle_in}
use Rattle.alp_node.proofs.server_state.ServerState.block.Goals as goal

pub wait-requires-clause-prepared : goal.wait-requires-clause-prepared
wait-requires-clause-prepared g c = subst (IsPrepared c.args.self.now.locks.held) (sym c.requires.plan) refl

pub wait-requires-clause-idle : goal.wait-requires-clause-idle
wait-requires-clause-idle g c =
    let k = c.args.self.now in
    let turn = c.args.turn.now in
    let mine : WorksHere k turn.client c.args.trans = works_here c.requires.ready.0 (g.V.Vault.serves k.vault) k c.requires.ready.2 turn.client c.args.trans c.requires.works in
    let calls = c.requires.ready.2.waits.calls in
    let away : HasNoCall turn.client c.args.trans k.waits = none_waiting k.server k.epoch k.given (count_of k.coordinator) k.sizes k.lives turn.client c.args.trans mine.live k.waits mine.there mine.own c.requires.idle calls in
    ap (λ (w : Waiter). waits k.locks.waiting w.trans) c.requires.plan
    ∙ idle_in k.server k.epoch k.given k.lives k.waits c.args.trans k.locks.waiting (asks_none c.args.trans k.waits away.others) c.requires.ready.2.waits.queued

-- it fails where another is in its way
pub returns-then-not-may_wait : goal.returns-then-not-may_wait
returns-then-not-may_wait g c =
    let G = g.V.Vault in
    let k = c.args.self.now in
    let turn = c.args.turn.now in
    let t = c.args.trans in
    let call = c.args.call.now in
    let ns : List Need = c.args.asked.1.needs in
    let mine : WorksHere k turn.client t = works_here c.requires.ready.0 (G.serves k.vault) k c.requires.ready.2 turn.client t c.requires.works in
    let l : Live = mine.live in
    let named : AreNamed k.waits = named_all k.server k.epoch k.given (count_of k.coordinator) k.sizes k.lives k.waits c.requires.ready.2.waits.calls in
    let away : HasNoCall turn.client t k.waits = none_waiting k.server k.epoch k.given (count_of k.coordinator) k.sizes k.lives turn.client t l k.waits mine.there mine.own c.requires.idle c.requires.ready.2.waits.calls in
    let never : may_wait call ≡ false = sym c.may_wait.ensures ∙ c.if-not-may_wait.true in
    let few : too_locked k.sizes.area l.part.counts.cells (counts_then l.locks (holding k.locks.held t) ns call).made ≡ None =
    ap (λ (n : LockCounts). too_locked k.sizes.area l.part.counts.cells n.made) (sym (c.requires.counts l mine.there)) ∙ c.requires.few l mine.there in
    let blocked : blocker k.locks.held t (plan_of k.locks t ns).rises ≡ Some c.args.holder = ap (λ (w : Waiter). blocker k.locks.held t w.rises) (sym c.requires.plan) ∙ c.requires.blocked in
    refused_step G k c.refuse.new.self turn call c.refuse.result (refusal.LockConflict c.args.holder) refl c.requires.turn c.requires.up c.refuse.ensures.kept c.refuse.ensures.answer
    (λ told a h. conflict_stepped a (G.faults k.vault) (G.faults k.vault) (G.held k.vault) k turn t l call ns c.args.holder c.refuse.result h c.requires.ready.2.raised c.requires.turn c.requires.up mine.there c.requires.works (idle_told a turn.client t k.waits h.waits named away.idle) never
    (subst (λ (x : Option TransId). IsSome x) (sym c.requires.named) refl) (asked_told (G.tells k.vault) (G.held k.vault).cells (holding k.locks.held t) l.part call ns (c.requires.asked l mine.there) told) (c.requires.shape l mine.there) few c.requires.named c.requires.ready.2.sound blocked c.refuse.ensures.answer)
    tt

-- there is no room for the call, or none for its request
pub returns-in_err-push : goal.returns-in_err-push
returns-in_err-push g c =
    let k = c.args.self.now in
    same_without g.V.Vault k _ (event.Call c.args.turn.now.client k.epoch c.args.turn.now.number c.args.call.now) c.from_residual-in_err-push.result (ap (λ (ws : List WaitingCall). record k { waits = ws }) c.in_err-push.ensures.err) c.from_residual-in_err-push.ensures.0

pub returns-then-is_err : goal.returns-then-is_err
returns-then-is_err g c =
    let k = c.args.self.now in
    let waits_again : c.take_back.new.self ≡ k.waits = c.take_back.ensures k.waits _ c.in_ok-push.ensures.ok in
    let locks_again : c.wait.new.self ≡ k.locks = when_err c.wait.result _ c.wait.ensures.err (sym c.if-is_err.ensures.value) in
    same_err g.V.Vault k _ (event.Call c.args.turn.now.client k.epoch c.args.turn.now.number c.args.call.now) _ (λ i. record k { waits = waits_again i; locks = locks_again i })

-- it waits
pub returns : goal.returns
returns g c =
    let G = g.V.Vault in
    let k = c.args.self.now in
    let turn = c.args.turn.now in
    let t = c.args.trans in
    let call = c.args.call.now in
    let ns : List Need = c.args.asked.1.needs in
    let mine : WorksHere k turn.client t = works_here c.requires.ready.0 (G.serves k.vault) k c.requires.ready.2 turn.client t c.requires.works in
    let l : Live = mine.live in
    let ready = c.requires.ready.2 in
    let faults = G.faults k.vault in
    let e = event.Call turn.client k.epoch turn.number call in
    let away : HasNoCall turn.client t k.waits = none_waiting k.server k.epoch k.given (count_of k.coordinator) k.sizes k.lives turn.client t l k.waits mine.there mine.own c.requires.idle ready.waits.calls in
    let chooses : may_wait call ≡ true = sym c.may_wait.ensures ∙ c.if-not-may_wait.false in
    let counts_are : c.args.asked.0 ≡ counts_then l.locks (holding k.locks.held t) ns call = c.requires.counts l mine.there in
    let few : too_locked k.sizes.area l.part.counts.cells (counts_then l.locks (holding k.locks.held t) ns call).made ≡ None = ap (λ (n : LockCounts). too_locked k.sizes.area l.part.counts.cells n.made) (sym counts_are) ∙ c.requires.few l mine.there in
    let blocked : blocker k.locks.held t (plan_of k.locks t ns).rises ≡ Some c.args.holder = ap (λ (w : Waiter). blocker k.locks.held t w.rises) (sym c.requires.plan) ∙ c.requires.blocked in
    let files : AreGiven k.server k.epoch k.given ns = asked_given k.server k.epoch k.given (G.tells k.vault) (G.held k.vault).cells (holding k.locks.held t) l.part call ns (c.requires.asked l mine.there) (ready.opened t l mine.there)
    (shape_given k.server k.epoch k.given (length l.part.opens.items) call (c.requires.shape l mine.there)) c.requires.some in
    let cloned : c.in_ok-copy_of.field-0 ≡ call = c.in_ok-copy_of.ensures in
    let waits_are : c.push.new.self ≡ k.waits ++ new_call k turn t l call ns ∷ [] =
    c.in_ok-push.ensures.ok ∙ (λ i. k.waits ++ (record { client = turn.client; number = turn.number; trans = t; call = cloned i; counts = Some (counts_are i); is_granted = false }) ∷ []) in
    let locks_are : c.wait.new.self ≡ blocked_locks k turn t l call ns =
    when_ok c.wait.result _ c.wait.ensures.after (sym c.if-is_err.ensures.value) ∙ ap (with_waiter k.locks) c.requires.plan ∙ blocked_is k turn t l call ns (ready.known t l mine.there) in
    let kept : c.refuse-2.new.self ≡ blocked_kept k turn t l call ns =
    c.refuse-2.ensures.kept ∙ (λ i. record k { sessions = counted_in k.sessions turn (reply.Refused refusal.NotYet); waits = waits_are i; locks = locks_are i }) in
    plain_step G k c.refuse-2.new.self turn call c.refuse-2.result (reply.Refused refusal.NotYet) [] (ap (λ (y : ServerState _). y.vault) kept) (ap (λ (y : ServerState _). y.server) kept) (ap (λ (y : ServerState _). y.servers) kept) (ap (λ (y : ServerState _). y.sizes) kept) (ap (λ (y : ServerState _). y.epoch) kept)
    c.requires.up (ap (λ (y : ServerState _). y.is_down) kept ∙ c.requires.up) (subst (KeepsNotes k) (sym kept) (λ ns h. h)) refl c.refuse-2.ensures.answer refl (λ m n b. tt)
    (λ n h. subst (λ (y : ServerState _). IsReady (n + 1) (G.serves k.vault) y) (sym kept)
    (blocked_ready k turn t l call ns n (G.serves k.vault) c.requires.turn mine.there mine.own mine.unvoted away.others c.requires.named c.requires.formed c.requires.some (c.requires.shape l mine.there) few files h))
    (λ told a h. subst (λ (y : ServerState _). Stepped a faults faults (G.held k.vault) y e c.refuse-2.result) (sym kept)
    (waits_stepped k turn t l call ns a faults faults (G.held k.vault) c.requires.ready.0 (G.serves k.vault) ready h c.requires.turn c.requires.up mine.there mine.own c.requires.works c.requires.idle (subst (λ (x : Option TransId). IsSome x) (sym c.requires.named) refl) c.requires.named
    (asked_told (G.tells k.vault) (G.held k.vault).cells (holding k.locks.held t) l.part call ns (c.requires.asked l mine.there) told) (c.requires.shape l mine.there) few chooses c.args.holder blocked c.refuse-2.result c.refuse-2.ensures.answer))
    (counts_refused k c.refuse-2.new.self turn c.requires.turn call refusal.NotYet tt (ap (λ (y : ServerState _). y.clock) kept) (ap (λ (y : ServerState _). y.sessions) kept))
