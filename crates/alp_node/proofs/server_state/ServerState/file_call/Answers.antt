use Rattle.std.specs.FinMap as map
use Rattle.std.specs.Prelude.{None, Some, Bool, IsTrue}
use Rattle.std.specs.Option.{option_copied}
use Rattle.std.proofs.Common.{◌≡◌, ℕ, length, ap, refl, sym, ◌∙◌, subst}
use Rattle.alp_journal.specs.declared.event.Event.TheVariants as event
use Rattle.alp_vault.specs.Contents.{Contents}
use Rattle.alp_coord.specs.Coordinators.{count_of}
use Rattle.alp_node.specs.Asks.{IsAsked}
use Rattle.alp_node.specs.ServerState.{IsAs, IsReady}
use Rattle.alp_locks.specs.Tables.{holding}
use Rattle.alp_node.specs.Served.{AreLivesSound}
use Rattle.alp_node.specs.Standings.{standing_of, refusal_at}
use Rattle.alp_node.specs.Steps.{IsStep, IsTurn}
use Rattle.alp_node.specs.declared.server_state.ServerState.{ServerState}
use Rattle.alp_node.proofs.BehindLemmas.{step_behind}
use Rattle.alp_node.specs.Waits.{has_waiting}
use Rattle.alp_node.proofs.BesideLemmas.{AreNamed, HasNoCall, idle_told}
use Rattle.alp_node.proofs.KeptLemmas.{as_with, same_live}
use Rattle.alp_node.proofs.WaitLemmas.{named_all, none_waiting}
use Rattle.alp_node.proofs.LookLemmas.{without_step, look_unseen, looks_left}
use Rattle.alp_node.proofs.ReadyLemmas.{ready_with}
use Rattle.alp_node.proofs.StandingLemmas.{WorksHere, works_here, works_own, work_idle, refused_calm}
use Rattle.alp_node.proofs.ServedLemmas.{at_once_stepped}
use Rattle.alp_node.proofs.ShapeLemmas.{shape_quiet, shape_inside, shape_stepped}
use Rattle.alp_node.specs.Shapes.{shape_of}
use Rattle.alp_node.specs.declared.lives.Live.{Live}
use Rattle.alp_node.proofs.StepLemmas.{refused_step}
use Rattle.alp_node.proofs.server_state.ServerState.file_call.Goals as goal

-- it is refused at once
pub returns-in-Some : goal.returns-in-Some
returns-in-Some g c =
    let G = g.V.Vault in
    let k = c.args.self.now in
    let turn = c.args.turn.now in
    let t = c.args.trans in
    let refuse = c.refuse in
    let f = c.in-Some.refusal in
    let at : refusal_at (has_waiting turn.client t k.waits) (standing_of k turn.client t) ≡ Some f = sym c.part_refusal.ensures ∙ c.in-Some.is in
    let calm = refused_calm (has_waiting turn.client t k.waits) (standing_of k turn.client t) f at in
    refused_step G k refuse.new.self turn c.args.call.now refuse.result f calm.0 c.requires.turn c.requires.up refuse.ensures.kept refuse.ensures.answer
    (λ told a h. at_once_stepped a (G.faults k.vault) (G.faults k.vault) (G.held k.vault) k turn t c.args.call.now f refuse.result h c.requires.turn c.requires.up
    (named_all k.server k.epoch k.given (count_of k.coordinator) k.sizes k.lives k.waits c.requires.ready.2.waits.calls) c.requires.named at refuse.ensures.answer)
    calm.1

pub returns-in-Some-shape_refusal : goal.returns-in-Some-shape_refusal
returns-in-Some-shape_refusal g c =
    let G = g.V.Vault in
    let k = c.args.self.now in
    let turn = c.args.turn.now in
    let t = c.args.trans in
    let f = c.in-Some-shape_refusal.refusal in
    let refuse = c.refuse-in-Some-shape_refusal in
    let works = work_idle (has_waiting turn.client t k.waits) (standing_of k turn.client t) (sym c.part_refusal.ensures ∙ c.in_default.is) in
    let l : Live = c.in-Some-get.live.now in
    let there : map.get k.lives t ≡ Some l = sym c.in-Some-get.ensures in
    let mine : l.client ≡ turn.client = (works_own c.requires.ready.0 (G.serves k.vault) k turn.client t l c.requires.ready.2 works.0 there).0 in
    let named : AreNamed k.waits = named_all k.server k.epoch k.given (count_of k.coordinator) k.sizes k.lives k.waits c.requires.ready.2.waits.calls in
    let away : HasNoCall turn.client t k.waits = none_waiting k.server k.epoch k.given (count_of k.coordinator) k.sizes k.lives turn.client t l k.waits there mine works.1 c.requires.ready.2.waits.calls in
    let is : shape_of k.server k.epoch k.given (length l.part.opens.items) c.args.call.now ≡ Some f =
    ap (λ (n : ℕ). shape_of k.server k.epoch k.given n c.args.call.now) (sym l.part.opens.ok.0 ∙ sym c.len.ensures) ∙ sym c.shape_refusal.ensures ∙ c.in-Some-shape_refusal.is in
    refused_step G k refuse.new.self turn c.args.call.now refuse.result f (shape_quiet k.server k.epoch k.given (length l.part.opens.items) c.args.call.now f is) c.requires.turn c.requires.up refuse.ensures.kept refuse.ensures.answer
    (λ told a h. shape_stepped a (G.faults k.vault) (G.faults k.vault) (G.held k.vault) k turn t c.args.call.now f refuse.result h c.requires.ready.2.raised c.requires.turn c.requires.up c.requires.named c.requires.served works.0 (idle_told a turn.client t k.waits h.waits named away.idle) l there is refuse.ensures.answer)
    (shape_inside k.server k.epoch k.given (length l.part.opens.items) c.args.call.now f is)

pub asks-requires-clause-part : goal.asks-requires-clause-part
asks-requires-clause-part g c l there = (c.requires.ready.2.within c.args.trans l there).part

pub lock_call-requires-clause-works : goal.lock_call-requires-clause-works
lock_call-requires-clause-works g c =
    let k = c.args.self.now in
    let turn = c.args.turn.now in
    let t = c.args.trans in
    let works = work_idle (has_waiting turn.client t k.waits) (standing_of k turn.client t) (sym c.part_refusal.ensures ∙ c.in_default.is) in
    ap (λ (y : ServerState _). standing_of y turn.client t) c.in-Ok.ensures.kept ∙ works.0

pub lock_call-requires-clause-idle : goal.lock_call-requires-clause-idle
lock_call-requires-clause-idle g c =
    let k = c.args.self.now in
    let turn = c.args.turn.now in
    let t = c.args.trans in
    let works = work_idle (has_waiting turn.client t k.waits) (standing_of k turn.client t) (sym c.part_refusal.ensures ∙ c.in_default.is) in
    ap (λ (y : ServerState _). has_waiting turn.client t y.waits) c.in-Ok.ensures.kept ∙ works.1

pub lock_call-requires-clause-turn : goal.lock_call-requires-clause-turn
lock_call-requires-clause-turn g c = subst (λ (y : ServerState _). IsTurn y.sessions c.args.turn.now) (sym c.in-Ok.ensures.kept) c.requires.turn

pub lock_call-requires-clause-up : goal.lock_call-requires-clause-up
lock_call-requires-clause-up g c = ap (λ (y : ServerState _). y.is_down) c.in-Ok.ensures.kept ∙ c.requires.up

pub lock_call-requires-clause-ready : goal.lock_call-requires-clause-ready
lock_call-requires-clause-ready g c =
    let G = g.V.Vault in
    let k = c.args.self.now in
    let N = c.asks.new.self in
    (c.requires.ready.0, c.requires.ready.1, subst (IsReady c.requires.ready.0 (G.serves N.vault)) (sym c.in-Ok.ensures.kept) (ready_with c.requires.ready.0 (G.serves k.vault) (G.serves N.vault) k N.vault c.in-Ok.ensures.looked.1 c.requires.up c.requires.ready.2))

pub lock_call-requires-clause-known : goal.lock_call-requires-clause-known
lock_call-requires-clause-known g c told =
    let G = g.V.Vault in
    let k = c.args.self.now in
    let N = c.asks.new.self in
    let left = c.in-Ok.ensures.looked.0 in
    let (a, h) = c.requires.known (subst IsTrue left.same.telling told) in
    (a, subst (IsAs a (G.held N.vault)) (sym c.in-Ok.ensures.kept) (as_with a (G.held k.vault) (G.held N.vault) k N.vault left.contents h))

pub lock_call-requires-clause-sound : goal.lock_call-requires-clause-sound
lock_call-requires-clause-sound g c told =
    let G = g.V.Vault in
    let k = c.args.self.now in
    let N = c.asks.new.self in
    let left = c.in-Ok.ensures.looked.0 in
    subst (AreLivesSound (G.held N.vault)) (sym c.in-Ok.ensures.kept) (subst (λ (x : Contents). AreLivesSound x k) (sym left.contents) (c.requires.sound (subst IsTrue left.same.telling told)))

pub lock_call-requires-clause-shape : goal.lock_call-requires-clause-shape
lock_call-requires-clause-shape g c m now =
    let k = c.args.self.now in
    let N = c.asks.new.self in
    let l : Live = c.in-Some-get.live.now in
    let there : map.get k.lives c.args.trans ≡ Some m = sym (ap (λ (y : ServerState _). map.get y.lives c.args.trans) c.in-Ok.ensures.kept) ∙ now in
    let same : Some l ≡ Some m = c.in-Some-get.ensures ∙ there in
    (λ i. shape_of (c.in-Ok.ensures.kept i).server (c.in-Ok.ensures.kept i).epoch (c.in-Ok.ensures.kept i).given (length m.part.opens.items) c.args.call.now)
    ∙ ap (λ (n : ℕ). shape_of k.server k.epoch k.given n c.args.call.now) (sym (ap (λ (y : Live). length y.part.opens.items) (same_live l m same)) ∙ sym l.part.opens.ok.0 ∙ sym c.len.ensures) ∙ sym c.shape_refusal.ensures ∙ c.in_default-shape_refusal.is

pub lock_call-requires-clause-asked : goal.lock_call-requires-clause-asked
lock_call-requires-clause-asked g c m now =
    let G = g.V.Vault in
    let k = c.args.self.now in
    let N = c.asks.new.self in
    let left = c.in-Ok.ensures.looked.0 in
    let there : map.get k.lives c.args.trans ≡ Some m = sym (ap (λ (y : ServerState _). map.get y.lives c.args.trans) c.in-Ok.ensures.kept) ∙ now in
    let t = c.args.trans in
    subst (λ (y : ServerState _). IsAsked (G.tells N.vault) (G.held N.vault).cells (holding y.locks.held t) m.part c.args.call.now c.in-Ok.needs) (sym c.in-Ok.ensures.kept)
    (subst (λ (b : Bool). IsAsked b (G.held N.vault).cells (holding k.locks.held t) m.part c.args.call.now c.in-Ok.needs) (sym left.same.telling)
    (subst (λ (x : Contents). IsAsked (G.tells k.vault) x.cells (holding k.locks.held t) m.part c.args.call.now c.in-Ok.needs) (sym left.contents) (c.in-Ok.ensures.asked m there)))

pub returns-in-Ok : goal.returns-in-Ok
returns-in-Ok g c =
    let G = g.V.Vault in
    let k = c.args.self.now in
    let turn = c.args.turn.now in
    let call = c.args.call.now in
    let N = c.asks.new.self in
    let kept : N ≡ record k { vault = N.vault } = c.in-Ok.ensures.kept in
    step_behind G k c.lock_call.new.self N.vault c.in-Ok.ensures.looked.0 c.in-Ok.ensures.looked.1 c.in-Ok.ensures.looked.2 c.requires.up (event.Call turn.client k.epoch turn.number call) c.lock_call.result
    (subst (λ (y : ServerState _). IsStep G y c.lock_call.new.self (event.Call turn.client y.epoch turn.number call) c.lock_call.result) kept c.lock_call.ensures)

pub returns-in-Err : goal.returns-in-Err
returns-in-Err g c =
    let G = g.V.Vault in
    let k = c.args.self.now in
    let turn = c.args.turn.now in
    let t = c.args.trans in
    let N = c.asks.new.self in
    let l : Live = c.in-Some-get.live.now in
    let there : map.get k.lives t ≡ Some l = sym c.in-Some-get.ensures in
    let works = work_idle (has_waiting turn.client t k.waits) (standing_of k turn.client t) (sym c.part_refusal.ensures ∙ c.in_default.is) in
    let here : WorksHere k turn.client t = works_here c.requires.ready.0 (G.serves k.vault) k c.requires.ready.2 turn.client t works.0 in
    let own : l.client ≡ turn.client = (works_own c.requires.ready.0 (G.serves k.vault) k turn.client t l c.requires.ready.2 works.0 there).0 in
    let named : AreNamed k.waits = named_all k.server k.epoch k.given (count_of k.coordinator) k.sizes k.lives k.waits c.requires.ready.2.waits.calls in
    let away : HasNoCall turn.client t k.waits = none_waiting k.server k.epoch k.given (count_of k.coordinator) k.sizes k.lives turn.client t l k.waits there own works.1 c.requires.ready.2.waits.calls in
    let look = c.in-Err.ensures.looked in
    let w = c.without_answer in
    without_step G k k.lives N.vault N w.new.self turn t c.args.call.now c.in-Err.fault w.result c.in-Err.ensures.kept look c.requires.turn c.requires.up c.requires.named (λ a h. idle_told a turn.client t k.waits h.waits named away.idle) works.0
    (look_unseen G k turn t l N.vault there own (looks_left G k.vault N.vault c.in-Err.fault look) c.requires.up here.unvoted) w.ensures.failed w.ensures.stopped w.ensures.memory

-- a part at work is live
pub unreachable-requires : goal.unreachable-requires
unreachable-requires g c =
    let k = c.args.self.now in
    let turn = c.args.turn.now in
    let t = c.args.trans in
    let works = work_idle (has_waiting turn.client t k.waits) (standing_of k turn.client t) (sym c.part_refusal.ensures ∙ c.in_default.is) in
    let mine : WorksHere k turn.client t = works_here c.requires.ready.0 (g.V.Vault.serves k.vault) k c.requires.ready.2 turn.client t works.0 in
    let none : map.get k.lives t ≡ None = sym c.get.ensures ∙ ap option_copied c.in_default-get.is in
    let wrong : None ≡ Some mine.live = sym none ∙ mine.there in
    cc
