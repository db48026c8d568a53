-- calls that are kept waiting: for their locks, or because another call of their part waits
use Rattle.std.specs.Prelude.{Bool, true, false, ◌&&◌, is_some, is_none, Option, None, Some}
use Rattle.std.specs.List.{AllByRecursion}
use Rattle.std.specs.Option.{option_or}
use Rattle.std.specs.FinMap as map
use Rattle.std.proofs.Common.{inl, inr, ◌⊎◌, ◌≡◌, ℕ, ◌+◌, ◌<◌, List, [], ◌∷◌, ◌++◌, length, refl, sym, ◌∙◌, ap, subst, arith, eq-eqb}
use Rattle.alp_base.specs.declared.choices.Choice.{Choice}
use Rattle.alp_base.specs.declared.choices.Choice.TheVariants as choice
use Rattle.alp_base.specs.declared.ids.JoinNo.{JoinNo}
use Rattle.alp_base.specs.declared.ids.TransId.{TransId}
use Rattle.alp_base.specs.declared.key.Resource.{Resource}
use Rattle.alp_files.specs.Holdings.{held_by, join_held}
use Rattle.alp_files.specs.declared.call.Call.{Call}
use Rattle.alp_files.specs.declared.call.Call.TheVariants as call
use Rattle.alp_files.specs.declared.reply.Reply.TheVariants as reply
use Rattle.alp_files.specs.declared.refusal.Refusal.TheVariants as refusal
use Rattle.alp_files.specs.Locks.{Need, IsFormed}
use Rattle.alp_queue.specs.Order.{placed}
use Rattle.alp_queue.specs.declared.waiter.Waiter.{Waiter}
use Rattle.alp_locks.specs.Tables.{Table, held_of, holding}
use Rattle.alp_locks.specs.Asks.{blocker, with_waiter}
use Rattle.alp_locks.specs.Releases.{is_free}
use Rattle.alp_locks.specs.Sound.{IsSound}
use Rattle.alp_locks.proofs.LawLemmas.{joined-holds}
use Rattle.alp_locks.proofs.PlanLemmas.{entered-known}
use Rattle.alp_locks.proofs.SoundLemmas.{each-more, each-placed, refuse-sound}
use Rattle.alp_trans.specs.Parts.{own_of}
use Rattle.alp_calls.specs.Parts.{seen}
use Rattle.alp_vault.specs.Contents.{Contents}
use Rattle.alp_journal.specs.declared.event.Event.TheVariants as event
use Rattle.alp_journal.specs.Coordinator.{Running}
use Rattle.alp_journal.specs.Counts.{request_in}
use Rattle.alp_journal.specs.Desk.{Session, Waiting, file_trans, waiting_of}
use Rattle.alp_journal.specs.Holder.{Life, new_life}
use Rattle.alp_journal.specs.Laws.{IsFree}
use Rattle.alp_journal.specs.Answers.{choice_of, shape_refusal, lock_refusal}
use Rattle.alp_journal.specs.Answered.{IsWaitingFor}
use Rattle.alp_journal.specs.Account.{Account, state_of, Leads}
use Rattle.alp_journal.proofs.RefusedCalls.{counted_as}
use Rattle.alp_journal.proofs.CallLemmas.{call_entry}
use Rattle.alp_journal.proofs.WaitingCalls.{waits_leads, with_wait, busy_finish_leads}
use Rattle.alp_turns.specs.Queues.{AreHeldAlike, request_if, request_for, request_at, queue_of}
use Rattle.alp_turns.proofs.RequestLemmas.{request, free_there}
use Rattle.alp_turns.proofs.MoveLemmas.{queue_with}
use Rattle.alp_coord.specs.Coordinators.{count_of}
use Rattle.alp_node.specs.Asks.{AreGiven, IsHeldHere, asks_of, plan_of}
use Rattle.alp_node.specs.Calls.{IsServedCall}
use Rattle.alp_node.specs.ServerState.{IsAs, IsReady, IsAlike, IsCaller, IsLife, IsAskedAs, IsWaitingAs}
use Rattle.alp_node.specs.Shapes.{shape_of, counts_then, too_locked, may_wait, ReadsSome}
use Rattle.alp_node.specs.Standings.{standing_of}
use Rattle.alp_node.specs.declared.served.Standing.TheVariants as standing
use Rattle.alp_node.specs.Steps.{Stepped, IsTurn, counted_in, refused_answer}
use Rattle.alp_node.specs.Waits.{waiting, waiting_calls, has_waiting, IsWithinLimits, IsFileCall, IsWaitingCall, IsOfOther, IsOfCalls}
use Rattle.alp_node.specs.declared.answer.Answer.{Answer as Handed}
use Rattle.alp_node.specs.declared.lives.Live.{Live}
use Rattle.alp_node.specs.declared.lock_counts.LockCounts.{LockCounts}
use Rattle.alp_node.specs.declared.server_state.ServerState.{ServerState}
use Rattle.alp_node.specs.declared.sessions.Turn.{Turn}
use Rattle.alp_node.specs.declared.waits.WaitingCall.{WaitingCall}
use Rattle.alp_node.proofs.BesideLemmas.{AreOthers, idle_told}
use Rattle.alp_journal.proofs.WaitLemmas.{turned}
use Rattle.alp_node.proofs.ConflictLemmas.{held_elsewhere}
use Rattle.alp_node.proofs.FinishLemmas.{turn_session, counts_as}
use Rattle.alp_node.proofs.GrantLemmas.{asked_below}
use Rattle.alp_node.proofs.HeldHere.{tidy_same, tidy_joined, tidy_needs, tidy_given}
use Rattle.alp_node.proofs.KeptLemmas.{session_of, IsLive, live_there, same_live, stepped_so}
use Rattle.alp_node.proofs.NoteCalls.{call_notes}
use Rattle.alp_node.proofs.NotedLemmas.{HasNoVoter}
use Rattle.alp_node.proofs.OtherLemmas.{told_last}
use Rattle.alp_node.proofs.PairedLemmas.{part_begun}
use Rattle.alp_node.proofs.StandingLemmas.{part_told, unvoted_told}
use Rattle.alp_node.proofs.LockCallLemmas.{lock_request, lock_choice, not_refused, asked_locks, shut_none, chosen, none_asked_free}
use Rattle.alp_node.proofs.ReadyLemmas.{counted_ready, numbered}
use Rattle.alp_node.proofs.ShapeLemmas.{IsShut, shape_cases, may_lock}
use Rattle.alp_node.proofs.WaitLemmas.{file_current, idle_pushed, named_all, asks_none, idle_in, pushed_each, pushed_apart, pushed_asks, asks_last}
use Rattle.alp_node.proofs.WithinLemmas.{MayLock}

-- the parts of the journal hold what the table says
held_alike : {V : Type 0} (a : Account) (held : Contents) (k : ServerState V) → IsAs a held k → AreHeldAlike a.holder k.locks.held
held_alike a held k h = record {
  live = λ t l is r. held_elsewhere a.holder.cells k.locks.held (a.locked t) t (map.get k.lives t) l (subst (λ (y : Option Life). IsAlike a.holder.cells k.locks.held (a.locked t) t (map.get k.lives t) y) is (h.lives t)) r;
  none = λ t is r. nothing t (map.get k.lives t) (subst (λ (y : Option Life). IsAlike a.holder.cells k.locks.held (a.locked t) t (map.get k.lives t) y) is (h.lives t)) r;
}
  where
    nothing : (t : TransId) (x : Option Live) → IsAlike a.holder.cells k.locks.held (a.locked t) t x None → (r : Resource) → holding k.locks.held t r ≡ None
    nothing t None alike r = alike r
    nothing t (Some l) alike r = absurd alike

-- ---- a Finish while another call of the part waits

module _ {V : Type 0} (a : Account) (before now : ℕ) (held : Contents) (k : ServerState V) (turn : Turn) (t : TransId) (v : Waiting) (x : Handed) (h : IsAs a held k) (is : IsTurn k.sessions turn) (up : k.is_down ≡ false) where
  abbrev kept_back : ServerState V
  kept_back = record k { sessions = counted_in k.sessions turn (reply.Refused refusal.NotYet) }

  pub busy_finish_stepped : (js : List JoinNo) → t.server ≡ k.server → a.fates t ≡ Running turn.client js → waiting_of (state_of a).desk turn.client t ≡ Some v → x ≡ refused_answer refusal.NotYet []
      → Stepped a before now held kept_back (event.Call turn.client k.epoch turn.number (call.Finish t true)) x
  busy_finish_stepped js own runs busy so =
      let leads : Leads false a (call_entry a turn.client turn.number (session_of turn is) (call.Finish t true) (reply.Refused refusal.NotYet) []) (counted_as a turn.client turn.number (session_of turn is) (reply.Refused refusal.NotYet)) =
      busy_finish_leads a turn.client turn.number (session_of turn is) t (new_life None turn.client []) v h.quiet (h.down ∙ up) (turn_session a held k turn h is) is.number (own ∙ sym h.server) {js = js} runs busy in
      stepped_so a before now held held k kept_back turn.client turn.number (session_of turn is) (call.Finish t true) false (reply.Refused refusal.NotYet) [] (counted_as a turn.client turn.number (session_of turn is) (reply.Refused refusal.NotYet)) x so h leads
      (counts_as a held k turn (reply.Refused refusal.NotYet) h is up) (λ e. cc) (omega (arith, h.clock))

-- ---- the call waits for its locks

module _ {V : Type 0} (k : ServerState V) (turn : Turn) (t : TransId) (l : Live) (c : Call) (ns : List Need) where
  abbrev pub plan : Waiter
  plan = plan_of k.locks t ns

  abbrev pub counts : LockCounts
  counts = counts_then l.locks (holding k.locks.held t) ns c

  abbrev pub new_call : WaitingCall
  new_call = record { client = turn.client; number = turn.number; trans = t; call = c; counts = Some counts; is_granted = false }

  -- the table with the request, and the server with the call
  abbrev pub blocked_locks : Table
  blocked_locks = record (k.locks) { waiting = placed k.locks.waiting plan }

  abbrev pub blocked_kept : ServerState V
  blocked_kept = record k { sessions = counted_in k.sessions turn (reply.Refused refusal.NotYet); waits = k.waits ++ new_call ∷ []; locks = blocked_locks }

  -- a transaction that the table knows is not entered anew
  pub blocked_is : is_some (map.get k.locks.held t) ≡ true → with_waiter k.locks plan ≡ blocked_locks
  blocked_is known = ap (λ (x : Table). record x { waiting = placed k.locks.waiting plan }) (entered-known k.locks t known)

  same_counts : (y z : LockCounts) → Some y ≡ Some z → y ≡ z
  same_counts y z e = cc

  -- the call is apart from all that wait
  others_apart : (ws : List WaitingCall) → AreOthers t ws → AllByRecursion (λ (v : WaitingCall). IsOfOther v new_call) ws
  others_apart [] away = tt
  others_apart (v ∷ vs) away = (ap (λ (b : Bool). is_some v.counts && b) (turned t v.trans) ∙ away.0, others_apart vs away.1)

  module _ (n : ℕ) (serves : Bool) (is : IsTurn k.sessions turn) (there : map.get k.lives t ≡ Some l) (own : l.client ≡ turn.client) (unvoted : HasNoVoter k.joins.lives t) (away : AreOthers t k.waits) (named : file_trans c ≡ Some t) (formed : IsFormed c) (some : ReadsSome c)
      (shape : shape_of k.server k.epoch k.given (length l.part.opens.items) c ≡ None) (few : too_locked k.sizes.area l.part.counts.cells counts.made ≡ None) (files : AreGiven k.server k.epoch k.given ns) where
    abbrev waiting_kept : ServerState V
    waiting_kept = record k { waits = k.waits ++ new_call ∷ []; locks = blocked_locks }

    blocked_sound : IsReady n serves k → IsSound blocked_locks
    blocked_sound h =
        subst IsSound (blocked_is (h.known t l there))
        (refuse-sound k.locks plan choice.Wait refl h.sound (idle_in k.server k.epoch k.given k.lives k.waits t k.locks.waiting (asks_none t k.waits away) h.waits.queued))

    may : MayLock k.sizes l counts
    may = may_lock k.sizes l (holding k.locks.held t) ns c few

    new_waiting : IsReady n serves k → IsWaitingCall k.server k.epoch k.given (count_of k.coordinator) k.sizes k.lives new_call
    new_waiting h = record {
      named = named;
      current = file_current k.epoch t c named;
      file = λ z counted. subst (IsFileCall k.server k.epoch k.given (count_of k.coordinator) k.sizes k.lives new_call) (same_counts counts z counted) (record {
        formed = formed;
        some = some;
        begun = λ its. part_begun k.servers k.server k.coordinator k.joins k.lives h.paired t l there its;
        limits = λ x at. subst (IsWithinLimits k.server k.epoch k.given k.sizes new_call counts) (same_live l x (sym there ∙ at)) (record { its = sym own; shape = shape; fewer = may.asked; locks = may.few; log = may.log });
      });
    }

    none_beyond : IsReady n serves k → IsHeldHere k.server k.epoch k.given (map.get plan.after)
    none_beyond h = record {
      unmade = λ m high. joined-holds ns (held_of k.locks.held t) (numbered k m) ∙ (λ i. join_held ((h.unheld t).unmade m high i) (asked_below k.server k.epoch k.given m ns files high i));
      tidy = tidy_same k.server k.epoch (λ r. join_held (holding k.locks.held t r) (held_by ns r)) (map.get plan.after) (λ r. joined-holds ns (held_of k.locks.held t) r)
          (tidy_joined k.server k.epoch (holding k.locks.held t) (held_by ns) (h.unheld t).tidy (tidy_needs k.server k.epoch ns (tidy_given k.server k.epoch k.given ns files)));
    }

    waiting_ready : IsReady n serves k → IsReady n serves waiting_kept
    waiting_ready h = record {
      serving = h.serving;
      halted = h.halted;
      sound = blocked_sound h;
      taken = h.taken;
      waits = record {
        calls = pushed_each (IsWaitingCall k.server k.epoch k.given (count_of k.coordinator) k.sizes k.lives) k.waits new_call h.waits.calls (new_waiting h);
        apart = pushed_apart k.waits new_call h.waits.apart (others_apart k.waits away);
        queued = each-placed (IsOfCalls k.server k.epoch k.given k.lives (k.waits ++ new_call ∷ [])) k.locks.waiting plan
            (each-more (IsOfCalls k.server k.epoch k.given k.lives k.waits) (IsOfCalls k.server k.epoch k.given k.lives (k.waits ++ new_call ∷ [])) (λ x o. record { live = o.live; asks = pushed_asks k.waits new_call x.trans o.asks; beyond = o.beyond }) k.locks.waiting h.waits.queued)
            (record { live = ap is_some there; asks = asks_last k.waits new_call refl refl; beyond = none_beyond h });
      };
      known = h.known;
      joins = h.joins;
      paired = h.paired;
      idle = idle_pushed k.joins.lives k.waits new_call unvoted h.idle;
      opens = h.opens;
      opened = h.opened;
      alive = h.alive;
      places = h.places;
      calls = h.calls;
      replies = h.replies;
      drawn = h.drawn;
      given = h.given;
      most = h.most;
      fits = h.fits;
      within = h.within;
      sized = h.sized;
      clock = h.clock;
      raised = h.raised;
      fated = h.fated;
      last = h.last;
      unheld = h.unheld;
      seat = h.seat;
      times = h.times;
    }

    pub blocked_ready : IsReady n serves k → IsReady (n + 1) serves blocked_kept
    blocked_ready h = counted_ready n serves waiting_kept turn (reply.Refused refusal.NotYet) is (record { inside = tt; times = tt }) (waiting_ready h)

  -- ---- as the journal tells it

  module _ (a : Account) (before now : ℕ) (held : Contents) (m : ℕ) (on : Bool) (ready : IsReady m on k) (h : IsAs a held k) (is : IsTurn k.sessions turn) (up : k.is_down ≡ false) (there : map.get k.lives t ≡ Some l) (own : l.client ≡ turn.client) (works : standing_of k turn.client t ≡ standing.Work) (idle : has_waiting turn.client t k.waits ≡ false)
      (served : IsServedCall c) (named : file_trans c ≡ Some t) (told : ns ≡ asks_of (holding k.locks.held t) (seen held.cells l.part) (own_of l.part) c)
      (shape : shape_of k.server k.epoch k.given (length l.part.opens.items) c ≡ None) (few : too_locked k.sizes.area l.part.counts.cells counts.made ≡ None) (chooses : may_wait c ≡ true) (holder : TransId) (blocked : blocker k.locks.held t plan.rises ≡ Some holder) where
    abbrev w : Session
    w = session_of turn is

    abbrev there_live : IsLive a.holder.cells k.locks.held (a.locked t) t l (a.holder.lives t)
    there_live = live_there a.holder.cells k.locks.held (a.locked t) t (map.get k.lives t) (a.holder.lives t) l there (h.lives t)

    abbrev life : Life
    life = there_live.life

    alike : IsLife a.holder.cells k.locks.held (a.locked t) t l life
    alike = there_live.alike

    abbrev caller : IsCaller l life
    caller = alike.calls (unvoted_told a held k turn.client t h works life there_live.is).vote

    asked_is : request_in a.holder c (Some life) ≡ ns
    asked_is = lock_request a held k t l c ns life h up alike caller served told

    no_need : ns ≡ [] → ⊥
    no_need none = none_asked_free k.locks.held t holder (subst (λ (ms : List Need). blocker k.locks.held t (plan_of k.locks t ms).rises ≡ Some holder) none blocked)

    waits_for : choice_of c ≡ Some choice.Wait
    waits_for = go (lock_choice a held k t l c ns life h up alike caller served told)
      where
        go : ((x : Choice) × (choice_of c ≡ Some x)) ⊎ (ns ≡ []) → choice_of c ≡ Some choice.Wait
        go (inl some) = chosen c true some.0 some.1 chooses
        go (inr none) = absurd (no_need none)

    passed : option_or (shape_refusal (state_of a) life c) (lock_refusal (state_of a) t life c) ≡ None
    passed = not_refused a held k t l c ns life h up alike caller served told (go (shape_cases a held k h ready.raised t l life caller c served shape)) few
      where
        go : (shape_refusal (state_of a) life c ≡ None) ⊎ IsShut a held k h ready.raised t l life caller c → shape_refusal (state_of a) life c ≡ None
        go (inl passes) = passes
        go (inr shut) = absurd (no_need (shut_none a held k t l c ns life h up alike caller served told ready.raised shut))

    taken : IsFree a.holder t life c → ⊥
    taken free =
        let is_so : is_free k.locks.held (request a.holder k.locks.held t life c) ≡ true = free_there a.holder k.locks.held t life c (held_alike a held k h) there_live.is free in
        let wrong : true ≡ false = sym is_so ∙ ap (λ (ms : List Need). is_none (blocker k.locks.held t (plan_of k.locks t ms).rises)) asked_is ∙ ap is_none blocked in
        cc

    abbrev wait_here : Waiting
    wait_here = waiting new_call

    waiting_for : IsWaitingFor a.holder wait_here t life
    waiting_for = record { call = named; ungranted = refl; live = there_live.is; its = sym (alike.client ∙ own) }

    requested : request_at a.holder k.locks.held wait_here (file_trans c) ≡ request a.holder k.locks.held t life c ∷ []
    requested =
        ap (request_at a.holder k.locks.held wait_here) named ∙ ap (request_for a.holder k.locks.held wait_here t) there_live.is
        ∙ ap (λ (b : Bool). request_if (true && b) k.locks.held t (request_in a.holder c (Some life))) (eq-eqb turn.client life.client (sym (alike.client ∙ own)))

    as_then : IsAs (counted_as a turn.client turn.number w (reply.Refused refusal.NotYet)) held (record k { sessions = counted_in k.sessions turn (reply.Refused refusal.NotYet) })
    as_then = counts_as a held k turn (reply.Refused refusal.NotYet) h is up

    leads : Leads false a (call_entry a turn.client turn.number w c (reply.Refused refusal.NotYet) []) (with_wait a turn.client turn.number w t life c)
    leads = waits_leads a turn.client turn.number w t life c h.quiet (h.down ∙ up) (turn_session a held k turn h is) is.number
        (part_told a held k turn.client t h standing.Work works) there_live.is (alike.client ∙ own) named
        (idle_told a turn.client t k.waits h.waits (named_all k.server k.epoch k.given (count_of k.coordinator) k.sizes k.lives k.waits ready.waits.calls) idle) passed waits_for taken

    waits_as : IsAs (with_wait a turn.client turn.number w t life c) held blocked_kept
    waits_as = record {
      server = h.server;
      servers = h.servers;
      sizes = h.sizes;
      epoch = h.epoch;
      clock = h.clock;
      cells = h.cells;
      sized = h.sized;
      notes = λ on. call_notes false a (with_wait a turn.client turn.number w t life c) turn.client turn.number w c (reply.Refused refusal.NotYet) [] h.quiet leads refl held.notes (h.notes on);
      places = as_then.places;
      sessions = as_then.sessions;
      dead = h.dead;
      lives = h.lives;
      room = h.room;
      unborn = h.unborn;
      coordinator = h.coordinator;
      decided = h.decided;
      joins = h.joins;
      files = h.files;
      made = h.made;
      born = h.born;
      earlier = h.earlier;
      waits = ap (λ (ws : List Waiting). ws ++ wait_here ∷ []) h.waits ∙ sym (told_last k.waits new_call);
      queue = ap (λ (qs : List Waiter). placed qs plan) h.queue ∙ ap (λ (ms : List Need). placed (queue_of a.holder k.locks.held a.waits) (plan_of k.locks t ms)) (sym asked_is)
          ∙ sym (queue_with a.holder k.locks.held (held_alike a held k h) a.waits wait_here t life waiting_for requested);
      asked = pushed_each (IsWaitingAs a.holder a.locked) k.waits new_call h.asked
          (λ z x counted at. subst (λ (y : LockCounts). IsAskedAs a.holder a.locked new_call y x) (same_counts counts z counted) (subst (IsAskedAs a.holder a.locked new_call counts) (same_life life x (sym there_live.is ∙ at)) (record { asked = sym (asked_locks a held k t l c ns life h up alike caller served told); made = refl; covered = λ e. cc })));
      quiet = leads.quiet;
      down = as_then.down;
    }
      where
        same_life : (y z : Life) → Some y ≡ Some z → y ≡ z
        same_life y z e = cc

    pub waits_stepped : (x : Handed) → x ≡ refused_answer refusal.NotYet [] → Stepped a before now held blocked_kept (event.Call turn.client k.epoch turn.number c) x
    waits_stepped x so =
        stepped_so a before now held held k blocked_kept turn.client turn.number w c false (reply.Refused refusal.NotYet) [] (with_wait a turn.client turn.number w t life c) x so h leads waits_as (λ e. cc) (omega (arith, h.clock))
