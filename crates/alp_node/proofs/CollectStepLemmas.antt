-- steps in which a call is collected that has its locks
use Rattle.std.specs.Prelude.{Bool, true, false, IsTrue, Option, Some, is_some, Result, Ok}
use Rattle.std.specs.List.{AllByRecursion}
use Rattle.std.specs.Result.{IsErr}
use Rattle.std.specs.FinMap as map
use Rattle.std.proofs.Common.{◌≡◌, ℕ, ◌+◌, ◌≤◌, [], ◌∷◌, length, refl, sym, ◌∙◌, subst, arith, le_refl, ap}
use Rattle.alp_base.specs.Causes.{Rose}
use Rattle.alp_base.specs.declared.allowance.Allowance.TheVariants.{Spent}
use Rattle.alp_base.specs.declared.memory.OutOfMemory.{OutOfMemory}
use Rattle.alp_files.specs.Born.{count_after}
use Rattle.alp_files.specs.declared.call.Call.TheVariants as call
use Rattle.alp_files.specs.declared.reply.Reply.{Reply}
use Rattle.alp_files.specs.declared.reply.Reply.TheVariants as reply
use Rattle.alp_files.specs.declared.refusal.Refusal.TheVariants as refusal
use Rattle.alp_queue.specs.declared.waiter.Waiter.{Waiter}
use Rattle.alp_locks.specs.Tables.{Table}
use Rattle.alp_locks.proofs.SoundLemmas.{each-more}
use Rattle.alp_vault.specs.declared.vault.Vault.{Ghosts}
use Rattle.alp_calls.specs.Limits.{refused_for}
use Rattle.alp_calls.specs.Looks.{IsLeft}
use Rattle.alp_calls.specs.Parts.{Answered, GivesOnly, IsPart}
use Rattle.alp_calls.specs.declared.limits.Room.{Room}
use Rattle.alp_trans.specs.declared.part.Part.{Part}
use Rattle.alp_journal.specs.declared.act.Act.TheVariants as act
use Rattle.alp_journal.specs.declared.event.Event.{Event}
use Rattle.alp_journal.specs.declared.event.Event.TheVariants as event
use Rattle.alp_coord.specs.Coordinators.{count_of}
use Rattle.alp_node.specs.Asks.{plan_of, with_plan}
use Rattle.alp_node.specs.Calls.{name_in, given_of, next_file}
use Rattle.alp_node.specs.Rooms.{IsRoomOf, locks_given}
use Rattle.alp_node.specs.ServerState.{IsReady}
use Rattle.alp_node.specs.Standings.{standing_of}
use Rattle.alp_node.specs.declared.served.Standing.TheVariants as standing
use Rattle.alp_node.proofs.NotedLemmas.{noted_on, voters_put}
use Rattle.alp_node.proofs.StandingLemmas.{works_here}
use Rattle.alp_node.specs.Steps.{IsStep, IsTurn, counted_in, told_answer, refused_answer}
use Rattle.alp_node.specs.Totals.{LiveMap}
use Rattle.alp_node.specs.Turns.{IsKeepable, TellsRun, asked_waiting, HasTurned}
use Rattle.alp_node.specs.Waits.{is_file_on, call_at, without_calls_of, IsFileCall, IsWaitingCall, IsWithinLimits}
use Rattle.alp_node.specs.declared.answer.Answer.{Answer}
use Rattle.alp_node.specs.declared.lives.Live.{Live}
use Rattle.alp_node.specs.declared.lock_counts.LockCounts.{LockCounts}
use Rattle.alp_node.specs.declared.server_state.ServerState.{ServerState}
use Rattle.alp_node.specs.declared.sessions.CallOrder.TheVariants as order
use Rattle.alp_node.specs.declared.sessions.Turn.{Turn}
use Rattle.alp_node.specs.declared.waits.WaitingCall.{WaitingCall}
use Rattle.alp_node.proofs.CallLemmas.{count_grows}
use Rattle.alp_node.proofs.CollectLemmas.{call_is, left_off, none_asks, collect_fault_stepped, collect_halt_stepped}
use Rattle.alp_node.proofs.CollectedLemmas.{made_asks, collected_left, none_blocks, table_is, collect_stepped}
use Rattle.alp_node.proofs.CountedLemmas.{answered_quiet, answered_keeps}
use Rattle.alp_node.proofs.GivenLemmas.{IsCounted, counts_none, counts_fault, counts_down, reply_given, wanting}
use Rattle.alp_node.proofs.GrantLemmas.{free_given, given_below, granted_ready}
use Rattle.alp_node.proofs.LookLemmas.{IsUnseen, count_same, answered_told, room_told, part_ready}
use Rattle.alp_node.proofs.OpenLemmas.{unless_only, opens_then}
use Rattle.alp_node.proofs.ReadyLemmas.{counted_ready, down_ready, without_ready, asking_others}
use Rattle.alp_node.proofs.SeatLemmas.{left_seated, left_noted, left_step}
use Rattle.alp_node.proofs.ShapeLemmas.{shape_given}
use Rattle.alp_node.proofs.TurnLemmas.{counts_on, counts_refused, run_told}
use Rattle.alp_node.proofs.WaitLemmas.{IsLikePart, idle_in}
use Rattle.alp_node.proofs.WithinLemmas.{MayLock, within_then}
use Rattle.alp_node.proofs.HeldHere.{tidy_asks}

-- ---- it is answered

module _ {V : Type 0} (G : Ghosts V) (k : ServerState V) (turn : Turn) (n : ℕ) (w : WaitingCall) (z : LockCounts) (l : Live) (p : Part) (room : Room) (r : Reply) (v : V) (found : call_at turn.client n k.waits ≡ Some w) (counted : w.counts ≡ Some z) (granted : w.is_granted ≡ true) (works : standing_of k turn.client w.trans ≡ standing.Work) (is : IsTurn k.sessions turn)
    (up : k.is_down ≡ false) (there : map.get k.lives w.trans ≡ Some l) (part : IsPart p) (left : IsLeft G k.vault v) (on : IsTrue (G.serves v)) (given : Answered (G.tells k.vault) (G.held k.vault).cells l.part p (name_in l.who) (next_file k) w.call room r)
    (of : IsRoomOf (G.tells k.vault) (G.held k.vault).cells k z.made room) where
  abbrev after : ServerState V
  after = collected_left k turn w z l p v r

  some : is_some w.counts ≡ true
  some = ap is_some counted

  keeps : IsKeepable k.clock r
  keeps = answered_keeps k.clock (G.tells k.vault) (G.held k.vault).cells l.part p (name_in l.who) (next_file k) w.call room r given

  module _ (m : ℕ) (h : IsReady m (G.serves k.vault) k) where
    its : IsWaitingCall k.server k.epoch k.given (count_of k.coordinator) k.sizes k.lives w
    its = call_is k turn.client n w m (G.serves k.vault) h found some

    file : IsFileCall k.server k.epoch k.given (count_of k.coordinator) k.sizes k.lives w z
    file = its.file z counted

    limits : IsWithinLimits k.server k.epoch k.given k.sizes w z l
    limits = file.limits l there

    -- the call goes, and the session counts on
    abbrev first : ServerState V
    first = record k { sessions = counted_in k.sessions turn r; waits = without_calls_of turn.client w.trans k.waits }

    first_ready : IsReady (m + 1) (G.serves k.vault) first
    first_ready =
        counted_ready m (G.serves k.vault) (record k { waits = without_calls_of turn.client w.trans k.waits }) turn r is keeps
        (without_ready m (G.serves k.vault) k turn.client w.trans (asking_others m (G.serves k.vault) k w.trans (none_asks k turn.client n w m (G.serves k.vault) h found some granted) h) h)

    -- it has the lock of a file that was made
    abbrev plan : Waiter
    plan = plan_of k.locks w.trans (made_asks k turn w z l p v r)

    abbrev second : ServerState V
    second = record first { given = count_after k.given r; locks = with_plan k.locks plan }

    second_ready : IsReady (m + 1) (G.serves k.vault) second
    second_ready =
        granted_ready (m + 1) (G.serves k.vault) first plan (count_after k.given r) (count_grows k.given r)
        (let was : k.given ≤ m = h.given in let one : count_after k.given r ≤ k.given + 1 = count_same k.given r in omega (arith, was, one)) refl
        (free_given m (G.serves k.vault) k w.trans w.call [] r h (none_blocks k turn w z l p v))
        (idle_in k.server k.epoch k.given k.lives k.waits w.trans k.locks.waiting (none_asks k turn.client n w m (G.serves k.vault) h found some granted) h.waits.queued)
        (λ id high. given_below k.server k.epoch k.given id w.call [] r tt high) (tidy_asks k.server k.epoch k.given w.call [] r tt) first_ready

    -- and its part is another
    like : AllByRecursion (λ (u : WaitingCall). is_file_on w.trans u ≡ true → IsLikePart l (record l { part = p; locks = locks_given l.locks z (Ok (given_of r [])) })) (without_calls_of turn.client w.trans k.waits)
    like = each-more (λ (u : WaitingCall). is_file_on w.trans u ≡ false) (λ (u : WaitingCall). is_file_on w.trans u ≡ true → IsLikePart l (record l { part = p; locks = locks_given l.locks z (Ok (given_of r [])) }))
        (λ u away e. let wrong : false ≡ true = sym away ∙ e in cc) (without_calls_of turn.client w.trans k.waits) (left_off k turn.client n w m (G.serves k.vault) h found some)

    only : GivesOnly (next_file k) r
    only = subst (GivesOnly (next_file k)) (sym given.said) (unless_only (next_file k) given.given (refused_for room l.part.counts given.after) given.ids)

    after_ready : IsReady (m + 1) (G.serves v) after
    after_ready =
        let may : MayLock k.sizes (record l { locks = 0 }) z = record { few = limits.locks; log = limits.log; more = omega arith; asked = limits.fewer } in
        subst (λ (x : Table). IsReady (m + 1) (G.serves v) (record after { locks = x })) (sym (table_is k turn w z l p v r))
        (part_ready (m + 1) (G.serves k.vault) (G.serves v) second w.trans l p (locks_given l.locks z (Ok (given_of r []))) v (m + 1) on up (works_here m (G.serves k.vault) k h turn.client w.trans works).unvoted there
        (let was : l.part.last ≤ m = h.opens w.trans l there in omega (arith, given.last)) (le_refl (m + 1))
        (opens_then k.server k.epoch k.given h.raised w.call r (shape_given k.server k.epoch k.given (length l.part.opens.items) w.call limits.shape) only l.part.opens.items p.opens.items given.opens (h.opened w.trans l there))
        (within_then (G.tells k.vault) (G.held k.vault).cells (next_file k) k.sizes (record l { locks = 0 }) p w.call z room [] (Ok (given_of r [])) part may of.area of.held (record { is = refl; given = given }))
        like second_ready)

  pub collect_done : (x : Answer) (steps : ℕ) → IsReady steps (G.serves k.vault) k → G.faults v ≡ G.faults k.vault → x ≡ told_answer (Some r) [] → IsStep G k after (event.Call turn.client k.epoch turn.number (call.Collect n)) (Ok x)
  collect_done x steps ready faults so =
      let now : IsFileCall k.server k.epoch k.given (count_of k.coordinator) k.sizes k.lives w z = file steps ready in
      left_step G k after refl refl refl refl left (event.Call turn.client k.epoch turn.number (call.Collect n)) x up
      (λ notes q. noted_on k.lives (map.insert k.lives w.trans (record l { part = p; locks = locks_given l.locks z (Ok (given_of r [])) })) k.server k.servers k.epoch k.joins k.coordinator notes
      (voters_put k.lives w.trans (record l { part = p; locks = locks_given l.locks z (Ok (given_of r [])) }) k.joins.lives (works_here steps (G.serves k.vault) k ready turn.client w.trans works).unvoted) q)
      (λ told a h. collect_stepped a (G.faults k.vault) (G.faults v) (G.held k.vault) k turn n w z l p room r v steps (G.serves k.vault) x (G.held v) ready h up left.contents is found counted granted works there
      (answered_told (G.tells k.vault) (G.held k.vault).cells l p (next_file k) w.call room r told given) (room_told (G.tells k.vault) (G.held k.vault).cells k z.made room told of) so)
      (reply_given (G.faults k.vault) (G.faults v) (G.allowance v) k.is_down r [] x so
      (counts_none (G.faults k.vault) (G.faults v) k.is_down (Some r) (answered_quiet (G.tells k.vault) (G.held k.vault).cells l.part p (name_in l.who) (next_file k) w.call room r given) faults up) up tt)
      (λ m h. after_ready m h)
      (λ on_then. subst (λ (y : Answer). HasTurned (Some order.Next) k after (event.Call turn.client k.epoch turn.number (call.Collect n)) y.kept) (sym so)
      (counts_on k after turn is (call.Collect n) r keeps.inside (le_refl k.clock) keeps.times
      (subst (λ (v : Option WaitingCall). TellsRun (asked_waiting v) r) (sym found) (run_told k.server k.epoch k.given (length l.part.opens.items) w.call now.some (now.limits l there).shape r given.pages)) refl))

-- ---- the vault did not answer

module _ {V : Type 0} (G : Ghosts V) (k : ServerState V) (lives : LiveMap) (v : V) (turn : Turn) (n : ℕ) (w : WaitingCall) (steps : ℕ) (ready : IsReady steps (G.serves k.vault) k) (found : call_at turn.client n k.waits ≡ Some w) (some : is_some w.counts ≡ true) (granted : w.is_granted ≡ true)
    (unseen : IsUnseen G k lives v turn w.trans) (left : IsLeft G k.vault v) (is : IsTurn k.sessions turn) (up : k.is_down ≡ false) where
  abbrev pub seen : ServerState V
  seen = record k { lives = lives; vault = v }

  abbrev pub event_of : Event
  event_of = event.Call turn.client k.epoch turn.number (call.Collect n)

  -- a read failed: it waits no more, and the server goes on
  abbrev pub failed_left : ServerState V
  failed_left = record seen { sessions = counted_in k.sessions turn (reply.Refused refusal.ReadFault); waits = without_calls_of turn.client w.trans k.waits }

  pub collect_failed : IsTrue (G.serves v) → Rose (G.faults k.vault) (G.faults v) → IsStep G k failed_left event_of (Ok (refused_answer refusal.ReadFault []))
  collect_failed on rose =
      left_step G k failed_left refl refl refl refl left event_of (refused_answer refusal.ReadFault []) up unseen.noted
      (λ told a h. collect_fault_stepped a (G.faults k.vault) (G.faults v) (G.held v) seen turn n w steps (G.serves v) (unseen.ready steps (G.serves v) on ready) found some unseen.part (refused_answer refusal.ReadFault []) (unseen.kept a h) is up rose unseen.there granted refl)
      (reply_given (G.faults k.vault) (G.faults v) (G.allowance v) k.is_down (reply.Refused refusal.ReadFault) [] (refused_answer refusal.ReadFault []) refl
      (subst (λ (b : Bool). IsCounted (G.faults k.vault) (G.faults v) b (Some (reply.Refused refusal.ReadFault))) (sym up) (counts_fault (G.faults k.vault) (G.faults v) (Some (reply.Refused refusal.ReadFault)) refl refl left.later rose)) up tt)
      (λ m h. ready_then m (unseen.ready m (G.serves v) on h))
      (λ now. counts_refused k failed_left turn is (call.Collect n) refusal.ReadFault tt refl refl)
    where
      ready_then : (m : ℕ) → IsReady m (G.serves v) seen → IsReady (m + 1) (G.serves v) failed_left
      ready_then m h =
          counted_ready m (G.serves v) (record seen { waits = without_calls_of turn.client w.trans k.waits }) turn (reply.Refused refusal.ReadFault) is (record { inside = tt; times = tt })
          (without_ready m (G.serves v) seen turn.client w.trans (asking_others m (G.serves v) seen w.trans (none_asks seen turn.client n w m (G.serves v) h found some granted) h) h)

  -- the vault was stopped: the server is down
  pub collect_stopped : G.serves v ≡ false → G.allowance v ≡ Spent → IsStep G k (record seen { is_down = true }) event_of (Ok (refused_answer refusal.Down (act.Stopped ∷ [])))
  collect_stopped off spent =
      left_step G k (record seen { is_down = true }) refl refl refl refl left event_of (refused_answer refusal.Down (act.Stopped ∷ [])) up unseen.noted
      (λ told a h. collect_halt_stepped a (G.faults k.vault) (G.faults v) (G.held v) seen turn n w steps true (unseen.ready steps true refl ready) found some (G.held v) v unseen.part (refused_answer refusal.Down (act.Stopped ∷ [])) (unseen.kept a h) is up unseen.there granted refl)
      (reply_given (G.faults k.vault) (G.faults v) (G.allowance v) true (reply.Refused refusal.Down) (act.Stopped ∷ []) (refused_answer refusal.Down (act.Stopped ∷ [])) refl
      (counts_down (G.faults k.vault) (G.faults v) left.later) refl (spent, tt))
      (λ m h. down_ready m true (G.serves v) seen v off (unseen.ready m true refl h))
      (λ on. cc)

  -- memory was wanting
  pub collect_wanting : (r : Result Answer OutOfMemory) → IsErr r → IsTrue (G.serves v) → G.faults v ≡ G.faults k.vault → IsStep G k seen event_of r
  collect_wanting r err on faults =
      wanting G k seen event_of r err
      (record { kept = unseen.kept; ready = λ m h. unseen.ready m (G.serves v) on h; up = refl; sessions = refl; clock = refl; vault = record { held = left.contents; faults = faults; allowance = left.allowed } })
      (left_noted G k seen refl refl refl refl left up unseen.noted) (left_seated G k seen refl refl refl refl left) left
