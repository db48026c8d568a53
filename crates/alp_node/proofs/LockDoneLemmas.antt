-- a file call that has the locks that it asked: what it is answered, and its entry where it is performed
use Rattle.std.specs.Prelude.{cond, Bool, true, false, not, ◌==◌, Option, None, Some, is_some, Ok}
use Rattle.std.specs.List.{AllByRecursion}
use Rattle.std.specs.Option.{option_or}
use Rattle.std.specs.FinMap as map
use Rattle.std.specs.Ordering.{eq_by_cmp}
use Rattle.std.proofs.Common.{inl, inr, ◌⊎◌, ◌≡◌, ℕ, ◌+◌, ◌≤◌, List, [], ◌∷◌, ◌++◌, length, refl, sym, ◌∙◌, ap, subst, arith}
use Rattle.alp_base.specs.declared.ids.FileId.{FileId}
use Rattle.alp_base.specs.declared.ids.TransId.{TransId}
use Rattle.alp_base.specs.declared.key.Resource.{Resource}
use Rattle.alp_base.specs.declared.key.Resource.TheVariants.{Whole}
use Rattle.alp_modes.specs.declared.Mode.{Mode}
use Rattle.alp_base.specs.Orders.{resource_cmp}
use Rattle.alp_files.specs.Holdings.{Holding, join_held, held_by, DoAgree}
use Rattle.alp_files.proofs.HoldingLemmas.{join_held-assoc, held_by-append, agree-turned}
use Rattle.alp_files.proofs.CoverLemmas.{granted-holds, granted-intended, joined-more}
use Rattle.alp_files.specs.declared.call.Call.{Call}
use Rattle.alp_files.specs.declared.call.Call.TheVariants as call
use Rattle.alp_files.specs.declared.reply.Reply.{Reply}
use Rattle.alp_files.specs.declared.reply.Reply.TheVariants as reply
use Rattle.alp_files.specs.declared.refusal.Refusal.{Refusal}
use Rattle.alp_files.specs.declared.refusal.Refusal.TheVariants as refusal
use Rattle.alp_files.specs.Act.{Answer, id_in}
use Rattle.alp_files.specs.Passing.{is_passing}
use Rattle.alp_files.specs.Born.{count_after}
use Rattle.alp_files.specs.Locks.{Need, IsFormed, HoldsEach, needs_of, needs_made, with_made}
use Rattle.alp_queue.specs.declared.waiter.Waiter.{Waiter}
use Rattle.alp_queue.specs.Order.{waits}
use Rattle.alp_locks.specs.Tables.{Table, holding, held_of}
use Rattle.alp_locks.specs.Asks.{blocker, risen}
use Rattle.alp_locks.proofs.LawLemmas.{no-rise}
use Rattle.alp_trans.specs.declared.part.Part.{Part}
use Rattle.alp_trans.specs.Counting.{AreCountsOf}
use Rattle.alp_calls.specs.Parts.{seen, Performs, Answered, IsRight, StandsAfter}
use Rattle.alp_trans.specs.Parts.{own_of}
use Rattle.alp_calls.specs.Limits.{refused_for}
use Rattle.alp_calls.specs.declared.limits.Room.{Room}
use Rattle.alp_vault.specs.Contents.{Contents}
use Rattle.alp_journal.specs.declared.act.Act.{Act}
use Rattle.alp_journal.specs.declared.act.Act.TheVariants as act
use Rattle.alp_journal.specs.declared.event.Event.TheVariants as event
use Rattle.alp_journal.specs.Ids.{same_trans}
use Rattle.alp_journal.specs.Counts.{request_in, with_resources, log_need}
use Rattle.alp_journal.specs.Desk.{Session}
use Rattle.alp_journal.specs.Desk.{file_trans, waiting_of}
use Rattle.alp_journal.specs.Holder.{Life, view_in, answer_in, held_for}
use Rattle.alp_journal.specs.Moves as journal
use Rattle.alp_journal.specs.Laws.{IsFree}
use Rattle.alp_journal.specs.Answers.{First, IsFileOf, IsFileAnswer, IsLocked, IsThreads, count_refusal, shape_refusal, lock_refusal, more_locks, unless_counts}
use Rattle.alp_journal.specs.Answered.{GrantsFor, asks, grants_by}
use Rattle.alp_journal.specs.Account.{Account, state_of, IsQuiet, Leads}
use Rattle.alp_journal.proofs.CallLemmas.{call_entry}
use Rattle.alp_journal.proofs.FileCalls.{PerformOwes, performed_leads, granted_leads, with_call}
use Rattle.alp_coord.specs.Coordinators.{count_of}
use Rattle.alp_node.specs.Asks.{is_of_given, AreGiven, asks_of, asks_given, makes_file, plan_of, with_plan, acts_of}
use Rattle.alp_node.specs.Calls.{name_in, IsServedCall, given_of, next_file}
use Rattle.alp_node.specs.Covers.{AreHeld}
use Rattle.alp_node.specs.Rooms.{IsRoomOf, locks_given}
use Rattle.alp_node.specs.Shapes.{shape_of, counts_then, too_locked}
use Rattle.alp_node.specs.Totals.{totals_of}
use Rattle.alp_node.specs.declared.lock_counts.LockCounts.{LockCounts}
use Rattle.alp_node.specs.Dead.{cause_in}
use Rattle.alp_node.specs.Durable.{AreNotesOf}
use Rattle.alp_node.specs.ServerState.{IsAs, IsReady, IsAlike, IsCaller, IsLife}
use Rattle.alp_node.specs.Steps.{Stepped, IsTurn, counted_in, seen_in, told_answer}
use Rattle.alp_node.specs.declared.answer.Answer.{Answer as Handed}
use Rattle.alp_node.specs.declared.lives.Live.{Live}
use Rattle.alp_node.specs.declared.server_state.ServerState.{ServerState}
use Rattle.alp_node.specs.declared.sessions.Turn.{Turn}
use Rattle.alp_node.proofs.UnderLemmas.{under_more, under_call, edits_sized}
use Rattle.alp_node.proofs.CountedLemmas.{IsCountRefusal, refused_is, same_counts, same_passes}
use Rattle.alp_node.proofs.LockCountLemmas.{held_then, count_made, none_more}
use Rattle.alp_node.proofs.RoomLemmas.{refusal_same, allowed_room}
use Rattle.alp_node.proofs.ShapeLemmas.{shape_given, IsShut, shape_cases, may_lock}
use Rattle.alp_node.proofs.TotalLemmas.{AreRoomed}
use Rattle.alp_node.proofs.CallLemmas.{IsUnder, right_as, after_call, done_as}
use Rattle.alp_node.proofs.ConflictLemmas.{held_elsewhere, would_hold, none_risen, not_empty}
use Rattle.alp_node.proofs.FinishLemmas.{turn_session}
use Rattle.alp_node.proofs.GrantLemmas.{free_given, kept_beside, asked_below, of_given, next_told, id_given}
use Rattle.alp_node.proofs.KeptLemmas.{session_of, stands_timely, stepped_so}
use Rattle.alp_node.proofs.LockLemmas.{itself, taken_own, taken_other, taken_agrees, taken_beside, taken_waiting}
use Rattle.alp_node.proofs.BesideLemmas.{AreNamed, HasNoCall, idle_told}
use Rattle.alp_node.proofs.WaitLemmas.{named_all, asks_none, idle_in}
use Rattle.alp_node.proofs.LockCallLemmas.{locked_then, lock_request, lock_asks, lock_known, asked_locks, made_locks, not_refused, shut_none, shut_first}
use Rattle.alp_node.proofs.MadeLemmas.{makes_only}
use Rattle.alp_node.proofs.NoteCalls.{call_notes}
use Rattle.alp_node.proofs.StandingLemmas.{IsWorking, unvoted_told}
use Rattle.alp_node.proofs.ServedLemmas.{work_why, work_grants}

same_agree : (a b x y : Holding) → ((q : Resource) → a q ≡ x q) → ((q : Resource) → b q ≡ y q) → DoAgree x y → DoAgree a b
same_agree a b x y first second agree = subst (λ (z : Holding). DoAgree z b) (λ i q. sym (first q) i) (subst (DoAgree x) (λ i q. sym (second q) i) agree)

-- what asks for nothing is granted nothing
grants_nothing : (t : TransId) (r : Reply) → grants_by false t r ≡ []
grants_nothing t (reply.Refused (refusal.LockConflict holder)) = refl
grants_nothing t (reply.Refused refusal.NotYet) = refl
grants_nothing t r = refl

-- what asks is granted that
grants_asked : (t : TransId) (r : Reply) → is_passing r ≡ false → grants_by true t r ≡ t ∷ []
grants_asked t (reply.Refused (refusal.LockConflict holder)) own = cc
grants_asked t (reply.Refused refusal.NotYet) own = cc
grants_asked t r own = refl

grants_as : (t : TransId) (r : Reply) (b : Bool) (ns : List Need) → grants_by true t r ≡ t ∷ [] → b ≡ not (length ns == 0) → cond {A = List TransId} (length ns == 0) [] (t ∷ []) ≡ grants_by b t r
grants_as t r b [] own is = sym (ap (λ (x : Bool). grants_by x t r) is ∙ grants_nothing t r)
grants_as t r b (n ∷ ns) own is =
    ap (λ (x : Bool). cond {A = List TransId} x [] (t ∷ [])) (not_empty n ns)
    ∙ sym (ap (λ (x : Bool). grants_by x t r) (is ∙ ap not (not_empty n ns)) ∙ own)

-- a call that may make a file counts its lock
makes_more : (c : Call) → makes_file c ≡ true → more_locks c ≡ 1
makes_more (call.CreateFile t start choice) e = refl
makes_more c e = cc

-- how many it has locked then
kept_count : (locks : ℕ) (n : LockCounts) (g : Reply) (rs : List Resource) → length rs ≡ n.asked → ((f : FileId) → id_in g ≡ Some f → length (with_resources (needs_made (Some f)) rs) ≡ n.made)
    → locks_given locks n (Ok (given_of g [])) ≡ length (with_resources (needs_made (id_in g)) rs)
kept_count locks n (reply.Created f number) rs asked made = sym (made f refl)
kept_count locks n g rs asked made = sym asked

-- each that is asked and held is locked already
held_already : (held : Holding) (asks : List Need) (same : (q : Resource) → join_held (held q) (held_by asks q) ≡ held q) → (ns : List Need) → ((q : Resource) → is_some (held_by ns q) ≡ true → is_some (held_by asks q) ≡ true) → AllByRecursion (λ (n : Need). is_some (held n.0) ≡ true) ns
held_already held asks same [] among = tt
held_already held asks same (n ∷ ns) among = (
  ap is_some (sym (same n.0)) ∙ some_joined (held n.0) (held_by asks n.0) (among n.0 (ap (λ (b : Bool). is_some (cond {A = Option Mode} b (join_held (Some n.1) (held_by ns n.0)) (held_by ns n.0))) (itself n.0) ∙ some_left n.1 (held_by ns n.0))),
  held_already held asks same ns (λ q there. among q (some_more (eq_by_cmp resource_cmp q n.0) n.1 (held_by ns q) there)),
)
  where
    some_left : (m : Mode) (x : Option Mode) → is_some (join_held (Some m) x) ≡ true
    some_left m None = refl
    some_left m (Some y) = refl

    some_joined : (x y : Option Mode) → is_some y ≡ true → is_some (join_held x y) ≡ true
    some_joined None y there = there
    some_joined (Some z) None there = cc
    some_joined (Some z) (Some y) there = refl

    some_more : (b : Bool) (m : Mode) (x : Option Mode) → is_some x ≡ true → is_some (cond {A = Option Mode} b (join_held (Some m) x) x) ≡ true
    some_more true m None there = cc
    some_more true m (Some y) there = refl
    some_more false m x there = there

module _ {V : Type 0} (a : Account) (before now : ℕ) (held : Contents) (k : ServerState V) (turn : Turn) (t : TransId) (l : Live) (p : Part) (c : Call) (ns : List Need) (room : Room) (r : Reply) (v : V) where
  -- how many are locked then, and what was asked
  abbrev pub locks_now : LockCounts
  locks_now = counts_then l.locks (holding k.locks.held t) ns c

  abbrev pub asked : Waiter
  asked = plan_of k.locks t ns

  abbrev plan : Reply → Waiter
  plan g = plan_of k.locks t (asks_given (next_file k) c ns g)

  -- the table, and the server, as the call leaves them where it is answered so
  abbrev pub table_then : Reply → Table
  table_then g = with_plan k.locks (plan g)

  abbrev pub lock_left : Reply → ServerState V
  lock_left g = record k { sessions = counted_in k.sessions turn g; given = count_after k.given g; lives = map.insert k.lives t (record l { part = p; locks = locks_given l.locks locks_now (Ok (given_of g [])) }); locks = table_then g; vault = v }

  module _ (m : ℕ) (on : Bool) (ready : IsReady m on k) (life : Life) (h : IsAs a held k) (up : k.is_down ≡ false) (is : IsTurn k.sessions turn) (there : map.get k.lives t ≡ Some l) (own : IsWorking k turn.client t l) (live : a.holder.lives t ≡ Some life)
      (mine : IsLife a.holder.cells k.locks.held (a.locked t) t l life) (served : IsServedCall c) (files : AreGiven k.server k.epoch k.given ns) (from : ns ≡ asks_of (holding k.locks.held t) (seen held.cells l.part) (own_of l.part) c)
      (given : Answered true held.cells l.part p (name_in l.who) (next_file k) c room r) (of : IsRoomOf true held.cells k locks_now.made room)
      (shape : shape_of k.server k.epoch k.given (length l.part.opens.items) c ≡ None) (few : too_locked k.sizes.area l.part.counts.cells locks_now.made ≡ None) (free : blocker k.locks.held t asked.rises ≡ None)
      (away : HasNoCall turn.client t k.waits) where
    abbrev caller : IsCaller l life
    caller = mine.calls (unvoted_told a held k turn.client t h own.1 life live).vote

    abbrev g : Reply
    g = given.given

    abbrev did : Answer
    did = answer_in a.holder life (record { call = c; reply = g })

    abbrev refused : Option Refusal
    refused = refused_for room l.part.counts given.after

    lock_right : IsRight a.holder.cells l.part p given.after refused g did
    lock_right = right_as a held k t l p c g life (a.locked t) given.after refused h up mine caller (given.right refl [] refl)

    lock_after : AreCountsOf a.holder.cells (life.edits ++ did.edits) given.after
    lock_after = lock_right.counts life.edits mine.intents mine.counts

    lock_counted : refused ≡ count_refusal (state_of a) t life c did
    lock_counted = refusal_same a held k h up locks_now.made room of t life c did l.part.counts given.after mine.counts lock_after (made_locks a held k t l c ns life h up mine caller served from)

    of_file : is_of_given k.server k.epoch k.given c ≡ true
    of_file = shape_given k.server k.epoch k.given (length l.part.opens.items) c shape

    -- what the part would hold for the call
    abbrev pub under : Holding
    under = held_for a.holder life c

    -- what is kept is what was asked, with the lock of a new file
    only_creates : makes_file c ≡ false → id_in g ≡ None
    only_creates none = makes_only a.holder.server [] (view_in a.holder life) life.own life.who c g served none lock_right.reply

    keeps : asks_given (next_file k) c ns g ≡ ns ++ needs_made (id_in g)
    keeps = kept_beside (next_file k) c ns g only_creates given.ids

    under_is : (q : Resource) → under q ≡ join_held (holding k.locks.held t q) (held_by ns q)
    under_is q =
        ap (λ (ms : List Need). join_held (life.held q) (held_by ms q)) (lock_request a held k t l c ns life h up mine caller served from) ∙ ap (λ (y : Option Mode). join_held y (held_by ns q)) (mine.held q)

    pub first_held : (q : Resource) → under q ≡ holding (with_plan k.locks asked).held t q
    first_held q = under_is q ∙ sym (taken_own k.locks asked refl q)

    then_holds : (q : Resource) → with_made under (id_in g) q ≡ holding (table_then g).held t q
    then_holds q =
        ap (λ (y : Option Mode). join_held y (held_by (needs_made (id_in g)) q)) (under_is q)
        ∙ join_held-assoc (holding k.locks.held t q) (held_by ns q) (held_by (needs_made (id_in g)) q)
        ∙ ap (join_held (holding k.locks.held t q)) (sym (held_by-append ns (needs_made (id_in g)) q) ∙ ap (λ (ms : List Need). held_by ms q) (sym keeps))
        ∙ sym (taken_own k.locks (plan g) refl q)

    others_held : (u : TransId) (o : Life) → a.holder.lives u ≡ Some o → (q : Resource) → o.held q ≡ holding k.locks.held u q
    others_held u o at q = held_elsewhere a.holder.cells k.locks.held (a.locked u) u (map.get k.lives u) o (subst (λ (y : Option Life). IsAlike a.holder.cells k.locks.held (a.locked u) u (map.get k.lives u) y) at (h.lives u)) q

    named : AreNamed k.waits
    named = named_all k.server k.epoch k.given (count_of k.coordinator) k.sizes k.lives k.waits ready.waits.calls

    idle : waits k.locks.waiting t ≡ false
    idle = idle_in k.server k.epoch k.given k.lives k.waits t k.locks.waiting (asks_none t k.waits away.others) ready.waits.queued

    idle_so : waiting_of (state_of a).desk turn.client t ≡ None
    idle_so = idle_told a turn.client t k.waits h.waits named away.idle

    pub lock_free : IsFree a.holder t life c
    lock_free u o at away q =
        agree-turned (o.held q) (under q)
        ∙ same_agree under o.held (holding (with_plan k.locks asked).held t) (holding (with_plan k.locks asked).held u) first_held
        (λ x. others_held u o at x ∙ sym (taken_other k.locks asked refl u x away)) (taken_agrees k.locks asked refl ready.sound free idle u away) q

    lock_agrees : (u : TransId) (o : Life) → a.holder.lives u ≡ Some o → same_trans u t ≡ false → DoAgree (with_made under (id_in g)) o.held
    lock_agrees u o at away =
        same_agree (with_made under (id_in g)) o.held (holding (table_then g).held t) (holding (table_then g).held u) then_holds
        (λ q. others_held u o at q ∙ sym (taken_other k.locks (plan g) refl u q away)) (taken_agrees k.locks (plan g) refl ready.sound (free_given m on k t c ns g ready free) idle u away)

    next_id : (f : FileId) → id_in g ≡ Some f → f ≡ journal.next_file (state_of a)
    next_id f e = id_given (next_file k) f g e given.ids ∙ next_told a held k h

    lock_threads : IsThreads (state_of a) t life c r
    lock_threads = record { given = g; own = given.own; right = lock_right.reply; next_id = next_id; counted = given.said ∙ ap (unless_counts g) lock_counted }

    -- it is refused for its open, and for no counts, or neither its shape nor its locks refuse it
    cases : (shape_refusal (state_of a) life c ≡ None) ⊎ IsShut a held k h ready.raised t l life caller c
    cases = shape_cases a held k h ready.raised t l life caller c served shape

    passed : shape_refusal (state_of a) life c ≡ None → option_or (shape_refusal (state_of a) life c) (lock_refusal (state_of a) t life c) ≡ None
    passed open_there = not_refused a held k t l c ns life h up mine caller served from open_there few

    module _ (shut : IsShut a held k h ready.raised t l life caller c) where
      shut_given : g ≡ reply.Refused shut.refusal
      shut_given = same_reply (sym lock_right.reply ∙ ap (λ (x : Answer). x.reply) (shut.is g))
        where
          same_reply : {x y : Reply} → Some x ≡ Some y → x ≡ y
          same_reply e = cc

      shut_after : given.after ≡ l.part.counts
      shut_after = same_counts a.holder.cells life.edits did.edits l.part.counts given.after (ap (λ (x : Answer). x.edits) (shut.is g)) mine.counts lock_after

      shut_log : log_need l.part.counts.cells room.locks ≤ room.area
      shut_log = subst (λ (n : ℕ). log_need l.part.counts.cells n ≤ room.area) (sym of.held) (subst (λ (n : ℕ). log_need l.part.counts.cells locks_now.made ≤ n) (sym of.area) (may_lock k.sizes l (holding k.locks.held t) ns c few).log)

      shut_passes : refused ≡ None
      shut_passes = ap (refused_for room l.part.counts) shut_after ∙ same_passes room l.part.counts (ready.within t l there).part.most shut_log

      shut_reply : r ≡ reply.Refused shut.refusal
      shut_reply = given.said ∙ ap (unless_counts g) shut_passes ∙ shut_given

    lock_answer : IsFileAnswer (state_of a) t c r (Some life)
    lock_answer = go cases
      where
        go : (shape_refusal (state_of a) life c ≡ None) ⊎ IsShut a held k h ready.raised t l life caller c → First (option_or (shape_refusal (state_of a) life c) (lock_refusal (state_of a) t life c)) r (IsLocked (state_of a) t life c r)
        go (inl open_there) = subst (λ (x : Option Refusal). First x r (IsLocked (state_of a) t life c r)) (sym (passed open_there)) (IsLocked.performed r lock_free lock_threads)
        go (inr shut) = subst (λ (x : Option Refusal). First x r (IsLocked (state_of a) t life c r)) (sym (shut_first a held k t l c ns life h up mine caller served from ready.raised shut)) (shut_reply shut)

    pub lock_why : IsFileOf false (state_of a) turn.client c r (Some t)
    lock_why = work_why a before now held k turn t c false r life h own.1 idle_so live (inr lock_answer)

    grants_of : (o : Option Refusal) → refused ≡ o → grants_by true t r ≡ t ∷ []
    grants_of None e = subst (λ (y : Reply). grants_by true t y ≡ t ∷ []) (sym (given.said ∙ ap (unless_counts g) e)) (grants_asked t g given.own)
    grants_of (Some f) e = subst (λ (y : Reply). grants_by true t y ≡ t ∷ []) (sym (given.said ∙ ap (unless_counts g) e)) (IsCountRefusal.granted (refused_is room l.part.counts given.after f e) t)

    asks_so : asks a.holder life c ≡ not (length asked.rises == 0)
    asks_so = lock_asks a held k t l c ns life h up mine caller served from

    -- it is granted where something rises
    lock_grants : GrantsFor false (state_of a) turn.client c r (cond {A = List TransId} (length asked.rises == 0) [] (t ∷ [])) (Some t)
    lock_grants = work_grants a before now held k turn t c false r life (cond {A = List TransId} (length asked.rises == 0) [] (t ∷ [])) h own.1 idle_so live (go cases)
      where
        by_first : Option Refusal → List TransId
        by_first x = cond {A = List TransId} (is_some x) [] (grants_by (asks a.holder life c) t r)

        go : (shape_refusal (state_of a) life c ≡ None) ⊎ IsShut a held k h ready.raised t l life caller c → cond {A = List TransId} (length asked.rises == 0) [] (t ∷ []) ≡ by_first (option_or (shape_refusal (state_of a) life c) (lock_refusal (state_of a) t life c))
        go (inl open_there) = grants_as t r (asks a.holder life c) asked.rises (grants_of refused refl) asks_so ∙ sym (ap by_first (passed open_there))
        go (inr shut) =
            let nothing : ns ≡ [] = shut_none a held k t l c ns life h up mine caller served from ready.raised shut in
            let none : asked.rises ≡ [] = ap (λ (ms : List Need). risen (held_of k.locks.held t) ms) nothing ∙ none_risen (held_of k.locks.held t) [] tt (risen (held_of k.locks.held t) []) refl in
            ap (λ (ms : List Need). cond {A = List TransId} (length ms == 0) [] (t ∷ [])) none ∙ sym (ap by_first (shut_first a held k t l c ns life h up mine caller served from ready.raised shut))

    pub grants_none : asked.rises ≡ [] → GrantsFor false (state_of a) turn.client c r [] (Some t)
    grants_none none = subst (λ (ns : List Need). GrantsFor false (state_of a) turn.client c r (cond {A = List TransId} (length ns == 0) [] (t ∷ [])) (Some t)) none lock_grants

    pub grants_some : (n : Need) (ns : List Need) → asked.rises ≡ n ∷ ns → GrantsFor false (state_of a) turn.client c r (t ∷ []) (Some t)
    grants_some n ns some =
        subst (λ (e : Bool). GrantsFor false (state_of a) turn.client c r (cond {A = List TransId} e [] (t ∷ [])) (Some t)) (ap (λ (ms : List Need). length ms == 0) some ∙ not_empty n ns) lock_grants

    -- what is held already is not granted
    pub under_held : asked.rises ≡ [] → under ≡ life.held
    under_held none = λ i q. (would_hold a held k t l life c ns h mine (lock_request a held k t l c ns life h up mine caller served from) q ∙ no-rise (held_of k.locks.held t) ns none q ∙ sym (mine.held q)) i

    -- and counts already
    pub still_locked : under ≡ life.held → locked_then a held k t l c ns life h up mine caller served from ≡ a.locked t
    still_locked none =
        let same : (q : Resource) → join_held (holding k.locks.held t q) (held_by ns q) ≡ holding k.locks.held t q = λ q. sym (under_is q) ∙ ap (λ (y : Holding). y q) none ∙ mine.held q in
        ap (λ (ms : List Need). with_resources ms (a.locked t)) (lock_request a held k t l c ns life h up mine caller served from)
        ∙ none_more (holding k.locks.held t) ns (a.locked t) (lock_known a held k t l c ns life h up mine caller served from) (held_already (holding k.locks.held t) ns same ns (λ q there. there))

    pub known_then : AreHeld under (locked_then a held k t l c ns life h up mine caller served from)
    known_then = held_then life.held (request_in a.holder c (Some life)) (a.locked t) mine.known

    pub count_then : length (locked_then a held k t l c ns life h up mine caller served from) ≡ locks_now.asked
    count_then = asked_locks a held k t l c ns life h up mine caller served from

    abbrev pub told : Session
    told = session_of turn is

    -- no limit is passed, and the part gives what a thread is given
    module _ (passes : refused ≡ None) where
      as_given : r ≡ g
      as_given = given.said ∙ ap (unless_counts g) passes

      lock_done : Performs l.part p did g
      lock_done = IsRight.done lock_right passes

      lock_owes : file_trans c ≡ Some t → IsFormed c → (x : Holding) → under ≡ x → (ts : List TransId) → GrantsFor false (state_of a) turn.client c r ts (Some t) → PerformOwes a turn.client turn.number told t life c g false x ts
      lock_owes of_trans formed x same ts grants = record {
        quiet = h.quiet;
        up = h.down ∙ up;
        there = turn_session a held k turn h is;
        turn = is.number;
        live = live;
        own = mine.client ∙ own.0;
        named = of_trans;
        formed = formed;
        kind = given.kind.0;
        passes = given.own;
        given = of_given a held k c g h of_file;
        right = lock_right.reply;
        next_id = next_id;
        locked = subst (λ (y : Holding). HoldsEach y (needs_of (view_in a.holder life) life.own c)) same (granted-holds life.held (needs_of (view_in a.holder life) life.own c));
        agree = λ u m at away. subst (λ (y : Holding). DoAgree (with_made y (id_in g)) m.held) same (lock_agrees u m at away);
        why = subst (λ (y : Reply). IsFileOf false (state_of a) turn.client c y (Some t)) as_given lock_why;
        grants = subst (λ (y : Reply). GrantsFor false (state_of a) turn.client c y ts (Some t)) as_given grants;
      }

      -- all that it did is under its locks
      lock_under : IsFormed c → IsUnder (with_made under (id_in g)) did.own (life.edits ++ did.edits)
      lock_under formed =
          under_call a.holder.server [] under (view_in a.holder life) life.own life.who c g life.edits (edits_sized a.holder.cells life.edits h.sized mine.sized) formed (granted-holds life.held (needs_of (view_in a.holder life) life.own c))
          (under_more life.held under (joined-more life.held (request_in a.holder c (Some life))) (granted-intended life.held (needs_of (view_in a.holder life) life.own c) mine.intended) life.own life.edits
          (record { opens = caller.opens; within = mine.within; intended = mine.intended; sized = mine.sized }))

      -- nobody held the new file
      new_free : (f : FileId) → id_in g ≡ Some f → under (Whole f) ≡ None
      new_free f e =
          ap (λ (x : FileId). under (Whole x)) (id_given (next_file k) f g e given.ids) ∙ under_is (Whole (next_file k))
          ∙ (λ i. join_held ((ready.unheld t).unmade (k.given + 1) (omega arith) i) (asked_below k.server k.epoch k.given (k.given + 1) ns files (omega arith) i))

      creates : (b : Bool) → makes_file c ≡ b → (f : FileId) → id_in g ≡ Some f → b ≡ true
      creates true e f is = refl
      creates false e f is = (let wrong : None ≡ Some f = sym (only_creates e) ∙ is in cc)

      made_count : (rs : List Resource) → length rs ≡ locks_now.asked → AreHeld under rs → (f : FileId) → id_in g ≡ Some f → length (with_resources (needs_made (Some f)) rs) ≡ locks_now.made
      made_count rs count known f e =
          let one : more_locks c ≡ 1 = makes_more c (creates (makes_file c) refl f e) in
          let counted : length (with_resources (needs_made (Some f)) rs) ≡ length rs + 1 = count_made under f rs known (new_free f e) in
          omega (arith, counted, count, one)

      lock_as : IsFormed c → (then : Contents) → then ≡ held → (x : Holding) → under ≡ x → (rs : List Resource) → length rs ≡ locks_now.asked → AreHeld under rs → (AreNotesOf (state_of a) a.ids.epoch held.notes → AreNotesOf (state_of (with_call a turn.client turn.number told t life c g x rs)) a.ids.epoch held.notes) → IsQuiet (with_call a turn.client turn.number told t life c g x rs)
          → IsAs (after_call a held k turn t l p c g (locks_given l.locks locks_now (Ok (given_of g []))) (table_then g) v life x rs told) then (lock_left g)
      lock_as formed then same x so rs count known noted quiet =
          let counts : p.counts ≡ given.after = subst (StandsAfter l.part p given.after) passes given.stands in
          done_as a held k turn t l p c g (locks_given l.locks locks_now (Ok (given_of g []))) (table_then g) v life x rs then h same is up there live mine given.ids lock_done
          (λ q. ap (λ (y : Holding). with_made y (id_in g) q) (sym so) ∙ then_holds q) (λ u q away. taken_other k.locks (plan g) refl u q away)
          (subst (λ (y : Holding). IsUnder (with_made y (id_in g)) did.own (life.edits ++ did.edits)) so (lock_under formed))
          (subst (AreCountsOf a.holder.cells (life.edits ++ did.edits)) (sym counts) lock_after)
          (kept_count l.locks locks_now g rs count (made_count rs count known))
          (subst (λ (y : Holding). AreHeld (with_made y (id_in g)) (with_resources (needs_made (id_in g)) rs)) so (held_then under (needs_made (id_in g)) rs known))
          (subst (AreRoomed k.sizes a.holder.cells (totals_of k.lives) l.part.counts) (sym counts) (allowed_room a held k h up locks_now.made room of t l given.after there passes))
          named away.others (taken_waiting k.locks (plan g)) (λ u apart. taken_beside k.locks (plan g) u apart) noted quiet

      abbrev Steps : Contents → Handed → Type 0
      Steps then x = Stepped a before now then (lock_left g) (event.Call turn.client k.epoch turn.number c) x

      held_steps : (x : Handed) (then : Contents) → then ≡ held → file_trans c ≡ Some t → IsFormed c → asked.rises ≡ [] → x ≡ told_answer (Some g) [] → Steps then x
      held_steps x then same of_trans formed none so =
          let still : under ≡ life.held = under_held none in
          let leads : Leads false a (call_entry a turn.client turn.number told c g []) (with_call a turn.client turn.number told t life c g life.held (a.locked t)) =
          performed_leads a turn.client turn.number told t life c g false (lock_owes of_trans formed life.held still [] (grants_none none)) in
          stepped_so a before now held then k (lock_left g) turn.client turn.number told c false g [] (with_call a turn.client turn.number told t life c g life.held (a.locked t)) x so h leads
          (lock_as formed then same life.held still (a.locked t) (ap (λ (rs : List Resource). length rs) (sym (still_locked still)) ∙ count_then) (subst (AreHeld under) (still_locked still) known_then)
          (call_notes false a (with_call a turn.client turn.number told t life c g life.held (a.locked t)) turn.client turn.number told c g [] h.quiet leads refl held.notes) leads.quiet) (λ e. cc)
          (stands_timely a.holder.clock (seen_in (event.Call turn.client k.epoch turn.number c)) k.clock h.clock)

      granted_steps : (x : Handed) (then : Contents) → then ≡ held → file_trans c ≡ Some t → IsFormed c → (n : Need) (more : List Need) → asked.rises ≡ n ∷ more
          → x ≡ told_answer (Some g) (act.Granted t ∷ []) → Steps then x
      granted_steps x then same of_trans formed n more some so =
          let rs : List Resource = locked_then a held k t l c ns life h up mine caller served from in
          let leads : Leads false a (call_entry a turn.client turn.number told c g (act.Granted t ∷ [])) (with_call a turn.client turn.number told t life c g under rs) =
          granted_leads a turn.client turn.number told t life c g false lock_free (lock_owes of_trans formed under refl (t ∷ []) (grants_some n more some)) in
          stepped_so a before now held then k (lock_left g) turn.client turn.number told c false g (act.Granted t ∷ []) (with_call a turn.client turn.number told t life c g under rs) x so h leads
          (lock_as formed then same under refl rs count_then known_then (call_notes false a (with_call a turn.client turn.number told t life c g under rs) turn.client turn.number told c g (act.Granted t ∷ []) h.quiet leads refl held.notes) leads.quiet) (λ e. cc) (stands_timely a.holder.clock (seen_in (event.Call turn.client k.epoch turn.number c)) k.clock h.clock)

      lock_steps : (x : Handed) (then : Contents) → then ≡ held → file_trans c ≡ Some t → IsFormed c → x ≡ told_answer (Some g) (acts_of t asked.rises) → Steps then x
      lock_steps x then same of_trans formed so = go asked.rises refl
        where
          go : (qs : List Need) → asked.rises ≡ qs → Steps then x
          go [] e = held_steps x then same of_trans formed e (so ∙ ap (λ (ms : List Need). told_answer (Some g) (acts_of t ms)) e)
          go (n ∷ more) e =
              granted_steps x then same of_trans formed n more e
              (so ∙ ap (λ (y : Bool). told_answer (Some g) (cond {A = List Act} y [] (act.Granted t ∷ []))) (ap (λ (ms : List Need). length ms == 0) e ∙ not_empty n more))

      pub lock_performed : (x : Handed) (then : Contents) → then ≡ held → file_trans c ≡ Some t → IsFormed c → x ≡ told_answer (Some r) (acts_of t asked.rises)
          → Stepped a before now then (lock_left r) (event.Call turn.client k.epoch turn.number c) x
      lock_performed x then same of_trans formed so =
          subst (λ (y : Reply). Stepped a before now then (lock_left y) (event.Call turn.client k.epoch turn.number c) x) (sym as_given)
          (lock_steps x then same of_trans formed (so ∙ ap (λ (y : Reply). told_answer (Some y) (acts_of t asked.rises)) as_given))
