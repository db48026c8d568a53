-- a call that is collected and performed under the locks that its part holds
use Rattle.std.specs.Prelude.{cond, Bool, true, false, not, ◌&&◌, IsSome, is_some, Option, None, Some, Ok}
use Rattle.std.specs.List.{AllByRecursion}
use Rattle.std.specs.FinMap as map
use Rattle.std.proofs.Common.{inr, ◌≡◌, ℕ, ◌+◌, List, [], ◌∷◌, ◌++◌, length, refl, sym, ◌∙◌, ap, subst, arith}
use Rattle.alp_base.specs.declared.ids.FileId.{FileId}
use Rattle.alp_base.specs.declared.ids.TransId.{TransId}
use Rattle.alp_base.specs.declared.key.Resource.{Resource}
use Rattle.alp_base.specs.declared.key.Resource.TheVariants.{Whole, Leaf}
use Rattle.alp_modes.specs.declared.Mode.{Mode}
use Rattle.alp_files.specs.Act.{Answer, id_in}
use Rattle.alp_files.specs.Born.{count_after}
use Rattle.alp_files.specs.Holdings.{Holding, join_held, covers_held, held_by, file_of, given_to, intention_of, DoAgree, IsIntended}
use Rattle.alp_files.specs.Locks.{Need, IsMore, HoldsOn, HoldsEach, needs_of, needs_made, with_made, joined, wholes_of, asked_on, asked_each, request_of, intention_on}
use Rattle.alp_files.proofs.CoverLemmas.{joined-more, more-given}
use Rattle.alp_files.specs.declared.call.Call.{Call}
use Rattle.alp_files.specs.declared.call.Call.TheVariants as call
use Rattle.alp_files.specs.declared.reply.Reply.{Reply}
use Rattle.alp_files.specs.declared.reply.Reply.TheVariants as reply
use Rattle.alp_files.specs.declared.refusal.Refusal.{Refusal}
use Rattle.alp_queue.specs.declared.waiter.Waiter.{Waiter}
use Rattle.alp_queue.specs.Order.{waits}
use Rattle.alp_locks.specs.Tables.{Table, holding, held_of}
use Rattle.alp_locks.specs.Asks.{blocker, risen, with_granted}
use Rattle.alp_locks.proofs.SoundLemmas.{each-filter}
use Rattle.alp_trans.specs.declared.part.Part.{Part}
use Rattle.alp_trans.specs.Counting.{AreCountsOf}
use Rattle.alp_calls.specs.Parts.{Performs, Answered, IsRight, IsAsBefore, StandsAfter}
use Rattle.alp_calls.specs.Limits.{refused_for}
use Rattle.alp_calls.specs.declared.limits.Room.{Room}
use Rattle.alp_vault.specs.Contents.{Contents}
use Rattle.alp_journal.specs.declared.event.Event.TheVariants as event
use Rattle.alp_journal.specs.Ids.{same_trans}
use Rattle.alp_journal.specs.Counts.{request_in, with_resources}
use Rattle.alp_journal.specs.Desk.{Session, file_trans}
use Rattle.alp_journal.specs.Holder.{Life, view_in, answer_in}
use Rattle.alp_journal.specs.Moves as journal
use Rattle.alp_journal.specs.Answers.{IsThreads, count_refusal, more_locks, unless_counts}
use Rattle.alp_journal.specs.Account.{Account, state_of, Leads}
use Rattle.alp_journal.proofs.CallLemmas.{call_entry}
use Rattle.alp_journal.proofs.RefusedCalls.{counted_as}
use Rattle.alp_journal.proofs.CollectCalls.{uncollected, CollectOwes, with_collected, collect_refused_leads, collected_leads}
use Rattle.alp_coord.specs.Coordinators.{count_of}
use Rattle.alp_node.specs.Asks.{is_of_given, asks_made, asks_given, makes_file, is_made, plan_if, plan_of, with_plan, with_made as with_made_lock}
use Rattle.alp_node.specs.Calls.{name_in, IsServedCall, given_of, next_file}
use Rattle.alp_node.specs.Rooms.{IsRoomOf, locks_given}
use Rattle.alp_node.specs.Totals.{totals_of}
use Rattle.alp_node.specs.ServerState.{IsAs, IsReady, IsAlike, IsCaller, IsLife, IsAskedAs}
use Rattle.alp_node.specs.Standings.{standing_of}
use Rattle.alp_node.specs.declared.served.Standing.TheVariants as standing
use Rattle.alp_node.specs.Steps.{Stepped, IsTurn, counted_in, told_answer}
use Rattle.alp_node.specs.Waits.{waiting, is_of, call_at, without_calls_of, IsNamed, IsFileCall, IsWaitingCall, IsWithinLimits}
use Rattle.alp_node.specs.declared.answer.Answer.{Answer as Handed}
use Rattle.alp_node.specs.declared.lives.Live.{Live}
use Rattle.alp_node.specs.declared.lock_counts.LockCounts.{LockCounts}
use Rattle.alp_node.specs.declared.server_state.ServerState.{ServerState}
use Rattle.alp_node.specs.declared.sessions.Turn.{Turn}
use Rattle.alp_node.specs.declared.waits.WaitingCall.{WaitingCall}
use Rattle.alp_node.proofs.BesideLemmas.{AreNamed, counted_named}
use Rattle.alp_node.proofs.CallLemmas.{right_as, part_still, done_as}
use Rattle.alp_node.proofs.CollectLemmas.{call_is, left_off, none_asks, found_here, all_named, its_life_client, its_asked, server_left, left_as}
use Rattle.alp_node.proofs.ConflictLemmas.{held_elsewhere, none_risen}
use Rattle.alp_node.proofs.CountedLemmas.{IsCountRefusal, refused_is}
use Rattle.alp_node.proofs.FinishLemmas.{turn_session, counts_as}
use Rattle.alp_node.proofs.GrantLemmas.{free_given, kept_beside, of_given, next_told, id_given}
use Rattle.alp_node.proofs.KeptLemmas.{session_of, IsLive, live_there, stands_timely, stepped_so}
use Rattle.alp_node.proofs.LockLemmas.{taken_own, taken_other, taken_agrees, taken_beside, taken_waiting}
use Rattle.alp_node.proofs.LockCountLemmas.{held_then, none_more, count_made}
use Rattle.alp_node.proofs.MadeLemmas.{makes_only}
use Rattle.alp_node.proofs.NoteCalls.{call_notes}
use Rattle.alp_node.proofs.NotedLemmas.{notes_on}
use Rattle.alp_node.proofs.StandingLemmas.{unvoted_told}
use Rattle.alp_node.proofs.RoomLemmas.{refusal_same, allowed_room}
use Rattle.alp_node.proofs.ShapeLemmas.{shape_given, count_none_done}
use Rattle.alp_node.proofs.TotalLemmas.{AreRoomed}
use Rattle.alp_node.proofs.UnderLemmas.{under_call, edits_sized}
use Rattle.alp_node.proofs.WaitLemmas.{idle_in}

-- ---- what covers a call is held wherever the call would ask

abbrev IsHeldIn : Holding → Need → Type 0
IsHeldIn held n = is_some (held n.0) ≡ true

some_covering : (x : Option Mode) (m : Mode) → covers_held x m ≡ true → is_some x ≡ true
some_covering None m e = cc
some_covering (Some y) m e = refl

each_joined : (P : Need → Type 0) (xs ys : List Need) → AllByRecursion P xs → AllByRecursion P ys → AllByRecursion P (xs ++ ys)
each_joined P [] ys a b = b
each_joined P (x ∷ xs) ys a b = (a.0, each_joined P xs ys a.1 b)

module _ (held judged : Holding) (intended : IsIntended held) (more : IsMore held judged) where
  on_held : (r : Resource) (m : Mode) → HoldsOn held r m → AllByRecursion (IsHeldIn held) (asked_on judged r m)
  on_held (Whole f) m h = (some_covering (held (Whole f)) m h, tt)
  on_held (Leaf q) m h = go (covers_held (given_to judged q) m) refl
    where
      wholes : (y : Mode) → held (Leaf q) ≡ Some y → (x : Option FileId) → file_of q ≡ x → AllByRecursion (IsHeldIn held) (intention_on x m)
      wholes y at None e = tt
      wholes y at (Some f) e = (some_covering (held (Whole f)) (intention_of y) (intended q f y e at), tt)

      leaf : covers_held (given_to judged q) m ≡ false → (x : Option Mode) → held (Leaf q) ≡ x → covers_held (join_held x (given_to held q)) m ≡ true → AllByRecursion (IsHeldIn held) ((Leaf q, m) ∷ intention_on (file_of q) m)
      leaf none None at covers = let wrong : true ≡ false = sym (more-given held judged more q m covers) ∙ none in cc
      leaf none (Some y) at covers = (ap is_some at, wholes y at (file_of q) refl)

      go : (b : Bool) → covers_held (given_to judged q) m ≡ b → AllByRecursion (IsHeldIn held) (cond {A = List Need} b [] ((Leaf q, m) ∷ intention_on (file_of q) m))
      go true e = tt
      go false e = leaf e (held (Leaf q)) refl h

  each_held : (ns : List Need) → HoldsEach held ns → AllByRecursion (IsHeldIn held) (asked_each judged ns)
  each_held [] h = tt
  each_held (n ∷ ns) h = each_joined (IsHeldIn held) (asked_on judged n.0 n.1) (asked_each judged ns) (on_held n.0 n.1 h.0) (each_held ns h.1)

pub asked_held : (held : Holding) → IsIntended held → (ns : List Need) → HoldsEach held ns → AllByRecursion (IsHeldIn held) (request_of held ns)
asked_held held intended ns h = each_held held (joined held (wholes_of ns)) intended (joined-more held (wholes_of ns)) ns h

-- ---- what is left

same_agree : (a b x y : Holding) → ((q : Resource) → a q ≡ x q) → ((q : Resource) → b q ≡ y q) → DoAgree x y → DoAgree a b
same_agree a b x y first second agree = subst (λ (z : Holding). DoAgree z b) (λ i q. sym (first q) i) (subst (DoAgree x) (λ i q. sym (second q) i) agree)

-- a call that may make a file counts its lock
makes_more : (c : Call) → makes_file c ≡ true → more_locks c ≡ 1
makes_more (call.CreateFile t start choice) e = refl
makes_more c e = cc

-- how many it has locked then
kept_count : (locks : ℕ) (n : LockCounts) (g : Reply) (rs : List Resource) → length rs ≡ n.asked → ((f : FileId) → id_in g ≡ Some f → length (with_resources (needs_made (Some f)) rs) ≡ n.made)
    → locks_given locks n (Ok (given_of g [])) ≡ length (with_resources (needs_made (id_in g)) rs)
kept_count locks n (reply.Created f number) rs asked made = sym (made f refl)
kept_count locks n g rs asked made = sym asked

module _ {V : Type 0} (k : ServerState V) (turn : Turn) (w : WaitingCall) (z : LockCounts) (l : Live) (p : Part) (v : V) where
  -- the lock of a file that it makes
  abbrev pub made_plan : Option Waiter
  made_plan = plan_if (makes_file w.call) (plan_of k.locks w.trans (asks_made (next_file k) []))

  abbrev pub made_asks : Reply → List Need
  made_asks g = asks_given (next_file k) w.call [] g

  -- the table, and the server, as the call leaves them where it is answered so
  abbrev pub table_then : Reply → Table
  table_then g = with_made_lock (is_made g) k.locks made_plan

  abbrev pub collected_left : Reply → ServerState V
  collected_left g = record k {
    sessions = counted_in k.sessions turn g;
    waits = without_calls_of turn.client w.trans k.waits;
    given = count_after k.given g;
    lives = map.insert k.lives w.trans (record l { part = p; locks = locks_given l.locks z (Ok (given_of g [])) });
    locks = table_then g;
    vault = v;
  }

  pub none_rises : (plan_of k.locks w.trans []).rises ≡ []
  none_rises = none_risen (held_of k.locks.held w.trans) [] tt (risen (held_of k.locks.held w.trans) []) refl

  pub none_blocks : blocker k.locks.held w.trans (plan_of k.locks w.trans []).rises ≡ None
  none_blocks = ap (blocker k.locks.held w.trans) none_rises

  -- nothing else is asked
  pub table_is : (g : Reply) → table_then g ≡ with_plan k.locks (plan_of k.locks w.trans (made_asks g))
  table_is g = go (is_made g) (makes_file w.call)
    where
      nothing : k.locks ≡ with_plan k.locks (plan_of k.locks w.trans [])
      nothing = sym (ap (λ (ms : List Need). with_granted k.locks w.trans ms (plan_of k.locks w.trans []).after) none_rises)

      go : (b d : Bool) → with_made_lock b k.locks (plan_if d (plan_of k.locks w.trans (asks_made (next_file k) []))) ≡ with_plan k.locks (plan_of k.locks w.trans (cond {A = List Need} (b && d) (asks_made (next_file k) []) []))
      go true true = refl
      go true false = nothing
      go false d = nothing

-- ---- its entry

module _ {V : Type 0} (a : Account) (before now : ℕ) (held : Contents) (k : ServerState V) (turn : Turn) (n : ℕ) (w : WaitingCall) (z : LockCounts) (l : Live) (p : Part) (room : Room) (r : Reply) (v : V) where
  abbrev left : Reply → ServerState V
  left = collected_left k turn w z l p v

  module _ (m : ℕ) (on : Bool) (ready : IsReady m on k) (found : call_at turn.client n k.waits ≡ Some w) (counted : w.counts ≡ Some z) (granted : w.is_granted ≡ true) (works : standing_of k turn.client w.trans ≡ standing.Work) (life : Life) (h : IsAs a held k) (up : k.is_down ≡ false) (is : IsTurn k.sessions turn)
      (there : map.get k.lives w.trans ≡ Some l) (live : a.holder.lives w.trans ≡ Some life) (mine : IsLife a.holder.cells k.locks.held (a.locked w.trans) w.trans l life)
      (given : Answered true held.cells l.part p (name_in l.who) (next_file k) w.call room r) (of : IsRoomOf true held.cells k z.made room) where
    abbrev caller : IsCaller l life
    caller = mine.calls (unvoted_told a held k turn.client w.trans h works life live).vote

    some : is_some w.counts ≡ true
    some = ap is_some counted

    own_life : life.client ≡ turn.client
    own_life = its_life_client a held k turn.client n w m on ready found some h l there life mine

    abbrev g : Reply
    g = given.given

    abbrev did : Answer
    did = answer_in a.holder life (record { call = w.call; reply = g })

    abbrev refused : Option Refusal
    refused = refused_for room l.part.counts given.after

    abbrev told : Session
    told = session_of turn is

    its : IsWaitingCall k.server k.epoch k.given (count_of k.coordinator) k.sizes k.lives w
    its = call_is k turn.client n w m on ready found some

    file : IsFileCall k.server k.epoch k.given (count_of k.coordinator) k.sizes k.lives w z
    file = its.file z counted

    limits : IsWithinLimits k.server k.epoch k.given k.sizes w z l
    limits = file.limits l there

    named : file_trans w.call ≡ Some w.trans
    named = counted_named w z counted its.named

    asked : IsAskedAs a.holder a.locked w z life
    asked = its_asked a held k turn.client n w m on ready found some h z life counted live

    covered : HoldsEach life.held (needs_of (view_in a.holder life) life.own w.call)
    covered = asked.covered granted

    -- it counts as many locks as it has
    asked_is : z.asked ≡ length (a.locked w.trans)
    asked_is = asked.asked ∙ ap (λ (rs : List Resource). length rs) (none_more life.held (request_in a.holder w.call (Some life)) (a.locked w.trans) mine.known (asked_held life.held mine.intended (needs_of (view_in a.holder life) life.own w.call) covered))

    call_right : IsRight a.holder.cells l.part p given.after refused g did
    call_right = right_as a held k w.trans l p w.call g life (a.locked w.trans) given.after refused h up mine caller (given.right refl [] refl)

    counts_after : AreCountsOf a.holder.cells (life.edits ++ did.edits) given.after
    counts_after = call_right.counts life.edits mine.intents mine.counts

    call_counted : refused ≡ count_refusal (state_of a) w.trans life w.call did
    call_counted = refusal_same a held k h up z.made room of w.trans life w.call did l.part.counts given.after mine.counts counts_after (asked.made ∙ ap (λ (x : ℕ). x + more_locks w.call) asked.asked)

    of_file : is_of_given k.server k.epoch k.given w.call ≡ true
    of_file = shape_given k.server k.epoch k.given (length l.part.opens.items) w.call limits.shape

    next_id : (f : FileId) → id_in g ≡ Some f → f ≡ journal.next_file (state_of a)
    next_id f e = id_given (next_file k) f g e given.ids ∙ next_told a held k h

    threads : IsThreads (state_of a) w.trans life w.call r
    threads = record { given = g; own = given.own; right = call_right.reply; next_id = next_id; counted = given.said ∙ ap (unless_counts g) call_counted }

    -- the call is gone
    abbrev state_left : Account
    state_left = record a { waits = uncollected a turn.client turn.number told n }

    left_is : IsAs state_left held (server_left a held k turn.client n w m on ready found some h)
    left_is = left_as a held k turn.client n w m on ready found some h up granted life live own_life

    -- ---- the counts refuse it

    module _ (f : Refusal) (full : refused ≡ Some f) where
      refuses : IsCountRefusal f
      refuses = refused_is room l.part.counts given.after f full

      as_refused : r ≡ reply.Refused f
      as_refused = given.said ∙ ap (unless_counts g) full

      stands : IsAsBefore l.part p
      stands = subst (StandsAfter l.part p given.after) full given.stands

      refused_as : (then : Contents) → then ≡ held → IsAs (record (counted_as a turn.client turn.number told (reply.Refused f)) { waits = uncollected a turn.client turn.number told n }) then (left (reply.Refused f))
      refused_as then same =
          let k_left : ServerState V = server_left a held k turn.client n w m on ready found some h in
          counts_as state_left then (record k_left { lives = map.insert k.lives w.trans (record l { part = p; locks = z.asked }); vault = v }) turn (reply.Refused f)
          (part_still state_left held k_left w.trans l p z.asked v then left_is same there stands (asked_is ∙ sym mine.count)) is up

      refused_stepped : (x : Handed) (then : Contents) → then ≡ held → x ≡ told_answer (Some r) [] → Stepped a before now then (left r) (event.Call turn.client k.epoch turn.number (call.Collect n)) x
      refused_stepped x then same so =
          let leads : Leads false a (call_entry a turn.client turn.number told (call.Collect n) (reply.Refused f) []) (record (counted_as a turn.client turn.number told (reply.Refused f)) { waits = uncollected a turn.client turn.number told n }) =
          collect_refused_leads a turn.client turn.number told n (waiting w) w.trans life false f h.quiet (h.down ∙ up) (turn_session a held k turn h is) is.number (found_here a held k turn.client n w m on ready found some h) named granted live
          refuses.now (count_none_done a w.trans w.call f refuses) (inr (subst (IsThreads (state_of a) w.trans life w.call) as_refused threads)) in
          subst (λ (y : Reply). Stepped a before now then (left y) (event.Call turn.client k.epoch turn.number (call.Collect n)) x) (sym as_refused)
          (stepped_so a before now held then k (left (reply.Refused f)) turn.client turn.number told (call.Collect n) false (reply.Refused f) []
          (record (counted_as a turn.client turn.number told (reply.Refused f)) { waits = uncollected a turn.client turn.number told n }) x (so ∙ ap (λ (y : Reply). told_answer (Some y) []) as_refused) h leads (refused_as then same) (λ e. cc)
          (stands_timely a.holder.clock 0 k.clock h.clock))

    -- ---- it is performed

    module _ (passes : refused ≡ None) where
      as_given : r ≡ g
      as_given = given.said ∙ ap (unless_counts g) passes

      did_so : Performs l.part p did g
      did_so = IsRight.done call_right passes

      counts_are : p.counts ≡ given.after
      counts_are = subst (StandsAfter l.part p given.after) passes given.stands

      served : IsServedCall w.call
      served = subst (λ (o : Option TransId). IsSome o) (sym named) refl

      -- what is kept is the lock of a new file
      abbrev plan : Waiter
      plan = plan_of k.locks w.trans (made_asks k turn w z l p v g)

      abbrev table : Table
      table = with_plan k.locks plan

      only_creates : makes_file w.call ≡ false → id_in g ≡ None
      only_creates none = makes_only a.holder.server [] (view_in a.holder life) life.own life.who w.call g served none call_right.reply

      keeps : made_asks k turn w z l p v g ≡ needs_made (id_in g)
      keeps = kept_beside (next_file k) w.call [] g only_creates given.ids

      then_holds : (q : Resource) → with_made life.held (id_in g) q ≡ holding table.held w.trans q
      then_holds q =
          ap (λ (y : Option Mode). join_held y (held_by (needs_made (id_in g)) q)) (mine.held q)
          ∙ ap (λ (ms : List Need). join_held (holding k.locks.held w.trans q) (held_by ms q)) (sym keeps)
          ∙ sym (taken_own k.locks plan refl q)

      others_held : (u : TransId) (o : Life) → a.holder.lives u ≡ Some o → (q : Resource) → o.held q ≡ holding k.locks.held u q
      others_held u o at q = held_elsewhere a.holder.cells k.locks.held (a.locked u) u (map.get k.lives u) o (subst (λ (y : Option Life). IsAlike a.holder.cells k.locks.held (a.locked u) u (map.get k.lives u) y) at (h.lives u)) q

      idle : waits k.locks.waiting w.trans ≡ false
      idle = idle_in k.server k.epoch k.given k.lives k.waits w.trans k.locks.waiting (none_asks k turn.client n w m on ready found some granted) ready.waits.queued

      agrees : (u : TransId) (o : Life) → a.holder.lives u ≡ Some o → same_trans u w.trans ≡ false → DoAgree (with_made life.held (id_in g)) o.held
      agrees u o at away =
          same_agree (with_made life.held (id_in g)) o.held (holding table.held w.trans) (holding table.held u) then_holds (λ q. others_held u o at q ∙ sym (taken_other k.locks plan refl u q away))
          (taken_agrees k.locks plan refl ready.sound (free_given m on k w.trans w.call [] g ready (none_blocks k turn w z l p v)) idle u away)

      owes : CollectOwes a turn.client turn.number told n (waiting w) w.trans life g false
      owes = record {
        quiet = h.quiet;
        up = h.down ∙ up;
        there = turn_session a held k turn h is;
        turn = is.number;
        found = found_here a held k turn.client n w m on ready found some h;
        granted = granted;
        live = live;
        named = named;
        formed = file.formed;
        kind = given.kind.0;
        passes = given.own;
        given = of_given a held k w.call g h of_file;
        right = call_right.reply;
        next_id = next_id;
        locked = covered;
        agree = agrees;
        why = inr (subst (IsThreads (state_of a) w.trans life w.call) as_given threads);
      }

      leads : Leads false a (call_entry a turn.client turn.number told (call.Collect n) g []) (with_collected a turn.client turn.number told n (waiting w) w.trans life g)
      leads = collected_leads a turn.client turn.number told n (waiting w) w.trans life g false owes

      -- nobody held the new file
      new_free : (f : FileId) → id_in g ≡ Some f → life.held (Whole f) ≡ None
      new_free f e = ap (λ (x : FileId). life.held (Whole x)) (id_given (next_file k) f g e given.ids) ∙ mine.held (Whole (next_file k)) ∙ (ready.unheld w.trans).unmade (k.given + 1) (omega arith)

      creates : (b : Bool) → makes_file w.call ≡ b → (f : FileId) → id_in g ≡ Some f → b ≡ true
      creates true e f at = refl
      creates false e f at = (let wrong : None ≡ Some f = sym (only_creates e) ∙ at in cc)

      made_count : (f : FileId) → id_in g ≡ Some f → length (with_resources (needs_made (Some f)) (a.locked w.trans)) ≡ z.made
      made_count f e =
          let one : more_locks w.call ≡ 1 = makes_more w.call (creates (makes_file w.call) refl f e) in
          let more : length (with_resources (needs_made (Some f)) (a.locked w.trans)) ≡ length (a.locked w.trans) + 1 = count_made life.held f (a.locked w.trans) mine.known (new_free f e) in
          let made : z.made ≡ z.asked + more_locks w.call = asked.made in
          omega (arith, more, made, asked_is, one)

      left_named : AreNamed (without_calls_of turn.client w.trans k.waits)
      left_named = each-filter IsNamed (λ (u : WaitingCall). not (is_of turn.client w.trans u)) k.waits (all_named a held k turn.client n w m on ready found some h)

      performed_as : (then : Contents) → then ≡ held → IsAs (with_collected a turn.client turn.number told n (waiting w) w.trans life g) then (left g)
      performed_as then same =
          subst (λ (x : Table). IsAs (with_collected a turn.client turn.number told n (waiting w) w.trans life g) then (record (left g) { locks = x })) (sym (table_is k turn w z l p v g))
          (done_as state_left held (server_left a held k turn.client n w m on ready found some h) turn w.trans l p w.call g (locks_given l.locks z (Ok (given_of g []))) table v life life.held (a.locked w.trans) then left_is same is up there live mine given.ids did_so
          then_holds (λ u q away. taken_other k.locks plan refl u q away)
          (under_call a.holder.server [] life.held (view_in a.holder life) life.own life.who w.call g life.edits (edits_sized a.holder.cells life.edits h.sized mine.sized) file.formed covered
          (record { opens = caller.opens; within = mine.within; intended = mine.intended; sized = mine.sized }))
          (subst (AreCountsOf a.holder.cells (life.edits ++ did.edits)) (sym counts_are) counts_after)
          (kept_count l.locks z g (a.locked w.trans) (sym asked_is) made_count)
          (held_then life.held (needs_made (id_in g)) (a.locked w.trans) mine.known)
          (subst (AreRoomed k.sizes a.holder.cells (totals_of k.lives) l.part.counts) (sym counts_are) (allowed_room a held k h up z.made room of w.trans l given.after there passes))
          left_named (left_off k turn.client n w m on ready found some) (taken_waiting k.locks plan) (λ u away. taken_beside k.locks plan u away)
          (λ q. call_notes false a (with_collected a turn.client turn.number told n (waiting w) w.trans life g) turn.client turn.number told (call.Collect n) g [] h.quiet leads refl held.notes
          (notes_on (state_of state_left) (state_of a) a.ids.epoch held.notes refl refl refl (λ t. refl) (λ j x y. y) q)) leads.quiet)

      performed_stepped : (x : Handed) (then : Contents) → then ≡ held → x ≡ told_answer (Some r) [] → Stepped a before now then (left r) (event.Call turn.client k.epoch turn.number (call.Collect n)) x
      performed_stepped x then same so =
          subst (λ (y : Reply). Stepped a before now then (left y) (event.Call turn.client k.epoch turn.number (call.Collect n)) x) (sym as_given)
          (stepped_so a before now held then k (left g) turn.client turn.number told (call.Collect n) false g [] (with_collected a turn.client turn.number told n (waiting w) w.trans life g) x
          (so ∙ ap (λ (y : Reply). told_answer (Some y) []) as_given) h leads (performed_as then same) (λ e. cc) (stands_timely a.holder.clock 0 k.clock h.clock))

  -- ---- either

  pub collect_stepped : (m : ℕ) (on : Bool) (x : Handed) (then : Contents) → IsReady m on k → IsAs a held k → k.is_down ≡ false → then ≡ held → IsTurn k.sessions turn → call_at turn.client n k.waits ≡ Some w → w.counts ≡ Some z → w.is_granted ≡ true → standing_of k turn.client w.trans ≡ standing.Work → map.get k.lives w.trans ≡ Some l
      → Answered true held.cells l.part p (name_in l.who) (next_file k) w.call room r → IsRoomOf true held.cells k z.made room → x ≡ told_answer (Some r) []
      → Stepped a before now then (left r) (event.Call turn.client k.epoch turn.number (call.Collect n)) x
  collect_stepped m on x then ready h up same is found counted granted works there given of so =
      go (live_there a.holder.cells k.locks.held (a.locked w.trans) w.trans (map.get k.lives w.trans) (a.holder.lives w.trans) l there (h.lives w.trans)) (refused_for room l.part.counts given.after) refl
    where
      go : (y : IsLive a.holder.cells k.locks.held (a.locked w.trans) w.trans l (a.holder.lives w.trans)) → (o : Option Refusal) → refused_for room l.part.counts given.after ≡ o
          → Stepped a before now then (left r) (event.Call turn.client k.epoch turn.number (call.Collect n)) x
      go y None e = performed_stepped m on ready found counted granted works y.life h up is there y.is y.alike given of e x then same so
      go y (Some f) e = refused_stepped m on ready found counted granted works y.life h up is there y.is y.alike given of f e x then same so
