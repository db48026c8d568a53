-- a file call that has the locks that it asked, and that the counts refuse: its part keeps the locks, and nothing else comes about
use Rattle.std.specs.Prelude.{cond, Bool, true, false, ◌==◌, Option, None, Some}
use Rattle.std.specs.List.{AllByRecursion}
use Rattle.std.specs.FinMap as map
use Rattle.std.proofs.Common.{◌≡◌, ℕ, List, [], ◌∷◌, length, refl, sym, ◌∙◌, ap, subst}
use Rattle.alp_base.specs.declared.ids.TransId.{TransId}
use Rattle.alp_base.specs.declared.key.Resource.{Resource}
use Rattle.alp_files.specs.Holdings.{Holding}
use Rattle.alp_files.proofs.CoverLemmas.{joined-more, granted-intended}
use Rattle.alp_files.specs.declared.call.Call.{Call}
use Rattle.alp_files.specs.declared.reply.Reply.{Reply}
use Rattle.alp_files.specs.declared.reply.Reply.TheVariants as reply
use Rattle.alp_files.specs.declared.refusal.Refusal.{Refusal}
use Rattle.alp_files.specs.Locks.{Need, IsMore, IsFormed, needs_of}
use Rattle.alp_queue.specs.declared.waiter.Waiter.{Waiter}
use Rattle.alp_locks.specs.Tables.{Table, holding}
use Rattle.alp_locks.specs.Asks.{blocker}
use Rattle.alp_trans.specs.declared.part.Part.{Part}
use Rattle.alp_trans.specs.Counting.{AreCountsOf}
use Rattle.alp_calls.specs.Parts.{seen, Answered, IsAsBefore, StandsAfter}
use Rattle.alp_trans.specs.Parts.{own_of}
use Rattle.alp_calls.specs.Limits.{refused_for}
use Rattle.alp_calls.specs.declared.limits.Room.{Room}
use Rattle.alp_vault.specs.Contents.{Contents}
use Rattle.alp_journal.specs.declared.act.Act.{Act}
use Rattle.alp_journal.specs.declared.act.Act.TheVariants as act
use Rattle.alp_journal.specs.declared.event.Event.TheVariants as event
use Rattle.alp_journal.specs.Ids.{same_trans}
use Rattle.alp_journal.specs.Counts.{lock_set, request_in}
use Rattle.alp_journal.proofs.RefusedCalls.{counted_as}
use Rattle.alp_journal.specs.Desk.{Session}
use Rattle.alp_journal.specs.Desk.{Waiting, file_trans, is_of}
use Rattle.alp_journal.specs.Holder.{Life, view_in, held_for}
use Rattle.alp_journal.specs.Answers.{IsFileOf, unless_counts}
use Rattle.alp_journal.specs.Answered.{GrantsFor}
use Rattle.alp_journal.specs.Account.{Account, state_of, IsQuiet, Leads}
use Rattle.alp_journal.proofs.CallLemmas.{call_entry}
use Rattle.alp_coord.specs.Coordinators.{count_of}
use Rattle.alp_node.specs.Asks.{AreGiven, asks_of, with_plan, acts_of}
use Rattle.alp_node.specs.Calls.{name_in, IsServedCall, next_file}
use Rattle.alp_node.specs.Covers.{AreHeld}
use Rattle.alp_node.specs.Rooms.{IsRoomOf}
use Rattle.alp_node.specs.Shapes.{shape_of, too_locked}
use Rattle.alp_node.specs.declared.lock_counts.LockCounts.{LockCounts}
use Rattle.alp_node.specs.Durable.{AreNotesOf}
use Rattle.alp_node.specs.ServerState.{IsAs, IsReady, IsAlike, IsCaller, IsLife, PutNoneBeyond}
use Rattle.alp_node.specs.declared.served.Standing.TheVariants as standing
use Rattle.alp_node.specs.Steps.{Stepped, IsTurn, counted_in, seen_in, told_answer, refused_answer}
use Rattle.alp_node.specs.declared.answer.Answer.{Answer as Handed}
use Rattle.alp_node.specs.declared.lives.Live.{Live}
use Rattle.alp_node.specs.declared.server_state.ServerState.{ServerState}
use Rattle.alp_node.specs.declared.sessions.Turn.{Turn}
use Rattle.alp_node.proofs.CallLemmas.{IsUnder}
use Rattle.alp_node.proofs.UnderLemmas.{under_more}
use Rattle.alp_node.proofs.CountedLemmas.{IsCountRefusal, refused_is}
use Rattle.alp_node.proofs.ShapeLemmas.{count_none_done}
use Rattle.alp_node.proofs.TotalLemmas.{same_room}
use Rattle.alp_node.proofs.ConflictLemmas.{not_empty}
use Rattle.alp_node.proofs.FinishLemmas.{turn_session, counts_as}
use Rattle.alp_node.proofs.KeptLemmas.{session_of, IsLive, live_there, alike_under, alike_set, each_set, stands_timely, stepped_so}
use Rattle.alp_node.proofs.LockLemmas.{taken_other, taken_beside, taken_waiting}
use Rattle.alp_node.proofs.LockCallLemmas.{locked_then}
use Rattle.alp_node.proofs.LockDoneLemmas.{locks_now, asked, lock_left, first_held, lock_free, lock_why, grants_none, grants_some, under_held, still_locked, known_then, count_then, lock_performed}
use Rattle.alp_journal.proofs.RefusedGrants.{with_locks, refused_granted_leads}
use Rattle.alp_node.proofs.NoteCalls.{call_notes}
use Rattle.alp_node.proofs.StandingLemmas.{IsWorking, part_told, unvoted_told}
use Rattle.alp_node.proofs.BesideLemmas.{AreNamed, HasNoCall, others_told, idle_told, queue_beside, asked_beside}
use Rattle.alp_node.proofs.WaitLemmas.{named_all}
use Rattle.alp_node.proofs.MapLemmas.{get_put}
use Rattle.alp_files.proofs.FilesLemmas.{same-some}
use Rattle.alp_journal.proofs.IdLemmas.{same_trans-true}
use Rattle.alp_node.proofs.ServedLemmas.{refused_stepped}

module _ {V : Type 0} (a : Account) (before now : ℕ) (held : Contents) (k : ServerState V) (turn : Turn) (t : TransId) (l : Live) (p : Part) (c : Call) (ns : List Need) (room : Room) (r : Reply) (v : V) where
  abbrev locks_asked : LockCounts
  locks_asked = locks_now a before now held k turn t l p c ns room r v

  abbrev wanted : Waiter
  wanted = asked a before now held k turn t l p c ns room r v

  abbrev with_asked : Table
  with_asked = with_plan k.locks wanted

  -- its part as it was, with the locks that were asked
  abbrev live_now : Live
  live_now = record l { part = p; locks = locks_asked.asked }

  abbrev server_now : ServerState V
  server_now = record k { lives = map.insert k.lives t live_now; locks = with_asked; vault = v }

  abbrev left : Reply → ServerState V
  left = lock_left a before now held k turn t l p c ns room r v

  module _ (m : ℕ) (on : Bool) (ready : IsReady m on k) (life : Life) (h : IsAs a held k) (up : k.is_down ≡ false) (is : IsTurn k.sessions turn) (there : map.get k.lives t ≡ Some l) (own : IsWorking k turn.client t l) (live : a.holder.lives t ≡ Some life)
      (mine : IsLife a.holder.cells k.locks.held (a.locked t) t l life) (served : IsServedCall c) (files : AreGiven k.server k.epoch k.given ns) (from : ns ≡ asks_of (holding k.locks.held t) (seen held.cells l.part) (own_of l.part) c) (given : Answered true held.cells l.part p (name_in l.who) (next_file k) c room r) (of : IsRoomOf true held.cells k locks_asked.made room)
      (shape : shape_of k.server k.epoch k.given (length l.part.opens.items) c ≡ None) (few : too_locked k.sizes.area l.part.counts.cells locks_asked.made ≡ None) (free : blocker k.locks.held t wanted.rises ≡ None) (away : HasNoCall turn.client t k.waits)
      (f : Refusal) (full : refused_for room l.part.counts given.after ≡ Some f) where
    abbrev caller : IsCaller l life
    caller = mine.calls (unvoted_told a held k turn.client t h own.1 life live).vote

    abbrev would : Holding
    would = held_for a.holder life c

    abbrev resources : List Resource
    resources = locked_then a held k t l c ns life h up mine caller served from

    abbrev w : Session
    w = session_of turn is

    named : AreNamed k.waits
    named = named_all k.server k.epoch k.given (count_of k.coordinator) k.sizes k.lives k.waits ready.waits.calls

    others_asked : AllByRecursion (λ (x : Waiting). is_of t (file_trans x.call) ≡ false) a.waits
    others_asked = subst (AllByRecursion (λ (x : Waiting). is_of t (file_trans x.call) ≡ false)) (sym h.waits) (others_told t k.waits named away.others)

    counted : IsCountRefusal f
    counted = refused_is room l.part.counts given.after f full

    as_refused : r ≡ reply.Refused f
    as_refused = given.said ∙ ap (unless_counts given.given) full

    stands : IsAsBefore l.part p
    stands = subst (StandsAfter l.part p given.after) full given.stands

    why : IsFileOf false (state_of a) turn.client c (reply.Refused f) (Some t)
    why = subst (λ (y : Reply). IsFileOf false (state_of a) turn.client c y (Some t)) as_refused (lock_why a before now held k turn t l p c ns room r v m on ready life h up is there own live mine served files from given of shape few free away)

    more : IsMore life.held would
    more = joined-more life.held (request_in a.holder c (Some life))

    known : AreHeld would resources
    known = known_then a before now held k turn t l p c ns room r v m on ready life h up is there own live mine served files from given of shape few free away

    count : length resources ≡ locks_asked.asked
    count = count_then a before now held k turn t l p c ns room r v m on ready life h up is there own live mine served files from given of shape few free away

    -- what it did is under them too
    under_as : (x : Holding) → would ≡ x → IsUnder x life.own life.edits
    under_as x so =
        subst (λ (y : Holding). IsUnder y life.own life.edits) so
        (under_more life.held would more (granted-intended life.held (needs_of (view_in a.holder life) life.own c) mine.intended) life.own life.edits
        (record { opens = caller.opens; within = mine.within; intended = mine.intended; sized = mine.sized }))

    -- the part with the locks
    life_kept : (x : Holding) → would ≡ x → (rs : List Resource) → length rs ≡ locks_asked.asked → AreHeld would rs → IsLife a.holder.cells with_asked.held rs t live_now (record life { held = x })
    life_kept x so rs many all = record {
      client = mine.client;
      join = mine.join;
      intents = stands.0 ∙ mine.intents;
      held = λ q. ap (λ (y : Holding). y q) (sym so) ∙ first_held a before now held k turn t l p c ns room r v m on ready life h up is there own live mine served files from given of shape few free away q;
      calls = λ unvoted. record { who = caller.who; own = stands.1 ∙ caller.own; opens = (under_as x so).opens };
      counts = subst (AreCountsOf a.holder.cells life.edits) (sym stands.2) mine.counts;
      within = (under_as x so).within;
      intended = (under_as x so).intended;
      sized = mine.sized;
      count = sym many;
      known = subst (λ (y : Holding). AreHeld y rs) so all;
    }

    -- ---- nothing rises

    held_as : (then : Contents) → then ≡ held → would ≡ life.held → resources ≡ a.locked t → IsAs a then server_now
    held_as then same still rs = subst (λ (x : Contents). IsAs a x server_now) (sym same) (record {
      server = h.server;
      servers = h.servers;
      sizes = h.sizes;
      epoch = h.epoch;
      clock = h.clock;
      cells = h.cells;
      sized = h.sized;
      notes = h.notes;
      places = h.places;
      sessions = h.sessions;
      dead = h.dead;
      lives = λ u. subst (λ (x : Option Live). IsAlike a.holder.cells with_asked.held (a.locked u) u x (a.holder.lives u)) (sym (get_put k.lives t live_now u)) (go u (same_trans u t) refl);
      room = same_room k.sizes a.holder.cells k.lives t l live_now there stands.2 h.room;
      unborn = h.unborn;
      coordinator = h.coordinator;
      decided = h.decided;
      joins = h.joins;
      files = h.files;
      made = h.made;
      born = h.born;
      earlier = h.earlier;
      waits = h.waits;
      queue = taken_waiting k.locks wanted ∙ h.queue ∙ sym (queue_beside a.holder a.holder k.locks.held with_asked.held t refl (λ u apart. refl) (λ u apart. taken_beside k.locks wanted u apart) a.waits others_asked);
      asked = h.asked;
      quiet = h.quiet;
      down = h.down;
    })
      where
        go : (u : TransId) (e : Bool) → same_trans u t ≡ e → IsAlike a.holder.cells with_asked.held (a.locked u) u (cond {A = Option Live} e (Some live_now) (map.get k.lives u)) (a.holder.lives u)
        go u true e =
            subst (λ (x : TransId). IsAlike a.holder.cells with_asked.held (a.locked x) x (Some live_now) (a.holder.lives x)) (sym (same_trans-true u t e))
            (subst (λ (x : Option Life). IsAlike a.holder.cells with_asked.held (a.locked t) t (Some live_now) x) (sym live)
            (life_kept life.held still (a.locked t) (ap (λ (x : List Resource). length x) (sym rs) ∙ count) (subst (AreHeld would) rs known)))
        go u false e = alike_under a.holder.cells k.locks.held with_asked.held (a.locked u) u (map.get k.lives u) (a.holder.lives u) (λ q. taken_other k.locks wanted refl u q e) (h.lives u)

    held_refused : (x : Handed) (then : Contents) → then ≡ held → file_trans c ≡ Some t → wanted.rises ≡ [] → x ≡ refused_answer f []
        → Stepped a before now then (left (reply.Refused f)) (event.Call turn.client k.epoch turn.number c) x
    held_refused x then same of_trans none so =
        let still : would ≡ life.held = under_held a before now held k turn t l p c ns room r v m on ready life h up is there own live mine served files from given of shape few free away none in
        let rs : resources ≡ a.locked t = still_locked a before now held k turn t l p c ns room r v m on ready life h up is there own live mine served files from given of shape few free away still in
        refused_stepped a before now then server_now turn t c false f x (held_as then same still rs) is up (λ e. cc) of_trans counted.now (count_none_done a t c f counted) why
        (subst (λ (y : Reply). GrantsFor false (state_of a) turn.client c y [] (Some t)) as_refused (grants_none a before now held k turn t l p c ns room r v m on ready life h up is there own live mine served files from given of shape few free away none)) so

    -- ---- it is granted

    granted_as : (then : Contents) → then ≡ held → (AreNotesOf (state_of a) a.ids.epoch held.notes → AreNotesOf (state_of (with_locks a turn.client turn.number w t life c f)) a.ids.epoch held.notes) → IsQuiet (with_locks a turn.client turn.number w t life c f) → IsAs (with_locks a turn.client turn.number w t life c f) then (left (reply.Refused f))
    granted_as then same noted quiet =
        let s : IsAs (counted_as a turn.client turn.number w (reply.Refused f)) held (record k { sessions = counted_in k.sessions turn (reply.Refused f) }) = counts_as a held k turn (reply.Refused f) h is up in
        let new : Life = record life { held = would } in
        subst (λ (x : Contents). IsAs (with_locks a turn.client turn.number w t life c f) x (left (reply.Refused f))) (sym same) (record {
          server = h.server;
          servers = h.servers;
          sizes = h.sizes;
          epoch = h.epoch;
          clock = h.clock;
          cells = h.cells;
          sized = h.sized;
          notes = λ on. noted (h.notes on);
          places = s.places;
          sessions = s.sessions;
          dead = h.dead;
          lives = λ u. subst (λ (x : Option Live). IsAlike a.holder.cells with_asked.held (lock_set a.locked t resources u) u x (cond {A = Option Life} (same_trans u t) (Some new) (a.holder.lives u))) (sym (get_put k.lives t live_now u))
              (alike_set a.holder.cells k.locks.held with_asked.held a.locked t (Some live_now) (Some new) resources (map.get k.lives) a.holder.lives h.lives (λ u q away. taken_other k.locks wanted refl u q away)
              (life_kept would refl resources count known) u);
          room = same_room k.sizes a.holder.cells k.lives t l live_now there stands.2 h.room;
          unborn = each_set (λ x. PutNoneBeyond a.holder.server a.ids.epoch k.given x.edits) t (Some new) a.holder.lives h.unborn
              (λ x at. subst (λ (y : Life). PutNoneBeyond a.holder.server a.ids.epoch k.given y.edits) (same-some new x at) (h.unborn t life live));
          coordinator = h.coordinator;
          decided = h.decided;
          joins = h.joins;
          files = h.files;
          made = h.made;
          born = h.born;
          earlier = h.earlier;
          waits = h.waits;
          queue = taken_waiting k.locks wanted ∙ h.queue ∙ sym (queue_beside a.holder (with_locks a turn.client turn.number w t life c f).holder k.locks.held with_asked.held t refl (λ u apart. ap (λ (b : Bool). cond {A = Option Life} b (Some new) (a.holder.lives u)) apart)
              (λ u apart. taken_beside k.locks wanted u apart) a.waits others_asked);
          asked = asked_beside a.holder (with_locks a turn.client turn.number w t life c f).holder k.locks.held with_asked.held t refl (λ u apart. ap (λ (b : Bool). cond {A = Option Life} b (Some new) (a.holder.lives u)) apart) (λ u apart. taken_beside k.locks wanted u apart)
              a.locked (lock_set a.locked t resources) (λ u apart. ap (λ (b : Bool). cond {A = List Resource} b resources (a.locked u)) apart) k.waits away.others h.asked;
          quiet = quiet;
          down = s.down;
        })

    granted_refused : (x : Handed) (then : Contents) → then ≡ held → file_trans c ≡ Some t → (n : Need) (others : List Need) → wanted.rises ≡ n ∷ others
        → x ≡ refused_answer f (act.Granted t ∷ []) → Stepped a before now then (left (reply.Refused f)) (event.Call turn.client k.epoch turn.number c) x
    granted_refused x then same of_trans n others some so =
        let leads : Leads false a (call_entry a turn.client turn.number w c (reply.Refused f) (act.Granted t ∷ [])) (with_locks a turn.client turn.number w t life c f) =
        refused_granted_leads a turn.client turn.number w t life c f false h.quiet (h.down ∙ up) (turn_session a held k turn h is) is.number (part_told a held k turn.client t h standing.Work own.1) live (mine.client ∙ own.0) of_trans (idle_told a turn.client t k.waits h.waits named away.idle) counted.passes counted.now
        (lock_free a before now held k turn t l p c ns room r v m on ready life h up is there own live mine served files from given of shape few free away) why
        (subst (λ (y : Reply). GrantsFor false (state_of a) turn.client c y (t ∷ []) (Some t)) as_refused (grants_some a before now held k turn t l p c ns room r v m on ready life h up is there own live mine served files from given of shape few free away n others some)) in
        stepped_so a before now held then k (left (reply.Refused f)) turn.client turn.number w c false (reply.Refused f) (act.Granted t ∷ []) (with_locks a turn.client turn.number w t life c f) x so h leads (granted_as then same (call_notes false a (with_locks a turn.client turn.number w t life c f) turn.client turn.number w c (reply.Refused f) (act.Granted t ∷ []) h.quiet leads refl held.notes) leads.quiet) (λ e. cc)
        (stands_timely a.holder.clock (seen_in (event.Call turn.client k.epoch turn.number c)) k.clock h.clock)

    lock_refused : (x : Handed) (then : Contents) → then ≡ held → file_trans c ≡ Some t → x ≡ told_answer (Some r) (acts_of t wanted.rises)
        → Stepped a before now then (left r) (event.Call turn.client k.epoch turn.number c) x
    lock_refused x then same of_trans so =
        subst (λ (y : Reply). Stepped a before now then (left y) (event.Call turn.client k.epoch turn.number c) x) (sym as_refused) (go wanted.rises refl)
      where
        told_so : x ≡ refused_answer f (acts_of t wanted.rises)
        told_so = so ∙ ap (λ (y : Reply). told_answer (Some y) (acts_of t wanted.rises)) as_refused

        go : (qs : List Need) → wanted.rises ≡ qs → Stepped a before now then (left (reply.Refused f)) (event.Call turn.client k.epoch turn.number c) x
        go [] e = held_refused x then same of_trans e (told_so ∙ ap (λ (ms : List Need). refused_answer f (acts_of t ms)) e)
        go (n ∷ others) e =
            granted_refused x then same of_trans n others e
            (told_so ∙ ap (λ (y : Bool). refused_answer f (cond {A = List Act} y [] (act.Granted t ∷ []))) (ap (λ (ms : List Need). length ms == 0) e ∙ not_empty n others))

  -- ---- either

  pub lock_stepped : (m : ℕ) (on : Bool) (x : Handed) (then : Contents) → IsReady m on k → IsAs a held k → k.is_down ≡ false → then ≡ held → IsTurn k.sessions turn → map.get k.lives t ≡ Some l → IsWorking k turn.client t l → IsServedCall c → AreGiven k.server k.epoch k.given ns → ns ≡ asks_of (holding k.locks.held t) (seen held.cells l.part) (own_of l.part) c
      → shape_of k.server k.epoch k.given (length l.part.opens.items) c ≡ None → too_locked k.sizes.area l.part.counts.cells locks_asked.made ≡ None → file_trans c ≡ Some t → IsFormed c
      → Answered true held.cells l.part p (name_in l.who) (next_file k) c room r → IsRoomOf true held.cells k locks_asked.made room → x ≡ told_answer (Some r) (acts_of t wanted.rises) → blocker k.locks.held t wanted.rises ≡ None → HasNoCall turn.client t k.waits
      → Stepped a before now then (left r) (event.Call turn.client k.epoch turn.number c) x
  lock_stepped m on x then ready h up same is there own served files from shape few of_trans formed given of so free away =
      let y : IsLive a.holder.cells k.locks.held (a.locked t) t l (a.holder.lives t) = live_there a.holder.cells k.locks.held (a.locked t) t (map.get k.lives t) (a.holder.lives t) l there (h.lives t) in
      go y (refused_for room l.part.counts given.after) refl
    where
      go : (y : IsLive a.holder.cells k.locks.held (a.locked t) t l (a.holder.lives t)) → (o : Option Refusal) → refused_for room l.part.counts given.after ≡ o → Stepped a before now then (left r) (event.Call turn.client k.epoch turn.number c) x
      go y None e = lock_performed a before now held k turn t l p c ns room r v m on ready y.life h up is there own y.is y.alike served files from given of shape few free away e x then same of_trans formed so
      go y (Some f) e = lock_refused m on ready y.life h up is there own y.is y.alike served files from given of shape few free away f e x then same of_trans so
