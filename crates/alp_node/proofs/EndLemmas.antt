-- greetings and begins, as the server keeps them
use Rattle.std.specs.Prelude.{cond, Bool, true, false, ◌==◌, ◌&&◌, ◌||◌, not, max, filter, Option, None, Some, is_some, is_none, IsSome, nat_le}
use Rattle.std.specs.List.{AllByRecursion}
use Rattle.std.specs.FinMap as map
use Rattle.std.proofs.Common.{◌≡◌, ℕ, ◌+◌, ◌<◌, ◌≤◌, List, [], ◌∷◌, length, refl, sym, ◌∙◌, ap, subst, arith, eq-eqb}
use Rattle.std.proofs.lemmas.Bool.{leb-false, lt-leb, eqb-true}
use Rattle.alp_base.specs.declared.ids.JoinNo.{JoinNo}
use Rattle.alp_base.specs.declared.ids.Stamp.{Stamp}
use Rattle.alp_base.specs.declared.ids.TransId.{TransId}
use Rattle.alp_base.specs.declared.key.Key.TheVariants.{Leader}
use Rattle.alp_base.specs.declared.key.Resource.{Resource}
use Rattle.alp_trans.specs.Counting.{AreCountsOf, no_counts}
use Rattle.alp_trans.specs.Parts.{own_of}
use Rattle.alp_trans.specs.declared.part.Part.{Part}
use Rattle.alp_files.specs.Act.{no_opens}
use Rattle.alp_files.specs.Cells.{Cells}
use Rattle.alp_files.specs.Edits.{edits_at}
use Rattle.alp_files.specs.Needs.{no_intents}
use Rattle.alp_files.proofs.FilesLemmas.{same-some}
use Rattle.alp_files.specs.declared.call.Call.TheVariants as call
use Rattle.alp_files.specs.declared.reply.Reply.{Reply}
use Rattle.alp_files.specs.declared.reply.Reply.TheVariants as reply
use Rattle.alp_files.specs.declared.refusal.Refusal.{Refusal}
use Rattle.alp_files.specs.declared.refusal.Refusal.TheVariants as refusal
use Rattle.alp_files.specs.declared.refusal.What.TheVariants as what
use Rattle.alp_files.specs.declared.refusal.Cause.{Cause}
use Rattle.alp_locks.specs.Tables.{Holders, Table, held_of, holding}
use Rattle.alp_locks.proofs.SoundLemmas.{each-more, each-filter}
use Rattle.alp_turns.specs.Queues.{request_for, request_at, queue_of}
use Rattle.alp_turns.proofs.MoveLemmas.{GoesIdle, queue_without}
use Rattle.alp_vault.specs.Contents.{Contents}
use Rattle.alp_journal.specs.declared.act.Act.TheVariants as act
use Rattle.alp_journal.specs.declared.event.Event.TheVariants as event
use Rattle.alp_journal.specs.Ids.{same_trans}
use Rattle.alp_journal.specs.Deeds.{Begins}
use Rattle.alp_journal.specs.Coordinator.{Fate, client_of, decision_in}
use Rattle.alp_journal.specs.State.{is_this}
use Rattle.alp_journal.specs.Participant.{live_in}
use Rattle.alp_journal.specs.Coordinator as fate
use Rattle.alp_journal.specs.Holder.{Life, new_life}
use Rattle.alp_journal.specs.Counts.{lock_set}
use Rattle.alp_journal.specs.Moves.{next_trans}
use Rattle.alp_journal.specs.Answers.{too_many, is_counted, count_of_transactions, if_over}
use Rattle.alp_journal.specs.Account.{Account, state_of, IsQuiet, IsPartOf, IsOfPart, Leads}
use Rattle.alp_journal.proofs.IdLemmas.{all-filter, same_trans-true}
use Rattle.alp_journal.proofs.StandLemmas.{live_undecided, next_new}
use Rattle.alp_journal.proofs.PartLemmas.{none_waits}
use Rattle.alp_journal.proofs.WaitLemmas.{turned}
use Rattle.alp_journal.proofs.BeginCalls.{hello_entry, with_hello, hello_leads, with_begun, begin_leads, is_buried, unburied, is_decided, undecided, not_dead, with_buried_as, buried_quiet, with_buried, begin_refused_leads}
use Rattle.alp_journal.proofs.CollectCalls.{none_dead}
use Rattle.alp_node.specs.Dead.{cause_in, without_client}
use Rattle.alp_coord.specs.declared.coordinator.Coordinator.{Coordinator}
use Rattle.alp_coord.specs.Coordinators.{IsOf, Comes, server_of, epoch_of, count_of, next_id, fate_in, counted_of}
use Rattle.alp_coord.specs.Likeness.{IsFateOf}
use Rattle.alp_worker.specs.Lives.{part_of}
use Rattle.alp_worker.proofs.WalkLemmas.{live_count}
use Rattle.alp_node.specs.Sessions.{session_at, with_session}
use Rattle.alp_node.specs.ServerState.{IsAs, IsAlike, IsWaitingAs, PutNoneBeyond}
use Rattle.alp_node.specs.Steps.{Stepped, told_answer, refused_answer, entry_of}
use Rattle.alp_node.specs.declared.answer.Answer.{Answer}
use Rattle.alp_node.specs.declared.lives.Live.{Live}
use Rattle.alp_node.specs.Waits.{waiting, waiting_calls, is_file_on, outlives, without_dead, has_part, stays, live_calls, IsCallBy, IsNamed}
use Rattle.alp_node.specs.declared.server_state.ServerState.{ServerState}
use Rattle.alp_node.specs.declared.waits.WaitingCall.{WaitingCall}
use Rattle.alp_node.specs.declared.lock_counts.LockCounts.{LockCounts}
use Rattle.alp_node.proofs.BesideLemmas.{AreNamed, AreOthers, counted_named, others_told, part_named, filter_told, queue_beside, asked_beside}
use Rattle.alp_journal.specs.Desk.{Session, Waiting, file_trans, part_trans, is_of, is_on, without}
use Rattle.alp_node.proofs.TotalLemmas.{added_room}
use Rattle.alp_calls.proofs.CountLaws.{counts_begin}
use Rattle.alp_node.proofs.DeadLemmas.{dead_buried}
use Rattle.alp_node.proofs.ClearLemmas.{KeepsParts, cleared_told}
use Rattle.alp_node.proofs.NoteCalls.{call_notes}
use Rattle.alp_node.proofs.NotedLemmas.{notes_on}
use Rattle.alp_node.proofs.KeptLemmas.{applied_fated, begun_decision, sessions_as, stands_timely, alike_set, each_set, none_held, stepped_so}
use Rattle.alp_node.proofs.MapLemmas.{places_set, get_put}
use Rattle.alp_node.proofs.TransactionLemmas.{next_told, known_begun, count_told}

-- ---- a greeting

pub hello_stepped : {V : Type 0} (a : Account) (before now : ℕ) (held : Contents) (k : ServerState V) (client : ℕ) (name : List ℕ) (x : Answer) → IsAs a held k → client ≤ 16 → k.is_down ≡ false → session_at k.sessions client ≡ None
    → x ≡ told_answer (Some (reply.Welcome k.epoch)) []
    → Stepped a before now held (record k { sessions = with_session k.sessions client (record { who = name; last = 1; reply = reply.Welcome k.epoch }) }) (event.Call client 0 1 (call.Hello name)) x
hello_stepped a before now held k client name x h le up first is =
    let w : Session = record { who = name; last = 1; reply = reply.Welcome k.epoch } in
    let none : a.sessions client ≡ None = h.sessions client ∙ first in
    let leads : Leads false a (hello_entry a client name) (with_hello a client name) = hello_leads a client name h.quiet (h.down ∙ up) none in
    record {
      failed = false;
      next = with_hello a client name;
      leads = subst (λ (y : Answer). Leads false a (entry_of (event.Call client 0 1 (call.Hello name)) y) (with_hello a client name)) (sym is)
          (subst (λ (n : ℕ). Leads false a (record { event = event.Call client 0 1 (call.Hello name); reply = Some (reply.Welcome n); acts = [] }) (with_hello a client name)) h.epoch leads);
      rose = λ e. cc;
      kept = record {
        server = h.server;
        sizes = h.sizes;
        epoch = h.epoch;
        clock = h.clock;
        cells = h.cells;
        sized = h.sized;
        notes = λ on. notes_on (state_of a) (state_of (with_hello a client name)) a.ids.epoch held.notes refl refl refl (λ t. refl) (λ j x q. q) (h.notes on);
        places = places_set k.sessions client w h.places;
        sessions = subst (λ (n : ℕ). (c : ℕ) → cond {A = Option Session} (c == client) (Some (record { who = name; last = 1; reply = reply.Welcome n })) (a.sessions c) ≡ session_at (with_session k.sessions client w) c) (sym h.epoch)
            (sessions_as a.sessions k.sessions client w h.sessions h.places le);
        dead = h.dead;
        lives = h.lives;
        room = h.room;
        unborn = h.unborn;
        coordinator = h.coordinator;
        decided = h.decided;
        servers = h.servers;
        joins = h.joins;
        files = h.files;
        made = h.made;
        born = h.born;
        earlier = h.earlier;
        waits = h.waits;
        queue = h.queue;
        asked = h.asked;
        quiet = leads.quiet;
        down = sym up;
      };
      clock = stands_timely a.holder.clock 0 k.clock h.clock;
    }

-- ---- a transaction begins

-- that as many count as may be
abbrev pub many_of : {V : Type 0} → ServerState V → Option Refusal
many_of k = if_over (nat_le 64 (counted_of k.coordinator + length k.joins.lives)) (refusal.TooMany what.Transactions 64)

-- so many count as the coordinator counts, and the live joins besides
count_counted : {V : Type 0} (a : Account) (held : Contents) (k : ServerState V) → IsAs a held k → count_of_transactions (state_of a) ≡ counted_of k.coordinator + length k.joins.lives
count_counted a held k h =
    let own : length (filter (λ t. is_counted (a.fates t)) a.begun) ≡ counted_of k.coordinator = count_told a h.quiet.settled.stands k.coordinator h.coordinator in
    let joins : length k.joins.lives ≡ length (filter (λ j. is_some (live_in (a.phases j))) a.joined) = live_count a.holder.server a.ids.epoch a.ids.joins a.phases a.joined k.joins h.joins in
    omega (arith, own, joins)

-- and where these are as many as may be, that is said
pub many_told : {V : Type 0} (a : Account) (held : Contents) (k : ServerState V) → IsAs a held k → too_many (state_of a) ≡ many_of k
many_told a held k h = ap (λ (n : ℕ). if_over (nat_le 64 n) (refusal.TooMany what.Transactions 64)) (count_counted a held k h)

pub over_is : (b : Bool) (f g : Refusal) → if_over b f ≡ Some g → g ≡ f
over_is true f g e = sym (one f g e)
  where
    one : (x y : Refusal) → Some x ≡ Some y → x ≡ y
    one x y e = cc
over_is false f g e = let wrong : None ≡ Some g = e in cc

-- else there are fewer
pub few_of : {V : Type 0} (k : ServerState V) → many_of k ≡ None → counted_of k.coordinator + length k.joins.lives < 64
few_of k none = go (nat_le 64 (counted_of k.coordinator + length k.joins.lives)) refl none
  where
    go : (b : Bool) → nat_le 64 (counted_of k.coordinator + length k.joins.lives) ≡ b → if_over b (refusal.TooMany what.Transactions 64) ≡ None → counted_of k.coordinator + length k.joins.lives < 64
    go true e over = let wrong : Some (refusal.TooMany what.Transactions 64) ≡ None = over in cc
    go false e over = leb-false 64 (counted_of k.coordinator + length k.joins.lives) e

-- and the other way
pub many_none : {V : Type 0} (k : ServerState V) → counted_of k.coordinator + length k.joins.lives < 64 → many_of k ≡ None
many_none k few = ap (λ (b : Bool). if_over b (refusal.TooMany what.Transactions 64)) (lt-leb 64 (counted_of k.coordinator + length k.joins.lives) few)

-- ---- calls of dead parts go

module _ {V : Type 0} (a : Account) (held : Contents) (k : ServerState V) (client : ℕ) (h : IsAs a held k) where
  -- what the journal says of the part of each file call
  abbrev IsPartHere : WaitingCall → Type 0
  IsPartHere v = IsNamed v × ((n : LockCounts) → v.counts ≡ Some n → IsPartOf v.client (a.holder.lives v.trans) (a.dead v.client v.trans))

  parts_here : AreNamed k.waits → AllByRecursion IsPartHere k.waits
  parts_here named = each k.waits named (subst (AllByRecursion (λ (v : Waiting). IsOfPart a.holder.lives a.dead v (file_trans v.call))) h.waits h.quiet.settled.tells.parts)
    where
      each : (ws : List WaitingCall) → AreNamed ws → AllByRecursion (λ (v : Waiting). IsOfPart a.holder.lives a.dead v (file_trans v.call)) (waiting_calls ws) → AllByRecursion IsPartHere ws
      each [] n p = tt
      each (v ∷ vs) n p = ((n.0, (λ z counted. subst (IsOfPart a.holder.lives a.dead (waiting v)) (counted_named v z counted n.0) p.0)), each vs n.1 p.1)

  -- the same calls go
  goes_alike : (v : WaitingCall) → IsNamed v → not (is_buried a client (waiting v)) ≡ outlives client k.dead v
  goes_alike v named =
      ap (λ (x : Option TransId). not (v.client == client && is_on (λ t. is_some (a.dead client t)) x)) (part_named v named)
      ∙ ap (λ (x : Option Cause). not (v.client == client && is_some x)) (h.dead client v.trans)
      ∙ go (v.client == client) (cause_in k.dead client v.trans)
    where
      go : (b : Bool) (x : Option Cause) → not (b && is_some x) ≡ (not b || is_none x)
      go false x = refl
      go true None = refl
      go true (Some c) = refl

  pub waits_left : AreNamed k.waits → unburied a client ≡ waiting_calls (without_dead client k.dead k.waits)
  waits_left named =
      ap (filter (λ v. not (is_buried a client v))) h.waits
      ∙ filter_told (λ v. not (is_buried a client v)) (outlives client k.dead) k.waits (each-more IsNamed (λ v. not (is_buried a client (waiting v)) ≡ outlives client k.dead v) goes_alike k.waits named)

  -- and they ask for nothing
  goes_idle : (v : WaitingCall) → IsPartHere v → GoesIdle a.holder k.locks.held (is_buried a client) (waiting v)
  goes_idle v here gone = by v.counts refl here.0
    where
      right : (b c : Bool) → (b && c) ≡ true → c ≡ true
      right true c e = e
      right false c e = let wrong : false ≡ true = e in cc

      is_dead_there : is_some (a.dead client v.trans) ≡ true
      is_dead_there = sym (ap (is_on (λ t. is_some (a.dead client t))) (part_named v here.0)) ∙ right (v.client == client) (is_on (λ t. is_some (a.dead client t)) (part_trans v.call)) gone

      left : (b c : Bool) → (b && c) ≡ true → b ≡ true
      left true c e = refl
      left false c e = let wrong : false ≡ true = e in cc

      own : v.client ≡ client
      own = eqb-true v.client client (left (v.client == client) (is_on (λ t. is_some (a.dead client t)) (part_trans v.call)) gone)

      none : IsPartOf v.client (a.holder.lives v.trans) (a.dead v.client v.trans) → (x : Option Life) → a.holder.lives v.trans ≡ x → x ≡ None
      none part None e = refl
      none part (Some life) e =
          let its : v.client ≡ life.client = subst (λ (y : Option Life). IsPartOf v.client y (a.dead v.client v.trans)) e part in
          let wrong : false ≡ true = sym (ap (λ (y : Option Cause). is_some y) (none_dead a v.trans life h.quiet.settled e client (sym its ∙ own))) ∙ is_dead_there in
          cc

      by : (x : Option LockCounts) → v.counts ≡ x → IsCallBy v.call v.trans x → request_at a.holder k.locks.held (waiting v) (file_trans v.call) ≡ []
      by None e named = ap (request_at a.holder k.locks.held (waiting v)) named.0
      by (Some n) e named =
          ap (request_at a.holder k.locks.held (waiting v)) named
          ∙ ap (request_for a.holder k.locks.held (waiting v) v.trans) (none (here.1 n e) (a.holder.lives v.trans) refl)

  pub queue_left : AreNamed k.waits → queue_of a.holder k.locks.held (unburied a client) ≡ queue_of a.holder k.locks.held a.waits
  queue_left named = queue_without a.holder k.locks.held (is_buried a client) a.waits (subst (AllByRecursion (GoesIdle a.holder k.locks.held (is_buried a client))) (sym h.waits) (each k.waits (parts_here named)))
    where
      each : (ws : List WaitingCall) → AllByRecursion IsPartHere ws → AllByRecursion (GoesIdle a.holder k.locks.held (is_buried a client)) (waiting_calls ws)
      each [] p = tt
      each (v ∷ vs) p = (goes_idle v p.0, each vs p.1)

  -- and those go that are of what was decided
  pub undecided_left : (c : Coordinator) → AreNamed k.waits → KeepsParts a held k client h c k.waits → undecided a client ≡ waiting_calls (live_calls client c k.joins (without_dead client k.dead k.waits))
  undecided_left c named same = cleared_told a held k client h c named same (each-more IsNamed (λ v. not (is_buried a client (waiting v)) ≡ outlives client k.dead v) goes_alike k.waits named)

  -- where no part is another than before
  pub parts_kept : KeepsParts a held k client h k.coordinator k.waits
  parts_kept = each k.waits
    where
      each : (ws : List WaitingCall) → KeepsParts a held k client h k.coordinator ws
      each [] = tt
      each (v ∷ vs) = (refl, each vs)

  -- a file call that goes on is of no decided transaction
  decided_idle : (v : WaitingCall) → IsPartHere v → is_buried a client (waiting v) ≡ false → GoesIdle a.holder k.locks.held (is_decided a client) (waiting v)
  decided_idle v here off gone = by v.counts refl here.0
    where
      left : (b c : Bool) → (b && c) ≡ true → (b ≡ true) × (c ≡ true)
      left true c e = (refl, e)
      left false c e = let wrong : false ≡ true = e in cc

      both : (v.client ≡ client) × (is_some (decision_in (a.fates v.trans)) ≡ true)
      both =
          let parts = left (v.client == client) (is_on (λ t. is_some (decision_in (a.fates t))) (part_trans v.call)) gone in
          (eqb-true v.client client parts.0, sym (ap (is_on (λ t. is_some (decision_in (a.fates t)))) (part_named v here.0)) ∙ parts.1)

      never : IsPartOf v.client (a.holder.lives v.trans) (a.dead v.client v.trans) → (x : Option Life) → a.holder.lives v.trans ≡ x → ⊥
      never part None e = not_dead a client (waiting v) v.trans (part_named v here.0) off both.0 (subst (λ (y : Option Life). IsPartOf v.client y (a.dead v.client v.trans)) e part)
      never part (Some life) e =
          let wrong : false ≡ true = ap (λ (x : Option (Stamp × List JoinNo)). is_some x) (sym (live_undecided a h.quiet.settled.stands v.trans life e)) ∙ both.1 in
          cc

      by : (x : Option LockCounts) → v.counts ≡ x → IsCallBy v.call v.trans x → request_at a.holder k.locks.held (waiting v) (file_trans v.call) ≡ []
      by None e named = ap (request_at a.holder k.locks.held (waiting v)) named.0
      by (Some n) e named = absurd (never (here.1 n e) (a.holder.lives v.trans) refl)

  -- so the table's queue stays
  pub queue_undecided : AreNamed k.waits → queue_of a.holder k.locks.held (undecided a client) ≡ queue_of a.holder k.locks.held a.waits
  queue_undecided named =
      queue_without a.holder k.locks.held (is_decided a client) (unburied a client)
      (subst (λ (ws : List Waiting). AllByRecursion (GoesIdle a.holder k.locks.held (is_decided a client)) (without (is_buried a client) ws)) (sym h.waits) (each k.waits (parts_here named)))
      ∙ queue_left named
    where
      each : (ws : List WaitingCall) → AllByRecursion IsPartHere ws → AllByRecursion (GoesIdle a.holder k.locks.held (is_decided a client)) (without (is_buried a client) (waiting_calls ws))
      each [] p = tt
      each (v ∷ vs) p = go (is_buried a client (waiting v)) refl (each vs p.1)
        where
          go : (b : Bool) → is_buried a client (waiting v) ≡ b → AllByRecursion (GoesIdle a.holder k.locks.held (is_decided a client)) (without (is_buried a client) (waiting_calls vs))
              → AllByRecursion (GoesIdle a.holder k.locks.held (is_decided a client)) (cond {A = List Waiting} (not b) (waiting v ∷ without (is_buried a client) (waiting_calls vs)) (without (is_buried a client) (waiting_calls vs)))
          go true e rest = rest
          go false e rest = (decided_idle v p.0 e, rest)

module _ {V : Type 0} (a : Account) (held : Contents) (k : ServerState V) (client number : ℕ) (w : Session) (r : Reply) where
  -- the client's dead parts go as it is answered
  abbrev pub buried_kept : ServerState V
  buried_kept = record k { sessions = with_session k.sessions client (record w { last = number; reply = r }); dead = without_client client k.dead; waits = without_dead client k.dead k.waits }

  pub buried_as : IsAs a held k → client ≤ 16 → k.is_down ≡ false → AreNamed k.waits → IsQuiet (with_buried_as a client number w r) → IsAs (with_buried_as a client number w r) held buried_kept
  buried_as h le up named quiet = record {
    server = h.server;
    sizes = h.sizes;
    epoch = h.epoch;
    clock = h.clock;
    cells = h.cells;
    sized = h.sized;
    notes = λ on. notes_on (state_of a) (state_of (with_buried_as a client number w r)) a.ids.epoch held.notes refl refl refl (λ t. refl) (λ j x q. q) (h.notes on);
    places = places_set k.sessions client (record w { last = number; reply = r }) h.places;
    sessions = sessions_as a.sessions k.sessions client (record w { last = number; reply = r }) h.sessions h.places le;
    dead = λ d u. ap (cond {A = Option Cause} (d == client) None) (h.dead d u) ∙ dead_buried client k.dead d u;
    lives = h.lives;
    room = h.room;
    unborn = h.unborn;
    coordinator = h.coordinator;
    decided = h.decided;
    servers = h.servers;
    joins = h.joins;
    files = h.files;
    made = h.made;
    born = h.born;
    earlier = h.earlier;
    waits = waits_left a held k client h named;
    queue = h.queue ∙ sym (queue_left a held k client h named);
    asked = each-filter (IsWaitingAs a.holder a.locked) (outlives client k.dead) k.waits h.asked;
    quiet = quiet;
    down = sym up;
  }

module _ {V : Type 0} (a : Account) (held : Contents) (k : ServerState V) (client number : ℕ) (w : Session) (seen : Stamp) where
  -- and the calls of the client that are of no live part
  abbrev pub cleared_kept : Reply → ServerState V
  cleared_kept r = record k {
    sessions = with_session k.sessions client (record w { last = number; reply = r });
    dead = without_client client k.dead;
    waits = live_calls client k.coordinator k.joins (without_dead client k.dead k.waits);
  }

  -- as many count as may be: the begin is refused, and the client's dead parts go
  pub begin_refused_stepped : (before now : ℕ) (x : Answer) → IsAs a held k → client ≤ 16 → k.is_down ≡ false → session_at k.sessions client ≡ Some w → number ≡ w.last + 1 → many_of k ≡ Some (refusal.TooMany what.Transactions 64) → AreNamed k.waits
      → x ≡ refused_answer (refusal.TooMany what.Transactions 64) []
      → Stepped a before now held (cleared_kept (reply.Refused (refusal.TooMany what.Transactions 64))) (event.Call client k.epoch number (call.Begin seen)) x
  begin_refused_stepped before now x h le up there turn many named is =
      let f : Refusal = refusal.TooMany what.Transactions 64 in
      let leads = begin_refused_leads a client number w seen f h.quiet (h.down ∙ up) (h.sessions client ∙ there) turn (many_told a held k h ∙ many) in
      let told : IsAs (with_buried_as a client number w (reply.Refused f)) held (buried_kept a held k client number w (reply.Refused f)) =
      buried_as a held k client number w (reply.Refused f) h le up named (buried_quiet a client number w (reply.Refused f) h.quiet (h.sessions client ∙ there) turn) in
      stepped_so a before now held held k (cleared_kept (reply.Refused f)) client number w (call.Begin seen) false (reply.Refused f) [] (with_buried a client number w f) x is h leads (record {
        server = h.server;
        servers = h.servers;
        sizes = h.sizes;
        epoch = h.epoch;
        clock = h.clock;
        cells = h.cells;
        sized = h.sized;
        notes = λ on. call_notes false a (with_buried a client number w f) client number w (call.Begin seen) (reply.Refused f) [] h.quiet leads refl held.notes (h.notes on);
        places = told.places;
        sessions = told.sessions;
        dead = told.dead;
        lives = h.lives;
        room = h.room;
        unborn = h.unborn;
        coordinator = h.coordinator;
        decided = h.decided;
        joins = h.joins;
        files = h.files;
        made = h.made;
        born = h.born;
        earlier = h.earlier;
        waits = undecided_left a held k client h k.coordinator named (parts_kept a held k client h);
        queue = h.queue ∙ sym (queue_undecided a held k client h named);
        asked = each-filter (IsWaitingAs a.holder a.locked) (stays client k.coordinator k.joins) (without_dead client k.dead k.waits) told.asked;
        quiet = leads.quiet;
        down = sym up;
      }) (λ e. cc) (omega (arith, h.clock))

module _ {V : Type 0} (a : Account) (held : Contents) (k : ServerState V) (client number : ℕ) (w : Session) (seen : Stamp) (p : Part) (c : Coordinator) where
  abbrev pub begun_trans : TransId
  begun_trans = next_id k.coordinator

  abbrev pub begun_live : Live
  begun_live = record { client = client; who = Some w.who; part = p; locks = 0; join = None }

  abbrev pub with_begun_kept : Table → ServerState V
  with_begun_kept locks = record k {
    sessions = with_session k.sessions client (record w { last = number; reply = reply.Begun begun_trans });
    clock = max k.clock seen.ts;
    coordinator = c;
    dead = without_client client k.dead;
    lives = map.insert k.lives begun_trans begun_live;
    waits = live_calls client c k.joins (without_dead client k.dead k.waits);
    locks = locks;
  }

  trans_same : IsAs a held k → next_trans (state_of a) ≡ begun_trans
  trans_same h = next_told a.holder.server a.ids.epoch a.ids.transactions a.fates k.coordinator h.coordinator

  begun_alike : (locks : Holders) → map.get k.lives begun_trans ≡ None → ((u : TransId) (r : Resource) → holding locks u r ≡ holding k.locks.held u r) → own_of p ≡ no_opens → p.intents ≡ no_intents → p.counts ≡ no_counts → IsAs a held k
      → (u : TransId) → IsAlike a.holder.cells locks (lock_set a.locked begun_trans [] u) u (map.get (map.insert k.lives begun_trans begun_live) u) (cond {A = Option Life} (same_trans u begun_trans) (Some (new_life None client w.who)) (a.holder.lives u))
  begun_alike locks new same opens none idle h u =
      subst (λ (x : Option Live). IsAlike a.holder.cells locks (lock_set a.locked begun_trans [] u) u x (cond {A = Option Life} (same_trans u begun_trans) (Some (new_life None client w.who)) (a.holder.lives u))) (sym (get_put k.lives begun_trans begun_live u))
      (alike_set a.holder.cells k.locks.held locks a.locked begun_trans (Some begun_live) (Some (new_life None client w.who)) [] (map.get k.lives) a.holder.lives h.lives (λ t r away. same t r)
      (record {
        client = refl;
        join = refl;
        intents = none;
        held = λ r. sym (same begun_trans r ∙ none_held a.holder.cells k.locks.held (a.locked begun_trans) begun_trans (map.get k.lives begun_trans) (a.holder.lives begun_trans) new (h.lives begun_trans) r);
        calls = λ unvoted. record { who = refl; own = opens; opens = tt };
        counts = subst (AreCountsOf a.holder.cells []) (sym idle) (counts_begin a.holder.cells);
        within = tt;
        intended = λ q f m in_file is. (let wrong : None ≡ Some m = is in cc);
        sized = tt;
        count = refl;
        known = (λ r. refl, tt);
      }) u)

  -- the client has the parts that it had
  parts_on : (h : IsAs a held k) → AreNamed k.waits → Comes (Begins begun_trans client w.who seen.ts) k.coordinator c → KeepsParts a held k client h c k.waits
  parts_on h named comes = each k.waits named (subst (AllByRecursion (λ (v : Waiting). is_of (next_trans (state_of a)) (part_trans v.call) ≡ false)) h.waits (none_waits a h.quiet.settled (next_trans (state_of a)) refl (next_new a h.quiet.settled.stands)))
    where
      apart : (t : TransId) → same_trans (next_trans (state_of a)) t ≡ false → has_part client c k.joins t ≡ has_part client k.coordinator k.joins t
      apart t away =
          ap (λ (f : Fate). is_this client (client_of f) || is_some (part_of client t k.joins.lives))
          (comes t ∙ ap (λ (b : Bool). cond {A = Fate} b (fate.begun client (fate_in k.coordinator t)) (fate_in k.coordinator t)) (ap (λ (u : TransId). same_trans u t) (sym (trans_same h)) ∙ away))

      each : (ws : List WaitingCall) → AreNamed ws → AllByRecursion (λ (v : Waiting). is_of (next_trans (state_of a)) (part_trans v.call) ≡ false) (waiting_calls ws) → KeepsParts a held k client h c ws
      each [] n p = tt
      each (v ∷ vs) n p = (apart v.trans (turned (next_trans (state_of a)) v.trans ∙ ap (is_of (next_trans (state_of a))) (sym (part_named v n.0)) ∙ p.0), each vs n.1 p.1)

  pub begin_stepped : (before now : ℕ) (x : Answer) (locks : Table) → IsAs a held k → client ≤ 16 → k.is_down ≡ false → session_at k.sessions client ≡ Some w → number ≡ w.last + 1 → 0 < k.epoch → many_of k ≡ None → map.get k.lives begun_trans ≡ None
      → ((u : TransId) (r : Resource) → holding locks.held u r ≡ holding k.locks.held u r) → own_of p ≡ no_opens → p.intents ≡ no_intents → p.counts ≡ no_counts
      → IsOf (server_of k.coordinator) (epoch_of k.coordinator) (count_of k.coordinator + 1) c → Comes (Begins begun_trans client w.who seen.ts) k.coordinator c → AreNamed k.waits → AreOthers begun_trans k.waits → locks.waiting ≡ k.locks.waiting → ((u : TransId) → held_of locks.held u ≡ held_of k.locks.held u)
      → x ≡ told_answer (Some (reply.Begun begun_trans)) (act.Drawn begun_trans ∷ [])
      → Stepped a before now held (with_begun_kept locks) (event.Call client k.epoch number (call.Begin seen)) x
  begin_stepped before now x locks h le up there turn raised few new same opens none idle one comes named away waiting beside is =
      let next : next_trans (state_of a) ≡ begun_trans = trans_same h in
      let leads = begin_leads a client number w seen (subst (λ (n : ℕ). 0 < n) (sym h.epoch) raised) h.quiet (h.down ∙ up) (h.sessions client ∙ there) turn (many_told a held k h ∙ few) in
      let m : Account = with_begun a client number w seen in
      let away_next : AreOthers (next_trans (state_of a)) k.waits = subst (λ (t : TransId). AreOthers t k.waits) (sym next) away in
      let counted : Session = record w { last = number; reply = reply.Begun begun_trans } in
      let kept : IsAs m held (with_begun_kept locks) = record {
        server = h.server;
        sizes = h.sizes;
        epoch = h.epoch;
        clock = ap (λ (n : ℕ). max n seen.ts) h.clock;
        cells = h.cells;
        sized = h.sized;
        notes = λ on. call_notes false a m client number w (call.Begin seen) (reply.Begun (next_trans (state_of a))) (act.Drawn (next_trans (state_of a)) ∷ []) h.quiet leads refl held.notes (h.notes on);
        places = places_set k.sessions client counted h.places;
        sessions = subst (λ (t : TransId). (c : ℕ) → cond {A = Option Session} (c == client) (Some (record w { last = number; reply = reply.Begun t })) (a.sessions c) ≡ session_at (with_session k.sessions client counted) c) (sym next)
            (sessions_as a.sessions k.sessions client counted h.sessions h.places le);
        dead = λ d u. ap (cond {A = Option Cause} (d == client) None) (h.dead d u) ∙ dead_buried client k.dead d u;
        lives = subst (λ (t : TransId). (u : TransId) → IsAlike a.holder.cells locks.held (lock_set a.locked t [] u) u (map.get (map.insert k.lives begun_trans begun_live) u) (cond {A = Option Life} (same_trans u t) (Some (new_life None client w.who)) (a.holder.lives u))) (sym next)
            (begun_alike locks.held new same opens none idle h);
        room = added_room k.sizes a.holder.cells k.lives begun_trans begun_live new idle h.room;
        unborn = each_set (λ l. PutNoneBeyond a.holder.server a.ids.epoch k.given l.edits) (next_trans (state_of a)) (Some (new_life None client w.who)) a.holder.lives h.unborn
            (λ l at f comes. ap (λ (y : Life). edits_at y.edits (Leader f) None) (sym (same-some (new_life None client w.who) l at)));
        coordinator = record {
          run = record {
            server_same = one.server_same ∙ h.coordinator.run.server_same;
            epoch_same = one.epoch_same ∙ h.coordinator.run.epoch_same;
            count_same = one.count_same ∙ ap (λ (n : ℕ). n + 1) h.coordinator.run.count_same;
          };
          fates = subst (λ (t : TransId). (u : TransId) → IsFateOf a.ids.epoch u (fate_in c u) (cond {A = Fate} (same_trans t u) (fate.begun client (a.fates u)) (a.fates u))) (sym next)
              (known_begun a.ids.epoch begun_trans client seen.ts w.who k.coordinator c a.fates h.coordinator.run.epoch_same comes h.coordinator.fates);
        };
        decided = applied_fated a m refl refl (λ u. begun_decision (same_trans (next_trans (state_of a)) u) client (a.fates u)) h.decided;
        servers = h.servers;
        joins = h.joins;
        files = h.files;
        made = h.made;
        born = h.born;
        earlier = h.earlier;
        waits = undecided_left a held k client h c named (parts_on h named comes);
        queue = waiting ∙ h.queue ∙ sym (queue_undecided a held k client h named)
            ∙ sym (queue_beside a.holder m.holder k.locks.held locks.held (next_trans (state_of a)) refl (λ u apart. ap (λ (b : Bool). cond {A = Option Life} b (Some (new_life None client w.who)) (a.holder.lives u)) apart) (λ u apart. beside u) (undecided a client)
            (each-filter (λ (v : Waiting). is_of (next_trans (state_of a)) (file_trans v.call) ≡ false) (λ v. not (is_decided a client v)) (unburied a client)
            (each-filter (λ (v : Waiting). is_of (next_trans (state_of a)) (file_trans v.call) ≡ false) (λ v. not (is_buried a client v)) a.waits
            (subst (AllByRecursion (λ (v : Waiting). is_of (next_trans (state_of a)) (file_trans v.call) ≡ false)) (sym h.waits) (others_told (next_trans (state_of a)) k.waits named away_next)))));
        asked = asked_beside a.holder m.holder k.locks.held locks.held (next_trans (state_of a)) refl (λ u apart. ap (λ (b : Bool). cond {A = Option Life} b (Some (new_life None client w.who)) (a.holder.lives u)) apart) (λ u apart. beside u)
            a.locked (lock_set a.locked (next_trans (state_of a)) []) (λ u apart. ap (λ (b : Bool). cond {A = List Resource} b [] (a.locked u)) apart) (live_calls client c k.joins (without_dead client k.dead k.waits))
            (each-filter (λ (v : WaitingCall). is_file_on (next_trans (state_of a)) v ≡ false) (stays client c k.joins) (without_dead client k.dead k.waits)
            (each-filter (λ (v : WaitingCall). is_file_on (next_trans (state_of a)) v ≡ false) (outlives client k.dead) k.waits away_next))
            (each-filter (IsWaitingAs a.holder a.locked) (stays client c k.joins) (without_dead client k.dead k.waits)
            (each-filter (IsWaitingAs a.holder a.locked) (outlives client k.dead) k.waits h.asked));
        quiet = leads.quiet;
        down = sym up;
      } in
      stepped_so a before now held held k (with_begun_kept locks) client number w (call.Begin seen) false (reply.Begun (next_trans (state_of a))) (act.Drawn (next_trans (state_of a)) ∷ []) m x
      (is ∙ ap (λ (t : TransId). told_answer (Some (reply.Begun t)) (act.Drawn t ∷ [])) (sym next)) h leads kept (λ e. cc) (omega (arith, h.clock))
