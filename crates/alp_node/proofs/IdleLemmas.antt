-- calls by which nothing comes about: a repeat of the last call, a call of no session that stands, and one that is astray
use Rattle.std.specs.Prelude.{cond, Bool, true, false, ◌==◌, ◌&&◌, not, flat_map, Option, None, Some, is_some, IfSome, IsSome, Result, Ok, Err, IfOk}
use Rattle.std.specs.List.Sorted.{IsPermutation}
use Rattle.std.proofs.lemmas.List.Sorted.{IsPermutation-refl}
use Rattle.std.proofs.Common.{◌≡◌, ℕ, ◌+◌, List, [], ◌++◌, refl, sym, ◌∙◌, ap, subst, le_refl}
use Rattle.alp_base.specs.declared.memory.OutOfMemory.{OutOfMemory}
use Rattle.alp_base.specs.declared.ids.TransId.{TransId}
use Rattle.alp_files.specs.declared.call.Call.{Call}
use Rattle.alp_files.specs.declared.call.Call.TheVariants as call
use Rattle.alp_files.specs.declared.reply.Reply.{Reply}
use Rattle.alp_files.specs.declared.reply.Reply.TheVariants as reply
use Rattle.alp_files.specs.declared.refusal.Refusal.TheVariants as refusal
use Rattle.alp_vault.specs.Contents.{Contents}
use Rattle.alp_vault.specs.declared.vault.Vault.{Ghosts}
use Rattle.alp_journal.specs.declared.event.Event.{Event}
use Rattle.alp_journal.specs.declared.event.Event.TheVariants as event
use Rattle.alp_journal.specs.declared.entry.Entry.{Entry}
use Rattle.alp_journal.specs.Along.{Along, Where, state_after}
use Rattle.alp_journal.specs.Deeds.{Deed}
use Rattle.alp_journal.specs.Desk.{Desk, Session, file_trans, with_session}
use Rattle.alp_journal.specs.State.{State, state_deed, has_part}
use Rattle.alp_journal.specs.Moves.{is_new, tried, call_deeds, answered, done_of, next, greeted, counted, desk_told}
use Rattle.alp_journal.specs.Laws.{IsLawfulDeed, DoLivesAgree, WaitsInTurn, Repeats, stale, Greets, CallsOn, KeepsSessions, begun_in, begun_new, ended_by, grants_of, TellsIn, TellsDecided}
use Rattle.alp_journal.specs.Messages.{Mail, on_call, due}
use Rattle.alp_journal.specs.Answers.{IsAnswer, AnswersCall}
use Rattle.alp_journal.specs.Answered.{CountsVotes, ForgetsDone, GrantsFor, GrantsAtOnce}
use Rattle.alp_journal.specs.Account.{Account, state_of, IsQuiet, Leads}
use Rattle.alp_journal.proofs.CallLemmas.{quiet_votes, quiet_forgets}
use Rattle.alp_journal.proofs.QuietLemmas.{quiet_up}
use Rattle.alp_calls.proofs.LookLemmas.{left_same}
use Rattle.alp_node.specs.Halts.{says_shut}
use Rattle.alp_node.specs.Orders.{greeting_order, session_order, order_of, idle_reply, is_answered, is_fault_now}
use Rattle.alp_node.specs.ServerState.{IsAs, IsReady}
use Rattle.alp_node.specs.Sessions.{session_at}
use Rattle.alp_node.specs.Steps.{Stepped, IsStepAs, seen_in, told_answer, entry_of}
use Rattle.alp_node.specs.Turns.{TellsUpTo, IsInSession, HasCounted, HasTurned, IsToldItsPages}
use Rattle.alp_node.specs.declared.answer.Answer.{Answer}
use Rattle.alp_node.specs.declared.server_state.ServerState.{ServerState}
use Rattle.alp_node.specs.declared.sessions.CallOrder.{CallOrder}
use Rattle.alp_node.specs.declared.sessions.CallOrder.TheVariants as order
use Rattle.alp_node.proofs.GivenLemmas.{calm_given, wanting_as}
use Rattle.alp_node.proofs.KeptLemmas.{stands_timely}
use Rattle.alp_node.proofs.NotedLemmas.{notes_on}
use Rattle.alp_node.proofs.OrderLemmas.{IsIdle, idle_not_new}
use Rattle.alp_node.proofs.ReadyLemmas.{stepped_ready}
use Rattle.alp_node.proofs.SeatLemmas.{left_seated, left_step_as}

-- ---- the law of sessions

greets_idle : (s : State) (epoch number : ℕ) (e : Entry) (w : Option Session) → IsIdle (greeting_order epoch number w) → e.acts ≡ [] → e.reply ≡ idle_reply (greeting_order epoch number w) s.ids.epoch w → Greets s epoch number e w
greets_idle s epoch number e None idle none told = go (epoch == 0 && number == 1) idle told
  where
    go : (b : Bool) → IsIdle (cond {A = CallOrder} b order.First order.Astray) → e.reply ≡ idle_reply (cond {A = CallOrder} b order.First order.Astray) s.ids.epoch None → Where b (e.reply ≡ Some (reply.Welcome s.ids.epoch)) (Repeats None e)
    go true idle told = absurd idle
    go false idle told = (told, none)
greets_idle s epoch number e (Some w) idle none told = go (epoch == 0 && number == 1 && w.last == 1) told
  where
    go : (b : Bool) → e.reply ≡ idle_reply (cond {A = CallOrder} b order.Repeat order.Astray) s.ids.epoch (Some w) → Where b (Repeats (Some w.reply) e) (Repeats None e)
    go true told = (told, none)
    go false told = (told, none)

calls_idle : (s : State) (epoch number : ℕ) (e : Entry) (w : Option Session) → IsIdle (session_order s.ids.epoch epoch number w) → e.acts ≡ [] → e.reply ≡ idle_reply (session_order s.ids.epoch epoch number w) s.ids.epoch w → CallsOn s epoch number e w
calls_idle s epoch number e None idle none told = (told, none)
calls_idle s epoch number e (Some w) idle none told = go (epoch == s.ids.epoch) (number == w.last) (number == w.last + 1) idle told
  where
    go : (x y z : Bool) → IsIdle (cond {A = CallOrder} x (cond {A = CallOrder} y order.Repeat (cond {A = CallOrder} z order.Next order.Astray)) order.Stale)
        → e.reply ≡ idle_reply (cond {A = CallOrder} x (cond {A = CallOrder} y order.Repeat (cond {A = CallOrder} z order.Next order.Astray)) order.Stale) s.ids.epoch (Some w)
        → Where (not x) (Repeats (stale s) e) (Where y (Repeats (Some w.reply) e) (Where z (IsSome e.reply) (Repeats None e)))
    go false y z idle told = (told, none)
    go true true z idle told = (told, none)
    go true false true idle told = absurd idle
    go true false false idle told = (told, none)

pub keeps_idle : (s : State) (client epoch number : ℕ) (c : Call) (e : Entry) → IsIdle (order_of s.ids.epoch epoch number c (s.desk.sessions client)) → e.acts ≡ []
    → e.reply ≡ idle_reply (order_of s.ids.epoch epoch number c (s.desk.sessions client)) s.ids.epoch (s.desk.sessions client) → KeepsSessions s e (event.Call client epoch number c)
keeps_idle s client epoch number (call.Hello name) e idle none told = greets_idle s epoch number e (s.desk.sessions client) idle none told
keeps_idle s client epoch number c e idle none told = calls_idle s epoch number e (s.desk.sessions client) idle none told

-- ---- the entry

-- without a reply the desk stays
desk_silent : (s : State) (client epoch number : ℕ) (c : Call) → desk_told s (event.Call client epoch number c) None ≡ s.desk
desk_silent s client epoch number (call.Hello name) = refl
desk_silent s client epoch number c = refl

-- and where what is answered is not the next call
desk_idle : (s : State) (client epoch number : ℕ) (c : Call) (y : Reply) → is_new s client epoch number ≡ false → idle_reply (order_of s.ids.epoch epoch number c (s.desk.sessions client)) s.ids.epoch (s.desk.sessions client) ≡ Some y
    → desk_told s (event.Call client epoch number c) (Some y) ≡ s.desk
desk_idle s client epoch number (call.Hello name) y old told = go (s.desk.sessions client) told
  where
    go : (w : Option Session) → idle_reply (greeting_order epoch number w) s.ids.epoch w ≡ Some y → greeted s.desk client epoch number name y w ≡ s.desk
    go (Some w) told = refl
    go None told = none (epoch == 0 && number == 1) told
      where
        none : (b : Bool) → idle_reply (cond {A = CallOrder} b order.First order.Astray) s.ids.epoch None ≡ Some y → cond {A = Desk} b (with_session s.desk client (Some (record { who = name; last = 1; reply = y }))) s.desk ≡ s.desk
        none true told = cc
        none false told = cc
desk_idle s client epoch number c y old told = ap (λ (b : Bool). cond {A = Desk} b (counted s.desk (has_part s client) client number c y (s.desk.sessions client)) s.desk) old

cond_same : {A : Type 0} (b : Bool) (x : A) → cond {A = A} b x x ≡ x
cond_same true x = refl
cond_same false x = refl

module _ (a : Account) (client epoch number : ℕ) (c : Call) (r : Option Reply) where
  abbrev asked : Event
  asked = event.Call client epoch number c

  abbrev pub idle_entry : Entry
  idle_entry = record { event = asked; reply = r; acts = [] }

  -- all stays
  abbrev pub unmoved : Account
  unmoved = record a { is_down = false; pending = [] }

  -- what is owed of such an entry
  record IdleOwes : Type 0 where
    tries : tried (state_of a) idle_entry ≡ []
    desk : desk_told (state_of a) asked r ≡ (state_of a).desk
    drawn : [] ≡ begun_new (state_of a) asked r
    keeps : KeepsSessions (state_of a) idle_entry asked
    tells : TellsDecided (state_of a) (state_of unmoved) asked r
    answer : AnswersCall false (state_of a) asked r
    mail : due false (state_of a) (state_of unmoved) asked r ≡ []
    grants : GrantsAtOnce false (state_of a) idle_entry asked r

  idle_so : IsQuiet a → a.is_down ≡ false → IdleOwes → Leads false a idle_entry unmoved
  idle_so q up o =
      let s : State = state_of a in
      let leaves : next s idle_entry ≡ state_of unmoved =
      ap (λ (ds : List Deed). record (state_after state_deed s ds) { desk = desk_told (state_after state_deed s ds) asked r; is_down = false; pending = [] }) o.tries ∙ ap (λ (d : Desk). record s { desk = d; is_down = false; pending = [] }) o.desk in
      record {
        leaves = leaves;
        lawful = record {
          drawn = o.drawn;
          sessions = o.keeps;
          deeds = subst (Along state_deed (IsLawfulDeed asked) s) (sym o.tries) tt;
          agree = subst (λ (x : State). DoLivesAgree x.holder.lives) (sym leaves) q.settled.stands.agree;
          released = ((ap (flat_map (ended_by s)) (sym o.tries), ap (flat_map grants_of) (sym o.tries)), subst WaitsInTurn (sym leaves) (quiet_up a q).turns);
          sent = refl;
          said = tt;
          told = subst (λ (x : State). TellsDecided s x asked r) (sym leaves) o.tells;
          restart = (refl, up);
          stopped = tt;
        };
        answered = record {
          answered = o.answer;
          sent = subst (λ (x : State). IsPermutation (due false s x asked r) []) (sym leaves) (subst (λ (x : List Mail). IsPermutation x []) (sym o.mail) (IsPermutation-refl []));
          ticks = tt;
          applied = tt;
          votes = subst CountsVotes (sym leaves) (quiet_votes unmoved (quiet_up a q));
          forgets = subst ForgetsDone (sym leaves) (quiet_forgets unmoved (quiet_up a q));
          turns = tt;
          grants = o.grants;
          halted = tt;
        };
        quiet = quiet_up a q;
      }

-- it is lawful and has its cause, and leaves all as it was
pub idle_call_leads : (a : Account) (client epoch number : ℕ) (c : Call) (r : Option Reply) → IsQuiet a → a.is_down ≡ false → IsIdle (order_of a.ids.epoch epoch number c (a.sessions client))
    → r ≡ idle_reply (order_of a.ids.epoch epoch number c (a.sessions client)) a.ids.epoch (a.sessions client) → Leads false a (idle_entry a client epoch number c r) (unmoved a client epoch number c r)
idle_call_leads a client epoch number c None q up idle told =
    idle_so a client epoch number c None q up (record {
      tries = refl;
      desk = desk_silent (state_of a) client epoch number c;
      drawn = sym (cond_same {A = List TransId} (is_new (state_of a) client epoch number) []);
      keeps = keeps_idle (state_of a) client epoch number c (idle_entry a client epoch number c None) idle refl told;
      tells = tt;
      answer = tt;
      mail = refl;
      grants = tt;
    })
idle_call_leads a client epoch number c (Some y) q up idle told =
    let s : State = state_of a in
    let old : is_new s client epoch number ≡ false = idle_not_new a.ids.epoch epoch number c (a.sessions client) y idle (sym told) in
    idle_so a client epoch number c (Some y) q up (record {
      tries = ap (λ (b : Bool). cond {A = List Deed} b (call_deeds s client c y) [] ++ [] ++ cond {A = List Deed} b (done_of s y (answered s client c)) []) old;
      desk = desk_idle s client epoch number c y old (sym told);
      drawn = sym (ap (λ (b : Bool). cond {A = List TransId} b (begun_in (Some y)) []) old);
      keeps = keeps_idle s client epoch number c (idle_entry a client epoch number c (Some y)) idle refl told;
      tells = subst (λ (b : Bool). Where b (TellsIn (state_of (unmoved a client epoch number c (Some y))) c y) (Unit {0})) (sym old) tt;
      answer = subst (λ (b : Bool). Where b (IsAnswer false s client c y) (Unit {0})) (sym old) tt;
      mail = ap (λ (b : Bool). cond {A = List Mail} b (on_call s client c y) []) old;
      grants = subst (λ (b : Bool). Where b (GrantsFor false s client c y [] (file_trans c)) (Unit {0})) (sym old) tt;
    })

-- ---- as the server keeps it

pub idle_stepped : {V : Type 0} (a : Account) (before now : ℕ) (held : Contents) (k : ServerState V) (client epoch number : ℕ) (c : Call) (x : Answer) → IsAs a held k → k.is_down ≡ false
    → IsIdle (order_of k.epoch epoch number c (session_at k.sessions client)) → x ≡ told_answer (idle_reply (order_of k.epoch epoch number c (session_at k.sessions client)) k.epoch (session_at k.sessions client)) []
    → Stepped a before now held k (event.Call client epoch number c) x
idle_stepped a before now held k client epoch number c x h up idle so =
    let r : Option Reply = idle_reply (order_of k.epoch epoch number c (session_at k.sessions client)) k.epoch (session_at k.sessions client) in
    let same : order_of a.ids.epoch epoch number c (a.sessions client) ≡ order_of k.epoch epoch number c (session_at k.sessions client) = (λ i. order_of (h.epoch i) epoch number c (h.sessions client i)) in
    let told : r ≡ idle_reply (order_of a.ids.epoch epoch number c (a.sessions client)) a.ids.epoch (a.sessions client) = (λ i. idle_reply (sym same i) (sym h.epoch i) (sym (h.sessions client) i)) in
    record {
      failed = false;
      next = unmoved a client epoch number c r;
      leads = subst (λ (y : Answer). Leads false a (entry_of (event.Call client epoch number c) y) (unmoved a client epoch number c r)) (sym so)
          (idle_call_leads a client epoch number c r h.quiet (h.down ∙ up) (subst IsIdle (sym same) idle) told);
      rose = λ e. cc;
      kept = record {
        server = h.server;
        servers = h.servers;
        sizes = h.sizes;
        epoch = h.epoch;
        clock = h.clock;
        cells = h.cells;
        sized = h.sized;
        notes = λ on. notes_on (state_of a) (state_of (unmoved a client epoch number c r)) a.ids.epoch held.notes refl refl refl (λ t. refl) (λ j x q. q) (h.notes on);
        places = h.places;
        sessions = h.sessions;
        dead = h.dead;
        lives = h.lives;
        room = h.room;
        unborn = h.unborn;
        coordinator = h.coordinator;
        decided = h.decided;
        joins = h.joins;
        files = h.files;
        made = h.made;
        born = h.born;
        earlier = h.earlier;
        waits = h.waits;
        queue = h.queue;
        asked = h.asked;
        quiet = quiet_up a h.quiet;
        down = sym up;
      };
      clock = stands_timely a.holder.clock (seen_in (event.Call client epoch number c)) k.clock h.clock;
    }

-- ---- of any vault

-- what is repeated is the reply of a session
pub repeat_kept : (here epoch number : ℕ) (c : Call) (w : Option Session) → order_of here epoch number c w ≡ order.Repeat → is_some w ≡ true
repeat_kept here epoch number c (Some w) e = refl
repeat_kept here epoch number (call.Hello name) None e = go (epoch == 0 && number == 1) e
  where
    go : (b : Bool) → cond {A = CallOrder} b order.First order.Astray ≡ order.Repeat → false ≡ true
    go true e = cc
    go false e = cc
repeat_kept here epoch number c None e = cc

-- there is a reply just where one is due
idle_answered : (o : CallOrder) (here : ℕ) (w : Option Session) → IsIdle o → (o ≡ order.Repeat → is_some w ≡ true) → is_some (idle_reply o here w) ≡ is_answered (Some o)
idle_answered order.First here w idle kept = absurd idle
idle_answered order.Next here w idle kept = absurd idle
idle_answered order.Repeat here (Some w) idle kept = refl
idle_answered order.Repeat here None idle kept = kept refl
idle_answered order.Stale here w idle kept = refl
idle_answered order.Astray here w idle kept = refl

-- it shows no fault of this step
idle_calm : (o : CallOrder) (server here : ℕ) (w : Option Session) → IsIdle o → is_fault_now (Some o) (idle_reply o here w) ≡ false
idle_calm order.First server here w idle = absurd idle
idle_calm order.Next server here w idle = absurd idle
idle_calm order.Repeat server here w idle = refl
idle_calm order.Stale server here w idle = refl
idle_calm order.Astray server here w idle = refl

inside_open : (r : Reply) → IsInSession r → says_shut (Some r) ≡ false
inside_open (reply.Refused refusal.Down) h = absurd h
inside_open (reply.Refused refusal.JournalFull) h = absurd h
inside_open (reply.Refused f) h = refl
inside_open r h = refl

-- and does not say that the server takes no event
idle_open : (o : CallOrder) (here : ℕ) (w : Option Session) → IsIdle o → ((v : Session) → w ≡ Some v → IsInSession v.reply) → says_shut (idle_reply o here w) ≡ false
idle_open order.First here w idle keeps = absurd idle
idle_open order.Next here w idle keeps = absurd idle
idle_open order.Repeat here (Some w) idle keeps = inside_open w.reply (keeps w refl)
idle_open order.Repeat here None idle keeps = refl
idle_open order.Stale here w idle keeps = refl
idle_open order.Astray here w idle keeps = refl

-- no time that it tells is later than the clock
idle_tells : (o : CallOrder) (clock here : ℕ) (w : Option Session) → IsIdle o → ((v : Session) → w ≡ Some v → TellsUpTo clock v.reply) → IfSome (idle_reply o here w) (TellsUpTo clock)
idle_tells order.First clock here w idle keeps = absurd idle
idle_tells order.Next clock here w idle keeps = absurd idle
idle_tells order.Repeat clock here (Some w) idle keeps = keeps w refl
idle_tells order.Repeat clock here None idle keeps = tt
idle_tells order.Stale clock here w idle keeps = tt
idle_tells order.Astray clock here w idle keeps = tt

module _ {V : Type 0} (G : Ghosts V) (k : ServerState V) (client epoch number : ℕ) (c : Call) where
  abbrev here_now : Option Session
  here_now = session_at k.sessions client

  abbrev this_call : Event
  this_call = event.Call client epoch number c

  idle_counted : (o : CallOrder) → IsIdle o → HasCounted o k k client number c (idle_reply o k.epoch here_now)
  idle_counted order.First idle = absurd idle
  idle_counted order.Next idle = absurd idle
  idle_counted order.Repeat idle = (refl, refl)
  idle_counted order.Stale idle = (refl, refl)
  idle_counted order.Astray idle = (refl, refl)

  idle_pages : (o : CallOrder) → IsIdle o → IsToldItsPages k.waits (Some o) this_call (idle_reply o k.epoch here_now)
  idle_pages order.First idle = tt
  idle_pages order.Next idle = absurd idle
  idle_pages order.Repeat idle = tt
  idle_pages order.Stale idle = tt
  idle_pages order.Astray idle = tt

  module _ (n : ℕ) (ready : IsReady n (G.serves k.vault) k) (up : k.is_down ≡ false) where
    -- it is answered, and the server stays as it was
    pub idle_step : (x : Answer) → IsIdle (order_of k.epoch epoch number c here_now) → x ≡ told_answer (idle_reply (order_of k.epoch epoch number c here_now) k.epoch here_now) []
        → IsStepAs G (Some (order_of k.epoch epoch number c here_now)) k k this_call (Ok x)
    idle_step x idle so =
        let o : CallOrder = order_of k.epoch epoch number c here_now in
        left_step_as G k k refl refl refl refl (left_same G k.vault) (Some o) this_call x up (λ ns h. h)
        (λ told a h. idle_stepped a (G.faults k.vault) (G.faults k.vault) (G.held k.vault) k client epoch number c x h up idle so)
        (calm_given (G.faults k.vault) (G.faults k.vault) (G.allowance k.vault) k.is_down (Some o) (idle_reply o k.epoch here_now) [] x so
        (idle_answered o k.epoch here_now idle (repeat_kept k.epoch epoch number c here_now)) (idle_calm o k.server k.epoch here_now idle)
        (idle_open o k.epoch here_now idle (λ v is. (ready.replies client v is).inside)) refl up up tt)
        (λ m h. stepped_ready m (G.serves k.vault) k h)
        (λ on. subst (λ (y : Answer). HasTurned (Some o) k k this_call y.kept) (sym so) (record {
          later = le_refl k.clock;
          times = idle_tells o k.clock k.epoch here_now idle (λ v is. (ready.replies client v is).times);
          sessions = idle_counted o idle;
          pages = idle_pages o idle;
        }))

    -- a repeat gets the kept reply, unless there is no memory to copy it
    pub repeat_step : (r : Result Answer OutOfMemory) → order_of k.epoch epoch number c here_now ≡ order.Repeat → IfOk r (λ x. IfSome here_now (λ w. x ≡ told_answer (Some w.reply) []))
        → IsStepAs G (Some (order_of k.epoch epoch number c here_now)) k k this_call r
    repeat_step (Ok x) again told = idle_step x (subst IsIdle (sym again) tt) (so here_now (repeat_kept k.epoch epoch number c here_now again) told ∙ ap (λ (o : CallOrder). told_answer (idle_reply o k.epoch here_now) []) (sym again))
      where
        so : (w : Option Session) → is_some w ≡ true → IfSome w (λ v. x ≡ told_answer (Some v.reply) []) → x ≡ told_answer (idle_reply order.Repeat k.epoch w) []
        so (Some w) there told = told
        so None there told = cc
    repeat_step (Err f) again told =
        wanting_as G k k (Some (order_of k.epoch epoch number c here_now)) this_call (Err f) refl
        (record { kept = λ a h. h; ready = λ m h. h; up = refl; sessions = refl; clock = refl; vault = record { held = refl; faults = refl; allowance = refl } }) (λ h. h) (left_seated G k k refl refl refl refl (left_same G k.vault)) (left_same G k.vault)
