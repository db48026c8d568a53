-- a call that raises what its part holds on a page is given the page before a call that came first
use Rattle.std.specs.Prelude.{codes, true, false, not, unwrap_or, slice_get, drop, cond, is_some, ◌&&◌, ◌==◌, if◌then◌else◌, Bool, Option, None, Some}
use Rattle.std.specs.FinMap as map
use Rattle.std.specs.List.{list_any}
use Rattle.std.proofs.Common.{◌≡◌, ℕ, List, [], ◌∷◌, ◌++◌, refl, sym, ap, subst, ◌∙◌, inl, arith}
use Rattle.alp_base.specs.declared.ids.JoinNo.{JoinNo}
use Rattle.alp_base.specs.declared.ids.TransId.{TransId}
use Rattle.alp_base.specs.declared.choices.Choice.TheVariants as choice
use Rattle.alp_modes.specs.declared.Mode.{Mode}
use Rattle.alp_modes.specs.declared.Mode.TheVariants.{Read, Update}
use Rattle.alp_modes.specs.Modes.{agree, covers_of, join_of, leaf_of}
use Rattle.alp_files.specs.Holdings.{Holding, DoAgree, agree_held, held_by, intention_of}
use Rattle.alp_files.specs.Act.{replied}
use Rattle.alp_files.specs.Locks.{Need, request_of}
use Rattle.alp_base.specs.declared.cell.Cell.TheVariants as cell
use Rattle.alp_files.specs.declared.call.Call.{Call}
use Rattle.alp_files.specs.declared.reply.Reply.{Reply}
use Rattle.alp_files.specs.declared.reply.Reply.TheVariants as reply
use Rattle.alp_files.specs.declared.refusal.Refusal.TheVariants as refusal
use Rattle.alp_files.specs.declared.refusal.Cause.TheVariants as cause
use Rattle.alp_journal.specs.declared.event.Event.{Event}
use Rattle.alp_journal.specs.declared.entry.Entry.{Entry}
use Rattle.alp_journal.specs.Along.{state_after, Along}
use Rattle.alp_journal.specs.Ids.{same_trans}
use Rattle.alp_journal.specs.Coordinator.{begun}
use Rattle.alp_journal.specs.Deeds.{Deed, Grants, Performs, Releases, Ends}
use Rattle.alp_journal.specs.Desk.{Session, Waiting}
use Rattle.alp_journal.specs.Counts.{lock_set}
use Rattle.alp_journal.specs.Holder.{Holder, Life, held_for}
use Rattle.alp_journal.specs.State.{State, opened, state_deed}
use Rattle.alp_journal.specs.Moves.{next}
use Rattle.alp_journal.specs.Laws.{DoLivesAgree, WaitsInTurn, IsLawfulDeed, IsLawfulEntry, IsLawful, IsFree}
use Rattle.alp_journal.specs.Answered.{GivesOn, IsWalk, IsWaitingFor, rises_on, is_conversion, in_turn}
use Rattle.alp_history.specs.WrongJournals.{hello, kept_props, with_file, of_client, opens_file, locks_page, page_waits, gives_page}
use Rattle.alp_history.proofs.Places.{some-same}
use Rattle.alp_history.proofs.Steps.{closed, next_by}
use Rattle.alp_history.proofs.Named.{Only, has_trans, only_deed, only_next}
use Rattle.alp_history.proofs.NamedEnds.{no_vote}
use Rattle.alp_history.proofs.NamedPairs.{AreAgreed, pairs_agree, free_of, blocked_by, first_is_given, IsReleased, gives_on, gives_back}
use Rattle.alp_history.proofs.HoldLists.{lists_agree}
use Rattle.alp_history.proofs.CallsDone.{with_granted, with_done, granted_is, IsCalled, IsAllowed, left, left_is, called_right, known_given, known_done}
use Rattle.alp_history.proofs.PageCalls.{leader, page, open_locks, read_locks, update_locks, asks_update, asks_read, asks_more, with_open, open_done, lock_done, fresh, opening_life, opened_life, part_life, locked_life, open_held, opened_answer, open_answer, open_after, file_seen, lock_needs, lock_held, lock_life, lock_answer, lock_after, update_open, update_read, read_open, read_update, raised_open, open_raised}
use Rattle.alp_history.proofs.LawfulDeeds.{begins, grants, releases}
use Rattle.alp_history.proofs.LawfulDeeds as deeds
use Rattle.alp_history.proofs.LawfulEntries.{by_laws, agree_none, held_in}

abbrev one : TransId
one = of_client 1

abbrev two : TransId
two = of_client 2

abbrev three : TransId
three = of_client 3

abbrev ts : List TransId
ts = one ∷ two ∷ three ∷ []

abbrev js : List JoinNo
js = []

abbrev entry : ℕ → Entry
entry i = unwrap_or (slice_get page_waits i) hello

abbrev event_of : ℕ → Event
event_of i = (entry i).event

-- ---- what an entry leaves, written out

-- the last call of a client's session
abbrev spoken : State → ℕ → ℕ → Reply → ℕ → Option Session
spoken s n number r c = if c == n then Some (record { who = codes "Admin"; last = number; reply = r }) else s.desk.sessions c

abbrev greeted_by : State → ℕ → State
greeted_by s n = record s { desk = record (s.desk) { sessions = spoken s n 1 (reply.Welcome 2) } }

abbrev begun_by : State → ℕ → State
begun_by s n = record s {
  ids = record (s.ids) { transactions = n };
  holder = record (s.holder) { lives = λ u. if same_trans u (of_client n) then Some (fresh n) else (s.holder).lives u };
  fates = λ u. if same_trans (of_client n) u then begun n (s.fates u) else s.fates u;
  desk = record { sessions = spoken s n 2 (reply.Begun (of_client n)); waits = []; dead = λ d u. if d == n then None else s.desk.dead d u };
  locked = lock_set s.locked (of_client n) [];
  begun = s.begun ++ of_client n ∷ [];
}

abbrev done_by : State → ℕ → ℕ → Reply → TransId → Call → Life → Life → State
done_by s n number r t c m k = record (with_done (with_granted s t c m) t (record { call = c; reply = r }) k) { desk = record (s.desk) { sessions = spoken s n number r }; is_down = false; pending = [] }

abbrev waits_by : State → ℕ → ℕ → List Waiting → State
waits_by s n number ws = record s { desk = record (s.desk) { sessions = spoken s n number (reply.Refused refusal.NotYet); waits = ws } }

-- ---- a list of entries, step by step

lawful_step : (s m : State) (e : Entry) (es : List Entry) → next s e ≡ m → IsLawfulEntry s e → Along next IsLawfulEntry m es → Along next IsLawfulEntry s (e ∷ es)
lawful_step s m e es is law more = (law, subst (λ (x : State). Along next IsLawfulEntry x es) (sym is) more)

state_step : (s m r : State) (e : Entry) (es : List Entry) → next s e ≡ m → state_after next m es ≡ r → state_after next s (e ∷ es) ≡ r
state_step s m r e es is more = ap (λ (x : State). state_after next x es) is ∙ more

-- an open, and a lock on the page
abbrev opens_at : State → Entry → ℕ → Type 0
opens_at s e n = IsCalled s e (of_client n) (opens_file (of_client n)) (reply.Opened 1) (fresh n) (opening_life n) (opened_life n) opened_answer

abbrev opens_right : State → Entry → ℕ → Type 0
opens_right s e n = IsAllowed s e (of_client n) (opens_file (of_client n)) (reply.Opened 1) (fresh n) (opening_life n) (opened_life n) opened_answer

abbrev opening_at : State → ℕ → State
opening_at s n = with_granted s (of_client n) (opens_file (of_client n)) (opening_life n)

abbrev opened_at : State → ℕ → State
opened_at s n = done_by s n 3 (reply.Opened 1) (of_client n) (opens_file (of_client n)) (opening_life n) (opened_life n)

abbrev locking : ℕ → List Need → Life
locking n ls = part_life n (open_done n ∷ []) (open_locks ++ ls)

abbrev locks_at : State → Entry → ℕ → Mode → List Need → Type 0
locks_at s e n m ls = IsCalled s e (of_client n) (locks_page (of_client n) m choice.Fail) reply.Plain (opened_life n) (locking n ls) (locked_life n m ls) (replied with_open reply.Plain [])

abbrev locks_right : State → Entry → ℕ → Mode → List Need → Type 0
locks_right s e n m ls = IsAllowed s e (of_client n) (locks_page (of_client n) m choice.Fail) reply.Plain (opened_life n) (locking n ls) (locked_life n m ls) (replied with_open reply.Plain [])

abbrev locking_at : State → ℕ → Mode → List Need → State
locking_at s n m ls = with_granted s (of_client n) (locks_page (of_client n) m choice.Fail) (locking n ls)

abbrev locked_at : State → ℕ → Mode → List Need → State
locked_at s n m ls = done_by s n 4 reply.Plain (of_client n) (locks_page (of_client n) m choice.Fail) (locking n ls) (locked_life n m ls)

module _ (s : State) (e : Entry) (n : ℕ) where
  module _ (h : opens_at s e n) where
    -- what is left then, with the desk as the call leaves it
    opened_left : next s e ≡ left s e (of_client n) (opens_file (of_client n)) (reply.Opened 1) (fresh n) (opening_life n) (opened_life n) opened_answer
    opened_left = left_is s e (of_client n) (opens_file (of_client n)) (reply.Opened 1) (fresh n) (opening_life n) (opened_life n) opened_answer h

    open_deeds : opens_right s e n → Along state_deed (IsLawfulDeed e.event) s (Grants (of_client n) (opens_file (of_client n)) ∷ Performs (of_client n) (open_done n) ∷ [])
    open_deeds = called_right s e (of_client n) (opens_file (of_client n)) (reply.Opened 1) (fresh n) (opening_life n) (opened_life n) opened_answer h

    opening_agree : Only ts js s → has_trans (of_client n) ts ≡ true → AreAgreed (opening_at s n) ts → DoLivesAgree (opening_at s n).holder.lives
    opening_agree known named = pairs_agree ts js (opening_at s n) (known_given s e (of_client n) (opens_file (of_client n)) (reply.Opened 1) (fresh n) (opening_life n) (opened_life n) opened_answer h ts js known named)

    open_known : Only ts js s → has_trans (of_client n) ts ≡ true → Only ts js (opened_at s n)
    open_known known named =
        let done = known_done s e (of_client n) (opens_file (of_client n)) (reply.Opened 1) (fresh n) (opening_life n) (opened_life n) opened_answer h ts js known named in
        record { lives = done.lives; fates = done.fates; phases = done.phases }

  module _ (m : Mode) (ls : List Need) (h : locks_at s e n m ls) where
    locked_left : next s e ≡ left s e (of_client n) (locks_page (of_client n) m choice.Fail) reply.Plain (opened_life n) (locking n ls) (locked_life n m ls) (replied with_open reply.Plain [])
    locked_left = left_is s e (of_client n) (locks_page (of_client n) m choice.Fail) reply.Plain (opened_life n) (locking n ls) (locked_life n m ls) (replied with_open reply.Plain []) h

    lock_deeds : locks_right s e n m ls → Along state_deed (IsLawfulDeed e.event) s (Grants (of_client n) (locks_page (of_client n) m choice.Fail) ∷ Performs (of_client n) (lock_done n m) ∷ [])
    lock_deeds = called_right s e (of_client n) (locks_page (of_client n) m choice.Fail) reply.Plain (opened_life n) (locking n ls) (locked_life n m ls) (replied with_open reply.Plain []) h

    locking_agree : Only ts js s → has_trans (of_client n) ts ≡ true → AreAgreed (locking_at s n m ls) ts → DoLivesAgree (locking_at s n m ls).holder.lives
    locking_agree known named = pairs_agree ts js (locking_at s n m ls) (known_given s e (of_client n) (locks_page (of_client n) m choice.Fail) reply.Plain (opened_life n) (locking n ls) (locked_life n m ls) (replied with_open reply.Plain []) h ts js known named)

    lock_known : Only ts js s → has_trans (of_client n) ts ≡ true → Only ts js (locked_at s n m ls)
    lock_known known named =
        let done = known_done s e (of_client n) (locks_page (of_client n) m choice.Fail) reply.Plain (opened_life n) (locking n ls) (locked_life n m ls) (replied with_open reply.Plain []) h ts js known named in
        record { lives = done.lives; fates = done.fates; phases = done.phases }

-- ---- the first part opens the file, and locks the page for update

abbrev at_0 : State
at_0 = opened with_file

known_0 : Only ts js at_0
known_0 = record { lives = λ u k. refl; fates = λ u k. refl; phases = λ j k. refl }

abbrev at_1 : State
at_1 = greeted_by at_0 1

is_1 : next at_0 (entry 0) ≡ at_1
is_1 = refl

known_1 : Only ts js at_1
known_1 = subst (Only ts js) is_1 (only_next ts js at_0 (entry 0) refl known_0)

agree_1 : DoLivesAgree at_1.holder.lives
agree_1 = pairs_agree ts js at_1 known_1 (((λ r. refl), ((λ r. refl), tt)), (((λ r. refl), tt), (tt, tt)))

entry_0 : IsLawfulEntry at_0 (entry 0)
entry_0 = by_laws at_0 (entry 0) refl refl refl
    tt
    (subst (λ (s : State). DoLivesAgree s.holder.lives) (sym is_1) agree_1)
    ((refl, refl), tt) tt tt (refl, refl) tt

abbrev at_2 : State
at_2 = begun_by at_1 1

is_2 : next at_1 (entry 1) ≡ at_2
is_2 = refl

known_2 : Only ts js at_2
known_2 = subst (Only ts js) is_2 (only_next ts js at_1 (entry 1) refl known_1)

agree_2 : DoLivesAgree at_2.holder.lives
agree_2 = pairs_agree ts js at_2 known_2 (((λ r. agree_none (held_in (at_2.holder.lives one) r) _ refl), ((λ r. agree_none (held_in (at_2.holder.lives one) r) _ refl), tt)), (((λ r. refl), tt), (tt, tt)))

entry_1 : IsLawfulEntry at_1 (entry 1)
entry_1 = by_laws at_1 (entry 1) refl refl refl
    (begins (event_of 1) at_1 one 1 (codes "Admin") 0 refl, tt)
    (subst (λ (s : State). DoLivesAgree s.holder.lives) (sym is_2) agree_2)
    ((refl, refl), tt) (tt, tt) tt (refl, refl) tt

called_2 : opens_at at_2 (entry 2) 1
called_2 = record { goes = refl; tries = refl; live = refl; granted = open_held at_2.holder 1; answer = open_answer at_2.holder 1 file_seen; done = open_after 1 }

abbrev at_3 : State
at_3 = opened_at at_2 1

desk_3 : left at_2 (entry 2) (of_client 1) (opens_file (of_client 1)) (reply.Opened 1) (fresh 1) (opening_life 1) (opened_life 1) opened_answer ≡ at_3
desk_3 = refl

is_3 : next at_2 (entry 2) ≡ at_3
is_3 = opened_left at_2 (entry 2) 1 called_2 ∙ desk_3

known_3 : Only ts js at_3
known_3 = open_known at_2 (entry 2) 1 called_2 known_2 refl

agree_3 : DoLivesAgree at_3.holder.lives
agree_3 = pairs_agree ts js at_3 known_3 (((λ r. agree_none _ _ refl), ((λ r. agree_none _ _ refl), tt)), (((λ r. refl), tt), (tt, tt)))

entry_2 : IsLawfulEntry at_2 (entry 2)
entry_2 = by_laws at_2 (entry 2) refl refl refl
    (open_deeds at_2 (entry 2) 1 called_2 (record { client = refl; unvoted = refl; active = refl; formed = (tt, tt, tt); none = refl; right = refl; runs = refl; agree_given = opening_agree at_2 (entry 2) 1 called_2 known_2 refl (((λ r. agree_none _ _ refl), ((λ r. agree_none _ _ refl), tt)), (((λ r. refl), tt), (tt, tt))); agree_left = agree_3 }))
    (subst (λ (s : State). DoLivesAgree s.holder.lives) (sym is_3) agree_3)
    ((refl, refl), tt) (tt, tt) tt (refl, refl) tt

called_3 : locks_at at_3 (entry 3) 1 Update update_locks
called_3 = record {
  goes = refl;
  tries = refl;
  live = refl;
  granted = lock_life at_3.holder 1 (open_done 1 ∷ []) open_locks file_seen (of_client 1) Update choice.Fail update_locks asks_update;
  answer = lock_answer at_3.holder 1 (open_done 1 ∷ []) (open_locks ++ update_locks) file_seen Update;
  done = lock_after 1 Update update_locks;
}

abbrev at_4 : State
at_4 = locked_at at_3 1 Update update_locks

desk_4 : left at_3 (entry 3) (of_client 1) (locks_page (of_client 1) Update choice.Fail) reply.Plain (opened_life 1) (locking 1 update_locks) (locked_life 1 Update update_locks) (replied with_open reply.Plain []) ≡ at_4
desk_4 = refl

is_4 : next at_3 (entry 3) ≡ at_4
is_4 = locked_left at_3 (entry 3) 1 Update update_locks called_3 ∙ desk_4

known_4 : Only ts js at_4
known_4 = lock_known at_3 (entry 3) 1 Update update_locks called_3 known_3 refl

agree_4 : DoLivesAgree at_4.holder.lives
agree_4 = pairs_agree ts js at_4 known_4 (((λ r. agree_none _ _ refl), ((λ r. agree_none _ _ refl), tt)), (((λ r. refl), tt), (tt, tt)))

entry_3 : IsLawfulEntry at_3 (entry 3)
entry_3 = by_laws at_3 (entry 3) refl refl refl
    (lock_deeds at_3 (entry 3) 1 Update update_locks called_3 (record { client = refl; unvoted = refl; active = refl; formed = (tt, tt, tt); none = refl; right = refl; runs = refl; agree_given = locking_agree at_3 (entry 3) 1 Update update_locks called_3 known_3 refl (((λ r. agree_none _ _ refl), ((λ r. agree_none _ _ refl), tt)), (((λ r. refl), tt), (tt, tt))); agree_left = agree_4 }))
    (subst (λ (s : State). DoLivesAgree s.holder.lives) (sym is_4) agree_4)
    ((refl, refl), tt) (tt, tt) tt (refl, refl) tt

-- ---- the second part opens the file, and locks the page to read

abbrev at_5 : State
at_5 = greeted_by at_4 2

is_5 : next at_4 (entry 4) ≡ at_5
is_5 = refl

known_5 : Only ts js at_5
known_5 = subst (Only ts js) is_5 (only_next ts js at_4 (entry 4) refl known_4)

agree_5 : DoLivesAgree at_5.holder.lives
agree_5 = pairs_agree ts js at_5 known_5 (((λ r. agree_none _ _ refl), ((λ r. agree_none _ _ refl), tt)), (((λ r. refl), tt), (tt, tt)))

entry_4 : IsLawfulEntry at_4 (entry 4)
entry_4 = by_laws at_4 (entry 4) refl refl refl
    tt
    (subst (λ (s : State). DoLivesAgree s.holder.lives) (sym is_5) agree_5)
    ((refl, refl), tt) tt tt (refl, refl) tt

abbrev at_6 : State
at_6 = begun_by at_5 2

is_6 : next at_5 (entry 5) ≡ at_6
is_6 = refl

known_6 : Only ts js at_6
known_6 = subst (Only ts js) is_6 (only_next ts js at_5 (entry 5) refl known_5)

agree_6 : DoLivesAgree at_6.holder.lives
agree_6 = pairs_agree ts js at_6 known_6 (((λ r. agree_none _ _ refl), ((λ r. agree_none _ _ refl), tt)), (((λ r. refl), tt), (tt, tt)))

entry_5 : IsLawfulEntry at_5 (entry 5)
entry_5 = by_laws at_5 (entry 5) refl refl refl
    (begins (event_of 5) at_5 two 2 (codes "Admin") 0 refl, tt)
    (subst (λ (s : State). DoLivesAgree s.holder.lives) (sym is_6) agree_6)
    ((refl, refl), tt) (tt, tt) tt (refl, refl) tt

called_6 : opens_at at_6 (entry 6) 2
called_6 = record { goes = refl; tries = refl; live = refl; granted = open_held at_6.holder 2; answer = open_answer at_6.holder 2 file_seen; done = open_after 2 }

abbrev at_7 : State
at_7 = opened_at at_6 2

desk_7 : left at_6 (entry 6) (of_client 2) (opens_file (of_client 2)) (reply.Opened 1) (fresh 2) (opening_life 2) (opened_life 2) opened_answer ≡ at_7
desk_7 = refl

is_7 : next at_6 (entry 6) ≡ at_7
is_7 = opened_left at_6 (entry 6) 2 called_6 ∙ desk_7

known_7 : Only ts js at_7
known_7 = open_known at_6 (entry 6) 2 called_6 known_6 refl

agree_7 : DoLivesAgree at_7.holder.lives
agree_7 = pairs_agree ts js at_7 known_7 (((lists_agree (open_locks ++ update_locks) open_locks update_open), ((λ r. agree_none _ _ refl), tt)), (((λ r. agree_none _ _ refl), tt), (tt, tt)))

entry_6 : IsLawfulEntry at_6 (entry 6)
entry_6 = by_laws at_6 (entry 6) refl refl refl
    (open_deeds at_6 (entry 6) 2 called_6 (record { client = refl; unvoted = refl; active = refl; formed = (tt, tt, tt); none = refl; right = refl; runs = refl; agree_given = opening_agree at_6 (entry 6) 2 called_6 known_6 refl (((lists_agree (open_locks ++ update_locks) open_locks update_open), ((λ r. agree_none _ _ refl), tt)), (((λ r. agree_none _ _ refl), tt), (tt, tt))); agree_left = agree_7 }))
    (subst (λ (s : State). DoLivesAgree s.holder.lives) (sym is_7) agree_7)
    ((refl, refl), tt) (tt, tt) tt (refl, refl) tt

called_7 : locks_at at_7 (entry 7) 2 Read read_locks
called_7 = record {
  goes = refl;
  tries = refl;
  live = refl;
  granted = lock_life at_7.holder 2 (open_done 2 ∷ []) open_locks file_seen (of_client 2) Read choice.Fail read_locks asks_read;
  answer = lock_answer at_7.holder 2 (open_done 2 ∷ []) (open_locks ++ read_locks) file_seen Read;
  done = lock_after 2 Read read_locks;
}

abbrev at_8 : State
at_8 = locked_at at_7 2 Read read_locks

desk_8 : left at_7 (entry 7) (of_client 2) (locks_page (of_client 2) Read choice.Fail) reply.Plain (opened_life 2) (locking 2 read_locks) (locked_life 2 Read read_locks) (replied with_open reply.Plain []) ≡ at_8
desk_8 = refl

is_8 : next at_7 (entry 7) ≡ at_8
is_8 = locked_left at_7 (entry 7) 2 Read read_locks called_7 ∙ desk_8

known_8 : Only ts js at_8
known_8 = lock_known at_7 (entry 7) 2 Read read_locks called_7 known_7 refl

agree_8 : DoLivesAgree at_8.holder.lives
agree_8 = pairs_agree ts js at_8 known_8 (((lists_agree (open_locks ++ update_locks) (open_locks ++ read_locks) update_read), ((λ r. agree_none _ _ refl), tt)), (((λ r. agree_none _ _ refl), tt), (tt, tt)))

entry_7 : IsLawfulEntry at_7 (entry 7)
entry_7 = by_laws at_7 (entry 7) refl refl refl
    (lock_deeds at_7 (entry 7) 2 Read read_locks called_7 (record { client = refl; unvoted = refl; active = refl; formed = (tt, tt, tt); none = refl; right = refl; runs = refl; agree_given = locking_agree at_7 (entry 7) 2 Read read_locks called_7 known_7 refl (((lists_agree (open_locks ++ update_locks) (open_locks ++ read_locks) update_read), ((λ r. agree_none _ _ refl), tt)), (((λ r. agree_none _ _ refl), tt), (tt, tt))); agree_left = agree_8 }))
    (subst (λ (s : State). DoLivesAgree s.holder.lives) (sym is_8) agree_8)
    ((refl, refl), tt) (tt, tt) tt (refl, refl) tt

-- ---- the third part opens the file, and waits to lock the page for update; and then the second one waits to do so

abbrev at_9 : State
at_9 = greeted_by at_8 3

is_9 : next at_8 (entry 8) ≡ at_9
is_9 = refl

known_9 : Only ts js at_9
known_9 = subst (Only ts js) is_9 (only_next ts js at_8 (entry 8) refl known_8)

agree_9 : DoLivesAgree at_9.holder.lives
agree_9 = pairs_agree ts js at_9 known_9 (((lists_agree (open_locks ++ update_locks) (open_locks ++ read_locks) update_read), ((λ r. agree_none _ _ refl), tt)), (((λ r. agree_none _ _ refl), tt), (tt, tt)))

entry_8 : IsLawfulEntry at_8 (entry 8)
entry_8 = by_laws at_8 (entry 8) refl refl refl
    tt
    (subst (λ (s : State). DoLivesAgree s.holder.lives) (sym is_9) agree_9)
    ((refl, refl), tt) tt tt (refl, refl) tt

abbrev at_10 : State
at_10 = begun_by at_9 3

is_10 : next at_9 (entry 9) ≡ at_10
is_10 = refl

known_10 : Only ts js at_10
known_10 = subst (Only ts js) is_10 (only_next ts js at_9 (entry 9) refl known_9)

agree_10 : DoLivesAgree at_10.holder.lives
agree_10 = pairs_agree ts js at_10 known_10 (((lists_agree (open_locks ++ update_locks) (open_locks ++ read_locks) update_read), ((λ r. agree_none _ _ refl), tt)), (((λ r. agree_none _ _ refl), tt), (tt, tt)))

entry_9 : IsLawfulEntry at_9 (entry 9)
entry_9 = by_laws at_9 (entry 9) refl refl refl
    (begins (event_of 9) at_9 three 3 (codes "Admin") 0 refl, tt)
    (subst (λ (s : State). DoLivesAgree s.holder.lives) (sym is_10) agree_10)
    ((refl, refl), tt) (tt, tt) tt (refl, refl) tt

called_10 : opens_at at_10 (entry 10) 3
called_10 = record { goes = refl; tries = refl; live = refl; granted = open_held at_10.holder 3; answer = open_answer at_10.holder 3 file_seen; done = open_after 3 }

abbrev at_11 : State
at_11 = opened_at at_10 3

desk_11 : left at_10 (entry 10) (of_client 3) (opens_file (of_client 3)) (reply.Opened 1) (fresh 3) (opening_life 3) (opened_life 3) opened_answer ≡ at_11
desk_11 = refl

is_11 : next at_10 (entry 10) ≡ at_11
is_11 = opened_left at_10 (entry 10) 3 called_10 ∙ desk_11

known_11 : Only ts js at_11
known_11 = open_known at_10 (entry 10) 3 called_10 known_10 refl

agree_11 : DoLivesAgree at_11.holder.lives
agree_11 = pairs_agree ts js at_11 known_11 (((lists_agree (open_locks ++ update_locks) (open_locks ++ read_locks) update_read), ((lists_agree (open_locks ++ update_locks) open_locks update_open), tt)), (((lists_agree (open_locks ++ read_locks) open_locks read_open), tt), (tt, tt)))

entry_10 : IsLawfulEntry at_10 (entry 10)
entry_10 = by_laws at_10 (entry 10) refl refl refl
    (open_deeds at_10 (entry 10) 3 called_10 (record { client = refl; unvoted = refl; active = refl; formed = (tt, tt, tt); none = refl; right = refl; runs = refl; agree_given = opening_agree at_10 (entry 10) 3 called_10 known_10 refl (((lists_agree (open_locks ++ update_locks) (open_locks ++ read_locks) update_read), ((lists_agree (open_locks ++ update_locks) open_locks update_open), tt)), (((lists_agree (open_locks ++ read_locks) open_locks read_open), tt), (tt, tt))); agree_left = agree_11 }))
    (subst (λ (s : State). DoLivesAgree s.holder.lives) (sym is_11) agree_11)
    ((refl, refl), tt) (tt, tt) tt (refl, refl) tt

abbrev call_two : Call
call_two = locks_page two Update choice.Wait

abbrev call_three : Call
call_three = locks_page three Update choice.Wait

abbrev life_one : Life
life_one = locked_life 1 Update update_locks

abbrev life_two : Life
life_two = locked_life 2 Read read_locks

abbrev life_three : Life
life_three = opened_life 3

-- the page is held for update by one part, and asked so by another
in_the_way : (h : Holder) (k l : Life) (c : Call) (ls : List Need) → held_for h l c ≡ held_by ls → agree_held (k.held page) (held_by ls page) ≡ false → agree_held (k.held page) (held_for h l c page) ≡ false
in_the_way h k l c ls is apart = ap (λ (x : Holding). agree_held (k.held page) (x page)) is ∙ apart

first_third : agree_held (life_one.held page) (held_by (open_locks ++ update_locks) page) ≡ false
unfolding agree join_of
first_third = refl

first_second : agree_held (life_one.held page) (held_by ((open_locks ++ read_locks) ++ update_locks) page) ≡ false
unfolding agree join_of
first_second = refl

module _ (h : Holder) (is : map.get h.cells leader ≡ Some (cell.Leader kept_props)) where
  three_held : held_for h life_three call_three ≡ held_by (open_locks ++ update_locks)
  three_held = lock_held h 3 life_three.calls open_locks is three Update choice.Wait update_locks asks_update

  two_held : held_for h life_two call_two ≡ held_by ((open_locks ++ read_locks) ++ update_locks)
  two_held = lock_held h 2 life_two.calls (open_locks ++ read_locks) is two Update choice.Wait update_locks asks_more

abbrev two_waits : Waiting
two_waits = record { client = 2; number = 5; call = call_two; is_granted = false }

abbrev three_waits : Waiting
three_waits = record { client = 3; number = 4; call = call_three; is_granted = false }

abbrev at_12 : State
at_12 = waits_by at_11 3 4 (three_waits ∷ [])

is_12 : next at_11 (entry 11) ≡ at_12
is_12 = refl

known_12 : Only ts js at_12
known_12 = subst (Only ts js) is_12 (only_next ts js at_11 (entry 11) refl known_11)

agree_12 : DoLivesAgree at_12.holder.lives
agree_12 = pairs_agree ts js at_12 known_12 (((lists_agree (open_locks ++ update_locks) (open_locks ++ read_locks) update_read), ((lists_agree (open_locks ++ update_locks) open_locks update_open), tt)), (((lists_agree (open_locks ++ read_locks) open_locks read_open), tt), (tt, tt)))

entry_11 : IsLawfulEntry at_11 (entry 11)
entry_11 = by_laws at_11 (entry 11) refl refl refl
    tt
    (subst (λ (s : State). DoLivesAgree s.holder.lives) (sym is_12) agree_12)
    ((refl, refl), subst WaitsInTurn (sym is_12) ((λ g l is its. blocked_by at_12.holder one three life_one life_three call_three page refl refl refl (in_the_way at_12.holder life_one life_three call_three (open_locks ++ update_locks) (three_held at_12.holder file_seen) first_third) l is), tt)) tt tt (refl, refl) tt

abbrev at_13 : State
at_13 = waits_by at_12 2 5 (three_waits ∷ two_waits ∷ [])

is_13 : next at_12 (entry 12) ≡ at_13
is_13 = refl

known_13 : Only ts js at_13
known_13 = subst (Only ts js) is_13 (only_next ts js at_12 (entry 12) refl known_12)

agree_13 : DoLivesAgree at_13.holder.lives
agree_13 = pairs_agree ts js at_13 known_13 (((lists_agree (open_locks ++ update_locks) (open_locks ++ read_locks) update_read), ((lists_agree (open_locks ++ update_locks) open_locks update_open), tt)), (((lists_agree (open_locks ++ read_locks) open_locks read_open), tt), (tt, tt)))

entry_12 : IsLawfulEntry at_12 (entry 12)
entry_12 = by_laws at_12 (entry 12) refl refl refl
    tt
    (subst (λ (s : State). DoLivesAgree s.holder.lives) (sym is_13) agree_13)
    ((refl, refl), subst WaitsInTurn (sym is_13) ((λ g l is its. blocked_by at_13.holder one three life_one life_three call_three page refl refl refl (in_the_way at_13.holder life_one life_three call_three (open_locks ++ update_locks) (three_held at_13.holder file_seen) first_third) l is), ((λ g l is its. blocked_by at_13.holder one two life_one life_two call_two page refl refl refl (in_the_way at_13.holder life_one life_two call_two ((open_locks ++ read_locks) ++ update_locks) (two_held at_13.holder file_seen) first_second) l is), tt))) tt tt (refl, refl) tt

-- ---- the first part ends

abbrev right : Entry
right = gives_page two

abbrev wrong : Entry
wrong = gives_page three

abbrev ended : State
ended = state_deed at_13 (Ends one 1 cause.Asked)

abbrev freed : State
freed = state_deed ended (Releases one)

known_freed : Only ts js freed
known_freed = only_deed ts js ended (only_deed ts js at_13 known_13 (Ends one 1 cause.Asked) refl) (Releases one) refl

-- one of the two others has the page then
abbrev raised_two : Life
raised_two = part_life 2 life_two.calls ((open_locks ++ read_locks) ++ update_locks)

abbrev raised_three : Life
raised_three = part_life 3 life_three.calls (open_locks ++ update_locks)

abbrev two_given : State
two_given = with_granted freed two call_two raised_two

two_is : state_deed freed (Grants two call_two) ≡ two_given
two_is = granted_is freed two call_two life_two raised_two refl (lock_life freed.holder 2 life_two.calls (open_locks ++ read_locks) file_seen two Update choice.Wait update_locks asks_more)

known_two : Only ts js two_given
known_two = subst (Only ts js) two_is (only_deed ts js freed known_freed (Grants two call_two) refl)

agree_two : DoLivesAgree two_given.holder.lives
agree_two = pairs_agree ts js two_given known_two (((λ r. refl), ((λ r. refl), tt)), (((lists_agree ((open_locks ++ read_locks) ++ update_locks) open_locks raised_open), tt), (tt, tt)))

abbrev three_given : State
three_given = with_granted freed three call_three raised_three

three_is : state_deed freed (Grants three call_three) ≡ three_given
three_is = granted_is freed three call_three life_three raised_three refl (lock_life freed.holder 3 life_three.calls open_locks file_seen three Update choice.Wait update_locks asks_update)

known_three : Only ts js three_given
known_three = subst (Only ts js) three_is (only_deed ts js freed known_freed (Grants three call_three) refl)

agree_three : DoLivesAgree three_given.holder.lives
agree_three = pairs_agree ts js three_given known_three (((λ r. refl), ((λ r. refl), tt)), (((lists_agree (open_locks ++ read_locks) (open_locks ++ update_locks) read_update), tt), (tt, tt)))

-- and the other waits on
abbrev right_left : State
right_left = closed right two_given

right_is : next at_13 right ≡ right_left
right_is = next_by at_13 right (Ends one 1 cause.Asked ∷ Releases one ∷ Grants two call_two ∷ []) refl refl ∙ ap (closed right) two_is

abbrev wrong_left : State
wrong_left = closed wrong three_given

wrong_is : next at_13 wrong ≡ wrong_left
wrong_is = next_by at_13 wrong (Ends one 1 cause.Asked ∷ Releases one ∷ Grants three call_three ∷ []) refl refl ∙ ap (closed wrong) three_is

second_third : agree_held (raised_two.held page) (held_by (open_locks ++ update_locks) page) ≡ false
unfolding agree join_of
second_third = refl

third_second : agree_held (raised_three.held page) (held_by ((open_locks ++ read_locks) ++ update_locks) page) ≡ false
unfolding agree join_of
third_second = refl

three_apart : agree_held (raised_two.held page) (held_for two_given.holder life_three call_three page) ≡ false
three_apart = in_the_way two_given.holder raised_two life_three call_three (open_locks ++ update_locks) (three_held two_given.holder file_seen) second_third

two_apart : agree_held (raised_three.held page) (held_for three_given.holder life_two call_two page) ≡ false
two_apart = in_the_way three_given.holder raised_three life_two call_two ((open_locks ++ read_locks) ++ update_locks) (two_held three_given.holder file_seen) third_second

entry_13 : IsLawfulEntry at_13 right
entry_13 = by_laws at_13 right refl refl refl (
  deeds.ends right.event at_13 one 1 cause.Asked,
  (
    releases right.event ended one (refl, (refl, λ j h. h)),
    (grants right.event freed two call_two (no_vote (freed.holder.lives two) refl, subst (λ (s : State). DoLivesAgree s.holder.lives) (sym two_is) agree_two) (inl refl), tt),
  ),
)
    (subst (λ (s : State). DoLivesAgree s.holder.lives) (sym right_is) agree_two) (
      (refl, refl),
      subst WaitsInTurn (sym right_is) (
        (λ g l is its. blocked_by two_given.holder two three raised_two life_three call_three page refl refl refl three_apart l is),
        ((λ g l is its. (let no : true ≡ false = g in cc)), tt),
      ),
    ) (tt, (tt, tt)) tt (refl, refl) tt

entry_wrong : IsLawfulEntry at_13 wrong
entry_wrong = by_laws at_13 wrong refl refl refl (
  deeds.ends wrong.event at_13 one 1 cause.Asked,
  (
    releases wrong.event ended one (refl, (refl, λ j h. h)),
    (grants wrong.event freed three call_three (no_vote (freed.holder.lives three) refl, subst (λ (s : State). DoLivesAgree s.holder.lives) (sym three_is) agree_three) (inl refl), tt),
  ),
)
    (subst (λ (s : State). DoLivesAgree s.holder.lives) (sym wrong_is) agree_three) (
      (refl, refl),
      subst WaitsInTurn (sym wrong_is) (
        (λ g l is its. (let no : true ≡ false = g in cc)),
        ((λ g l is its. blocked_by three_given.holder three two raised_three life_two call_two page refl refl refl two_apart l is), tt),
      ),
    ) (tt, (tt, tt)) tt (refl, refl) tt

-- ---- the whole journals

abbrev rest : ℕ → Entry → List Entry
rest i e = drop i (page_waits ++ e ∷ [])

ends_so : (e : Entry) → IsLawfulEntry at_13 e → IsLawful with_file (page_waits ++ e ∷ [])
ends_so e law =
    lawful_step at_0 at_1 (entry 0) (rest 1 e) is_1 entry_0
    (lawful_step at_1 at_2 (entry 1) (rest 2 e) is_2 entry_1
    (lawful_step at_2 at_3 (entry 2) (rest 3 e) is_3 entry_2
    (lawful_step at_3 at_4 (entry 3) (rest 4 e) is_4 entry_3
    (lawful_step at_4 at_5 (entry 4) (rest 5 e) is_5 entry_4
    (lawful_step at_5 at_6 (entry 5) (rest 6 e) is_6 entry_5
    (lawful_step at_6 at_7 (entry 6) (rest 7 e) is_7 entry_6
    (lawful_step at_7 at_8 (entry 7) (rest 8 e) is_8 entry_7
    (lawful_step at_8 at_9 (entry 8) (rest 9 e) is_9 entry_8
    (lawful_step at_9 at_10 (entry 9) (rest 10 e) is_10 entry_9
    (lawful_step at_10 at_11 (entry 10) (rest 11 e) is_11 entry_10
    (lawful_step at_11 at_12 (entry 11) (rest 12 e) is_12 entry_11
    (lawful_step at_12 at_13 (entry 12) (rest 13 e) is_13 entry_12
    (lawful_step at_13 (next at_13 e) e [] refl law tt)))))))))))))

pub lawful : IsLawful with_file (page_waits ++ right ∷ [])
lawful = ends_so right entry_13

pub lawful_too : IsLawful with_file (page_waits ++ wrong ∷ [])
lawful_too = ends_so wrong entry_wrong

reach : state_after next (opened with_file) page_waits ≡ at_13
reach =
    state_step at_0 at_1 at_13 (entry 0) (drop 1 page_waits) is_1
    (state_step at_1 at_2 at_13 (entry 1) (drop 2 page_waits) is_2
    (state_step at_2 at_3 at_13 (entry 2) (drop 3 page_waits) is_3
    (state_step at_3 at_4 at_13 (entry 3) (drop 4 page_waits) is_4
    (state_step at_4 at_5 at_13 (entry 4) (drop 5 page_waits) is_5
    (state_step at_5 at_6 at_13 (entry 5) (drop 6 page_waits) is_6
    (state_step at_6 at_7 at_13 (entry 6) (drop 7 page_waits) is_7
    (state_step at_7 at_8 at_13 (entry 7) (drop 8 page_waits) is_8
    (state_step at_8 at_9 at_13 (entry 8) (drop 9 page_waits) is_9
    (state_step at_9 at_10 at_13 (entry 9) (drop 10 page_waits) is_10
    (state_step at_10 at_11 at_13 (entry 10) (drop 11 page_waits) is_11
    (state_step at_11 at_12 at_13 (entry 11) (drop 12 page_waits) is_12
    (state_step at_12 at_13 at_13 (entry 12) (drop 13 page_waits) is_13
    (refl)))))))))))))

-- ---- whose turn it is

-- the second part's request raises what it holds
abbrev raises : Life → List Need → Bool
raises l ns = list_any (λ (n : Need). rises_on l.held n && is_some (l.held n.0)) (request_of l.held ns)

two_raises : raises life_two ((page, Update) ∷ []) ≡ true
unfolding leaf_of covers_of join_of intention_of
two_raises = refl

three_raises : raises life_three ((page, Update) ∷ []) ≡ false
unfolding leaf_of covers_of join_of intention_of
three_raises = refl

two_converts : is_conversion freed.holder two_waits (Some two) ≡ true
two_converts = ap (raises life_two) (lock_needs freed.holder 2 life_two.calls (open_locks ++ read_locks) file_seen two Update choice.Wait) ∙ two_raises

three_arrives : is_conversion freed.holder three_waits (Some three) ≡ false
three_arrives = ap (raises life_three) (lock_needs freed.holder 3 life_three.calls open_locks file_seen three Update choice.Wait) ∙ three_raises

abbrev sorted : Bool → Bool → List Waiting
sorted b c =
    cond b (three_waits ∷ cond c (two_waits ∷ []) []) (cond c (two_waits ∷ []) [])
    ++ cond (not b) (three_waits ∷ cond (not c) (two_waits ∷ []) []) (cond (not c) (two_waits ∷ []) [])

order : in_turn freed.holder (three_waits ∷ two_waits ∷ []) ≡ two_waits ∷ three_waits ∷ []
order i = sorted (three_arrives i) (two_converts i)

two_is_waiting : IsWaitingFor freed.holder two_waits two life_two
two_is_waiting = record { call = refl; ungranted = refl; live = refl; its = refl }

two_free : IsFree freed.holder two life_two call_two
two_free = free_of ts js freed known_freed two life_two call_two
    ((λ other r. refl), ((λ other. (let no : true ≡ false = other in absurd (let none : ⊥ = cc in none))), ((λ other. subst (DoAgree life_three.held) (sym (two_held freed.holder file_seen)) (lists_agree open_locks ((open_locks ++ read_locks) ++ update_locks) open_raised)), tt)))

three_kept : (t : TransId) (l : Life) → IsWaitingFor two_given.holder three_waits t l → IsFree two_given.holder t l call_three → ⊥
three_kept t l its free =
    let same : three ≡ t = some-same three t its.call in
    blocked_by two_given.holder two three raised_two life_three call_three page refl refl refl three_apart l
    (subst (λ (x : TransId). two_given.holder.lives x ≡ Some l) (sym same) its.live) (subst (λ (x : TransId). IsFree two_given.holder x l call_three) (sym same) free)

abbrev up_to_release : List Deed
up_to_release = Ends one 1 cause.Asked ∷ Releases one ∷ []

released_right : IsReleased at_13 right up_to_release (three_waits ∷ two_waits ∷ []) (two_waits ∷ three_waits ∷ []) (two ∷ [])
released_right = record { releases = refl; deeds = refl; waits = refl; order = order; grants = refl }

released_wrong : IsReleased at_13 wrong up_to_release (three_waits ∷ two_waits ∷ []) (two_waits ∷ three_waits ∷ []) (three ∷ [])
released_wrong = record { releases = refl; deeds = refl; waits = refl; order = order; grants = refl }

given_there : GivesOn at_13 right
given_there = gives_on at_13 right up_to_release (three_waits ∷ two_waits ∷ []) (two_waits ∷ three_waits ∷ []) (two ∷ []) released_right
    (IsWalk.takes freed.holder two_waits (three_waits ∷ []) [] two life_two two_is_waiting two_free
    (subst (λ (s : State). IsWalk s.holder (three_waits ∷ []) []) (sym two_is) (IsWalk.passes two_given.holder three_waits [] [] three_kept (IsWalk.ends two_given.holder))))

pub given_so : GivesOn (state_after next (opened with_file) page_waits) right
given_so = subst (λ (s : State). GivesOn s right) (sym reach) given_there

away : two ≡ three → ⊥
away same = let no : 2 ≡ 3 = ap (λ (t : TransId). t.counter) same in omega (arith, no)

pub ungiven : GivesOn (state_after next (opened with_file) page_waits) wrong → ⊥
ungiven h =
    first_is_given freed.holder two_waits (three_waits ∷ []) two three [] life_two two_is_waiting two_free away
    (gives_back at_13 wrong up_to_release (three_waits ∷ two_waits ∷ []) (two_waits ∷ three_waits ∷ []) (three ∷ []) released_wrong (subst (λ (s : State). GivesOn s wrong) reach h))
