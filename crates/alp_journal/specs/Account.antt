-- The states of a server between two entries: what is known of it then, what holds of that, and what an entry leads to.
use Rattle.std.specs.Prelude.{◌≡◌, ℕ, ◌+◌, ◌≤◌, ◌⊎◌, Bool, true, false, not, ◌==◌, ◌&&◌, nat_lt, List, [], ◌∷◌, find, flat_map, Option, None, Some, IsSome, map as list_map}
use Rattle.std.specs.List.{list_any, list_all, AllByRecursion}
use Rattle.alp_base.specs.declared.ids.JoinNo.{JoinNo}
use Rattle.alp_base.specs.declared.ids.Stamp.{Stamp}
use Rattle.alp_base.specs.declared.ids.TransId.{TransId}
use Rattle.alp_base.specs.declared.faults.Sizes.{Sizes}
use Rattle.alp_files.specs.declared.call.Call.{Call}
use Rattle.alp_files.specs.declared.call.Call.TheVariants as call
use Rattle.alp_files.specs.declared.refusal.Cause.{Cause}
use Rattle.alp_files.specs.History.{Decided}
use Rattle.alp_journal.specs.declared.act.Act.{Act}
use Rattle.alp_journal.specs.declared.act.Act.TheVariants as act
use Rattle.alp_journal.specs.declared.entry.Entry.{Entry}
use Rattle.alp_journal.specs.declared.event.Event.{Event}
use Rattle.alp_journal.specs.declared.event.Event.TheVariants as event
use Rattle.alp_journal.specs.Ids.{same_trans, has_join, has_server, is_drawn}
use Rattle.alp_journal.specs.Deeds.{Deed, Grants, Finishes, Hears, Decides, Readies, Applies, Acknowledges, Forgets, Aborts}
use Rattle.alp_journal.specs.Coordinator.{Fate, Vote, Undrawn, Running, Finishing, Committed, Forgotten, Ended, client_of, is_running, has_votes, has_all, with_vote}
use Rattle.alp_journal.specs.Participant.{Phase, Unseen, Joining, Active, Ready, Applied, Over, live_in, open_in}
use Rattle.alp_journal.specs.Holder.{Holder, Life, grants}
use Rattle.alp_journal.specs.Desk.{Session, Waiting, file_trans, part_trans, is_of, is_of_part, grant_in}
use Rattle.alp_journal.specs.Counts.{Locked, lock_set, with_resources, request_in}
use Rattle.alp_journal.specs.State.{State, Ids, is_whose}
use Rattle.alp_journal.specs.Moves.{call_of, next}
use Rattle.alp_journal.specs.Laws.{DoLivesAgree, WaitsInTurn, IsLawfulEntry, are_joins_apart, latest_vote}
use Rattle.alp_journal.specs.Messages.{Mail, clock_end, has_all_votes}
use Rattle.alp_journal.specs.Answered.{IsAnsweredEntry, is_all_done}

-- what is known of it then
pub record Account : Type 0 where
  pub servers : ℕ
  pub sizes : Sizes
  pub ids : Ids
  pub holder : Holder
  pub fates : TransId → Fate
  pub phases : JoinNo → Phase
  pub sessions : ℕ → Option Session
  pub waits : List Waiting
  pub dead : ℕ → TransId → Option Cause
  pub locked : Locked
  pub begun : List TransId
  pub joined : List JoinNo
  pub is_down : Bool
  pub pending : List Deed

-- the state of its journal
abbrev pub state_of : Account → State
state_of a = record {
  servers = a.servers;
  sizes = a.sizes;
  ids = a.ids;
  holder = a.holder;
  fates = a.fates;
  phases = a.phases;
  desk = record { sessions = a.sessions; waits = a.waits; dead = a.dead };
  locked = a.locked;
  begun = a.begun;
  joined = a.joined;
  is_down = a.is_down;
  pending = a.pending;
}

-- ---- live parts

-- the part of a join that was let in and did not vote, or of one that did
abbrev pub IsJoined : TransId → Life → Phase → Type 0
IsJoined t l p = ((p ≡ Active t l.client l.who) × (l.vote ≡ None) × (l.is_early ≡ false)) ⊎ ((ts : ℕ) × (p ≡ Ready t l.client ts) × (l.vote ≡ Some ts))

-- Without a join the part is its client's whose transaction runs, or is finishing, and it did not vote. With one its transaction
-- does not run here.
abbrev pub IsPartAs : TransId → (JoinNo → Phase) → Life → Fate → Option JoinNo → Type 0
IsPartAs t phases l f None = (client_of f ≡ Some l.client) × (l.vote ≡ None) × (l.is_early ≡ false)
IsPartAs t phases l f (Some j) = IsJoined t l (phases j) × (is_running f ≡ false)

-- where no part is live no transaction runs
abbrev pub IsPaired : TransId → (JoinNo → Phase) → Option Life → Fate → Type 0
IsPaired t phases None f = is_running f ≡ false
IsPaired t phases (Some l) f = IsPartAs t phases l f l.join

-- a join that was let in, or has voted, has the live part of its transaction
abbrev pub HasLife : (TransId → Option Life) → JoinNo → Phase → Type 0
HasLife lives j (Active t client who) = (l : Life) × (lives t ≡ Some l) × (l.join ≡ Some j)
HasLife lives j (Ready t client ts) = (l : Life) × (lives t ≡ Some l) × (l.join ≡ Some j)
HasLife lives j p = Unit {0}

-- ---- transactions and joins

abbrev pub has_trans : TransId → List TransId → Bool
has_trans t ts = list_any (λ u. same_trans u t) ts

-- each is named once
abbrev pub are_trans_apart : List TransId → Bool
are_trans_apart [] = true
are_trans_apart (t ∷ ts) = not (has_trans t ts) && are_trans_apart ts

-- each is of a server of its own
abbrev pub are_servers_apart : List JoinNo → Bool
are_servers_apart [] = true
are_servers_apart (j ∷ js) = not (has_server j.server js) && are_servers_apart js

-- another server of the run than this
abbrev pub is_other : (servers server : ℕ) → ℕ → Bool
is_other servers server n = nat_lt 0 n && nat_lt n (servers + 1) && not (n == server)

-- they are of other servers of the run, and one of each
abbrev pub AreJoins : (servers server : ℕ) → List JoinNo → Type 0
AreJoins servers server js = (list_all (λ (j : JoinNo). is_other servers server j.server) js ≡ true) × (are_servers_apart js ≡ true)

-- votes of joins alone
abbrev pub AreVotes : List JoinNo → List Vote → Type 0
AreVotes js vs = list_all (λ (v : Vote). has_join v.0 js) vs ≡ true

-- it was drawn here, and is named among all that began
abbrev pub IsKnown : (server epoch count : ℕ) → List TransId → TransId → Type 0
IsKnown server epoch count begun t = (is_drawn server epoch count t.server t.epoch t.counter ≡ true) × (has_trans t begun ≡ true)

-- so are just those that began; one that runs is of this epoch; a decision is stamped by its own transaction
abbrev pub IsFateOf : (servers server epoch count : ℕ) → List TransId → TransId → Fate → Type 0
IsFateOf servers server epoch count begun t Undrawn = has_trans t begun ≡ false
IsFateOf servers server epoch count begun t (Running client js) = IsKnown server epoch count begun t × (t.epoch ≡ epoch) × AreJoins servers server js
IsFateOf servers server epoch count begun t (Finishing client js vs) = IsKnown server epoch count begun t × (t.epoch ≡ epoch) × AreJoins servers server js × AreVotes js vs
IsFateOf servers server epoch count begun t (Committed stamp js ds) = IsKnown server epoch count begun t × (stamp.trans ≡ t)
IsFateOf servers server epoch count begun t (Forgotten stamp js) = IsKnown server epoch count begun t × (stamp.trans ≡ t)
IsFateOf servers server epoch count begun t (Ended c) = IsKnown server epoch count begun t

-- each that was drawn in this epoch is named
abbrev pub AreKnown : (server epoch count : ℕ) → List TransId → Type 0
AreKnown server epoch count begun = (t : TransId) → t.epoch ≡ epoch → is_drawn server epoch count t.server t.epoch t.counter ≡ true → has_trans t begun ≡ true

abbrev pub IsKnownJoin : (server epoch count : ℕ) → List JoinNo → JoinNo → Type 0
IsKnownJoin server epoch count joined j = (is_drawn server epoch count j.server j.epoch j.counter ≡ true) × (has_join j joined ≡ true)

-- just the joins that were seen are named, and they were drawn here; the transaction of a live one is of another server of the run
abbrev pub IsPhaseOf : (servers server epoch count : ℕ) → List JoinNo → JoinNo → Phase → Type 0
IsPhaseOf servers server epoch count joined j Unseen = has_join j joined ≡ false
IsPhaseOf servers server epoch count joined j (Joining t client who) = IsKnownJoin server epoch count joined j × (is_other servers server t.server ≡ true)
IsPhaseOf servers server epoch count joined j (Active t client who) = IsKnownJoin server epoch count joined j × (is_other servers server t.server ≡ true)
IsPhaseOf servers server epoch count joined j (Ready t client ts) = IsKnownJoin server epoch count joined j × (is_other servers server t.server ≡ true)
IsPhaseOf servers server epoch count joined j (Applied t stamp) = IsKnownJoin server epoch count joined j
IsPhaseOf servers server epoch count joined j Over = IsKnownJoin server epoch count joined j

-- The locks of live parts agree; each is paired with the fate of its transaction and with its join. Nothing that has its votes is
-- still to be decided, and nothing that all have done to be forgotten. A client has at most one live join of a transaction. The
-- clock that a restart finds is no later than the clock.
pub record Stands (a : Account) : Type 0 where
  pub agree : DoLivesAgree a.holder.lives
  pub paired : (t : TransId) → IsPaired t a.phases (a.holder.lives t) (a.fates t)
  pub held : (j : JoinNo) → HasLife a.holder.lives j (a.phases j)
  pub votes : (t : TransId) → has_votes (a.fates t) ≡ false
  pub forgets : (t : TransId) → is_all_done (a.fates t) ≡ false
  pub fates : (t : TransId) → IsFateOf a.servers a.holder.server a.ids.epoch a.ids.transactions a.begun t (a.fates t)
  pub begun : are_trans_apart a.begun ≡ true
  pub known : AreKnown a.holder.server a.ids.epoch a.ids.transactions a.begun
  pub phases : (j : JoinNo) → IsPhaseOf a.servers a.holder.server a.ids.epoch a.ids.joins a.joined j (a.phases j)
  pub joined : are_joins_apart a.joined ≡ true
  pub single : (j k : JoinNo) (x : TransId × ℕ) → live_in (a.phases j) ≡ Some x → live_in (a.phases k) ≡ Some x → j ≡ k
  pub order : a.holder.kept ≤ a.holder.clock

-- ---- calls that wait

-- the call is one on files by this transaction
abbrev pub is_on_trans : TransId → Waiting → Bool
is_on_trans t w = is_of t (file_trans w.call)

-- a part is live and the client's, or it has ended and the client is to be told
abbrev pub IsPartOf : ℕ → Option Life → Option Cause → Type 0
IsPartOf client (Some l) why = client ≡ l.client
IsPartOf client None why = IsSome why

-- a call on files that waits is of a part of its client
abbrev pub IsOfPart : (TransId → Option Life) → (ℕ → TransId → Option Cause) → Waiting → Option TransId → Type 0
IsOfPart lives dead w None = Unit {0}
IsOfPart lives dead w (Some t) = IsPartOf w.client (lives t) (dead w.client t)

-- a Join waits for one that asks to be let in, or was; or the client is to be told of its end
abbrev pub IsJoinOf : (JoinNo → Phase) → ℕ → TransId → Option Cause → Type 0
IsJoinOf phases client t why = ((j : JoinNo) × (is_whose client t (open_in (phases j)) ≡ true)) ⊎ IsSome why

-- a Finish waits while its transaction is finishing for the client, and once it is decided; or the client is to be told of its end
abbrev pub IsFinishOf : ℕ → Fate → Option Cause → Type 0
IsFinishOf client (Finishing c js vs) why = c ≡ client
IsFinishOf client (Committed stamp js ds) why = Unit {0}
IsFinishOf client (Forgotten stamp js) why = Unit {0}
IsFinishOf client f why = IsSome why

-- no other calls wait than those on files, and these
abbrev pub IsOther : (TransId → Fate) → (JoinNo → Phase) → (ℕ → TransId → Option Cause) → ℕ → Call → Type 0
IsOther fates phases dead client (call.Join t) = IsJoinOf phases client t (dead client t)
IsOther fates phases dead client (call.Finish t commit) = IsFinishOf client (fates t) (dead client t)
IsOther fates phases dead client c = IsSome (file_trans c)

-- it came no later than the last call of its session
abbrev pub HasCome : ℕ → Option Session → Type 0
HasCome number None = ⊥
HasCome number (Some w) = number ≤ w.last

-- two calls on files are of different transactions, two of one client have different numbers, and are of different parts
abbrev pub AreTwo : Waiting → Waiting → Type 0
AreTwo w v = ((t : TransId) → file_trans w.call ≡ Some t → is_on_trans t v ≡ false) × ((v.client == w.client && v.number == w.number) ≡ false) × ((t : TransId) → part_trans w.call ≡ Some t → is_of_part w.client t v ≡ false)

-- and so are any two of the list
abbrev pub AreApart : List Waiting → Type 0
AreApart [] = Unit {0}
AreApart (w ∷ ws) = AllByRecursion (AreTwo w) ws × AreApart ws

-- who asks to be let in waits for it, and no call of a part that voted waits
abbrev pub HasWaits : List Waiting → Phase → Type 0
HasWaits ws (Joining t client who) = IsSome (find (is_of_part client t) ws)
HasWaits ws (Ready t client ts) = AllByRecursion (λ w. is_of_part client t w ≡ false) ws
HasWaits ws p = Unit {0}

-- no call on files waits of a transaction that is finishing
abbrev pub HasNoCall : List Waiting → TransId → Fate → Type 0
HasNoCall ws t (Finishing client js vs) = AllByRecursion (λ w. is_on_trans t w ≡ false) ws
HasNoCall ws t f = Unit {0}

-- the client has no live join of the transaction
abbrev pub HasNoJoin : (JoinNo → Phase) → ℕ → TransId → Type 0
HasNoJoin phases client t = (j : JoinNo) → is_whose client t (live_in (phases j)) ≡ false

-- What ended and is to be told is over: one of this server's transactions by that cause. Each call that waits is of a part that is
-- live or to be told of, and at most one of each part.
pub record Tells (a : Account) : Type 0 where
  pub ended : (client : ℕ) (t : TransId) (c : Cause) → a.dead client t ≡ Some c → (t.server ≡ a.holder.server → a.fates t ≡ Ended c) × HasNoJoin a.phases client t
  pub parts : AllByRecursion (λ (w : Waiting). IsOfPart a.holder.lives a.dead w (file_trans w.call)) a.waits
  pub others : AllByRecursion (λ (w : Waiting). IsOther a.fates a.phases a.dead w.client w.call) a.waits
  pub came : AllByRecursion (λ (w : Waiting). HasCome w.number (a.sessions w.client)) a.waits
  pub apart : AreApart a.waits
  pub joining : (j : JoinNo) → HasWaits a.waits (a.phases j)
  pub finishing : (t : TransId) → HasNoCall a.waits t (a.fates t)

-- ---- between two entries

-- what it holds and what it knows of its clients
pub record IsSettled (a : Account) : Type 0 where
  pub stands : Stands a
  pub tells : Tells a

-- ---- what a stopped entry tried

-- The commit of a live part without joins, with all by which it may be made: it is for the time after the clock, which was not at
-- its end.
pub record IsTriedCommit (a : Account) : Type 0 where
  pub stamp : Stamp
  pub life : Life
  pub tried : a.pending ≡ Finishes stamp.trans ∷ Decides stamp [] ∷ []
  pub down : a.is_down ≡ true
  pub time : stamp.ts ≡ a.holder.clock + 1
  pub within : (a.holder.clock == clock_end) ≡ false
  pub own : stamp.trans.server ≡ a.holder.server
  pub now : stamp.trans.epoch ≡ a.ids.epoch
  pub live : a.holder.lives stamp.trans ≡ Some life
  pub own_part : life.join ≡ None
  pub runs : a.fates stamp.trans ≡ Running life.client []

-- that of a transaction of which the last vote has come
pub record IsTriedDecision (a : Account) : Type 0 where
  pub stamp : Stamp
  pub life : Life
  pub join : JoinNo
  pub ts : ℕ
  pub joins : List JoinNo
  pub votes : List Vote
  pub tried : a.pending ≡ Hears stamp.trans join ts ∷ Decides stamp joins ∷ []
  pub down : a.is_down ≡ true
  pub time : stamp.ts ≡ latest_vote (a.holder.clock + 1) (with_vote join ts votes)
  pub within : (a.holder.clock == clock_end) ≡ false
  pub own : stamp.trans.server ≡ a.holder.server
  pub now : stamp.trans.epoch ≡ a.ids.epoch
  pub live : a.holder.lives stamp.trans ≡ Some life
  pub own_part : life.join ≡ None
  pub finishing : a.fates stamp.trans ≡ Finishing life.client joins votes
  pub voted : has_all_votes join ts joins votes ≡ true

-- the vote of a join that was let in
pub record IsTriedVote (a : Account) : Type 0 where
  pub join : JoinNo
  pub trans : TransId
  pub client : ℕ
  pub who : List ℕ
  pub tried : a.pending ≡ Readies join trans (a.holder.clock + 1) ∷ []
  pub down : a.is_down ≡ true
  pub within : (a.holder.clock == clock_end) ≡ false
  pub active : a.phases join ≡ Active trans client who
  pub idle : AllByRecursion (λ w. is_of_part client trans w ≡ false) a.waits

-- the commit of a join that has voted
pub record IsTriedApplication (a : Account) : Type 0 where
  pub join : JoinNo
  pub stamp : Stamp
  pub client : ℕ
  pub ts : ℕ
  pub tried : a.pending ≡ Applies join stamp ∷ []
  pub down : a.is_down ≡ true
  pub ready : a.phases join ≡ Ready stamp.trans client ts

-- the end of a decision as the last of its joins has done it
pub record IsTriedEnd (a : Account) : Type 0 where
  pub trans : TransId
  pub join : JoinNo
  pub stamp : Stamp
  pub joins : List JoinNo
  pub done : List JoinNo
  pub tried : a.pending ≡ Acknowledges trans join ∷ Forgets trans ∷ []
  pub down : a.is_down ≡ true
  pub committed : a.fates trans ≡ Committed stamp joins done
  pub its : has_join join joins ≡ true
  pub all : has_all (join ∷ done) joins ≡ true

-- the end of a join that has voted, by its coordinator's word
pub record IsTriedAbort (a : Account) : Type 0 where
  pub join : JoinNo
  pub trans : TransId
  pub client : ℕ
  pub ts : ℕ
  pub cause : Cause
  pub tried : a.pending ≡ Aborts join trans client cause ∷ []
  pub down : a.is_down ≡ true
  pub ready : a.phases join ≡ Ready trans client ts

-- what is to be seen at a restart: nothing where the server is up or went down in a read, else what the one write held
pub data HasTried (a : Account) : Type 0 where
  nothing : a.pending ≡ [] → HasTried a
  commit : IsTriedCommit a → HasTried a
  decision : IsTriedDecision a → HasTried a
  vote : IsTriedVote a → HasTried a
  application : IsTriedApplication a → HasTried a
  end : IsTriedEnd a → HasTried a
  abort : IsTriedAbort a → HasTried a

-- and nobody is left waiting whose way is free
pub record IsQuiet (a : Account) : Type 0 where
  pub settled : IsSettled a
  pub turns : WaitsInTurn (state_of a)
  pub tried : HasTried a

-- ---- what is given on as a part lets go

-- the call that waits on the transaction
abbrev pub call_on : List Waiting → TransId → Option Call
call_on ws t = call_of (find (is_on_trans t) ws)

-- the transaction with its call, if it has one
abbrev pub with_its : TransId → Option Call → List (TransId × Call)
with_its t None = []
with_its t (Some c) = (t, c) ∷ []

-- these transactions, each with the call that waits on it
abbrev pub granted_calls : List Waiting → List TransId → List (TransId × Call)
granted_calls ws ts = flat_map (λ t. with_its t (call_on ws t)) ts

-- what is held, what is locked and who waits when these calls were granted, one after the other
abbrev pub holder_granted : Holder → List (TransId × Call) → Holder
holder_granted h [] = h
holder_granted h (x ∷ xs) = holder_granted (grants h x.0 x.1 (h.lives x.0)) xs

abbrev pub locked_granted : Holder → Locked → List (TransId × Call) → Locked
locked_granted h locked [] = locked
locked_granted h locked (x ∷ xs) =
    locked_granted (grants h x.0 x.1 (h.lives x.0)) (lock_set locked x.0 (with_resources (request_in h x.1 (h.lives x.0)) (locked x.0))) xs

abbrev pub waits_granted : List Waiting → List (TransId × Call) → List Waiting
waits_granted ws [] = ws
waits_granted ws (x ∷ xs) = waits_granted (list_map (grant_in x.0) ws) xs

-- the whole then
abbrev pub with_granted : Account → List (TransId × Call) → Account
with_granted a xs = record a {
  holder = holder_granted a.holder xs;
  locked = locked_granted a.holder a.locked xs;
  waits = waits_granted a.waits xs;
}

-- what an entry says of it, and what comes about
abbrev pub grant_acts : List TransId → List Act
grant_acts ts = list_map (λ (t : TransId). act.Granted t) ts

abbrev pub grant_deeds : List (TransId × Call) → List Deed
grant_deeds xs = list_map (λ (x : TransId × Call). Grants x.0 x.1) xs

-- the messages behind all that takes effect
abbrev pub sent_acts : List Mail → List Act
sent_acts ms = list_map (λ (m : Mail). act.Sent m.0 m.1) ms

-- the times of these stamps go no further
abbrev pub AreEarlier : ℕ → List (Stamp × Decided) → Type 0
AreEarlier clock [] = Unit {0}
AreEarlier clock (d ∷ ds) = (d.0.ts ≤ clock) × AreEarlier clock ds

-- all events but messages
abbrev pub IsOwnEvent : Event → Type 0
IsOwnEvent (event.Arrive from m) = ⊥
IsOwnEvent e = Unit {0}

abbrev pub AreOwnEvents : List Entry → Type 0
AreOwnEvents es = AllByRecursion (λ (e : Entry). IsOwnEvent e.event) es

-- an entry is lawful and has its cause, and leads from a quiet state to that one, which is quiet again
pub record Leads (failed : Bool) (a : Account) (e : Entry) (m : Account) : Type 0 where
  pub leaves : next (state_of a) e ≡ state_of m
  pub lawful : IsLawfulEntry (state_of a) e
  pub answered : IsAnsweredEntry failed (state_of a) e
  pub quiet : IsQuiet m
