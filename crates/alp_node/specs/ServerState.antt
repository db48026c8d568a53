-- What a server keeps is what its journal says. Of each part of the journal's state:
-- the coordinator: what is kept of each transaction that began here, and what was decided in this epoch is applied;
-- the participant: the joins that are live are just those, each in its phase;
-- the holder: the vault has the cells, and just the notes that the journal says; each live part has its intents, opens and locks;
-- the desk: the sessions are just those, each with its principal, its last number and the reply to that; the calls that wait and
-- the parts that ended and are to be told of are those of the lists, and the table's queue is that of the calls that have not their locks;
-- the counts: each live part has its own, and beside the cells there is room for what all of them come to;
-- the ids: the counts of transactions and of files in this epoch. What older epochs of this server left may stand in what began,
-- was made and was decided.
use Rattle.std.specs.Prelude.{◌≡◌, ◌⊎◌, ℕ, zero, suc, ◌+◌, ◌^◌, ◌<◌, ◌≤◌, Bool, true, false, IsTrue, List, [], ◌∷◌, ◌++◌, length, Option, None, Some, is_some}
use Rattle.std.specs.List.{list_all, AllByRecursion}
use Rattle.std.specs.FinMap as map
use Rattle.std.specs.FinMap.Entries as entries
use Rattle.alp_base.specs.declared.ids.FileId.{FileId}
use Rattle.alp_base.specs.declared.ids.JoinNo.{JoinNo}
use Rattle.alp_base.specs.declared.ids.Stamp.{Stamp}
use Rattle.alp_base.specs.declared.ids.TransId.{TransId}
use Rattle.alp_base.specs.declared.key.Key.TheVariants.{Leader}
use Rattle.alp_base.specs.declared.key.Resource.{Resource}
use Rattle.alp_files.specs.Holdings.{IsIntended}
use Rattle.alp_files.specs.Locks.{Reads, Writes, HoldsEach, needs_of}
use Rattle.alp_files.specs.Apart.{AreSized, IsWithin as AreWithin, OpensRead}
use Rattle.alp_files.specs.Cells.{Cells, View}
use Rattle.alp_files.specs.Edits.{Edit, edits_at}
use Rattle.alp_files.specs.Needs.{intents_of}
use Rattle.alp_coord.specs.Coordinators.{server_of, epoch_of, count_of, counted_of}
use Rattle.alp_locks.specs.Tables.{Holders, holding}
use Rattle.alp_locks.specs.Sound.{IsSound}
use Rattle.alp_vault.specs.Contents.{Contents}
use Rattle.alp_trans.specs.Parts.{own_of}
use Rattle.alp_worker.specs.declared.joins.Joins.{Joins}
use Rattle.alp_worker.specs.declared.live.LiveJoin.{LiveJoin}
use Rattle.alp_worker.specs.declared.live.Stage.TheVariants as stage
use Rattle.alp_worker.specs.Joins.{AreJoinsOf, is_drawn_in}
use Rattle.alp_worker.specs.Lives.{join_at, AreOnce, AreSingle}
use Rattle.alp_trans.specs.Counting.{AreCountsOf}
use Rattle.alp_journal.specs.Answers.{more_locks}
use Rattle.alp_journal.specs.Counts.{Locked, with_resources, request_in}
use Rattle.alp_journal.specs.Holder.{Holder, Life, view_in}
use Rattle.alp_journal.specs.Coordinator.{decision_in}
use Rattle.alp_journal.specs.Desk.{Session}
use Rattle.alp_journal.specs.Ids.{is_drawn, stamp_cmp}
use Rattle.alp_journal.specs.Account.{Account, state_of, IsQuiet, AreEarlier}
use Rattle.alp_node.specs.Asks.{is_given, IsHeldHere}
use Rattle.alp_node.specs.Covers.{AreHeld, AreSizedEdits}
use Rattle.alp_node.specs.Dead.{cause_in}
use Rattle.alp_node.specs.Durable.{AreNotesOf}
use Rattle.alp_node.specs.EarlyFates.{AreEarly}
use Rattle.alp_node.specs.Noted.{HasReadyRoom, ready_room}
use Rattle.alp_node.specs.Paired.{ArePaired}
use Rattle.alp_node.specs.Rooms.{IsWithin}
use Rattle.alp_node.specs.Sessions.{session_at, IsClient}
use Rattle.alp_node.specs.Totals.{LiveMap, totals_of, HaveRoom}
use Rattle.alp_node.specs.Transactions.{IsCoordinatorOf, AreDecidedBy}
use Rattle.alp_node.specs.Turns.{IsKeepable}
use Rattle.alp_node.specs.Waits.{waiting_calls, AreWaiting, AreVotersIdle}
use Rattle.alp_turns.specs.Queues.{queue_of}
use Rattle.alp_node.specs.declared.dead.DeadPart.{DeadPart}
use Rattle.alp_node.specs.declared.lives.Live.{Live}
use Rattle.alp_node.specs.declared.lock_counts.LockCounts.{LockCounts}
use Rattle.alp_node.specs.declared.server_state.ServerState.{ServerState}
use Rattle.alp_node.specs.declared.waits.WaitingCall.{WaitingCall}

-- ---- live transactions

-- the principal that a part acts for and its opens, where it has not voted: it may read the leader of each open's file
pub record IsCaller (l : Live) (life : Life) : Type 0 where
  pub who : l.who ≡ Some life.who
  pub own : own_of l.part ≡ life.own
  pub opens : OpensRead (Reads life.held) life.own.opens

-- A live part is kept as the journal tells it: its intents are what its edits come to, and the table has its locks, of which
-- there are as many as it counts. Under them it may read the leader of each open's file, and write what it changes; and beside
-- each lock on a leaf it has the intention on the file. Its counts are those of its edits over the cells. Of one that voted neither
-- the principal nor the opens are kept, as an earlier run may have left it ready.
pub record IsLife (cells : Cells) (locks : Holders) (locked : List Resource) (t : TransId) (l : Live) (life : Life) : Type 0 where
  pub client : life.client ≡ l.client
  pub join : life.join ≡ l.join
  pub intents : l.part.intents ≡ intents_of life.edits
  pub held : (r : Resource) → life.held r ≡ holding locks t r
  pub calls : life.vote ≡ None → IsCaller l life
  pub counts : AreCountsOf cells life.edits l.part.counts
  pub within : AreWithin (Writes life.held) life.edits
  pub intended : IsIntended life.held
  pub sized : AreSizedEdits life.edits
  pub count : l.locks ≡ length locked
  pub known : AreHeld life.held locked

-- just the live parts of the journal are kept, and whoever is not live holds nothing
abbrev pub IsAlike : Cells → Holders → List Resource → TransId → Option Live → Option Life → Type 0
IsAlike cells locks locked t None None = (r : Resource) → holding locks t r ≡ None
IsAlike cells locks locked t (Some l) (Some life) = IsLife cells locks locked t l life
IsAlike cells locks locked t None (Some life) = ⊥
IsAlike cells locks locked t (Some l) None = ⊥

-- ---- ids

-- an id of a file that is to come: of a later epoch of this server, or of this one beyond the count
abbrev pub IsToCome : ℕ → ℕ → ℕ → FileId → Type 0
IsToCome server epoch count f = (f.server ≡ server) × (((epoch < f.epoch) × (0 < f.counter)) ⊎ ((f.epoch ≡ epoch) × (count < f.counter)))

-- no leader of a file that is to come is seen
abbrev pub SeesNoneToCome : ℕ → ℕ → ℕ → View → Type 0
SeesNoneToCome server epoch count m = (f : FileId) → IsToCome server epoch count f → m (Leader f) ≡ None

-- these edits put none
abbrev pub PutNoneBeyond : ℕ → ℕ → ℕ → List Edit → Type 0
PutNoneBeyond server epoch count es = (f : FileId) → IsToCome server epoch count f → edits_at es (Leader f) None ≡ None

-- the ids of files of this server and epoch up to a counter, the last first
abbrev pub ids_to : ℕ → ℕ → ℕ → List FileId
ids_to server epoch zero = []
ids_to server epoch (suc n) = (record { server = server; epoch = epoch; counter = suc n }) ∷ ids_to server epoch n

-- the files that were made: those of this epoch up to a counter, and before them some of older epochs of this server
pub record AreMade (server epoch count : ℕ) (made : List FileId) : Type 0 where
  pub early : List FileId
  pub old : AllByRecursion (λ (f : FileId). is_drawn server epoch 0 f.server f.epoch f.counter ≡ true) early
  pub all : made ≡ ids_to server epoch count ++ early

-- ---- calls that wait

-- The part of a file call will have as many resources locked as the call counts, where it makes no file and where it makes one; and
-- what the part holds covers the call once its locks are granted.
pub record IsAskedAs (h : Holder) (locked : Locked) (w : WaitingCall) (n : LockCounts) (l : Life) : Type 0 where
  pub asked : n.asked ≡ length (with_resources (request_in h w.call (Some l)) (locked w.trans))
  pub made : n.made ≡ n.asked + more_locks w.call
  pub covered : w.is_granted ≡ true → HoldsEach l.held (needs_of (view_in h l) l.own w.call)

-- as long as the part lives
abbrev pub IsWaitingAs : Holder → Locked → WaitingCall → Type 0
IsWaitingAs h locked w = (n : LockCounts) (l : Life) → w.counts ≡ Some n → h.lives w.trans ≡ Some l → IsAskedAs h locked w n l

-- what was decided in this epoch is applied
abbrev pub AreApplied : Account → Type 0
AreApplied a = (t : TransId) (stamp : Stamp) (js : List JoinNo) → t.epoch ≡ a.ids.epoch → decision_in (a.fates t) ≡ Some (stamp, js) → is_some (entries.find stamp_cmp stamp a.holder.applied) ≡ true

-- ---- all of it

-- The server keeps what this state says, with this in its vault, which counts while it is not down; and it is down just
-- where the vault was stopped, or failed in a commit.
pub record IsAs {V : Type 0} (a : Account) (held : Contents) (k : ServerState V) : Type 0 where
  pub server : a.holder.server ≡ k.server
  pub servers : a.servers ≡ k.servers
  pub sizes : a.sizes ≡ k.sizes
  pub epoch : a.ids.epoch ≡ k.epoch
  pub clock : a.holder.clock ≡ k.clock
  pub cells : k.is_down ≡ false → held.cells ≡ a.holder.cells
  pub sized : AreSized (map.get a.holder.cells)
  pub notes : k.is_down ≡ false → AreNotesOf (state_of a) a.ids.epoch held.notes
  pub places : length k.sessions.places ≡ 17
  pub sessions : (client : ℕ) → a.sessions client ≡ session_at k.sessions client
  pub dead : (client : ℕ) (t : TransId) → a.dead client t ≡ cause_in k.dead client t
  pub waits : a.waits ≡ waiting_calls k.waits
  pub queue : k.locks.waiting ≡ queue_of a.holder k.locks.held a.waits
  pub asked : AllByRecursion (IsWaitingAs a.holder a.locked) k.waits
  pub lives : (t : TransId) → IsAlike a.holder.cells k.locks.held (a.locked t) t (map.get k.lives t) (a.holder.lives t)
  pub room : HaveRoom k.sizes a.holder.cells (totals_of k.lives)
  pub unborn : (t : TransId) (l : Life) → a.holder.lives t ≡ Some l → PutNoneBeyond a.holder.server a.ids.epoch k.given l.edits
  pub coordinator : IsCoordinatorOf a k.coordinator
  pub decided : AreApplied a
  pub joins : AreJoinsOf (state_of a) k.joins
  pub files : a.ids.files ≡ k.given
  pub made : AreMade a.holder.server a.ids.epoch k.given a.holder.made
  pub born : SeesNoneToCome a.holder.server a.ids.epoch k.given (map.get a.holder.cells)
  pub earlier : AreEarlier a.holder.kept a.holder.applied
  pub quiet : IsQuiet a
  pub down : a.is_down ≡ k.is_down

-- what ended of the client's part of it is not to be told any more
abbrev pub IsAlive : List DeadPart → ℕ → TransId → Type 0
IsAlive dead client t = cause_in dead client t ≡ None

-- a part or a join that is live is not among the dead
pub record AreAlive (dead : List DeadPart) (lives : LiveMap) (ls : List LiveJoin) : Type 0 where
  pub parts : (t : TransId) (l : Live) → map.get lives t ≡ Some l → IsAlive dead l.client t
  pub joins : (j : JoinNo) (x : LiveJoin) → join_at ls j ≡ Some x → IsAlive dead x.client x.trans

-- The joins are of this server in this epoch, each was drawn here for a client of the run and is there once, and no vote is later than a
-- time may be.
pub record AreJoinsHere (here now steps : ℕ) (joins : Joins) : Type 0 where
  pub server : joins.server ≡ here
  pub epoch : joins.epoch ≡ now
  pub drawn : joins.drawn ≤ steps
  pub numbered : (j : JoinNo) (x : LiveJoin) → join_at joins.lives j ≡ Some x → is_drawn_in joins j ≡ true
  pub clients : (j : JoinNo) (x : LiveJoin) → join_at joins.lives j ≡ Some x → IsClient x.client
  pub once : AreOnce joins.lives
  pub single : AreSingle joins.lives
  pub times : (j : JoinNo) (x : LiveJoin) (ts : ℕ) → join_at joins.lives j ≡ Some x → x.stage ≡ stage.Ready ts → ts ≤ 2 ^ 62

-- Whatever its vault tells: its vault serves just while it is up, the table's locks agree, nobody is woken and not taken, those who
-- wait in it do so for calls that the server keeps, and these may be performed once they have their locks. The table knows each live
-- transaction; live parts, transactions of this server and joins of others' go together, and no file call waits of a part that voted;
-- each live part is within its limits and is not among the dead, there are no more transactions than a server may have, and the log
-- has room to apply those that voted. Nobody has a file open or holds a lock on one that was not made yet, or a leaf as an intention, each session keeps what it
-- may, no transaction was decided later than the clock, what is known of each that is not decided has room in a note, and no count went
-- further than so many steps.
pub record IsReady {V : Type 0} (steps : ℕ) (serves : Bool) (k : ServerState V) : Type 0 where
  pub serving : k.is_down ≡ false → IsTrue serves
  pub halted : k.is_down ≡ true → serves ≡ false
  pub sound : IsSound k.locks
  pub taken : k.locks.woken ≡ []
  pub waits : AreWaiting k.server k.epoch k.given (count_of k.coordinator) k.sizes k.lives k.waits k.locks.waiting
  pub known : (t : TransId) (l : Live) → map.get k.lives t ≡ Some l → is_some (map.get k.locks.held t) ≡ true
  pub seat : (server_of k.coordinator ≡ k.server) × (epoch_of k.coordinator ≡ k.epoch)
  pub joins : AreJoinsHere k.server k.epoch steps k.joins
  pub paired : ArePaired k.servers k.server k.coordinator k.joins k.lives
  pub idle : AreVotersIdle k.joins.lives k.waits
  pub opens : (t : TransId) (l : Live) → map.get k.lives t ≡ Some l → l.part.last ≤ steps
  pub opened : (t : TransId) (l : Live) → map.get k.lives t ≡ Some l → list_all (λ o. is_given k.server k.epoch k.given o.file) l.part.opens.items ≡ true
  pub alive : AreAlive k.dead k.lives k.joins.lives
  pub places : length k.sessions.places ≡ 17
  pub calls : (client : ℕ) (w : Session) → session_at k.sessions client ≡ Some w → w.last ≤ steps
  pub replies : (client : ℕ) (w : Session) → session_at k.sessions client ≡ Some w → IsKeepable k.clock w.reply
  pub drawn : count_of k.coordinator ≤ steps
  pub times : AreDecidedBy k.clock k.coordinator
  pub fated : AreEarly k.servers k.server k.coordinator
  pub given : k.given ≤ steps
  pub most : counted_of k.coordinator + length k.joins.lives ≤ 64
  pub fits : HasReadyRoom k.sizes (ready_room k.lives k.joins.lives)
  pub within : (t : TransId) (l : Live) → map.get k.lives t ≡ Some l → IsWithin k.sizes l
  pub sized : 64 ≤ k.sizes.area
  pub clock : k.clock ≤ 2 ^ 62
  pub raised : 0 < k.epoch
  pub last : k.epoch < 2 ^ 32
  pub unheld : (t : TransId) → IsHeldHere k.server k.epoch k.given (holding k.locks.held t)

-- it is ready, and its counts have room for one step more
abbrev pub IsReadyForMore : {V : Type 0} → Bool → ServerState V → Type 0
IsReadyForMore serves k = (steps : ℕ) × (steps + 1 < 2 ^ 32) × IsReady steps serves k

-- it keeps what some journal says
abbrev pub IsOfJournal : {V : Type 0} → Contents → ServerState V → Type 0
IsOfJournal held k = (a : Account) × IsAs a held k
