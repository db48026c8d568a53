-- Calls that wait for their locks, or have them and are not collected.
use Rattle.std.specs.Prelude.{◌≡◌, ℕ, ◌<◌, ◌≤◌, Bool, true, false, not, ◌==◌, ◌&&◌, ◌||◌, List, [], ◌∷◌, filter, find, length, Option, None, Some, is_some, is_none, if◌then◌else◌, map as list_map}
use Rattle.std.specs.List.{list_any, AllByRecursion}
use Rattle.std.specs.FinMap as map
use Rattle.alp_base.specs.declared.ids.JoinNo.{JoinNo}
use Rattle.alp_base.specs.declared.ids.TransId.{TransId}
use Rattle.alp_base.specs.declared.faults.Sizes.{Sizes}
use Rattle.alp_files.specs.Locks.{IsFormed}
use Rattle.alp_files.specs.declared.call.Call.{Call}
use Rattle.alp_files.specs.declared.call.Call.TheVariants as call
use Rattle.alp_journal.specs.Counts.{log_need}
use Rattle.alp_journal.specs.Desk.{Waiting, file_trans, part_trans}
use Rattle.alp_journal.specs.Ids.{same_trans}
use Rattle.alp_journal.specs.Coordinator.{client_of}
use Rattle.alp_journal.specs.State.{is_this}
use Rattle.alp_queue.specs.declared.waiter.Waiter.{Waiter}
use Rattle.alp_coord.specs.Coordinators.{fate_in}
use Rattle.alp_coord.specs.declared.coordinator.Coordinator.{Coordinator}
use Rattle.alp_worker.specs.declared.joins.Joins.{Joins}
use Rattle.alp_worker.specs.declared.live.LiveJoin.{LiveJoin}
use Rattle.alp_worker.specs.Lives.{is_open, join_at, part_of}
use Rattle.alp_node.specs.Asks.{IsHeldHere}
use Rattle.alp_node.specs.Dead.{cause_in}
use Rattle.alp_node.specs.Shapes.{shape_of, ReadsSome}
use Rattle.alp_node.specs.Totals.{LiveMap}
use Rattle.alp_node.specs.declared.dead.DeadPart.{DeadPart}
use Rattle.alp_node.specs.declared.lives.Live.{Live}
use Rattle.alp_node.specs.declared.lock_counts.LockCounts.{LockCounts}
use Rattle.alp_node.specs.declared.waits.WaitingCall.{WaitingCall}

-- as the journal tells it
abbrev pub waiting : WaitingCall → Waiting
waiting w = record { client = w.client; number = w.number; call = w.call; is_granted = w.is_granted }

abbrev pub waiting_calls : List WaitingCall → List Waiting
waiting_calls ws = list_map waiting ws

-- ---- one of them

-- it is of this client's part of the transaction
abbrev pub is_of : ℕ → TransId → WaitingCall → Bool
is_of client t w = w.client == client && same_trans w.trans t

-- it is a file call of the transaction, whosever it is
abbrev pub is_file_on : TransId → WaitingCall → Bool
is_file_on t w = is_some w.counts && same_trans w.trans t

abbrev pub is_at : ℕ → ℕ → WaitingCall → Bool
is_at client number w = w.client == client && w.number == number

-- it is the client's Join or Finish with this number
abbrev pub is_other_at : ℕ → ℕ → WaitingCall → Bool
is_other_at client number w = is_at client number w && is_none w.counts

-- the transaction of a Finish, and of a Join
abbrev pub finish_trans : Call → Option TransId
finish_trans (call.Finish t commit) = Some t
finish_trans c = None

abbrev pub join_trans : Call → Option TransId
join_trans (call.Join t) = Some t
join_trans c = None

-- such a call of the client on the transaction waits, by that number
abbrev pub HasOtherAt : (Call → Option TransId) → ℕ → ℕ → TransId → List WaitingCall → Type 0
HasOtherAt of client number t ws = (w : WaitingCall) × (find (is_at client number) ws ≡ Some w) × (w.counts ≡ None) × (file_trans w.call ≡ None) × (of w.call ≡ Some t)

abbrev pub has_waiting : ℕ → TransId → List WaitingCall → Bool
has_waiting client t ws = list_any (is_of client t) ws

abbrev pub has_file_on : TransId → List WaitingCall → Bool
has_file_on t ws = list_any (is_file_on t) ws

abbrev pub call_at : ℕ → ℕ → List WaitingCall → Option WaitingCall
call_at client number ws = find (is_at client number) ws

-- how many resources the part has locked once the call has its locks, where it is a file call
abbrev pub count_asked : Option LockCounts → Option ℕ
count_asked None = None
count_asked (Some n) = Some n.asked

abbrev pub locks_in : Option WaitingCall → Option ℕ
locks_in None = None
locks_in (Some w) = count_asked w.counts

abbrev pub locks_of : TransId → List WaitingCall → Option ℕ
locks_of t ws = locks_in (find (is_file_on t) ws)

-- ---- what becomes of them

-- the file call of the transaction has its locks
abbrev pub grant_one : TransId → WaitingCall → WaitingCall
grant_one t w = if is_file_on t w then record w { is_granted = true } else w

abbrev pub grant_of : TransId → List WaitingCall → List WaitingCall
grant_of t ws = list_map (grant_one t) ws

abbrev pub without_calls_of : ℕ → TransId → List WaitingCall → List WaitingCall
without_calls_of client t ws = filter (λ w. not (is_of client t w)) ws

abbrev pub without_other_at : ℕ → ℕ → List WaitingCall → List WaitingCall
without_other_at client number ws = filter (λ w. not (is_other_at client number w)) ws

-- of a client's calls those that are of no dead part, and all of the others'
abbrev pub outlives : ℕ → List DeadPart → WaitingCall → Bool
outlives client ds w = not (w.client == client) || is_none (cause_in ds client w.trans)

abbrev pub without_dead : ℕ → List DeadPart → List WaitingCall → List WaitingCall
without_dead client ds ws = filter (outlives client ds) ws

-- the client has a live part of the transaction: it runs here for the client, or is finishing, or the client has a live join of it
abbrev pub has_part : ℕ → Coordinator → Joins → TransId → Bool
has_part client c k t = is_this client (client_of (fate_in c t)) || is_some (part_of client t k.lives)

-- of a client's calls those that are of a live part, and all of the others'
abbrev pub stays : ℕ → Coordinator → Joins → WaitingCall → Bool
stays client c k w = not (w.client == client) || has_part client c k w.trans

abbrev pub live_calls : ℕ → Coordinator → Joins → List WaitingCall → List WaitingCall
live_calls client c k ws = filter (stays client c k) ws

-- ---- what is so of them between two steps, whatever the vault tells

-- A file call is one of its transaction. Without counts it is a Join or a Finish of that.
abbrev pub IsCallBy : Call → TransId → Option LockCounts → Type 0
IsCallBy c t None = (file_trans c ≡ None) × (part_trans c ≡ Some t)
IsCallBy c t (Some n) = file_trans c ≡ Some t

abbrev pub IsNamed : WaitingCall → Type 0
IsNamed w = IsCallBy w.call w.trans w.counts

-- The file call of a live part is its client's. It has the shape that it may have, and the part is within its limits with the locks
-- of the call, and with that of a file that it makes.
pub record IsWithinLimits (server epoch given : ℕ) (sizes : Sizes) (w : WaitingCall) (n : LockCounts) (l : Live) : Type 0 where
  pub its : w.client ≡ l.client
  pub shape : shape_of server epoch given (length l.part.opens.items) w.call ≡ None
  pub fewer : n.asked ≤ n.made
  pub locks : n.made ≤ 1024
  pub log : log_need l.part.counts.cells n.made ≤ sizes.area

-- A file call is one of the grammar, and within the limits of its part as long as that is live. A transaction of this server was begun
-- of which one waits.
pub record IsFileCall (server epoch given drawn : ℕ) (sizes : Sizes) (lives : LiveMap) (w : WaitingCall) (n : LockCounts) : Type 0 where
  pub formed : IsFormed w.call
  pub some : ReadsSome w.call
  pub begun : w.trans.server ≡ server → w.trans.counter ≤ drawn
  pub limits : (l : Live) → map.get lives w.trans ≡ Some l → IsWithinLimits server epoch given sizes w n l

-- a Finish is of a transaction of this epoch
abbrev pub IsCurrent : ℕ → Call → Type 0
IsCurrent epoch (call.Finish t commit) = t.epoch ≡ epoch
IsCurrent epoch c = Unit {0}

pub record IsWaitingCall (server epoch given drawn : ℕ) (sizes : Sizes) (lives : LiveMap) (w : WaitingCall) : Type 0 where
  pub named : IsNamed w
  pub current : IsCurrent epoch w.call
  pub file : (n : LockCounts) → w.counts ≡ Some n → IsFileCall server epoch given drawn sizes lives w n

-- no two file calls are of one transaction
abbrev pub IsOfOther : WaitingCall → WaitingCall → Type 0
IsOfOther w v = (is_some w.counts && is_file_on w.trans v) ≡ false

abbrev pub AreApart : List WaitingCall → Type 0
AreApart [] = Unit {0}
AreApart (w ∷ ws) = AllByRecursion (IsOfOther w) ws × AreApart ws

-- a file call of the transaction has not its locks yet
abbrev pub is_asking : TransId → WaitingCall → Bool
is_asking t w = is_file_on t w && not w.is_granted

abbrev pub asks_for : List WaitingCall → TransId → Bool
asks_for ws t = list_any (is_asking t) ws

-- who waits in the table is live, has a call here that waits for its locks, and would hold what a part may
pub record IsOfCalls (server epoch given : ℕ) (lives : LiveMap) (ws : List WaitingCall) (x : Waiter) : Type 0 where
  pub live : is_some (map.get lives x.trans) ≡ true
  pub asks : asks_for ws x.trans ≡ true
  pub beyond : IsHeldHere server epoch given (map.get x.after)

-- each of them is so, and so is the table's queue
pub record AreWaiting (server epoch given drawn : ℕ) (sizes : Sizes) (lives : LiveMap) (ws : List WaitingCall) (queue : List Waiter) : Type 0 where
  pub calls : AllByRecursion (IsWaitingCall server epoch given drawn sizes lives) ws
  pub apart : AreApart ws
  pub queued : AllByRecursion (IsOfCalls server epoch given lives ws) queue

-- no file call waits of a transaction whose part here voted
abbrev pub AreVotersIdle : List LiveJoin → List WaitingCall → Type 0
AreVotersIdle ls ws = (j : JoinNo) (x : LiveJoin) → join_at ls j ≡ Some x → is_open x.stage ≡ false → has_file_on x.trans ws ≡ false
