-- What holds of every log whose journals are lawful and linked, from sound openings on.
use Rattle.std.specs.Prelude.{◌≡◌, ℕ, suc, ◌<◌, ◌≤◌, true, false, not, ◌&&◌, ◌⊎◌, List, [], ◌∷◌, Option, None, Some, slice_get, map as list_map, length}
use Rattle.std.specs.List.{AllByRecursion}
use Rattle.std.specs.FinMap as map
use Rattle.std.specs.FinMap.Entries as entries
use Rattle.alp_files.specs.Locks.{Reads}
use Rattle.alp_files.specs.Cells.{Cells}
use Rattle.alp_files.specs.History.{PerformedCall, Decided}
use Rattle.alp_files.specs.History as one
use Rattle.std.specs.declared.cmp.Ordering.TheVariants.{Less}
use Rattle.alp_base.specs.declared.ids.JoinNo.{JoinNo}
use Rattle.alp_base.specs.declared.ids.TransId.{TransId}
use Rattle.alp_base.specs.declared.ids.Stamp.{Stamp}
use Rattle.alp_base.specs.declared.key.Key.{Key}
use Rattle.alp_modes.specs.declared.Mode.{Mode}
use Rattle.alp_modes.specs.Modes.{agree}
use Rattle.alp_files.specs.Holdings.{mode_on}
use Rattle.alp_files.specs.declared.call.Call.{Call}
use Rattle.alp_files.specs.declared.call.Call.TheVariants as call
use Rattle.alp_files.specs.declared.reply.Reply.{Reply}
use Rattle.alp_files.specs.declared.reply.Reply.TheVariants as reply
use Rattle.alp_files.specs.Sound.{AreSound}
use Rattle.alp_journal.specs.declared.act.Act.TheVariants as act
use Rattle.alp_journal.specs.declared.event.Event.TheVariants as event
use Rattle.alp_journal.specs.declared.entry.Entry.{Entry}
use Rattle.alp_journal.specs.Ids.{has_join, stamp_cmp, same_trans}
use Rattle.alp_journal.specs.Opening.{DecisionNote}
use Rattle.alp_journal.specs.Coordinator.{decision_in}
use Rattle.alp_journal.specs.Participant.{Phase, Unseen, Joining, Active, Ready, Applied, Over, is_ready}
use Rattle.alp_journal.specs.Deeds.{Performs}
use Rattle.alp_journal.specs.Holder.{Life, looked_at}
use Rattle.alp_journal.specs.State.{State}
use Rattle.alp_journal.specs.Moves.{is_new, stops, tried}
use Rattle.alp_journal.specs.Laws.{is_standing}
use Rattle.alp_history.specs.Items.{stamps_in}
use Rattle.alp_history.specs.Handed.{AreOfClients, ArePromisesKept}
use Rattle.alp_history.specs.Log.{Log, Decision, shares_on, shares_of, held, is_noted, start_of, opening_of, journal_of, state_at, final, IsLinked, AreLawful, AreSoundOpenings, AreDifferent, IsIn, decided, finish_of, starting_all, IsSerial, serial_end, IsChargedAfterEach, latest, AreLatest}

pub record IsProper (log : Log) : Type 0 where
  pub different : AreDifferent log
  pub sound : AreSoundOpenings log
  pub lawful : AreLawful log
  pub linked : IsLinked log

-- ---- agreement

-- the server committed the transaction at this stamp with these joins, in this run or in an earlier one
abbrev pub HasCommitted : Log → ℕ → Stamp → List JoinNo → Type 0
HasCommitted log n stamp joins = decision_in ((final log n).fates stamp.trans) ≡ Some (stamp, joins)

-- a join is ready for its transaction, was applied at its stamp, or an earlier run was through with it
abbrev pub IsKept : Stamp → Phase → Type 0
IsKept stamp (Ready t client ts) = t ≡ stamp.trans
IsKept stamp (Applied t x) = (t ≡ stamp.trans) × (x ≡ stamp)
IsKept stamp Unseen = Unit {0}
IsKept stamp (Joining t client who) = ⊥
IsKept stamp (Active t client who) = ⊥
IsKept stamp Over = ⊥

-- no join of a committed transaction is aborted, and none is applied that is not one of a committed transaction's
pub record DoAgreeOnEnds (log : Log) : Type 0 where
  pub kept : (n : ℕ) (stamp : Stamp) (joins : List JoinNo) (j : JoinNo) → HasCommitted log n stamp joins → has_join j joins ≡ true → IsKept stamp ((final log j.server).phases j)
  pub only : (n : ℕ) (j : JoinNo) (t : TransId) (stamp : Stamp) → (final log n).phases j ≡ Applied t stamp
      → (m : ℕ) × (joins : List JoinNo) × HasCommitted log m stamp joins × (has_join j joins ≡ true) × (t ≡ stamp.trans)

abbrev pub Agreement : Type 0
Agreement = (log : Log) → IsProper log → DoAgreeOnEnds log

-- ---- order

-- the mode that a transaction holds on a leaf, if it has a part
abbrev pub mode_in : Key → Option Life → Option Mode
mode_in k None = None
mode_in k (Some l) = mode_on l.held k

abbrev pub mode_at : Log → ℕ → ℕ → TransId → Key → Option Mode
mode_at log n i t k = mode_in k ((state_at log n i).holder.lives t)

-- the transaction holds the leaf in this mode before this entry, and not any more after it
pub record EndsAt (log : Log) (n i : ℕ) (t : TransId) (k : Key) (m : Mode) : Type 0 where
  pub entry : Entry
  pub stands : slice_get (journal_of log n) i ≡ Some entry
  pub before : mode_at log n i t k ≡ Some m
  pub after : (l : ℕ) → i < l → mode_at log n l t k ≡ None

-- decided in this run, by the server that began it
abbrev pub IsDecided : Log → Stamp → Type 0
IsDecided log stamp = (joins : List JoinNo) × HasCommitted log stamp.trans.server stamp joins × ((opening_of log stamp.trans.server).epoch ≤ stamp.trans.epoch)

-- of two decided transactions whose modes on a leaf disagree, the one whose mode ends first has the smaller stamp
abbrev pub GoesByLocks : Log → Type 0
GoesByLocks log = (n i l : ℕ) (k : Key) (a b : Stamp) (m o : Mode)
    → IsDecided log a → IsDecided log b → EndsAt log n i a.trans k m → EndsAt log n l b.trans k o → agree m o ≡ false → i < l → stamp_cmp a b ≡ Less

-- of two decided transactions that hold a leaf in modes that disagree, one after the other, the earlier one has the smaller
-- stamp, whether the later one's mode ends or not
abbrev pub GoesByTurns : Log → Type 0
GoesByTurns log = (n i l : ℕ) (k : Key) (a b : Stamp) (m o : Mode)
    → IsDecided log a → IsDecided log b → same_trans b.trans a.trans ≡ false → mode_at log n i a.trans k ≡ Some m → mode_at log n l b.trans k ≡ Some o
    → agree m o ≡ false → i < l → l ≤ length (journal_of log n) → stamp_cmp a b ≡ Less

-- a transaction's stamp is above what its client had seen
abbrev pub GoesByBegins : Log → Type 0
GoesByBegins log = (n i client epoch number : ℕ) (e : Entry) (seen stamp : Stamp)
    → slice_get (journal_of log n) i ≡ Some e → e.event ≡ event.Call client epoch number (call.Begin seen) → e.reply ≡ Some (reply.Begun stamp.trans)
    → is_new (state_at log n i) client epoch number ≡ true → IsDecided log stamp → seen.ts < stamp.ts

abbrev pub OrderOfBegins : Type 0
OrderOfBegins = (log : Log) → IsProper log → GoesByBegins log

abbrev pub Order : Type 0
Order = (log : Log) → IsProper log → GoesByLocks log × GoesByTurns log × GoesByBegins log

-- ---- each server by itself

-- the cells that a server opened on, with the changes of those parts that earlier runs had made ready and decided and that are
-- applied by now
abbrev pub begun_on : Log → ℕ → Cells
begun_on log n = held (λ j. is_noted log j && not (is_ready ((final log n).phases j))) (opening_of log n).ready (opening_of log n).cells

-- The transactions that a server applied, in the order of their stamps, are one thread's history from there to the cells that
-- it holds. With the changes of those parts that are still ready it begins where the history of all servers does.
pub record IsOneThreadAt (log : Log) (n : ℕ) : Type 0 where
  pub replies : one.IsSerial (final log n).holder.server (one.starting (begun_on log n)) (list_map (λ (x : Stamp × Decided). x.1) (final log n).holder.applied)
  pub files : (one.serial_end (final log n).holder.server (one.starting (begun_on log n)) (list_map (λ (x : Stamp × Decided). x.1) (final log n).holder.applied)).files ≡ (final log n).holder.cells
  pub begins : held (λ j. is_noted log j && is_ready ((final log n).phases j)) (opening_of log n).ready (begun_on log n) ≡ start_of log n

abbrev pub EachServer : Type 0
EachServer = (log : Log) → IsProper log → (n : ℕ) → IsOneThreadAt log n

-- ---- history

-- the decided transactions, in the order of their stamps, are one thread's history on all servers' files; each reply is
-- the right one, and the files at the end are those that the servers hold
pub record IsOneThread (log : Log) : Type 0 where
  pub replies : IsSerial log (starting_all log) (decided log)
  pub files : (n : ℕ) → (serial_end log (starting_all log) (decided log) n).files ≡ finish_of log n
  pub charged : IsChargedAfterEach log (starting_all log) (decided log)
  pub charged_last : (n : ℕ) → AreSound (finish_of log n)

abbrev pub History : Type 0
History = (log : Log) → IsProper log → IsOneThread log

-- a part of a decided transaction was applied at its stamp, or is still ready
abbrev pub IsWhole : Stamp → Phase → Type 0
IsWhole x (Ready t client ts) = t ≡ x.trans
IsWhole x (Applied t y) = (t ≡ x.trans) × (y ≡ x)
IsWhole x Unseen = ⊥
IsWhole x (Joining t client who) = ⊥
IsWhole x (Active t client who) = ⊥
IsWhole x Over = ⊥

-- the decided transactions are just those that their servers committed in this run, each with all of its parts
pub record AreWhole (log : Log) : Type 0 where
  pub committed : (x : Stamp) (js : List JoinNo) → IsIn (x, js) (decided log) → HasCommitted log x.trans.server x js × ((opening_of log x.trans.server).epoch ≤ x.trans.epoch)
  pub listed : (x : Stamp) (js : List JoinNo) → HasCommitted log x.trans.server x js → (opening_of log x.trans.server).epoch ≤ x.trans.epoch → IsIn (x, js) (decided log)
  pub parts : (x : Stamp) (js : List JoinNo) (j : JoinNo) → IsIn (x, js) (decided log) → has_join j js ≡ true → IsWhole x ((final log j.server).phases j)

abbrev pub Wholeness : Type 0
Wholeness = (log : Log) → IsProper log → AreWhole log

-- ---- acts that take effect

-- the restart behind an entry found this clock and these joins ready
pub record IsFoundSo (log : Log) (n i : ℕ) (so : (clock : ℕ) (ready : List JoinNo) → Type 0) : Type 0 where
  pub entry : Entry
  pub epoch : ℕ
  pub clock : ℕ
  pub ready : List JoinNo
  pub stamps : List Stamp
  pub stands : slice_get (journal_of log n) (suc i) ≡ Some entry
  pub restart : entry.event ≡ event.Restart
  pub found : entry.acts ≡ act.Regained epoch clock ready stamps ∷ []
  pub so_found : so clock ready

-- what an entry names takes effect where nothing stopped it, or where the restart behind it finds that the write was made
abbrev pub TakesEffect : Log → ℕ → ℕ → Entry → ((clock : ℕ) (ready : List JoinNo) → Type 0) → Type 0
TakesEffect log n i e so = (stops e ≡ false) ⊎ IsFoundSo log n i so

-- an entry of the server decides it, and that takes effect: a clock that is not below its time shows it
pub record DecidedThere (log : Log) (n : ℕ) (x : Stamp) (js : List JoinNo) : Type 0 where
  pub place : ℕ
  pub entry : Entry
  pub stands : slice_get (journal_of log n) place ≡ Some entry
  pub names : IsIn (act.Decided x js) entry.acts
  pub effect : TakesEffect log n place entry (λ clock ready. x.ts ≤ clock)

-- an entry of the server applies the join, and that takes effect: that the join is not ready any more shows it
pub record AppliedThere (log : Log) (n : ℕ) (j : JoinNo) (x : Stamp) : Type 0 where
  pub place : ℕ
  pub entry : Entry
  pub stands : slice_get (journal_of log n) place ≡ Some entry
  pub names : IsIn (act.Applied j x) entry.acts
  pub effect : TakesEffect log n place entry (λ clock ready. has_join j ready ≡ false)

-- The decided transactions are just those that an entry decides with effect, each at the server that began it. A join is
-- applied just where an entry of its server applies it with effect.
pub record AreListed (log : Log) : Type 0 where
  pub lists : (n : ℕ) (x : Stamp) (js : List JoinNo) → DecidedThere log n x js → IsIn (x, js) (decided log)
  pub decides : (x : Stamp) (js : List JoinNo) → IsIn (x, js) (decided log) → DecidedThere log x.trans.server x js
  pub applied : (n : ℕ) (j : JoinNo) (x : Stamp) → AppliedThere log n j x → (final log n).phases j ≡ Applied x.trans x
  pub applies : (n : ℕ) (j : JoinNo) (t : TransId) (x : Stamp) → (final log n).phases j ≡ Applied t x → (t ≡ x.trans) × AppliedThere log n j x

abbrev pub Listing : Type 0
Listing = (log : Log) → IsProper log → AreListed log

-- ---- what a transaction does at a server

-- an entry that nothing stopped performs the call for the transaction
pub record PerformedThere (log : Log) (n : ℕ) (t : TransId) (d : PerformedCall) : Type 0 where
  pub place : ℕ
  pub entry : Entry
  pub stands : slice_get (journal_of log n) place ≡ Some entry
  pub goes : stops entry ≡ false
  pub performs : IsIn (Performs t d) (tried (state_at log n place) entry)

-- it has just this share at the server
abbrev pub HasShare : Log → Stamp → ℕ → Decided → Type 0
HasShare log x n share = shares_on log x n ≡ (n, share) ∷ []

-- one after the other, by their stamps
abbrev pub AreRising : List Decision → Type 0
AreRising [] = Unit {0}
AreRising (d ∷ ds) = AllByRecursion (λ (e : Decision). stamp_cmp d.0 e.0 ≡ Less) ds × AreRising ds

-- A decided transaction has one share at the server that began it, and one at each server of its joins. The calls of a share
-- are just those that the server's entries performed for it. The decided transactions stand in the order of their stamps.
pub record AreShared (log : Log) : Type 0 where
  pub own : (x : Stamp) (js : List JoinNo) → IsIn (x, js) (decided log) → (share : Decided) × HasShare log x x.trans.server share
  pub joined : (x : Stamp) (js : List JoinNo) (j : JoinNo) → IsIn (x, js) (decided log) → has_join j js ≡ true → (share : Decided) × HasShare log x j.server share
  pub performed : (n : ℕ) (x : Stamp) (js : List JoinNo) (d : PerformedCall) → IsIn (x, js) (decided log) → PerformedThere log n x.trans d
      → (share : Decided) × HasShare log x n share × IsIn (n, share) (shares_of log (x, js)) × IsIn d share.calls
  pub performs : (n : ℕ) (x : Stamp) (js : List JoinNo) (share : Decided) (d : PerformedCall) → IsIn (x, js) (decided log) → HasShare log x n share → IsIn d share.calls → PerformedThere log n x.trans d
  pub rising : AreRising (decided log)

abbrev pub Sharing : Type 0
Sharing = (log : Log) → IsProper log → AreShared log

-- ---- settled

-- no part lives, none is ready, and no decision has joins that have not done
pub record IsSettled (s : State) : Type 0 where
  pub parts : (t : TransId) → s.holder.lives t ≡ None
  pub ready : (j : JoinNo) → is_ready (s.phases j) ≡ false
  pub decisions : (x : Stamp) → is_standing x (s.fates x.trans) ≡ false

-- a settled log ends in what its servers hold, and each part of a decided transaction was applied at its stamp
pub record EndsInCells (log : Log) : Type 0 where
  pub files : (n : ℕ) → finish_of log n ≡ (final log n).holder.cells
  pub applied : (x : Stamp) (js : List JoinNo) (j : JoinNo) → IsIn (x, js) (decided log) → has_join j js ≡ true → (final log j.server).phases j ≡ Applied x.trans x

abbrev pub Settling : Type 0
Settling = (log : Log) → IsProper log → ((n : ℕ) → IsSettled (final log n)) → EndsInCells log

-- where the one thread comes to a transaction, its files hold at each place what the last one before it that changed the place
-- left there, or what was there at the start
abbrev pub Latest : Type 0
Latest = (log : Log) → IsProper log → AreLatest log (starting_all log) (decided log)

-- while a part's mode on a place is at least Read, no change of another part that takes effect touches the cell there
abbrev pub StandsStill : Log → Type 0
StandsStill log = (n i : ℕ) (t : TransId) (l m : Life) (k : Key)
    → i < length (journal_of log n) → (state_at log n i).holder.lives t ≡ Some l → (state_at log n (suc i)).holder.lives t ≡ Some m → Reads l.held k
    → map.get (state_at log n (suc i)).holder.cells k ≡ map.get (state_at log n i).holder.cells k

abbrev pub Stillness : Type 0
Stillness = (log : Log) → IsProper log → StandsStill log

-- while a decided transaction that a server has not applied yet may read a place there, the server's cells hold what the
-- decided one of the greatest smaller stamp that changed the place left there, or what was there at the start
abbrev pub FindsLatest : Log → Type 0
FindsLatest log = (n i : ℕ) (x : Stamp) (l : Life) (k : Key)
    → IsDecided log x → i ≤ length (journal_of log n) → (state_at log n i).holder.lives x.trans ≡ Some l → entries.find stamp_cmp x (state_at log n i).holder.applied ≡ None → Reads l.held k
    → map.get (state_at log n i).holder.cells k ≡ latest log n k x

-- where a decided transaction performs a call, its server's cells hold at each place that the call looks at what the decided one
-- of the greatest smaller stamp that changed the place left there, or what was there at the start
abbrev pub PerformsOnLatest : Log → Type 0
PerformsOnLatest log = (n i : ℕ) (e : Entry) (x : Stamp) (d : PerformedCall)
    → slice_get (journal_of log n) i ≡ Some e → stops e ≡ false → IsIn (Performs x.trans d) (tried (state_at log n i) e) → IsDecided log x
    → (l : Life) × ((state_at log n i).holder.lives x.trans ≡ Some l) × ((k : Key) → IsIn k (looked_at (state_at log n i).holder l d) → map.get (state_at log n i).holder.cells k ≡ latest log n k x)

abbrev pub Findings : Type 0
Findings = (log : Log) → IsProper log → FindsLatest log × PerformsOnLatest log

-- ---- what is told

-- a stamp that a new call is told is of a transaction that its server committed: one of the decided ones, unless an
-- earlier run decided it
abbrev pub TellsOfDecided : Log → Type 0
TellsOfDecided log = (n i client epoch number : ℕ) (c : Call) (e : Entry) (r : Reply) (x : Stamp)
    → slice_get (journal_of log n) i ≡ Some e → e.event ≡ event.Call client epoch number c → e.reply ≡ Some r → is_new (state_at log n i) client epoch number ≡ true → IsIn x (stamps_in r)
    → (js : List JoinNo) × HasCommitted log n x js × (IsIn (x, js) (decided log) ⊎ ((d : DecisionNote) × IsIn d (opening_of log n).decisions × (d.stamp ≡ x) × (d.joins ≡ js)))

abbrev pub Tellings : Type 0
Tellings = (log : Log) → IsProper log → TellsOfDecided log

-- what is promised to clients, whose items are as their machine and the servers leave them, is kept
abbrev pub Promises : Type 0
Promises = (log : Log) → IsProper log → AreOfClients log → ArePromisesKept log
