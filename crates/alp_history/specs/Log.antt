-- The log of a run of several servers: what its transactions are, and where it starts and ends.
use Rattle.std.specs.Prelude.{◌≡◌, ℕ, ◌<◌, ◌≤◌, Bool, true, false, ◌==◌, ◌||◌, ◌⊎◌, List, [], ◌∷◌, ◌++◌, filter, flat_map, find, map as list_map, Option, None, Some, unwrap_or, slice_get, take, if◌then◌else◌}
use Rattle.std.specs.List.{list_any, AllByRecursion}
use Rattle.std.specs.FinMap as map
use Rattle.std.specs.FinMap.Entries.{put}
use Rattle.std.specs.FinMap.Entries as entries
use Rattle.alp_base.specs.declared.ids.JoinNo.{JoinNo}
use Rattle.alp_base.specs.declared.ids.Stamp.{Stamp}
use Rattle.alp_base.specs.declared.key.Key.{Key}
use Rattle.alp_base.specs.Keys.{key_cmp}
use Rattle.std.specs.Ordering.{eq_by_cmp, is_lt}
use Rattle.alp_files.specs.Holdings.{held_by, IsIntended, DoAgree}
use Rattle.alp_base.specs.declared.cell.Cell.{Cell}
use Rattle.alp_files.specs.Cells.{Cells}
use Rattle.alp_files.specs.Edits.{Edit, Drop, Cut, Put, edits_map, is_in_file, is_past}
use Rattle.alp_files.specs.Locks.{Writes}
use Rattle.alp_files.specs.Apart.{AreSized, IsSized, IsWithin}
use Rattle.alp_files.specs.Sound.{AreSound}
use Rattle.alp_files.specs.History.{Standing, Decided, AreRight, steps, begun, starting}
use Rattle.alp_journal.specs.declared.act.Act.TheVariants as act
use Rattle.alp_journal.specs.declared.event.Event.TheVariants as event
use Rattle.alp_journal.specs.declared.message.Message.{Message}
use Rattle.alp_journal.specs.declared.entry.Entry.{Entry}
use Rattle.alp_journal.specs.Along.{state_after}
use Rattle.alp_journal.specs.Ids.{same_trans, same_join, has_join, has_server, stamp_cmp}
use Rattle.alp_journal.specs.Opening.{ReadyNote, DecisionNote, Start}
use Rattle.alp_journal.specs.Coordinator.{joins_of}
use Rattle.alp_journal.specs.Participant.{Phase, Ready}
use Rattle.alp_journal.specs.Holder.{Life}
use Rattle.alp_journal.specs.State.{State, opened}
use Rattle.alp_journal.specs.Moves.{next}
use Rattle.alp_journal.specs.Laws.{IsLawful}
use Rattle.alp_history.specs.Items.{Handed}

-- ---- the log

-- what a server was started on, what it did, and the rank of each entry
pub record ServerLog : Type 0 where
  pub opening : Start
  pub journal : List Entry
  pub ranks : List ℕ

-- the whole, with what each client sent and was handed
pub record Log : Type 0 where
  pub servers : List ServerLog
  pub handed : Handed

-- a server that is none of the run
abbrev pub nobody : ℕ → ServerLog
nobody n = record {
  opening = record { server = n; servers = 0; sizes = record { home = 0; area = 0 }; epoch = 0; clock = 0; cells = map.empty; ready = []; decisions = [] };
  journal = [];
  ranks = [];
}

abbrev pub of : Log → ℕ → ServerLog
of log n = unwrap_or (find (λ (x : ServerLog). x.opening.server == n) log.servers) (nobody n)

abbrev pub journal_of : Log → ℕ → List Entry
journal_of log n = (of log n).journal

abbrev pub opening_of : Log → ℕ → Start
opening_of log n = (of log n).opening

-- the rank of a server's entry
abbrev pub rank_at : Log → ℕ → ℕ → ℕ
rank_at log n i = unwrap_or (slice_get (of log n).ranks i) 0

-- the state of a server after so many entries, and at the end
abbrev pub state_at : Log → ℕ → ℕ → State
state_at log n i = state_after next (opened (opening_of log n)) (take i (journal_of log n))

abbrev pub final : Log → ℕ → State
final log n = state_after next (opened (opening_of log n)) (journal_of log n)

-- ---- linked

abbrev pub IsIn : {A : Type 0} → A → List A → Type 0
IsIn x [] = ⊥
IsIn x (y ∷ ys) = (x ≡ y) ⊎ IsIn x ys

-- its servers have different numbers
abbrev pub AreDifferent : Log → Type 0
AreDifferent log = (x : ServerLog) → IsIn x log.servers → of log x.opening.server ≡ x

-- this server sent that message to that server, at an entry of a smaller rank
pub record WasSent (log : Log) (from to : ℕ) (m : Message) (rank : ℕ) : Type 0 where
  pub place : ℕ
  pub entry : Entry
  pub stands : slice_get (journal_of log from) place ≡ Some entry
  pub sent : IsIn (act.Sent to m) entry.acts
  pub earlier : rank_at log from place < rank

-- ranks rise along each journal, and each message that arrives was sent before
pub record IsLinked (log : Log) : Type 0 where
  pub rising : (n i k : ℕ) (e f : Entry) → slice_get (journal_of log n) i ≡ Some e → slice_get (journal_of log n) k ≡ Some f → i < k → rank_at log n i < rank_at log n k
  pub sent : (n i from : ℕ) (e : Entry) (m : Message) → slice_get (journal_of log n) i ≡ Some e → e.event ≡ event.Arrive from m → WasSent log from n m (rank_at log n i)

abbrev pub AreLawful : Log → Type 0
AreLawful log = (n : ℕ) → IsLawful (opening_of log n) (journal_of log n)

-- ---- decisions

-- all decision notes of the openings
abbrev pub noted : Log → List DecisionNote
noted log = flat_map (λ (x : ServerLog). x.opening.decisions) log.servers

-- A transaction that was decided: its stamp, and its parts on other servers.
abbrev pub Decision : Type 0
Decision = Stamp × List JoinNo

-- into a list by stamps
abbrev pub all_put : {A : Type 0} → List (Stamp × A) → List (Stamp × A) → List (Stamp × A)
all_put [] ys = ys
all_put (x ∷ xs) ys = put stamp_cmp x.0 x.1 (all_put xs ys)

-- the transactions of its own that a server committed
abbrev pub own_of : State → List (Stamp × Decided)
own_of s = filter (λ (x : Stamp × Decided). x.0.trans.server == s.holder.server) s.holder.applied

abbrev pub decisions_of : State → List Decision
decisions_of s = list_map (λ (x : Stamp × Decided). (x.0, joins_of (s.fates x.0.trans))) (own_of s)

abbrev pub decided_by : Log → List ServerLog → List Decision
decided_by log [] = []
decided_by log (x ∷ xs) = all_put (decisions_of (final log x.opening.server)) (decided_by log xs)

-- all transactions that were decided, in the order of their stamps
abbrev pub decided : Log → List Decision
decided log = decided_by log log.servers

-- a join stands in a decision, of this run or of an earlier one
abbrev pub is_decided_in : Log → JoinNo → Bool
is_decided_in log j = list_any (λ (d : Decision). has_join j d.1) (decided log) || list_any (λ (n : DecisionNote). has_join j n.joins) (noted log)

-- ---- where it starts and ends

-- the cells with the changes of the ready notes that were decided
abbrev pub held : (JoinNo → Bool) → List ReadyNote → Cells → Cells
held is_decided [] m = m
held is_decided (n ∷ ns) m = held is_decided ns (if is_decided n.join then edits_map n.edits m else m)

abbrev pub is_noted : Log → JoinNo → Bool
is_noted log j = list_any (λ (n : DecisionNote). has_join j n.joins) (noted log)

-- the files of each server that the run began with
abbrev pub start_of : Log → ℕ → Cells
start_of log n = held (is_noted log) (opening_of log n).ready (opening_of log n).cells

-- the intents of a part that is ready
abbrev pub edits_in : Option Life → List Edit
edits_in None = []
edits_in (Some l) = l.edits

abbrev pub ready_note : State → JoinNo → Phase → List ReadyNote
ready_note s j (Ready t client ts) = record { join = j; trans = t; ts = ts; client = client; locks = []; edits = edits_in (s.holder.lives t) } ∷ []
ready_note s j p = []

-- the parts that are ready, by the order of their joins
abbrev pub ready_in : State → List ReadyNote
ready_in s = flat_map (λ j. ready_note s j (s.phases j)) s.joined

-- the files of each server that the run left
abbrev pub finish_of : Log → ℕ → Cells
finish_of log n = held (is_decided_in log) (ready_in (final log n)) (final log n).holder.cells

-- ---- sound openings

-- the leaders that are put have sizes
abbrev pub PutsAreSized : List Edit → Type 0
PutsAreSized [] = Unit {0}
PutsAreSized (Put k c ∷ es) = IsSized c × PutsAreSized es
PutsAreSized (Drop f ∷ es) = PutsAreSized es
PutsAreSized (Cut f n ∷ es) = PutsAreSized es

-- all that is said of one ready note on its server
pub record IsSoundNote (log : Log) (n : ℕ) (r : ReadyNote) : Type 0 where
  pub here : r.join.server ≡ n
  pub elsewhere : r.trans.server ≡ n → ⊥
  pub older : r.join.epoch < (opening_of log n).epoch
  -- its transaction was drawn in an earlier run too
  pub drawn : r.trans.epoch < (opening_of log r.trans.server).epoch
  pub intended : IsIntended (held_by r.locks)
  pub covered : IsWithin (Writes (held_by r.locks)) r.edits
  pub sized : PutsAreSized r.edits
  -- where its transaction was decided, it was as a part of it, and for no earlier time than it voted for
  pub decided : (m : ℕ) (d : DecisionNote) → IsIn d (opening_of log m).decisions → d.stamp.trans ≡ r.trans → (has_join r.join d.joins ≡ true) × (r.ts ≤ d.stamp.ts)

pub record IsSoundDecision (log : Log) (n : ℕ) (d : DecisionNote) : Type 0 where
  pub here : d.stamp.trans.server ≡ n
  pub older : d.stamp.trans.epoch < (opening_of log n).epoch
  pub some : d.joins ≡ [] → ⊥
  pub elsewhere : has_server n d.joins ≡ false
  -- and each of another server
  pub spread : (j k : JoinNo) → has_join j d.joins ≡ true → has_join k d.joins ≡ true → j.server ≡ k.server → j ≡ k
  -- a join that is ready stands in it for this transaction alone
  pub its : (m : ℕ) (r : ReadyNote) → IsIn r (opening_of log m).ready → has_join r.join d.joins ≡ true → r.trans ≡ d.stamp.trans
  pub known : (j : JoinNo) → has_join j d.joins ≡ true → j.epoch < (opening_of log j.server).epoch

-- the notes of one server are of different transactions and joins
abbrev pub AreDistinct : List ReadyNote → Type 0
AreDistinct [] = Unit {0}
AreDistinct (r ∷ rs) = AllByRecursion (λ (q : ReadyNote). (same_trans r.trans q.trans ≡ false) × (same_join r.join q.join ≡ false)) rs × AreDistinct rs

pub record IsSoundOpening (log : Log) (n : ℕ) : Type 0 where
  pub few : (opening_of log n).servers ≤ 8
  pub files : AreSound (opening_of log n).cells
  -- also with the changes of the ready notes that were decided
  pub files_begun : AreSound (start_of log n)
  pub sizes : AreSized (map.get (opening_of log n).cells)
  pub ready : (r : ReadyNote) → IsIn r (opening_of log n).ready → IsSoundNote log n r
  pub distinct : AreDistinct (opening_of log n).ready
  pub agree : (r q : ReadyNote) → IsIn r (opening_of log n).ready → IsIn q (opening_of log n).ready → same_trans r.trans q.trans ≡ false → DoAgree (held_by r.locks) (held_by q.locks)
  pub decisions : (d : DecisionNote) → IsIn d (opening_of log n).decisions → IsSoundDecision log n d
  -- each of another transaction
  pub one_each : (d e : DecisionNote) → IsIn d (opening_of log n).decisions → IsIn e (opening_of log n).decisions → d.stamp.trans ≡ e.stamp.trans → d ≡ e
  -- a join stands in one decision at most
  pub once : (d e : DecisionNote) (j : JoinNo) → IsIn d (noted log) → IsIn e (noted log) → has_join j d.joins ≡ true → has_join j e.joins ≡ true → d.stamp ≡ e.stamp

abbrev pub AreSoundOpenings : Log → Type 0
AreSoundOpenings log = (n : ℕ) → IsSoundOpening log n

-- ---- one thread's history of all servers

-- where the thread stands at each server
abbrev pub Standings : Type 0
Standings = ℕ → Standing

-- what a transaction did at a server: as it was applied there, or as its ready part will be
abbrev pub of_life : Stamp → Option Life → List Decided
of_life stamp None = []
of_life stamp (Some l) = record { stamp = stamp; who = l.who; calls = l.calls } ∷ []

abbrev pub share_at : State → Stamp → Option Decided → List Decided
share_at s stamp (Some d) = d ∷ []
share_at s stamp None = of_life stamp (s.holder.lives stamp.trans)

-- a share of a transaction: a server, and what the transaction did there
abbrev pub Share : Type 0
Share = ℕ × Decided

abbrev pub shares_on : Log → Stamp → ℕ → List Share
shares_on log stamp n = list_map (λ d. (n, d)) (share_at (final log n) stamp (entries.find stamp_cmp stamp (final log n).holder.applied))

-- the servers of the joins, in rising order
abbrev pub servers_in : List JoinNo → List ℕ
servers_in js = filter (λ m. has_server m js) (1 ∷ 2 ∷ 3 ∷ 4 ∷ 5 ∷ 6 ∷ 7 ∷ 8 ∷ [])

-- the part of the coordinator, and then those of the joins by their servers
abbrev pub shares_of : Log → Decision → List Share
shares_of log d = shares_on log d.0 d.0.trans.server ++ flat_map (shares_on log d.0) (servers_in d.1)

abbrev pub with_standing : Standings → ℕ → Standing → Standings
with_standing at n s = λ m. if m == n then s else at m

-- each reply is the right one there
abbrev pub AreSharesRight : Standings → List Share → Type 0
AreSharesRight at [] = Unit {0}
AreSharesRight at (x ∷ xs) = AreRight x.0 (begun (at x.0)) x.1.who x.1.calls × AreSharesRight (with_standing at x.0 (steps x.0 (begun (at x.0)) x.1.who x.1.calls)) xs

abbrev pub after_shares : Standings → List Share → Standings
after_shares at [] = at
after_shares at (x ∷ xs) = after_shares (with_standing at x.0 (steps x.0 (begun (at x.0)) x.1.who x.1.calls)) xs

-- one transaction after the other
abbrev pub IsSerial : Log → Standings → List Decision → Type 0
IsSerial log at [] = Unit {0}
IsSerial log at (d ∷ ds) = AreSharesRight at (shares_of log d) × IsSerial log (after_shares at (shares_of log d)) ds

abbrev pub serial_end : Log → Standings → List Decision → Standings
serial_end log at [] = at
serial_end log at (d ∷ ds) = serial_end log (after_shares at (shares_of log d)) ds

-- the files are sound at every server after each transaction
abbrev pub IsChargedAfterEach : Log → Standings → List Decision → Type 0
IsChargedAfterEach log at [] = Unit {0}
IsChargedAfterEach log at (d ∷ ds) = ((n : ℕ) → AreSound (after_shares at (shares_of log d) n).files) × IsChargedAfterEach log (after_shares at (shares_of log d)) ds

abbrev pub starting_all : Log → Standings
starting_all log n = starting (start_of log n)

-- ---- what the last one to change a place left there

abbrev pub touches : Key → Edit → Bool
touches k (Drop f) = is_in_file f k
touches k (Cut f n) = is_past f n k
touches k (Put q c) = eq_by_cmp key_cmp k q

abbrev pub left_by : Edit → Option Cell
left_by (Put k c) = Some c
left_by e = None

-- the last of the changes that is of the place
abbrev pub left_at : Key → Option Cell → List Edit → Option Cell
left_at k old [] = old
left_at k old (e ∷ es) = left_at k (if touches k e then left_by e else old) es

-- in the order of stamps, below this stamp
abbrev pub latest_in : Key → Stamp → Option Cell → List (Stamp × List Edit) → Option Cell
latest_in k stamp old [] = old
latest_in k stamp old (x ∷ xs) = latest_in k stamp (if is_lt (stamp_cmp x.0 stamp) then left_at k old x.1 else old) xs

-- whether the server has a part of the transaction
abbrev pub takes_part : ℕ → Decision → Bool
takes_part n d = d.0.trans.server == n || has_server n d.1

-- what a transaction changed at a server: as it was applied there, or as its ready part will
abbrev pub left_in : State → Stamp → Option (List Edit) → List Edit
left_in s x (Some es) = es
left_in s x None = edits_in (s.holder.lives x.trans)

abbrev pub left_there : Log → ℕ → Decision → List Edit
left_there log n d = if takes_part n d then left_in (final log n) d.0 (entries.find stamp_cmp d.0 (final log n).holder.left) else []

-- what each of them changed there, by their stamps
abbrev pub left_of_each : Log → ℕ → List Decision → List (Stamp × List Edit)
left_of_each log n ds = list_map (λ (d : Decision). (d.0, left_there log n d)) ds

-- the cell that the decided transaction of the greatest smaller stamp left at a place, or the one of the start
abbrev pub latest : Log → ℕ → Key → Stamp → Option Cell
latest log n k stamp = latest_in k stamp (map.get (start_of log n) k) (left_of_each log n (decided log))

-- where the thread comes to a transaction its files hold at each place what is the latest there
abbrev pub AreLatest : Log → Standings → List Decision → Type 0
AreLatest log at [] = Unit {0}
AreLatest log at (d ∷ ds) = ((n : ℕ) (k : Key) → map.get (at n).files k ≡ latest log n k d.0) × AreLatest log (after_shares at (shares_of log d)) ds
