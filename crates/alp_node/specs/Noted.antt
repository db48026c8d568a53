-- The notes of a server by what it keeps, whatever its vault tells: one of its epoch; one of each part that voted and whose outcome is
-- not known; one of each decision that a part on another server has not applied. Nothing else stands.
use Rattle.std.specs.Prelude.{◌≡◌, ℕ, ◌≤◌, List, ◌∷◌, length, Option, None, Some, map as list_map}
use Rattle.std.specs.FinMap as map
use Rattle.alp_base.specs.Notes.{Notes}
use Rattle.alp_base.specs.declared.faults.Sizes.{Sizes}
use Rattle.alp_base.specs.declared.ids.JoinNo.{JoinNo}
use Rattle.alp_base.specs.declared.ids.TransId.{TransId}
use Rattle.alp_fields.specs.ClockNote.{clock_kept}
use Rattle.alp_fields.specs.ReadyNote.{ready_name}
use Rattle.alp_fields.specs.DecisionNote.{decision_name}
use Rattle.alp_fields.specs.declared.ready_note.ReadyPart.{ReadyPart}
use Rattle.alp_fields.specs.declared.decision_note.Decision.{Decision}
use Rattle.alp_ready.specs.NoteLooks.{ready_at, decision_at}
use Rattle.alp_vault.specs.Volumes.{AreServerNotes, changed_cells}
use Rattle.alp_journal.specs.Coordinator.{Fate, Committed}
use Rattle.alp_journal.specs.Counts.{ready_sum}
use Rattle.alp_coord.specs.declared.coordinator.Coordinator.{Coordinator}
use Rattle.alp_coord.specs.Coordinators.{fate_in}
use Rattle.alp_worker.specs.declared.joins.Joins.{Joins}
use Rattle.alp_worker.specs.declared.live.LiveJoin.{LiveJoin}
use Rattle.alp_worker.specs.declared.live.Stage.{Stage}
use Rattle.alp_worker.specs.declared.live.Stage.TheVariants as stage
use Rattle.alp_worker.specs.declared.room.PartSize.{PartSize}
use Rattle.alp_worker.specs.declared.room.ReadySum.{ReadySum}
use Rattle.alp_worker.specs.Lives.{join_at}
use Rattle.alp_worker.specs.Rooms.{sum_of}
use Rattle.alp_worker.specs.Walks.{ready_in}
use Rattle.alp_node.specs.declared.lives.Live.{Live}
use Rattle.alp_node.specs.declared.server_state.ServerState.{ServerState}
use Rattle.alp_node.specs.Totals.{LiveMap}

-- ---- decisions

-- a decision with joins that is not forgotten
abbrev pub decision_kept : Fate → Option Decision
decision_kept (Committed stamp (j ∷ js) done) = Some (record { ts = stamp.ts; joins = j ∷ js })
decision_kept f = None

-- ---- sizes

-- the cells that a part changes, and how many resources it has locked
abbrev pub size_of : Option Live → PartSize
size_of None = record { cells = 0; locks = 0 }
size_of (Some l) = record { cells = l.part.counts.cells; locks = l.locks }

abbrev pub size_in : LiveMap → TransId → PartSize
size_in lives t = size_of (map.get lives t)

-- what the parts that voted come to in the log
abbrev pub ready_room : LiveMap → List LiveJoin → ReadySum
ready_room lives ls = sum_of (list_map (size_in lives) (ready_in ls))

-- the log has room to apply any of them
abbrev pub HasReadyRoom : Sizes → ReadySum → Type 0
HasReadyRoom s n = ready_sum n.weights n.greatest ≤ s.area

-- ---- all of them

-- the note has as many locks and changes as many cells
pub record HasSize (n : PartSize) (p : ReadyPart) : Type 0 where
  pub locks : length p.locks ≡ n.locks
  pub cells : changed_cells p.change ≡ n.cells

-- of a part that voted, with the time of its vote
pub record IsNoteOf (lives : LiveMap) (l : LiveJoin) (time : ℕ) (p : ReadyPart) : Type 0 where
  pub trans : p.trans ≡ l.trans
  pub client : p.client ≡ l.client
  pub ts : p.ts ≡ time
  pub size : HasSize (size_in lives l.trans) p

-- a join that voted has its note, and no other join has one
abbrev pub IsNotedAs : LiveMap → LiveJoin → Stage → Option ReadyPart → Type 0
IsNotedAs lives l (stage.Ready ts) None = ⊥
IsNotedAs lives l (stage.Ready ts) (Some p) = IsNoteOf lives l ts p
IsNotedAs lives l s x = x ≡ None

abbrev pub IsNotedJoin : LiveMap → Option LiveJoin → Option ReadyPart → Type 0
IsNotedJoin lives None x = x ≡ None
IsNotedJoin lives (Some l) x = IsNotedAs lives l l.stage x

pub record AreNoted (server servers now : ℕ) (lives : LiveMap) (joins : Joins) (c : Coordinator) (notes : Notes) : Type 0 where
  pub epoch : (clock_kept notes).epoch ≡ now
  pub ready : (j : JoinNo) → ready_name.Fits j → IsNotedJoin lives (join_at joins.lives j) (ready_at notes j)
  pub decided : (t : TransId) → decision_name.Fits t → decision_at notes t ≡ decision_kept (fate_in c t)
  pub format : AreServerNotes server servers notes

abbrev pub AreNotesFor : {V : Type 0} → ServerState V → Notes → Type 0
AreNotesFor k notes = AreNoted k.server k.servers k.epoch k.lives k.joins k.coordinator notes
