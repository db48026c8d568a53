-- What a server was started on: its cells, and what its notes keep.
use Rattle.std.specs.Prelude.{ℕ, List, Option, None, Some}
use Rattle.std.specs.List.{filter_map}
use Rattle.std.specs.FinMap as map
use Rattle.alp_base.specs.declared.ids.JoinNo.{JoinNo}
use Rattle.alp_base.specs.declared.ids.TransId.{TransId}
use Rattle.alp_base.specs.declared.ids.Stamp.{Stamp}
use Rattle.alp_base.specs.Notes.{Notes}
use Rattle.alp_base.specs.declared.faults.Sizes.{Sizes}
use Rattle.alp_fields.specs.ClockNote.{clock_kept}
use Rattle.alp_fields.specs.ReadyNote.{ready_in}
use Rattle.alp_fields.specs.DecisionNote.{decision_in}
use Rattle.alp_fields.specs.declared.ready_note.ReadyPart.{ReadyPart}
use Rattle.alp_fields.specs.declared.decision_note.Decision.{Decision}
use Rattle.alp_files.specs.Changes.{edits_of}
use Rattle.alp_files.specs.Cells.{Cells}
use Rattle.alp_files.specs.Edits.{Edit}
use Rattle.alp_files.specs.Locks.{Need}

-- a part that voted for its commit: its locks, and what it changes (drops, then cuts, then puts)
pub record ReadyNote : Type 0 where
  pub join : JoinNo
  pub trans : TransId
  pub ts : ℕ
  pub client : ℕ
  pub locks : List Need
  pub edits : List Edit

-- a transaction that is decided, with its parts on other servers
pub record DecisionNote : Type 0 where
  pub stamp : Stamp
  pub joins : List JoinNo

pub record Start : Type 0 where
  pub server : ℕ
  pub servers : ℕ
  pub sizes : Sizes
  pub epoch : ℕ
  pub clock : ℕ
  pub cells : Cells
  pub ready : List ReadyNote
  pub decisions : List DecisionNote

-- ---- what notes keep

-- the part of that join, where a note keeps one
abbrev pub ready_noted : Option (JoinNo × ReadyPart) → Option ReadyNote
ready_noted None = None
ready_noted (Some x) = Some (record { join = x.0; trans = x.1.trans; ts = x.1.ts; client = x.1.client; locks = x.1.locks; edits = edits_of x.1.change })

-- and the decision of that transaction
abbrev pub decision_noted : Option (TransId × Decision) → Option DecisionNote
decision_noted None = None
decision_noted (Some x) = Some (record { stamp = record { ts = x.1.ts; trans = x.0 }; joins = x.1.joins })

-- those of all notes, by rising name
abbrev pub ready_kept : Notes → List ReadyNote
ready_kept notes = filter_map (λ e. ready_noted (ready_in e.0 e.1)) (map.entries notes)

abbrev pub decisions_kept : Notes → List DecisionNote
decisions_kept notes = filter_map (λ e. decision_noted (decision_in e.0 e.1)) (map.entries notes)

-- what a server of a run of so many is started on, by its cells and notes
abbrev pub start_at : (server servers : ℕ) → Sizes → Cells → Notes → Start
start_at server servers sizes cells notes = record {
  server = server;
  servers = servers;
  sizes = sizes;
  epoch = (clock_kept notes).epoch;
  clock = (clock_kept notes).clock;
  cells = cells;
  ready = ready_kept notes;
  decisions = decisions_kept notes;
}
