-- What notes keep, by what is looked up in them.
use Rattle.std.specs.Prelude.{◌≡◌, ℕ, Option, None, Some}
use Rattle.std.specs.Option.{option_and_then}
use Rattle.std.specs.FinMap as map
use Rattle.alp_base.specs.Notes.{Notes}
use Rattle.alp_base.specs.declared.ids.JoinNo.{JoinNo}
use Rattle.alp_base.specs.declared.ids.TransId.{TransId}
use Rattle.alp_fields.specs.Forms.{whole}
use Rattle.alp_fields.specs.ClockNote.{clock_kept}
use Rattle.alp_fields.specs.declared.clock_note.ClockNote.{ClockNote}
use Rattle.alp_fields.specs.ReadyNote.{ready_name, ready_form}
use Rattle.alp_fields.specs.declared.ready_note.ReadyPart.{ReadyPart}
use Rattle.alp_fields.specs.DecisionNote.{decision_name, decision_form}
use Rattle.alp_fields.specs.declared.decision_note.Decision.{Decision}
use Rattle.alp_vault.specs.Volumes.{AreServerNotes}

-- the part of that join, where a note keeps one
abbrev pub ready_at : Notes → JoinNo → Option ReadyPart
ready_at notes j = option_and_then (λ value. whole ready_form value) (map.get notes (ready_name.spell j))

-- the decision of that transaction
abbrev pub decision_at : Notes → TransId → Option Decision
decision_at notes t = option_and_then (λ value. whole decision_form value) (map.get notes (decision_name.spell t))

-- Notes keep an epoch and a clock; of each join a part or nothing, of which this is so; of each transaction this decision or nothing.
-- All are in the format of a server, one of so many. Joins and transactions are those whose numbers can be spelled.
pub record Keeps (server servers : ℕ) (told : ClockNote) (part : JoinNo → Option ReadyPart → Type 0) (fate : TransId → Option Decision) (notes : Notes) : Type 0 where
  pub clock : clock_kept notes ≡ told
  pub ready : (j : JoinNo) → ready_name.Fits j → part j (ready_at notes j)
  pub decided : (t : TransId) → decision_name.Fits t → decision_at notes t ≡ fate t
  pub format : AreServerNotes server servers notes
