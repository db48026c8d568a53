-- What the notes of a server keep, as they are read one by one.
use Rattle.std.specs.Prelude.{ℕ, Bool, true, List, Option, None, Some}
use Rattle.std.specs.List.{filter_map, list_all}
use Rattle.std.specs.Option.{option_and_then}
use Rattle.std.specs.FinMap as map
use Rattle.alp_base.specs.Notes.{Notes}
use Rattle.alp_base.specs.declared.ids.JoinNo.{JoinNo}
use Rattle.alp_fields.specs.ReadyNote.{ready_in}
use Rattle.alp_fields.specs.DecisionNote.{decision_in}
use Rattle.alp_fields.specs.declared.ready_note.ReadyPart.{ReadyPart}
use Rattle.alp_files.specs.Changes.{edits_of}
use Rattle.alp_vault.specs.Volumes.{is_server_note}
use Rattle.alp_journal.specs.Opening.{ReadyNote, DecisionNote, decision_noted}

-- the part of that join, and the decision of that transaction
abbrev pub part_note : JoinNo × ReadyPart → ReadyNote
part_note x = record { join = x.0; trans = x.1.trans; ts = x.1.ts; client = x.1.client; locks = x.1.locks; edits = edits_of x.1.change }

-- what the note of that name keeps, if it stands
abbrev pub part_under : Notes → List ℕ → Option (JoinNo × ReadyPart)
part_under notes name = option_and_then (λ value. ready_in name value) (map.get notes name)

abbrev pub decision_under : Notes → List ℕ → Option DecisionNote
decision_under notes name = option_and_then (λ value. decision_noted (decision_in name value)) (map.get notes name)

-- and what those of these names keep
abbrev pub parts_under : Notes → List (List ℕ) → List (JoinNo × ReadyPart)
parts_under notes names = filter_map (part_under notes) names

abbrev pub decisions_under : Notes → List (List ℕ) → List DecisionNote
decisions_under notes names = filter_map (decision_under notes) names

-- whether it is in the format, and whether all of them are
abbrev pub is_good : (server servers : ℕ) → List ℕ → Option (List ℕ) → Bool
is_good server servers name None = true
is_good server servers name (Some value) = is_server_note server servers name value

abbrev pub are_good : (server servers : ℕ) → Notes → List (List ℕ) → Bool
are_good server servers notes names = list_all (λ name. is_good server servers name (map.get notes name)) names
