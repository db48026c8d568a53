-- One thread's history of file calls: transactions, one after the other, each with its calls.
use Rattle.std.specs.Prelude.{◌≡◌, ℕ, List, [], ◌∷◌, ◌++◌, Some}
use Rattle.std.specs.Option.{option_to_list}
use Rattle.std.specs.FinMap as map
use Rattle.alp_base.specs.declared.ids.FileId.{FileId}
use Rattle.alp_base.specs.declared.ids.Stamp.{Stamp}
use Rattle.alp_files.specs.declared.call.Call.{Call}
use Rattle.alp_files.specs.declared.reply.Reply.{Reply}
use Rattle.alp_files.specs.Cells.{Cells}
use Rattle.alp_files.specs.Edits.{edits_map}
use Rattle.alp_files.specs.Act.{Own, no_opens, Answer, answer, id_in}

-- a call and the reply that was given to it
pub record PerformedCall : Type 0 where
  pub call : Call
  pub reply : Reply

-- where a thread stands: the files, the ids given to files so far, and the opens of its transaction
pub record Standing : Type 0 where
  pub files : Cells
  pub made : List FileId
  pub own : Own

abbrev pub answer_to : ℕ → Standing → List ℕ → PerformedCall → Answer
answer_to server s who d = answer server s.made (map.get s.files) who s.own d.call d.reply

-- the reply that was given is the right one
abbrev pub IsRight : ℕ → Standing → List ℕ → PerformedCall → Type 0
IsRight server s who d = (answer_to server s who d).reply ≡ Some d.reply

abbrev pub step : ℕ → Standing → List ℕ → PerformedCall → Standing
step server s who d = record {
  files = edits_map (answer_to server s who d).edits s.files;
  made = option_to_list (id_in d.reply) ++ s.made;
  own = (answer_to server s who d).own;
}

abbrev pub AreRight : ℕ → Standing → List ℕ → List PerformedCall → Type 0
AreRight server s who [] = Unit {0}
AreRight server s who (d ∷ ds) = IsRight server s who d × AreRight server (step server s who d) who ds

abbrev pub steps : ℕ → Standing → List ℕ → List PerformedCall → Standing
steps server s who [] = s
steps server s who (d ∷ ds) = steps server (step server s who d) who ds

-- a transaction that was decided: its stamp, its principal, and the file calls that its part performed
pub record Decided : Type 0 where
  pub stamp : Stamp
  pub who : List ℕ
  pub calls : List PerformedCall

-- at its begin a transaction has no opens
abbrev pub begun : Standing → Standing
begun s = record s { own = no_opens }

-- every reply of these transactions is the one that one thread gets that does them in this order
abbrev pub IsSerial : ℕ → Standing → List Decided → Type 0
IsSerial server s [] = Unit {0}
IsSerial server s (d ∷ ds) = AreRight server (begun s) d.who d.calls × IsSerial server (steps server (begun s) d.who d.calls) ds

-- where the thread stands at the end
abbrev pub serial_end : ℕ → Standing → List Decided → Standing
serial_end server s [] = s
serial_end server s (d ∷ ds) = serial_end server (steps server (begun s) d.who d.calls) ds

-- a thread that starts on these files
abbrev pub starting : Cells → Standing
starting files = record { files = files; made = []; own = no_opens }
