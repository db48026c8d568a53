-- The acts and the numbers of calls say what the machine does: which transactions committed, and what each did at each server.
use Rattle.std.specs.Prelude.{◌≡◌, ℕ, map as list_map}
use Rattle.std.specs.List.{AllByRecursion}
use Rattle.alp_base.specs.declared.ids.Stamp.{Stamp}
use Rattle.alp_files.specs.History.{Decided}
use Rattle.alp_journal.specs.Along.{Along}
use Rattle.alp_journal.specs.Answered.{IsAnsweredSo}
use Rattle.alp_journal.specs.Moves.{next}
use Rattle.alp_journal.specs.State.{opened}
use Rattle.alp_history.specs.Log.{Log, journal_of, opening_of, decided, starting_all, finish_of}
use Rattle.alp_history.specs.Theorems.{IsProper, IsDecided, HasShare}
use Rattle.alp_history.specs.Committed.{Done, committed, part_at, Serial, Charged}

-- the transactions that acts decide with effect, by rising stamp, are the decided ones
abbrev pub Committing : Type 0
Committing = (log : Log) → IsProper log → committed log ≡ decided log

-- each reply comes by its cause
abbrev pub AreAnswered : Log → Type 0
AreAnswered log = (n : ℕ) → Along next IsAnsweredSo (opened (opening_of log n)) (journal_of log n)

-- What the numbers of calls say that a server did for a decided transaction is its share of it. A thread that does this for one after the other
-- is answered so, ends in the files that the servers hold, and charges are the sizes of files behind each.
pub record AreByNumbers (log : Log) : Type 0 where
  pub parts : (x : Stamp) → IsDecided log x → (n : ℕ) (share : Decided) → HasShare log x n share
      → (share.calls ≡ list_map (λ (d : Done). d.call) (part_at log x n)) × AllByRecursion (λ (d : Done). d.who ≡ share.who) (part_at log x n)
  pub serial : Serial log (starting_all log) (committed log) (λ n m. finish_of log n ≡ m)
  pub charged : Charged log (starting_all log) (committed log)

abbrev pub Numbering : Type 0
Numbering = (log : Log) → IsProper log → AreAnswered log → AreByNumbers log
