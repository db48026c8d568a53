-- What is left for a part beside what all live parts come to.
use Rattle.std.specs.Prelude.{◌≡◌, ℕ, ◌+◌, ◌-◌, ◌^◌, ◌≤◌, min, Bool, IsTrue, Result, Ok, Err, if◌then◌else◌}
use Rattle.alp_base.specs.declared.faults.Sizes.{Sizes}
use Rattle.alp_calls.specs.Parts.{IsPart}
use Rattle.alp_calls.specs.declared.fault.CallFault.{CallFault}
use Rattle.alp_calls.specs.declared.limits.Room.{Room}
use Rattle.alp_files.specs.Cells.{Cells}
use Rattle.alp_files.specs.Counts.{used_of, file_count_of, owner_count_of}
use Rattle.alp_journal.specs.Counts.{log_need}
use Rattle.alp_vault.specs.declared.limits.TheConstants.{HEAD_PAGES}
use Rattle.alp_node.specs.Asks.{is_made}
use Rattle.alp_node.specs.Totals.{totals_of}
use Rattle.alp_node.specs.declared.answer.Given.{Given}
use Rattle.alp_node.specs.declared.lives.Live.{Live}
use Rattle.alp_node.specs.declared.lock_counts.LockCounts.{LockCounts}
use Rattle.alp_node.specs.declared.server_state.ServerState.{ServerState}

-- files and owners are no more than can be counted
abbrev pub counted : ℕ → ℕ
counted n = min n (2 ^ 32 - 1)

-- beside these cells, for a part that would have so many resources locked
pub record IsRoomOf {V : Type 0} (tells : Bool) (cells : Cells) (k : ServerState V) (locks : ℕ) (r : Room) : Type 0 where
  pub left : IsTrue tells → r.left ≡ k.sizes.home - HEAD_PAGES - used_of cells - (totals_of k.lives).places
  pub files : IsTrue tells → r.files ≡ counted (file_count_of cells + (totals_of k.lives).files)
  pub owners : IsTrue tells → r.owners ≡ counted (owner_count_of cells + (totals_of k.lives).owners)
  pub area : r.area ≡ k.sizes.area
  pub held : r.locks ≡ locks

-- what is true of each live part, whatever the vault tells: it is within its limits, and the log has room for it
pub record IsWithin (s : Sizes) (l : Live) : Type 0 where
  pub part : IsPart l.part
  pub locks : l.locks ≤ 1024
  pub log : log_need l.part.counts.cells l.locks ≤ s.area

-- how many resources it has locked behind a call that was answered so; without an answer it has as many as before
abbrev pub locks_given : ℕ → LockCounts → Result Given CallFault → ℕ
locks_given locks n (Ok x) = if is_made x.reply then n.made else n.asked
locks_given locks n (Err e) = locks
