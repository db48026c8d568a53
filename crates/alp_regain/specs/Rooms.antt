-- What regained parts come to.
use Rattle.std.specs.Prelude.{ℕ, ◌+◌, ◌≤◌, sum_by, List, [], length}
use Rattle.alp_base.specs.declared.faults.Sizes.{Sizes}
use Rattle.alp_files.specs.Cells.{Cells}
use Rattle.alp_files.specs.Counts.{used_of, file_count_of, owner_count_of}
use Rattle.alp_files.specs.Needs.{changed}
use Rattle.alp_journal.specs.Counts.{log_need, with_resources}
use Rattle.alp_journal.specs.Opening.{ReadyNote}
use Rattle.alp_vault.specs.declared.limits.TheConstants.{FILES_PER_SERVER, OWNERS_PER_SERVER, HEAD_PAGES}
use Rattle.alp_worker.specs.declared.room.PartSize.{PartSize}
use Rattle.alp_regain.specs.declared.part.RegainedPart.{RegainedPart}

-- what is counted of a part in the log
abbrev pub part_size : RegainedPart → PartSize
part_size p = record { cells = p.part.counts.cells; locks = p.locks }

-- the places, files and owners that it adds
abbrev pub places_in : RegainedPart → ℕ
places_in p = p.part.counts.places

abbrev pub files_in : RegainedPart → ℕ
files_in p = p.part.counts.files

abbrev pub owners_in : RegainedPart → ℕ
owners_in p = p.part.counts.owners

-- there is room for them beside the cells
pub record HaveRoomFor (s : Sizes) (m : Cells) (ps : List RegainedPart) : Type 0 where
  pub places : used_of m + sum_by places_in ps + HEAD_PAGES ≤ s.home
  pub files : file_count_of m + sum_by files_in ps ≤ FILES_PER_SERVER
  pub owners : owner_count_of m + sum_by owners_in ps ≤ OWNERS_PER_SERVER

-- while it runs, a part takes no more of the log than there is
abbrev pub FitsLogAlone : ℕ → ReadyNote → Type 0
FitsLogAlone area n = log_need (changed n.edits) (length (with_resources n.locks [])) ≤ area
