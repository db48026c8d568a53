-- The keys that a change clears, and what is left where some keys are kept.
use Rattle.std.specs.Prelude.{ℕ, Bool, true, false, not, ◌&&◌, ◌||◌, nat_le, nat_lt, cond, List, ◌++◌, map as list_map, Option, None, Some}
use Rattle.std.specs.List.{list_any}
use Rattle.std.specs.FinMap as map
use Rattle.alp_base.specs.declared.ids.FileId.{FileId}
use Rattle.alp_base.specs.declared.key.Key.{Key}
use Rattle.alp_base.specs.declared.key.Key.TheVariants.{Leader, PageOf, OwnerOf}
use Rattle.alp_base.specs.declared.cell.Cell.{Cell}
use Rattle.alp_base.specs.declared.cell.Props.{Props}
use Rattle.alp_files.specs.Cells.{Cells, same_file, props_in}
use Rattle.alp_base.specs.declared.change.Change.{Change}
use Rattle.alp_vault.specs.declared.sweep.Sweep.{Sweep}

-- a page of the file from this number on, and below that one
abbrev pub is_page_between : FileId → ℕ → ℕ → Key → Bool
is_page_between f first end (Leader g) = false
is_page_between f first end (PageOf g n) = same_file f g && (nat_le first n && nat_lt n end)
is_page_between f first end (OwnerOf name) = false

abbrev pub is_leader_of : FileId → Key → Bool
is_leader_of f (Leader g) = same_file f g
is_leader_of f (PageOf g n) = false
is_leader_of f (OwnerOf name) = false

-- the pages of the sweep, and the leader where it takes that too
abbrev pub is_swept : Sweep → Key → Bool
is_swept s q = s.leader && is_leader_of s.file q || is_page_between s.file s.first s.end q

abbrev pub is_swept_by : List Sweep → Key → Bool
is_swept_by sweeps q = list_any (λ s. is_swept s q) sweeps

-- what is left at a key where these are cleared, but for those that are kept
abbrev pub left_of : Bool → Bool → Option Cell → Option Cell
left_of cleared keeps old = cond (cleared && not keeps) None old

abbrev pub size_or_none : Option Props → ℕ
size_or_none None = 0
size_or_none (Some p) = p.size

-- the size of a file, if there is one
abbrev pub size_at : Cells → FileId → ℕ
size_at m f = size_or_none (props_in (map.get m (Leader f)))

abbrev pub drop_sweep : Cells → FileId → Sweep
drop_sweep m f = record { file = f; first = 0; end = size_at m f; leader = true }

abbrev pub cut_sweep : Cells → FileId × ℕ → Sweep
cut_sweep m c = record { file = c.0; first = c.1; end = size_at m c.0; leader = false }

-- what the drops and cuts of a change clear
abbrev pub sweeps_of : Cells → Change → List Sweep
sweeps_of m change = list_map (drop_sweep m) change.drops ++ list_map (cut_sweep m) change.cuts
