-- What changes of a map of cells come to: the cells that they change, the places that they add on a volume, and the files and
-- owners that they make.
use Rattle.std.specs.Prelude.{ℕ, ◌+◌, ◌-◌, min, Bool, true, false, not, ◌&&◌, ◌||◌, nat_le, List, [], ◌∷◌, filter, length, Option, None, Some, is_none, unwrap_or, if◌then◌else◌}
use Rattle.std.specs.Option.{option_or}
use Rattle.std.specs.FinMap as map
use Rattle.std.specs.FinMap.{FinMap}
use Rattle.alp_base.specs.declared.ids.FileId.{FileId}
use Rattle.alp_base.specs.declared.key.Key.{Key}
use Rattle.alp_base.specs.declared.key.Key.TheVariants.{Leader, PageOf, OwnerOf}
use Rattle.alp_base.specs.KeyLaws.{file_cmp}
use Rattle.alp_base.specs.declared.cell.Cell.{Cell}
use Rattle.alp_files.specs.Cells.{Cells, View}
use Rattle.alp_files.specs.Counts.{used_of}
use Rattle.alp_files.specs.Edits.{Edit, Drop, Cut, Put, is_in_file, is_past, edits_map}

-- ---- what changes come to

-- a finite set of files
abbrev pub Files : Type 0
Files = FinMap file_cmp (Unit {0})

abbrev pub files_of : List FileId → Files
files_of [] = map.empty
files_of (f ∷ fs) = map.insert (files_of fs) f tt

-- files, and of each the first page number that goes
abbrev pub CutFiles : Type 0
CutFiles = FinMap file_cmp ℕ

-- files that go, files of which the pages from a number on go, and cells that are put
pub record Intents : Type 0 where
  pub drops : Files
  pub cuts : CutFiles
  pub puts : Cells

abbrev pub no_intents : Intents
no_intents = record { drops = map.empty; cuts = map.empty; puts = map.empty }

-- a file that is cut twice loses its pages from the lesser number on
abbrev pub cut_from : CutFiles → FileId → ℕ → ℕ
cut_from cuts f n = min n (unwrap_or (map.get cuts f) n)

-- what goes takes with it what was put there before
abbrev pub intend : Edit → Intents → Intents
intend (Drop f) i = record { drops = map.insert i.drops f tt; cuts = map.remove i.cuts f; puts = map.retain_keys i.puts (λ k. not (is_in_file f k)) }
intend (Cut f n) i = record { drops = i.drops; cuts = map.insert i.cuts f (cut_from i.cuts f n); puts = map.retain_keys i.puts (λ k. not (is_past f n k)) }
intend (Put k c) i = record { drops = i.drops; cuts = i.cuts; puts = map.insert i.puts k c }

abbrev pub intents_from : Intents → List Edit → Intents
intents_from i [] = i
intents_from i (e ∷ es) = intents_from (intend e i) es

abbrev pub intents_of : List Edit → Intents
intents_of es = intents_from no_intents es

-- a page with this number goes where its file is cut so
abbrev pub is_cut : Option ℕ → ℕ → Bool
is_cut None n = false
is_cut (Some m) n = nat_le m n

-- what goes of the cells that lie below
abbrev pub is_gone : Intents → Key → Bool
is_gone i (Leader f) = map.contains_key i.drops f
is_gone i (PageOf f n) = map.contains_key i.drops f || is_cut (map.get i.cuts f) n
is_gone i (OwnerOf name) = false

-- the first page number of a file that goes, if one does
abbrev pub first_gone : Intents → FileId → Option ℕ
first_gone i f = if map.contains_key i.drops f then Some 0 else map.get i.cuts f

-- what is seen through intents
abbrev pub through : Intents → View → View
through i m q = option_or (map.get i.puts q) (if is_gone i q then None else m q)

-- the same with other puts
abbrev pub with_puts : Intents → Cells → Intents
with_puts i puts = record { drops = i.drops; cuts = i.cuts; puts = puts }

-- the cells and files that intents change
abbrev pub changed_by : Intents → ℕ
changed_by i = map.len i.drops + map.len i.cuts + map.len i.puts

abbrev pub changed : List Edit → ℕ
changed es = changed_by (intents_of es)

-- how often a file counts among these, besides its cells
abbrev pub marks_of : Intents → FileId → ℕ
marks_of i f = (if map.contains_key i.drops f then 1 else 0) + (if map.contains_key i.cuts f then 1 else 0)

-- ---- places on the volume

abbrev pub is_put : Edit → Bool
is_put (Put k c) = true
is_put e = false

-- what the drops and cuts leave
abbrev pub left_of : Cells → List Edit → Cells
left_of m es = edits_map (filter (λ e. not (is_put e)) es) m

-- the places that changes add: those that the cells take then, less those that the drops and cuts leave
abbrev pub need_of : Cells → List Edit → ℕ
need_of m es = used_of (edits_map es m) - used_of (left_of m es)

-- the places that the drops and cuts give back
abbrev pub freed_of : Cells → List Edit → ℕ
freed_of m es = used_of m - used_of (left_of m es)

-- ---- files and owners that are made

abbrev pub is_leader : Key → Bool
is_leader (Leader f) = true
is_leader k = false

abbrev pub is_owner : Key → Bool
is_owner (OwnerOf name) = true
is_owner k = false

-- the files, or the owners, of a map that another one lacks
abbrev pub missing_in : (Key → Bool) → Cells → Cells → ℕ
missing_in p m x = length (filter (λ (e : Key × Cell). p e.0 && is_none (map.get m e.0)) (map.entries x))

-- those that stand behind the changes and did not before
abbrev pub made_of : (Key → Bool) → Cells → List Edit → ℕ
made_of p m es = missing_in p m (edits_map es m)

-- those that stood before and do not behind the changes
abbrev pub lost_of : (Key → Bool) → Cells → List Edit → ℕ
lost_of p m es = missing_in p (edits_map es m) m
