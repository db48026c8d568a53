-- What owners are charged with what intents put and what they take away, as it is looked at owner by owner.
use Rattle.std.specs.Prelude.{◌≡◌, ◌+◌, ℕ, Bool, true, ◌&&◌, ◌==◌, List, [], ◌∷◌, ◌++◌, Option, None, Some, unwrap_or, map as list_map}
use Rattle.std.specs.List.{filter_map, list_all, AllByRecursion}
use Rattle.std.specs.FinMap as map
use Rattle.alp_base.specs.declared.cell.Cell.{Cell}
use Rattle.alp_base.specs.declared.cell.Cell.TheVariants as cell
use Rattle.alp_base.specs.declared.change.Change.{Change}
use Rattle.alp_base.specs.declared.ids.FileId.{FileId}
use Rattle.alp_base.specs.declared.key.Key.{Key}
use Rattle.alp_base.specs.declared.key.Key.TheVariants.{Leader, PageOf, OwnerOf}
use Rattle.alp_files.specs.Cells.{Cells}
use Rattle.alp_files.specs.Files.{charge_of}
use Rattle.alp_files.specs.Needs.{Intents, intents_of, through}
use Rattle.alp_calls.specs.Parts.{AllFit}
use Rattle.alp_journal.specs.Opening.{ReadyNote}
use Rattle.alp_regain.specs.Touched.{charge_lost, is_touched}
use Rattle.alp_regain.specs.declared.part.RegainedPart.{RegainedPart}

-- ---- leaders that lie below

-- the file of a leader's key
abbrev pub leader_file : Key → Option FileId
leader_file (Leader f) = Some f
leader_file (PageOf f n) = None
leader_file (OwnerOf name) = None

-- files whose leaders are put
abbrev pub files_put : List (Key × Cell) → List FileId
files_put es = filter_map (λ (e : Key × Cell). leader_file e.0) es

-- files that go, and those
abbrev pub touched_in : Change → List FileId
touched_in c = c.drops ++ files_put c.puts

-- the leader of the file beside those that were gathered, if it has one
abbrev pub with_leader : FileId → Option Cell → Cells → Cells
with_leader f None below = below
with_leader f (Some c) below = map.insert below (Leader f) c

-- the leaders of these files beside those that were gathered
abbrev pub leaders_with : Cells → List FileId → Cells → Cells
leaders_with m [] below = below
leaders_with m (f ∷ fs) below = leaders_with m fs (with_leader f (map.get m (Leader f)) below)

-- ---- owners whose charges are looked at

-- whose cell it is
abbrev pub owner_named : Cell → Option (List ℕ)
owner_named (cell.Leader p) = Some p.owner
owner_named (cell.Page bytes) = None
owner_named (cell.Owner o) = Some o.name

-- the charge in an owner's record
abbrev pub charge_in : Option Cell → Option ℕ
charge_in (Some (cell.Leader p)) = None
charge_in (Some (cell.Page bytes)) = None
charge_in (Some (cell.Owner o)) = Some o.charge
charge_in None = None

-- a charge is that below, but for what was lost and what was put
abbrev pub adds_up : Option ℕ → (below lost put : ℕ) → Bool
adds_up None below lost put = true
adds_up (Some charge) below lost put = (charge + lost) == (below + put)

-- the owner's charge that is seen is the one below, but for what it lost and what was put
abbrev pub is_even : Intents → Cells → (lost put : List ℕ → ℕ) → List ℕ → Bool
is_even i m lost put name = adds_up (charge_in (through i (map.get m) (OwnerOf name))) (unwrap_or (charge_in (map.get m (OwnerOf name))) 0) (lost name) (put name)

abbrev pub is_even_for : Intents → Cells → (lost put : List ℕ → ℕ) → Option (List ℕ) → Bool
is_even_for i m lost put None = true
is_even_for i m lost put (Some name) = is_even i m lost put name

-- so are those of the owners of these cells
abbrev pub are_even : Intents → Cells → (lost put : List ℕ → ℕ) → List (Key × Cell) → Bool
are_even i m lost put es = list_all (λ (e : Key × Cell). is_even_for i m lost put (owner_named e.1)) es

-- By what the intents take away and put, the owners of all leaders that are touched are charged so, and those of all cells that are put.
abbrev pub is_balanced : Intents → Cells → Bool
is_balanced i m =
    are_even i m (charge_lost i m) (charge_of i.puts) (map.entries (map.retain_keys m (is_touched i)))
    && are_even i m (charge_lost i m) (charge_of i.puts) (map.entries i.puts)

-- ---- parts

abbrev pub intents_in : RegainedPart → Intents
intents_in p = p.part.intents

-- the parts intend what their notes say, and what they put fits
pub record DoIntend (ps : List RegainedPart) (ns : List ReadyNote) : Type 0 where
  pub same : list_map intents_in ps ≡ list_map (λ (n : ReadyNote). intents_of n.edits) ns
  pub fit : AllByRecursion (λ (i : Intents). AllFit i.puts) (list_map intents_in ps)
