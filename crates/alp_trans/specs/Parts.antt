-- A part as the server keeps it.
use Rattle.std.specs.Prelude.{◌≡◌, ℕ, min, Bool, true, false, not, List, [], ◌∷◌, Option, None, Some, if◌then◌else◌}
use Rattle.std.specs.List.{list_all}
use Rattle.std.specs.FinMap as map
use Rattle.alp_base.specs.declared.ids.FileId.{FileId}
use Rattle.alp_base.specs.declared.key.Key.{Key}
use Rattle.alp_base.specs.declared.cell.Cell.{Cell}
use Rattle.alp_base.specs.declared.change.Change.{Change}
use Rattle.alp_files.specs.Act.{Own}
use Rattle.alp_files.specs.Cells.{Cells, same_file}
use Rattle.alp_files.specs.Edits.{Edit, Drop, Cut, is_in_file, is_past}
use Rattle.alp_files.specs.Needs.{Intents, intents_from, with_puts}
use Rattle.alp_trans.specs.declared.gone.Gone.{Gone}
use Rattle.alp_trans.specs.declared.gone.Gone.TheVariants as gone
use Rattle.alp_trans.specs.declared.part.Part.{Part}

abbrev pub own_of : Part → Own
own_of p = record { last = p.last; opens = p.opens.items }

-- the change that intents come to
abbrev pub change_of : Intents → Change
change_of i = record { drops = map.keys i.drops; cuts = map.entries i.cuts; puts = map.entries i.puts }

-- what goes, as edits
abbrev pub gone_edit : Gone → Edit
gone_edit (gone.File f) = Drop f
gone_edit (gone.Pages f n) = Cut f n

abbrev pub gone_edits : Option Gone → List Edit
gone_edits None = []
gone_edits (Some g) = gone_edit g ∷ []

abbrev pub file_gone : Gone → FileId
file_gone (gone.File f) = f
file_gone (gone.Pages f n) = f

-- whether what goes takes the cell at a key
abbrev pub takes : Option Gone → Key → Bool
takes None k = false
takes (Some (gone.File f)) k = is_in_file f k
takes (Some (gone.Pages f n)) k = is_past f n k

-- the first page number of a file that it takes, if it takes one
abbrev pub first_taken : Option Gone → FileId → Option ℕ
first_taken None g = None
first_taken (Some (gone.File f)) g = if same_file f g then Some 0 else None
first_taken (Some (gone.Pages f n)) g = if same_file f g then Some n else None

-- the lesser of two numbers, or the one that there is
abbrev pub least_of : Option ℕ → Option ℕ → Option ℕ
least_of None n = n
least_of (Some m) None = Some m
least_of (Some m) (Some n) = Some (min m n)

-- intents with what goes, and with these puts in place of theirs
abbrev pub ahead_of : Intents → Option Gone → Cells → Intents
ahead_of i g puts = intents_from (with_puts i puts) (gone_edits g)

-- no cell is put where something goes
abbrev pub AreBeside : Option Gone → List (Key × Cell) → Type 0
AreBeside g puts = list_all (λ p. not (takes g p.0)) puts ≡ true
