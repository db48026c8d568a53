-- Cells as they stand in notes, and changes of cells: the files that go, those that are cut, and the cells that are put.
use Rattle.std.specs.Prelude.{◌≡◌, ◌<◌, ◌^◌, ℕ, Bool, true, false, List, ◌++◌, length, Option, None, Some}
use Rattle.std.specs.List.{AllByRecursion}
use Rattle.alp_base.specs.declared.ids.FileId.{FileId}
use Rattle.alp_base.specs.declared.key.Key.{Key}
use Rattle.alp_base.specs.declared.key.Key.TheVariants.{Leader, PageOf, OwnerOf}
use Rattle.alp_base.specs.declared.cell.Cell.{Cell}
use Rattle.alp_base.specs.declared.cell.Cell.TheVariants as cell
use Rattle.alp_base.specs.declared.change.Change.{Change}
use Rattle.alp_fields.specs.Forms.{Form, ◌>>=◌, pair, mapped, Reader, variant, u32}
use Rattle.alp_fields.specs.Fields.{file_id, key, page}
use Rattle.alp_fields.specs.PropsField.{props}
use Rattle.alp_fields.specs.OwnerField.{owner_record}
use Rattle.alp_fields.specs.Rising.{rise, rising}

-- ---- cells

-- a leader as properties, a page as its bytes, an owner as the 256 bytes of an owner's record
abbrev pub spell_cell : Cell → List ℕ
spell_cell (cell.Leader p) = props.spell p
spell_cell (cell.Page bytes) = page.spell bytes
spell_cell (cell.Owner o) = owner_record.spell o

-- the key says which of them it is
abbrev pub FitsCellAt : Key → Cell → Type 0
FitsCellAt (Leader f) (cell.Leader p) = props.Fits p
FitsCellAt (Leader f) (cell.Page bytes) = ⊥
FitsCellAt (Leader f) (cell.Owner o) = ⊥
FitsCellAt (PageOf f n) (cell.Leader p) = ⊥
FitsCellAt (PageOf f n) (cell.Page bytes) = page.Fits bytes
FitsCellAt (PageOf f n) (cell.Owner o) = ⊥
FitsCellAt (OwnerOf n) (cell.Leader p) = ⊥
FitsCellAt (OwnerOf n) (cell.Page bytes) = ⊥
FitsCellAt (OwnerOf n) (cell.Owner o) = owner_record.Fits o

abbrev pub read_cell_at : Key → Reader Cell
read_cell_at (Leader f) = variant cell.Leader props
read_cell_at (PageOf f n) = variant cell.Page page
read_cell_at (OwnerOf n) = variant cell.Owner owner_record

abbrev pub cell_at : Key → Form Cell
cell_at k = record { spell = spell_cell; Fits = FitsCellAt k; read = read_cell_at k }

-- whether the cell is of the key's kind
abbrev pub is_cell_of : Key → Cell → Bool
is_cell_of (Leader f) (cell.Leader p) = true
is_cell_of (Leader f) (cell.Page bytes) = false
is_cell_of (Leader f) (cell.Owner o) = false
is_cell_of (PageOf f n) (cell.Leader p) = false
is_cell_of (PageOf f n) (cell.Page bytes) = true
is_cell_of (PageOf f n) (cell.Owner o) = false
is_cell_of (OwnerOf n) (cell.Leader p) = false
is_cell_of (OwnerOf n) (cell.Page bytes) = false
is_cell_of (OwnerOf n) (cell.Owner o) = true

-- a key, and the cell at it
unfoldable pub placed : Form (Key × Cell)
placed = record {
  spell = λ p. key.spell p.0 ++ spell_cell p.1;
  Fits = λ p. key.Fits p.0 × FitsCellAt p.0 p.1;
  read = λ bytes. do
    k ← key.read bytes
    c ← read_cell_at k.0 k.1
    Some ((k.0, c.0), c.1);
}

-- ---- changes

-- a file, and the number of pages that it keeps
unfoldable pub cut : Form (FileId × ℕ)
cut = pair file_id u32

-- the files that go, those that are cut, and the cells that are put, each list in the rising order of its items' bytes
abbrev pub ChangeParts : Type 0
ChangeParts = List FileId × (List (FileId × ℕ) × List (Key × Cell))

abbrev pub change_of : ChangeParts → Change
change_of x = record { drops = x.0; cuts = x.1.0; puts = x.1.1 }

abbrev pub change_parts : Change → ChangeParts
change_parts c = (c.drops, (c.cuts, c.puts))

unfoldable pub change_form : Form Change
change_form = mapped change_of change_parts (pair (rising file_id) (pair (rising cut) (rising placed)))

-- what the types leave open and the spelling needs: few enough to be counted, in rising order, each cell of its key's kind
pub record IsNotedChange (c : Change) : Type 0 where
  pub few_drops : length c.drops < 2 ^ 16
  pub drops : rise file_id c.drops ≡ true
  pub few_cuts : length c.cuts < 2 ^ 16
  pub cuts : rise cut c.cuts ≡ true
  pub few_puts : length c.puts < 2 ^ 16
  pub puts : rise placed c.puts ≡ true
  pub kinds : AllByRecursion (λ (p : Key × Cell). is_cell_of p.0 p.1 ≡ true) c.puts
