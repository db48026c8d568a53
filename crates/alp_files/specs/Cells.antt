-- The files of one server: cells at keys.
use Rattle.std.specs.Prelude.{ℕ, zero, suc, ◌+◌, Bool, nat_eq, ◌==◌, ◌&&◌, List, [], ◌∷◌, Option, None, Some}
use Rattle.std.specs.List.{list_any, filter_map}
use Rattle.std.specs.FinMap as map
use Rattle.std.specs.FinMap.{FinMap}
use Rattle.std.specs.Cmp.Lexicographic.{pointwise}
use Rattle.alp_base.specs.declared.ids.FileId.{FileId}
use Rattle.alp_base.specs.declared.key.Key.{Key}
use Rattle.alp_base.specs.declared.key.Key.TheVariants.{PageOf}
use Rattle.alp_base.specs.Keys.{key_cmp}
use Rattle.alp_base.specs.Pages.{zero_page}
use Rattle.alp_base.specs.declared.cell.Cell.{Cell}
use Rattle.alp_base.specs.declared.cell.Cell.TheVariants as cell
use Rattle.alp_base.specs.declared.cell.Props.{Props}
use Rattle.alp_base.specs.declared.cell.OwnerRecord.{OwnerRecord}

-- a finite map from keys to cells
abbrev pub Cells : Type 0
Cells = FinMap key_cmp Cell

-- what is seen at each key
abbrev pub View : Type 0
View = Key → Option Cell

abbrev pub same_name : List ℕ → List ℕ → Bool
same_name = pointwise nat_eq

abbrev pub same_file : FileId → FileId → Bool
same_file a b = a.server == b.server && a.epoch == b.epoch && a.counter == b.counter

abbrev pub has_name : List ℕ → List (List ℕ) → Bool
has_name n names = list_any (λ x. same_name x n) names

abbrev pub has_file : FileId → List FileId → Bool
has_file f files = list_any (λ x. same_file x f) files

-- stand-ins where a cell is missing or of another kind; no call that is answered reads them
abbrev pub no_props : Props
no_props = record { owner = []; name = []; type_no = 0; create_time = 0; byte_length = 0; size = 0; high_water = 0; read = []; modify = [] }

abbrev pub no_owner : OwnerRecord
no_owner = record { name = []; quota = 0; charge = 0; create = [] }

-- the properties in a leader's cell
abbrev pub props_in : Option Cell → Option Props
props_in (Some (cell.Leader p)) = Some p
props_in (Some (cell.Page bytes)) = None
props_in (Some (cell.Owner o)) = None
props_in None = None

abbrev pub owner_in : Option Cell → Option OwnerRecord
owner_in (Some (cell.Owner o)) = Some o
owner_in (Some (cell.Page bytes)) = None
owner_in (Some (cell.Leader p)) = None
owner_in None = None

-- a page without a cell reads as zeros
abbrev pub page_in : Option Cell → List ℕ
page_in (Some (cell.Page bytes)) = bytes
page_in (Some (cell.Leader p)) = zero_page
page_in (Some (cell.Owner o)) = zero_page
page_in None = zero_page

-- the size in a leader's cell
abbrev pub size_in : Cell → Option ℕ
size_in (cell.Leader p) = Some p.size
size_in (cell.Page bytes) = None
size_in (cell.Owner o) = None

-- the sizes of the files, in key order
abbrev pub sizes_of : Cells → List ℕ
sizes_of m = filter_map size_in (map.values m)

-- the owners' records, by name
abbrev pub owners_of : Cells → List OwnerRecord
owners_of m = filter_map (λ c. owner_in (Some c)) (map.values m)

-- the pages in a row that are seen
abbrev pub pages_at : View → FileId → ℕ → ℕ → List (List ℕ)
pages_at m f first zero = []
pages_at m f first (suc n) = page_in (m (PageOf f first)) ∷ pages_at m f (first + 1) n
