-- Pages that name the places of other pages, each in a row of numbers, whatever their kinds.
use Rattle.std.specs.Prelude.{◌≡◌, ◌<◌, ℕ, List, slice_index_or, Option, Some}
use Rattle.alp_pages.specs.Naming.{Naming, number_or_0}

-- which node is named by which number of a node's row, how long rows are, and how they are read from a page
pub record Kinds (K : Type 0) : Type 0 where
  pub child : K → ℕ → K
  pub width : K → ℕ
  pub row_of : K → List ℕ → Option (List ℕ)

-- the page says where the node's children stand
pub record SpellsRow {K : Type 0} (kinds : Kinds K) (places : Naming K) (bytes : List ℕ) (k : K) : Type 0 where
  pub row : List ℕ
  pub reads : kinds.row_of k bytes ≡ Some row
  pub says : (j : ℕ) → j < kinds.width k → slice_index_or row j 0 ≡ number_or_0 (places.of (kinds.child k j))
