-- Tables in two rows: keys in rising order, and beside each its value.
use Rattle.std.specs.Prelude.{◌≡◌, ℕ, ◌<◌, ◌≤◌, true, List, zip, length, get_or}
use Rattle.std.specs.declared.cmp.Ordering.{Ordering}
use Rattle.std.specs.declared.cmp.Ordering.TheVariants.{Less, Equal, Greater}
use Rattle.std.specs.FinMap as map
use Rattle.std.specs.FinMap.{FinMap}

-- the map that the rows show
abbrev pub rows_in : {K X : Type 0} → (R : K → K → Ordering) → List K → List X → FinMap R X
rows_in R keys values = map.from_sorted (zip keys values)

pub record AreRows {K X : Type 0} (R : K → K → Ordering) (keys : List K) (values : List X) : Type 0 where
  pub paired : length keys ≡ length values
  pub rising : map.is_sorted R (zip keys values) ≡ true

-- all keys before this place are below the key
abbrev pub AreBelow : {K : Type 0} → (K → K → Ordering) → K → List K → ℕ → Type 0
AreBelow R x xs i = (k : ℕ) → k < i → R x (get_or xs k x) ≡ Greater

-- where the key stands
pub record IsAt {K : Type 0} (R : K → K → Ordering) (x : K) (xs : List K) (i : ℕ) : Type 0 where
  pub within : i < length xs
  pub below : AreBelow R x xs i
  pub here : R x (get_or xs i x) ≡ Equal

-- where it would stand
pub record IsPlace {K : Type 0} (R : K → K → Ordering) (x : K) (xs : List K) (i : ℕ) : Type 0 where
  pub within : i ≤ length xs
  pub below : AreBelow R x xs i
  pub above : i < length xs → R x (get_or xs i x) ≡ Less

-- the rows are a table of at most so many, with room for all in each
pub record IsTable {K X : Type 0} (R : K → K → Ordering) (most : ℕ) (keys : List K) (values : List X) (first second : ℕ) : Type 0 where
  pub rows : AreRows R keys values
  pub few : length keys ≤ most
  pub keys_fit : most ≤ first
  pub values_fit : most ≤ second
