-- Notes in two rows: names in rising order, and beside each its value.
use Rattle.std.specs.Prelude.{◌≡◌, ℕ, ◌<◌, ◌≤◌, true, List, zip, length, get_or}
use Rattle.std.specs.declared.cmp.Ordering.TheVariants.{Less, Equal, Greater}
use Rattle.std.specs.FinMap as map
use Rattle.alp_base.specs.Notes.{Notes, text_cmp}

-- the notes that the rows show
abbrev pub notes_in : List (List ℕ) → List (List ℕ) → Notes
notes_in names values = map.from_sorted (zip names values)

pub record AreRows (names values : List (List ℕ)) : Type 0 where
  pub paired : length names ≡ length values
  pub rising : map.is_sorted text_cmp (zip names values) ≡ true

-- all names before this place are below the name
abbrev pub AreBelow : List ℕ → List (List ℕ) → ℕ → Type 0
AreBelow x xs i = (k : ℕ) → k < i → text_cmp x (get_or xs k x) ≡ Greater

-- where the name stands
pub record IsAt (x : List ℕ) (xs : List (List ℕ)) (i : ℕ) : Type 0 where
  pub within : i < length xs
  pub below : AreBelow x xs i
  pub here : text_cmp x (get_or xs i x) ≡ Equal

-- where it would stand
pub record IsPlace (x : List ℕ) (xs : List (List ℕ)) (i : ℕ) : Type 0 where
  pub within : i ≤ length xs
  pub below : AreBelow x xs i
  pub above : i < length xs → text_cmp x (get_or xs i x) ≡ Less
