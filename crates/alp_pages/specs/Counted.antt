-- How many places are taken, and which nodes a map of cells has.
use Rattle.std.specs.Prelude.{◌≡◌, ℕ, zero, suc, ◌+◌, ◌/◌, Bool, true, false, is_some, ◌*◌, List, [], ◌∷◌, ◌++◌, Option, None, Some}
use Rattle.std.specs.List.{list_any}
use Rattle.std.specs.FinMap as map
use Rattle.alp_base.specs.declared.key.Key.{Key}
use Rattle.alp_base.specs.declared.key.Key.TheVariants.{Leader, PageOf, OwnerOf}
use Rattle.alp_files.specs.Cells.{Cells}
use Rattle.alp_files.specs.Counts.{blocks_of}
use Rattle.alp_pages.specs.Nodes.{Node, LeaderOf, IndexOf, DataOf}
use Rattle.alp_pages.specs.Volume.{Volume}

abbrev pub bit : Bool → ℕ
bit true = 1
bit false = 0

-- how many numbers below n pass
abbrev pub count_below : (ℕ → Bool) → ℕ → ℕ
count_below g zero = 0
count_below g (suc n) = bit (g n) + count_below g n

-- how many home places something stands at
abbrev pub taken_places : ℕ → Volume → ℕ
taken_places home v = count_below (λ p. is_some (v.places.at p)) home

-- none of these stands twice
abbrev pub AreApart : {K : Type 0} → (K → K → Bool) → List K → Type 0
AreApart same [] = Unit {0}
AreApart same (k ∷ ks) = (list_any (same k) ks ≡ false) × AreApart same ks

-- whether what stands there is among these
abbrev pub is_among : {K : Type 0} → (K → K → Bool) → List K → Option K → Bool
is_among same ks None = false
is_among same ks (Some k) = list_any (same k) ks

-- the leaders and pages among keys
abbrev pub nodes_in : List Key → List Node
nodes_in [] = []
nodes_in (Leader f ∷ ks) = LeaderOf f ∷ nodes_in ks
nodes_in (PageOf f n ∷ ks) = DataOf f n ∷ nodes_in ks
nodes_in (OwnerOf o ∷ ks) = nodes_in ks

-- the index pages of blocks, each named by the first page number in it
abbrev pub indices_in : List Key → List Node
indices_in [] = []
indices_in (Leader f ∷ ks) = indices_in ks
indices_in (PageOf f n ∷ ks) = IndexOf f (n / 128) ∷ indices_in ks
indices_in (OwnerOf o ∷ ks) = indices_in ks

-- all that cells need places for
abbrev pub nodes_of : Cells → List Node
nodes_of m = nodes_in (map.keys m) ++ indices_in (map.keys (blocks_of (map.entries m)))

-- whether a node is one of the map's
abbrev pub is_held : Cells → Node → Bool
is_held m (LeaderOf f) = is_some (map.get m (Leader f))
is_held m (IndexOf f b) = map.contains_key (blocks_of (map.entries m)) (PageOf f (128 * b))
is_held m (DataOf f n) = is_some (map.get m (PageOf f n))
