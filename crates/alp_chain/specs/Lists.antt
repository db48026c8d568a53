-- lists of nodes, by the number of the list
use Rattle.std.specs.Prelude.{ℕ, cond, eqb, List, [], ◌∷◌, ◌++◌, map as list_map, Option, Some, None, slice_get}
use Rattle.std.specs.Option.{unwrap_or}
use Rattle.std.specs.Ordering.{nat_cmp}
use Rattle.std.specs.FinMap as map
use Rattle.alp_chain.specs.declared.links.Links.{Links}
use Rattle.alp_chain.specs.declared.links.Ends.{Ends}
use Rattle.alp_chain.specs.Linked.{walk, without}

abbrev pub Lists : Type 0
Lists = map.FinMap nat_cmp (List ℕ)

abbrev pub list_at : Lists → ℕ → List ℕ
list_at m k = unwrap_or (map.get m k) []

-- the lists with this one under that number
abbrev pub with_list : Lists → ℕ → List ℕ → Lists
with_list m k [] = map.remove m k
with_list m k (x ∷ xs) = map.insert m k (x ∷ xs)

-- the lists with a node at the end of one
abbrev pub with_last : Lists → ℕ → ℕ → Lists
with_last m k n = with_list m k (list_at m k ++ n ∷ [])

-- the lists with a node taken off one
abbrev pub taken_off : Lists → ℕ → ℕ → Lists
taken_off m k n = with_list m k (without n (list_at m k))

-- what comes after a number in a list
abbrev pub next_in : ℕ → List ℕ → Option ℕ
next_in n [] = None
next_in n (x ∷ xs) = cond (eqb n x) (slice_get xs 0) (next_in n xs)

-- the lists of nodes below d that links and ends show
abbrev pub lists_of : ℕ → (ℕ → Links) → map.FinMap nat_cmp Ends → Lists
lists_of d f ends = map.from_entries (list_map (λ (e : ℕ × Ends). (e.0, walk d f (Some e.1.first))) (map.entries ends))
