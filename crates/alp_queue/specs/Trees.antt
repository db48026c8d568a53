-- a tree of locks as its entries
use Rattle.std.specs.Prelude.{ℕ, List, [], ◌∷◌, ◌++◌, Option, Some, None, cond, not, slice_get}
use Rattle.std.specs.Option.{option_and_then}
use Rattle.std.specs.List.{position_or_len}
use Rattle.std.specs.Ordering.{is_lt, eq_by_cmp}
use Rattle.std.proofs.Math.Dec.{T}
use Rattle.std.specs.FinMap.{is_sorted, put}
use Rattle.alp_base.specs.declared.key.Resource.{Resource}
use Rattle.alp_modes.specs.declared.Mode.{Mode}
use Rattle.alp_base.specs.Orders.{resource_cmp}
use Rattle.alp_queue.specs.declared.tree.Tree.{Tree, Empty, Fork'}
use Rattle.alp_queue.specs.declared.tree.Node.{Node}

-- the entries from left to right
abbrev pub entries : Tree → List (Resource × Mode)
entries Empty = []
entries (Fork' p left entry right height) = entries left ++ entry ∷ entries right

-- those of a node
abbrev pub entries_of : Node → List (Resource × Mode)
entries_of n = entries n.left ++ n.entry ∷ entries n.right

-- the resources rise
abbrev pub AreRising : List (Resource × Mode) → Type 0
AreRising es = T (is_sorted resource_cmp es)

-- entries with each of the first ones put among them
abbrev pub puts : List (Resource × Mode) → List (Resource × Mode) → List (Resource × Mode)
puts [] fs = fs
puts (e ∷ es) fs = put resource_cmp e.0 e.1 (puts es fs)

-- how many of the first entries come before that resource
abbrev pub lesser_in : Resource → List (Resource × Mode) → ℕ
lesser_in k es = position_or_len (λ e. not (is_lt (resource_cmp e.0 k))) es

-- the mode of the first entry, where it is of that resource
abbrev pub first_tied : Resource → List (Resource × Mode) → Option Mode
first_tied k es = option_and_then (λ e. cond (eq_by_cmp resource_cmp e.0 k) (Some e.1) None) (slice_get es 0)
