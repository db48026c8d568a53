-- The order in which a note has keys and resources: that of their bytes.
use Rattle.std.specs.Prelude.{ℕ, List, length}
use Rattle.std.specs.Ordering.{nat_cmp, ordering_then}
use Rattle.std.specs.FinMap.{is_sorted}
use Rattle.std.specs.declared.cmp.Ordering.{Ordering}
use Rattle.std.proofs.Math.Dec.{T}
use Rattle.alp_base.specs.declared.key.Key.{Key}
use Rattle.alp_base.specs.declared.key.Key.TheVariants.{Leader, PageOf, OwnerOf}
use Rattle.alp_base.specs.declared.key.Resource.{Resource}
use Rattle.alp_base.specs.declared.key.Resource.TheVariants.{Whole, Leaf}
use Rattle.alp_base.specs.declared.cell.Cell.{Cell}
use Rattle.alp_base.specs.Keys.{key_cmp}
use Rattle.alp_base.specs.Orders.{resource_cmp}
use Rattle.alp_modes.specs.declared.Mode.{Mode}

-- the length of the name that a key has; a key without a name has 0
abbrev pub name_length : Key → ℕ
name_length (Leader f) = 0
name_length (PageOf f n) = 0
name_length (OwnerOf name) = length name

abbrev pub named_length : Resource → ℕ
named_length (Whole f) = 0
named_length (Leaf k) = name_length k

-- A name stands behind its length, so a shorter one comes first. Else keys stand in their own order.
abbrev pub note_cmp : Key → Key → Ordering
note_cmp k l = ordering_then (nat_cmp (name_length k) (name_length l)) (key_cmp k l)

abbrev pub noted_cmp : Resource → Resource → Ordering
noted_cmp r s = ordering_then (nat_cmp (named_length r) (named_length s)) (resource_cmp r s)

-- each resource, and each key, is before those behind it in the list
abbrev pub AreRising : {X : Type 0} → List (Resource × X) → Type 0
AreRising es = T (is_sorted resource_cmp es)

abbrev pub AreRisingKeys : {X : Type 0} → List (Key × X) → Type 0
AreRisingKeys es = T (is_sorted key_cmp es)

-- the number by which they are sorted anew
abbrev pub put_number : Key × Cell → ℕ
put_number e = name_length e.0

abbrev pub lock_number : Resource × Mode → ℕ
lock_number e = named_length e.0
