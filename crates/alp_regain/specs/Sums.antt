-- Numbers of pages by owners' names.
use Rattle.std.specs.Prelude.{◌≡◌, ◌≤◌, ◌^◌, ℕ, sum_by, List, unwrap_or, if◌then◌else◌}
use Rattle.std.specs.FinMap as map
use Rattle.std.specs.FinMap.{FinMap}
use Rattle.std.specs.Cmp.Lexicographic.{slice_cmp}
use Rattle.std.specs.Ordering.{nat_cmp}
use Rattle.std.specs.declared.cmp.Ordering.{Ordering}
use Rattle.alp_base.specs.declared.cell.Cell.{Cell}
use Rattle.alp_base.specs.declared.key.Key.{Key}
use Rattle.alp_files.specs.Cells.{same_name}
use Rattle.alp_files.specs.Files.{cost}

abbrev pub name_cmp : List ℕ → List ℕ → Ordering
name_cmp = slice_cmp nat_cmp

abbrev pub Charges : Type 0
Charges = FinMap name_cmp ℕ

-- an owner that is not there is charged nothing
abbrev pub charge_at : Charges → List ℕ → ℕ
charge_at t name = unwrap_or (map.get t name) 0

-- so many pages, where the owner has that name
abbrev pub pages_for : (owner : List ℕ) → ℕ → (name : List ℕ) → ℕ
pages_for owner pages name = if same_name owner name then pages else 0

-- they are the charges for these cells
abbrev pub AreChargesOf : Charges → List (Key × Cell) → Type 0
AreChargesOf t es = (name : List ℕ) → charge_at t name ≡ sum_by (λ (e : Key × Cell). cost name e.1) es

-- no charge comes near the end of its range
abbrev pub AreSmall : Charges → Type 0
AreSmall t = (name : List ℕ) → charge_at t name ≤ 2 ^ 100
