-- What files cost their owners.
use Rattle.std.specs.Prelude.{ℕ, List, if◌then◌else◌}
use Rattle.alp_files.specs.Cells.{same_name}
use Rattle.alp_tables.specs.declared.cost.Cost.{Cost}

-- what a file costs an owner
abbrev pub cost_to : List ℕ → Cost → ℕ
cost_to name c = if same_name c.owner name then c.size else 0
