-- What a change of cells comes to.
use Rattle.std.specs.Prelude.{List, ◌++◌, map as list_map}
use Rattle.std.specs.List.{IsDistinct}
use Rattle.std.specs.Ordering.{eq_by_cmp}
use Rattle.alp_base.specs.declared.key.Key.{Key}
use Rattle.alp_base.specs.Keys.{key_cmp}
use Rattle.alp_base.specs.declared.cell.Cell.{Cell}
use Rattle.alp_base.specs.declared.change.Change.{Change}
use Rattle.alp_files.specs.Edits.{Edit, Drop, Cut}
use Rattle.alp_files.specs.Undo.{puts_of}

-- first the drops, then the cuts, then the puts
abbrev pub edits_of : Change → List Edit
edits_of c = list_map Drop c.drops ++ (list_map (λ p. Cut p.0 p.1) c.cuts ++ puts_of c.puts)

-- no key is put twice
abbrev pub ArePutOnce : List (Key × Cell) → Type 0
ArePutOnce puts = IsDistinct (eq_by_cmp key_cmp) (list_map (λ p. p.0) puts)
