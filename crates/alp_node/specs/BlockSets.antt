-- The set of keys in a list.
use Rattle.std.specs.Prelude.{List, [], ◌∷◌}
use Rattle.std.specs.FinMap as map
use Rattle.alp_base.specs.declared.key.Key.{Key}
use Rattle.alp_files.specs.Counts.{Blocks}

abbrev pub set_of : List Key → Blocks
set_of [] = map.empty
set_of (k ∷ ks) = map.insert (set_of ks) k tt
