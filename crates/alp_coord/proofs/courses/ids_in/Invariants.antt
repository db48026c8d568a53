use Rattle.std.proofs.Common.{◌≡◌, ◌++◌}
use Rattle.std.specs.BTreeMap.{keys}
use Rattle.alp_coord.proofs.courses.ids_in.Given as goal

abbrev pub invariant-loop-trans : goal.invariant-loop-trans
invariant-loop-trans l = l.ids.items ++ l.trans-iterator ≡ keys l.courses
