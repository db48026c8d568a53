use Rattle.std.proofs.Common.{◌≡◌, ◌++◌}
use Rattle.alp_tables.proofs.sheets.images_in.Given as goal

abbrev pub invariant-loop-at : goal.invariant-loop-at
invariant-loop-at l = l.images.items ++ l.at-iterator ≡ l.pages.entries
