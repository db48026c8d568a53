use Rattle.std.proofs.Common.{◌≡◌, ◌++◌}
use Rattle.alp_trans.proofs.drops.files_in.Given as goal

abbrev pub invariant-loop-file : goal.invariant-loop-file
invariant-loop-file l = l.list.items ++ l.file-iterator ≡ l.files.keys
