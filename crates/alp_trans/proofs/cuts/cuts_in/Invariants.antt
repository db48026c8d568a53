use Rattle.std.proofs.Common.{◌≡◌, ◌++◌}
use Rattle.alp_trans.proofs.cuts.cuts_in.Given as goal

abbrev pub invariant-loop-file : goal.invariant-loop-file
invariant-loop-file l = l.cuts.items ++ l.file-iterator ≡ l.firsts.entries
