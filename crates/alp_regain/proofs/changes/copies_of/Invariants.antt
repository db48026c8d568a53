use Rattle.std.proofs.Common.{◌≡◌, ◌++◌, drop}
use Rattle.alp_regain.proofs.changes.copies_of.Given as goal

abbrev pub invariant-loop-put : goal.invariant-loop-put
invariant-loop-put l = l.copies.items ++ drop l.put-index l.puts ≡ l.puts
