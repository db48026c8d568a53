use Rattle.std.proofs.Common.{◌≡◌, ◌++◌, drop}
use Rattle.alp_regain.specs.Balance.{files_put}
use Rattle.alp_regain.proofs.balance.push_files.Given as goal

abbrev pub invariant-loop-put : goal.invariant-loop-put
invariant-loop-put l = l.files.items ++ files_put (drop l.put-index l.puts) ≡ l.initial.files.items ++ files_put l.puts
