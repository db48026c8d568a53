use Rattle.std.specs.Prelude.{None, true}
use Rattle.std.proofs.Common.{◌≡◌, drop}
use Rattle.alp_files.specs.Undo.{puts_of}
use Rattle.alp_vault.specs.Volumes.{fit_keys}
use Rattle.alp_calls.specs.Looks.{Looks}
use Rattle.alp_calls.proofs.CountingLemmas.{Counting}
use Rattle.alp_calls.proofs.counting.count_puts.Given as goal

abbrev pub invariant-loop-put : goal.invariant-loop-put
invariant-loop-put g l = record {
  left : Looks g.V.Vault l.initial.vault l.vault None;
  fit : fit_keys (drop l.put-index l.puts) ≡ true;
  counting : Counting (g.V.Vault.tells l.initial.vault) (g.V.Vault.held l.initial.vault).cells l.ahead l.more l.fn.start l.counts (puts_of l.puts) (puts_of (drop l.put-index l.puts));
}
