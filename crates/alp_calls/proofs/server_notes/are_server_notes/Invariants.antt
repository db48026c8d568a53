use Rattle.std.proofs.Common.{◌≡◌, drop}
use Rattle.alp_calls.proofs.NoteLemmas.{all_good}
use Rattle.alp_calls.proofs.server_notes.are_server_notes.Given as goal

abbrev pub invariant-loop-name : goal.invariant-loop-name
invariant-loop-name g l = all_good (g.V.Vault.held l.vault).notes (drop l.name-index l.names) ≡ all_good (g.V.Vault.held l.vault).notes l.names
