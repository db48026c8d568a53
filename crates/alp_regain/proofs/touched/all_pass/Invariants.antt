use Rattle.std.specs.Prelude.{All, IsTrue, None}
use Rattle.std.proofs.Common.{take}
use Rattle.alp_base.specs.declared.cell.Cell.{Cell}
use Rattle.alp_base.specs.declared.key.Key.{Key}
use Rattle.alp_calls.specs.Looks.{Looks}
use Rattle.alp_regain.specs.Seen.{Passes}
use Rattle.alp_regain.proofs.touched.all_pass.Given as goal

abbrev pub invariant-loop-put : goal.invariant-loop-put
invariant-loop-put g l = record {
  left : Looks g.V.Vault l.initial.vault l.vault None;
  all : IsTrue (g.V.Vault.tells l.initial.vault) → All (λ (e : Key × Cell). Passes l.intents (g.V.Vault.held l.initial.vault).cells e.0 e.1) (take l.put-index l.puts);
}
