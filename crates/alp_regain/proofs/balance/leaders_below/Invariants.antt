use Rattle.std.specs.Prelude.{IsTrue, None}
use Rattle.std.specs.FinMap as map
use Rattle.std.proofs.Common.{◌≡◌, drop}
use Rattle.alp_calls.specs.Looks.{Looks}
use Rattle.alp_regain.specs.Balance.{leaders_with}
use Rattle.alp_regain.proofs.balance.leaders_below.Given as goal

abbrev pub invariant-loop-file : goal.invariant-loop-file
invariant-loop-file g l = record {
  left : Looks g.V.Vault l.initial.vault l.vault None;
  all : IsTrue (g.V.Vault.tells l.initial.vault)
      → leaders_with (g.V.Vault.held l.initial.vault).cells (drop l.file-index l.files) l.below ≡ leaders_with (g.V.Vault.held l.initial.vault).cells l.files map.empty;
}
