use Rattle.std.specs.Prelude.{None, IsTrue}
use Rattle.std.proofs.Common.{◌≡◌, ℕ, ◌≤◌, ◌<◌}
use Rattle.std.specs.FinMap as map
use Rattle.alp_base.specs.declared.key.Key.TheVariants.{PageOf}
use Rattle.alp_calls.specs.Looks.{Looks}
use Rattle.alp_calls.proofs.counting.stands_below.Given as goal

abbrev pub invariant-loop-number : goal.invariant-loop-number
invariant-loop-number g l = record {
  left : Looks g.V.Vault l.initial.vault l.vault None;
  none : IsTrue (g.V.Vault.tells l.initial.vault) → (n : ℕ) → l.first ≤ n → n < l.number → map.get (g.V.Vault.held l.initial.vault).cells (PageOf l.file n) ≡ None;
}
