use Rattle.std.specs.Prelude.{IsTrue, None}
use Rattle.std.proofs.Common.{◌≡◌, drop}
use Rattle.alp_calls.specs.Looks.{Looks}
use Rattle.alp_regain.specs.Balance.{are_even}
use Rattle.alp_regain.specs.Sums.{charge_at}
use Rattle.alp_regain.proofs.balance.are_even_cells.Given as goal

abbrev pub invariant-loop-cell : goal.invariant-loop-cell
invariant-loop-cell g l = record {
  left : Looks g.V.Vault l.initial.vault l.vault None;
  all : IsTrue (g.V.Vault.tells l.initial.vault)
      → are_even l.intents (g.V.Vault.held l.initial.vault).cells (charge_at l.moved.lost) (charge_at l.moved.put) (drop l.cell-index l.cells)
      ≡ are_even l.intents (g.V.Vault.held l.initial.vault).cells (charge_at l.moved.lost) (charge_at l.moved.put) l.cells;
}
