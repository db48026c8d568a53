use Rattle.std.specs.Prelude.{sum_by}
use Rattle.std.proofs.Common.{◌≡◌, ℕ, ◌+◌, ◌*◌, ◌^◌, ◌≤◌, List, drop}
use Rattle.alp_base.specs.declared.cell.Cell.{Cell}
use Rattle.alp_base.specs.declared.key.Key.{Key}
use Rattle.alp_files.specs.Files.{cost}
use Rattle.alp_regain.specs.Sums.{charge_at}
use Rattle.alp_regain.proofs.charges.charges_of.Given as goal

abbrev pub invariant-loop-cell : goal.invariant-loop-cell
invariant-loop-cell l = record {
  sums : (name : List ℕ) → charge_at l.charges name + sum_by (λ (e : Key × Cell). cost name e.1) (drop l.cell-index l.cells) ≡ sum_by (λ (e : Key × Cell). cost name e.1) l.cells;
  few : (name : List ℕ) → charge_at l.charges name ≤ 2 ^ 32 * l.cell-index;
}
