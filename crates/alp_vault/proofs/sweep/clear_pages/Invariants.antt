use Rattle.std.proofs.Common.{◌≡◌, ◌⊎◌, ◌≤◌}
use Rattle.std.specs.FinMap as map
use Rattle.alp_base.specs.declared.key.Key.{Key}
use Rattle.alp_vault.specs.Sweeps.{is_page_between, left_of}
use Rattle.alp_vault.proofs.sweep.clear_pages.Given as goal

abbrev pub invariant-loop-number : goal.invariant-loop-number
invariant-loop-number l = record {
  low : l.fn.first ≤ l.number;
  top : (l.number ≤ l.fn.end) ⊎ (l.number ≡ l.fn.first);
  cleared : (q : Key) → map.get l.cells q ≡ left_of (is_page_between l.fn.file l.fn.first l.number q) (map.contains_key l.kept q) (map.get l.fn.cells q);
}
