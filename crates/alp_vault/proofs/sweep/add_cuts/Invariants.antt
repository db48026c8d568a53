use Rattle.std.proofs.Common.{◌≡◌, ◌++◌, drop}
use Rattle.std.proofs.Common.{map as list_map}
use Rattle.alp_vault.specs.Sweeps.{cut_sweep}
use Rattle.alp_vault.proofs.sweep.add_cuts.Given as goal

abbrev pub invariant-loop-cut : goal.invariant-loop-cut
invariant-loop-cut l = l.sweeps.items ++ list_map (cut_sweep l.cells) (drop l.cut-index l.cuts) ≡ l.fn.sweeps.items ++ list_map (cut_sweep l.cells) l.cuts
