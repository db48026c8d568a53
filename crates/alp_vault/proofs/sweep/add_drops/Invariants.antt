use Rattle.std.proofs.Common.{◌≡◌, ◌++◌, drop}
use Rattle.std.proofs.Common.{map as list_map}
use Rattle.alp_vault.specs.Sweeps.{drop_sweep}
use Rattle.alp_vault.proofs.sweep.add_drops.Given as goal

abbrev pub invariant-loop-file : goal.invariant-loop-file
invariant-loop-file l = l.sweeps.items ++ list_map (drop_sweep l.cells) (drop l.file-index l.drops) ≡ l.fn.sweeps.items ++ list_map (drop_sweep l.cells) l.drops
