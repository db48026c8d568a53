use Rattle.std.proofs.Common.{◌≡◌, drop}
use Rattle.std.specs.FinMap as map
use Rattle.alp_base.specs.declared.key.Key.{Key}
use Rattle.alp_vault.specs.Sweeps.{is_swept_by, left_of}
use Rattle.alp_vault.proofs.sweep.sweep_all.Given as goal

abbrev pub invariant-loop-sweep : goal.invariant-loop-sweep
invariant-loop-sweep l = (q : Key) → left_of (is_swept_by (drop l.sweep-index l.sweeps) q) (map.contains_key l.kept q) (map.get l.cells q) ≡ left_of (is_swept_by l.sweeps q) (map.contains_key l.kept q) (map.get l.fn.cells q)
