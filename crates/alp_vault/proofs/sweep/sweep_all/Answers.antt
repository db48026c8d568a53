use Rattle.std.proofs.Common.{◌+◌, List, drop, ◌∙◌, ap, sym}
use Rattle.std.specs.FinMap as map
use Rattle.std.proofs.lemmas.List.{at_drop_more}
use Rattle.alp_vault.specs.declared.sweep.Sweep.{Sweep}
use Rattle.alp_vault.specs.Sweeps.{left_of, is_swept_by}
use Rattle.alp_vault.proofs.SweepLemmas.{left-twice}
use Rattle.alp_vault.proofs.sweep.sweep_all.Goals as goal

pub loop-sweep-preserved : goal.loop-sweep-preserved
loop-sweep-preserved c q =
    ap (left_of (is_swept_by (drop (c.loop-sweep.sweep-index + 1) c.args.sweeps.now) q) (map.contains_key c.args.kept.now q)) (c.sweep_one.ensures q)
    ∙ left-twice _ (is_swept_by (drop (c.loop-sweep.sweep-index + 1) c.args.sweeps.now) q) (map.contains_key c.args.kept.now q) (map.get c.loop-sweep.cells q)
    ∙ sym (at_drop_more (λ (ss : List Sweep). left_of (is_swept_by ss q) (map.contains_key c.args.kept.now q) (map.get c.loop-sweep.cells q)) c.args.sweeps.now c.loop-sweep.sweep-index _ c.loop-sweep-test.true)
    ∙ c.loop-sweep.invariant q
