use Rattle.std.proofs.Common.{Bool, ◌∙◌, ap}
use Rattle.std.specs.FinMap as map
use Rattle.alp_vault.specs.Sweeps.{left_of}
use Rattle.alp_vault.proofs.SweepLemmas.{between-end}
use Rattle.alp_vault.proofs.sweep.clear_pages.Goals as goal

pub returns : goal.returns
returns c q =
    c.loop-number.invariant.cleared q
    ∙ ap (λ (t : Bool). left_of t (map.contains_key c.args.kept.now q) (map.get c.args.cells.now q))
    (between-end c.args.file c.args.first c.args.end c.loop-number.number q c.loop-number.invariant.top c.loop-number-test.false)
