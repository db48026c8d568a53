use Rattle.std.specs.Prelude.{Option}
use Rattle.std.proofs.Common.{◌+◌, drop, ◌∙◌, ap, sym}
use Rattle.alp_modes.specs.declared.Mode.{Mode}
use Rattle.alp_files.specs.Holdings.{join_held, held_by}
use Rattle.alp_node.proofs.RequestLemmas.{mode_step}
use Rattle.alp_node.proofs.asks.mode_in.Goals as goal

pub loop-need-preserved : goal.loop-need-preserved
loop-need-preserved c =
    ap (λ (x : Option Mode). join_held x (held_by (drop (c.loop-need.need-index + 1) c.args.needs.now) c.args.at.now)) (c.join_held-mode.ensures ∙ ap (join_held c.loop-need.mode) c.mode_at.ensures)
    ∙ mode_step c.args.needs.now c.loop-need.need-index c.need-item.result c.args.at.now c.loop-need.mode c.loop-need-test.true (sym c.need-item.is) ∙ c.loop-need.invariant
