use Rattle.alp_drill.proofs.StepLemmas.{lines_done}
use Rattle.alp_drill.proofs.script.lines_of.Goals as goal

pub returns : goal.returns
returns c =
    lines_done c.args.seed c.args.size _ _ _ _ _ _ _ _ _ _ c.drill_shape-shape.ensures.shape c.new-dice.ensures c.in_ok-pages.ensures.pages c.in_ok-pages.ensures.dice c.as_slice-files.ensures.value
    c.new-script.ensures.items c.in_ok-add.ensures c.in_ok-set_up.ensures c.in_ok-rounds.ensures
