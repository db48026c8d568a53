use Rattle.alp_drill.proofs.StepLemmas.{setup_done}
use Rattle.alp_drill.proofs.storms.setup_of.Goals as goal

pub returns : goal.returns
returns c =
    setup_done c.args.storm _ _ _ _ _ _ c.shape_of-shape.ensures.shape c.requires.files.same
    c.new-script.ensures.items c.in_ok-add.ensures c.in_ok-add-2.ensures c.in_ok-set_up.ensures
