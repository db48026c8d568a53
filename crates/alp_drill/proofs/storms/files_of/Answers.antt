use Rattle.alp_drill.proofs.StepLemmas.{files_done}
use Rattle.alp_drill.proofs.storms.files_of.Goals as goal

pub returns : goal.returns
returns c = files_done c.args.storm _ _ _ c.shape_of-shape.ensures.shape c.new-dice.ensures c.in_ok-pages.ensures.pages c.in_ok-pages.ensures.files
