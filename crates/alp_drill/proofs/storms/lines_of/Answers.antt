use Rattle.alp_drill.proofs.StepLemmas.{storm_done}
use Rattle.alp_drill.proofs.storms.lines_of.Goals as goal

pub returns : goal.returns
returns c = storm_done c.args.storm _ _ c.in_ok-script.ensures c.in_ok-add_jobs.ensures
