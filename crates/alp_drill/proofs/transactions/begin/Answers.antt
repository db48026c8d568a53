use Rattle.alp_drill.proofs.StepLemmas.{begin_done}
use Rattle.alp_drill.proofs.transactions.begin.Goals as goal

pub returns : goal.returns
returns c = begin_done c.args.turn _ _ _ _ c.from.result c.roll-which.result c.from.ensures c.roll-which.ensures.value c.roll-which.ensures.dice c.in_ok-add.ensures
