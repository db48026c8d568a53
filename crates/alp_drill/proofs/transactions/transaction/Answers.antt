use Rattle.alp_drill.specs.Rolls.{both}
use Rattle.alp_drill.specs.Transactions.{beginning, visits, ending}
use Rattle.alp_drill.proofs.RollLemmas.{adds_both}
use Rattle.alp_drill.proofs.transactions.transaction.Goals as goal

pub returns : goal.returns
returns c =
    let turn = c.args.turn in
    let rest = adds_both _ _ _ _ _ _ (visits c.args.pages.now turn) (ending turn.client) c.in_ok-visits.ensures c.in_ok-end.ensures in
    adds_both _ _ _ _ _ _ (beginning turn) (both (visits c.args.pages.now turn) (ending turn.client)) c.in_ok-begin.ensures rest
