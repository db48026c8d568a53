use Rattle.alp_drill.specs.Rolls.{both}
use Rattle.alp_drill.specs.Rounds.{stopping, restarting, turn_of}
use Rattle.alp_drill.specs.Transactions.{transaction}
use Rattle.alp_drill.proofs.RollLemmas.{adds_both}
use Rattle.alp_drill.proofs.StepLemmas.{turned}
use Rattle.alp_drill.proofs.rounds.round.Goals as goal

pub returns : goal.returns
returns c =
    let own = turned c.args.pages.now _ _ _ _ _ (turn_of c.args.number) c.turn_of-turn.ensures.turn c.in_ok-transaction.ensures in
    let rest = adds_both _ _ _ _ _ _ (restarting c.args.period c.args.number) (transaction c.args.pages.now (turn_of c.args.number)) c.in_ok-restart.ensures own in
    adds_both _ _ _ _ _ _ (stopping c.args.period c.args.number) (both (restarting c.args.period c.args.number) (transaction c.args.pages.now (turn_of c.args.number))) c.in_ok-stop.ensures rest
