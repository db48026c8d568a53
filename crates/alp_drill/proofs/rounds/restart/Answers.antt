use Rattle.std.proofs.Common.{sym}
use Rattle.alp_drill.proofs.StepLemmas.{restart_none, restart_done, stopped_kept}
use Rattle.alp_drill.proofs.rounds.restart.Goals as goal

pub returns-then-not-is_restart : goal.returns-then-not-is_restart
returns-then-not-is_restart c = restart_none c.args.period c.args.number _ _ (sym c.if-not-is_restart.ensures)

pub returns : goal.returns
returns c =
    restart_done c.args.period c.args.number _ _ _ _ _ c.roll-roll.result _ (sym c.if-not-is_restart.ensures)
    c.roll-roll.ensures.value c.roll-roll.ensures.dice (stopped_kept 8 _ _ c.roll-roll.ensures.dice) c.in_ok-add.ensures c.in_ok-add-2.ensures
