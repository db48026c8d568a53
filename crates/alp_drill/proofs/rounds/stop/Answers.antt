use Rattle.std.proofs.Common.{refl, sym}
use Rattle.alp_drill.proofs.StepLemmas.{stop_none, stop_done}
use Rattle.alp_drill.proofs.rounds.stop.Goals as goal

pub returns-then-not-is_stop : goal.returns-then-not-is_stop
returns-then-not-is_stop c = stop_none c.args.period c.args.number _ _ (sym c.if-not-is_stop.ensures)

pub returns : goal.returns
returns c =
    stop_done c.args.period c.args.number _ _ _ _ _ _ c.roll-which.result c.roll-calls.result (sym c.if-not-is_stop.ensures)
    c.roll-which.ensures.value c.roll-which.ensures.dice c.roll-calls.ensures.value c.roll-calls.ensures.dice refl c.in_ok-add.ensures
