use Rattle.std.specs.Prelude.{◌+◌, ◌/◌}
use Rattle.std.specs.List.{range_with_len}
use Rattle.alp_drill.specs.Adds.{Adds}
use Rattle.alp_drill.specs.Rolls.{in_turn}
use Rattle.alp_drill.specs.Rounds.{round}
use Rattle.alp_drill.proofs.rounds.rounds.Given as goal

abbrev pub invariant-loop-number : goal.invariant-loop-number
invariant-loop-number l = Adds l.fn.script.items l.script.items l.dice (in_turn (round l.pages (l.size / 6 + 1)) (range_with_len 0 l.number) l.fn.dice)
