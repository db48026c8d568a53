use Rattle.std.specs.List.{range_with_len}
use Rattle.alp_drill.specs.Adds.{Adds}
use Rattle.alp_drill.specs.Rolls.{roll, in_turn}
use Rattle.alp_drill.specs.Transactions.{visit}
use Rattle.alp_drill.proofs.transactions.visits.Given as goal

abbrev pub invariant-loop : goal.invariant-loop
invariant-loop l = Adds l.fn.script.items l.script.items l.dice (in_turn (λ n. visit l.pages l.turn) (range_with_len 0 l.counter) (roll 3 l.fn.dice).1)
