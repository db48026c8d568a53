use Rattle.std.specs.List.{range_with_len}
use Rattle.alp_drill.specs.Adds.{Adds}
use Rattle.alp_drill.specs.Rolls.{in_turn}
use Rattle.alp_drill.specs.Storms.{job_dice, job_turn}
use Rattle.alp_drill.specs.Transactions.{transaction}
use Rattle.alp_drill.proofs.storms.add_job.Given as goal

abbrev pub invariant-loop-number : goal.invariant-loop-number
invariant-loop-number l = Adds l.fn.script.items l.script.items l.dice (in_turn (λ k. transaction l.pages (job_turn l.storm l.client k)) (range_with_len 0 l.number) (job_dice l.storm l.client))
