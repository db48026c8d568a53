use Rattle.std.proofs.Common.{◌≡◌, map}
use Rattle.alp_drill.proofs.StepLemmas.{made_so_far}
use Rattle.alp_drill.proofs.storms.job_of.Given as goal

abbrev pub invariant-loop-number : goal.invariant-loop-number
invariant-loop-number l = record {
  parts : map (λ t. t.items) l.job.items ≡ (made_so_far l.pages l.storm l.client l.number).0;
  dice : l.dice ≡ (made_so_far l.pages l.storm l.client l.number).1;
}
