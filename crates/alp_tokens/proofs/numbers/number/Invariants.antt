use Rattle.std.proofs.Common.{◌≡◌, ◌≤◌, drop}
use Rattle.alp_tokens.specs.Numbers.{value_from}
use Rattle.alp_tokens.proofs.numbers.number.Given as goal

abbrev pub invariant-loop-b : goal.invariant-loop-b
invariant-loop-b l = record {
  small : l.n ≤ l.most;
  value : value_from l.n (drop l.b-index l.word) ≡ value_from 0 l.word;
}
