use Rattle.std.proofs.Common.{◌≡◌, length}
use Rattle.alp_bench.proofs.frames.some_pages.Given as goal

abbrev pub invariant-loop-number : goal.invariant-loop-number
invariant-loop-number l = length l.pages.items ≡ l.number
