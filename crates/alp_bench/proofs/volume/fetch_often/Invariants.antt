use Rattle.std.proofs.Common.{◌≡◌}
use Rattle.alp_bench.proofs.volume.fetch_often.Given as goal

abbrev pub invariant-loop-round : goal.invariant-loop-round
invariant-loop-round l = l.pages.home ≡ l.fn.pages.home
