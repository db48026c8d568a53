use Rattle.std.proofs.Common.{◌≡◌}
use Rattle.alp_bench.proofs.volume.apply.Given as goal

abbrev pub invariant-loop-image : goal.invariant-loop-image
invariant-loop-image l = l.pages.home ≡ l.fn.pages.home
