use Rattle.std.proofs.Common.{◌≡◌}
use Rattle.alp_volume.specs.Known.{IsCatalog}
use Rattle.alp_bench.proofs.volume.put_often.Given as goal

abbrev pub invariant-loop-round : goal.invariant-loop-round
invariant-loop-round l = record { home : l.pages.home ≡ l.fn.pages.home; sized : IsCatalog l.fn.pages.home l.catalog }
