use Rattle.std.proofs.Common.{◌≡◌, replicate}
use Rattle.alp_base.specs.Pages.{zero_page}
use Rattle.alp_disk.proofs.outcomes.zero_pages.Given as goal

abbrev pub invariant-loop : goal.invariant-loop
invariant-loop l = l.pages.items ≡ replicate l.counter zero_page
