use Rattle.std.proofs.Common.{◌≡◌, drop}
use Rattle.alp_fields.specs.Rising.{rises_from}
use Rattle.alp_batch.specs.Batch.{page_below}
use Rattle.alp_batch.proofs.rising.pages_rise_from.Given as goal

abbrev pub invariant-loop-next : goal.invariant-loop-next
invariant-loop-next l = rises_from page_below l.first l.rest ≡ rises_from page_below l.last (drop l.next-index l.rest)
