use Rattle.std.proofs.Common.{length, [], ap, ◌∙◌}
use Rattle.std.specs.FinMap.{from_sorted, len-entries, entries-from_sorted, empty_of_len}
use Rattle.alp_base.specs.Orders.{resource_cmp}
use Rattle.alp_queue.proofs.locks.Locks.new.Goals as goal

pub returns : goal.returns
returns c = empty_of_len (from_sorted []) (len-entries (from_sorted []) ∙ ap length (entries-from_sorted resource_cmp [] tt))
