use Rattle.std.proofs.Common.{◌≡◌, length}
use Rattle.std.specs.List.{AllByRecursion}
use Rattle.alp_wal.specs.State.{IsBelow}
use Rattle.alp_wal.specs.Wal.{indexed}
use Rattle.alp_wal.proofs.index.ImageIndex.lay_over.Given as goal

abbrev pub invariant-loop-next : goal.invariant-loop-next
invariant-loop-next l = record {
  below : AllByRecursion (IsBelow (length l.self)) l.next-iterator.rest.items;
  rest : indexed l.self l.next-iterator.rest.items ≡ indexed l.fn.self l.fn.images.items;
}
