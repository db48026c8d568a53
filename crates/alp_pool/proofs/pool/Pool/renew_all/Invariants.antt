use Rattle.std.specs.Prelude.{◌↔◌}
use Rattle.std.specs.List.{AllByRecursion}
use Rattle.std.proofs.Common.{◌≡◌, ℕ, length}
use Rattle.alp_disk.specs.Disk.{Image}
use Rattle.alp_wal.specs.State.{IsBelow}
use Rattle.alp_pool.specs.Buffers.{AreBuffersOf, IsResident}
use Rattle.alp_pool.specs.Pools.{log_of, buffers_of, capacity_of}
use Rattle.alp_pool.proofs.Renewing.{Renewed}
use Rattle.alp_pool.proofs.pool.Pool.renew_all.Given as goal

abbrev pub invariant-loop-next : goal.invariant-loop-next
invariant-loop-next g l = record {
  log : log_of l.self ≡ log_of l.fn.self;
  capacity : capacity_of l.self ≡ capacity_of l.fn.self;
  resident : (q : ℕ) → IsResident q (buffers_of l.self) ↔ IsResident q (buffers_of l.fn.self);
  renewed : (pages : Image) → AllByRecursion (IsBelow (length pages)) l.fn.images.items → AreBuffersOf pages (buffers_of l.fn.self) → Renewed pages l.fn.images.items (buffers_of l.self) l.next-iterator.rest.items;
}
