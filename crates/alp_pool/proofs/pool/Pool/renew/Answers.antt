use Rattle.std.specs.Prelude.{◌↔◌, slice_set}
use Rattle.std.proofs.Common.{ℕ, List, sym, subst}
use Rattle.lru.specs.LruCache.{LruCache}
use Rattle.alp_pool.specs.Buffers.{AreBuffersOf, IsResident}
use Rattle.alp_pool.proofs.Lookups.{buffers-renewed, buffers-still, resident-renewed}
use Rattle.alp_pool.proofs.pool.Pool.renew.Goals as goal
use Rattle.alp_pool.proofs.pool.Pool.renew.Goals.{in-Ok+in-Some-1, in-Ok+in-None-1, in-Err-1}

pub returns-clause-resident : goal.returns-clause-resident
returns-clause-resident g c q =
    subst (λ (x : LruCache ℕ (List ℕ)). IsResident q x.entries ↔ IsResident q c.args.self.now.held.entries) (sym c.in-Ok.ensures.entries)
    (resident-renewed c.args.self.now.held c.args.at c.args.page c.len.ensures.valid.0 (sym c.if-not-contains.ensures) q)

pub returns-clause-buffers : goal.returns-clause-buffers
returns-clause-buffers g c pages low old =
    subst (λ (x : LruCache ℕ (List ℕ)). AreBuffersOf (slice_set pages c.args.at c.args.page) x.entries) (sym c.in-Ok.ensures.entries)
    (buffers-renewed pages c.args.at c.args.page low c.args.self.now.held c.len.ensures.valid.0 (sym c.if-not-contains.ensures) old)

pub returns-then-not-contains-clause-buffers : goal.returns-then-not-contains-clause-buffers
returns-then-not-contains-clause-buffers g c pages low old = buffers-still pages c.args.at c.args.page low c.args.self.now.held.entries (sym c.if-not-contains.ensures) old
