use Rattle.std.specs.Prelude.{nat_eq, is_some}
use Rattle.std.specs.Map.{lookup}
use Rattle.std.specs.Cmp.{nat_eq_equiv}
use Rattle.std.proofs.Common.{◌≡◌, ℕ, List, sym, ◌∙◌, ap, subst}
use Rattle.lru.specs.LruCache.{LruCache}
use Rattle.lru.proofs.CallerLemmas.{lookup-put_entries}
use Rattle.alp_disk.specs.Disk.{page}
use Rattle.alp_pool.specs.Buffers.{AreBuffersOf}
use Rattle.alp_pool.proofs.Lookups.{buffers-put}
use Rattle.alp_pool.proofs.pool.Pool.keep.Goals as goal

pub returns-in-Ok-clause-resident : goal.returns-in-Ok-clause-resident
returns-in-Ok-clause-resident g c =
    ap (λ (x : LruCache ℕ (List ℕ)). is_some (lookup (nat_eq c.args.at) x.entries)) c.in-Ok.ensures.entries
    ∙ ap is_some (lookup-put_entries nat_eq c.args.self.now.held c.args.at c.in_ok-held.held nat_eq_equiv)

pub returns-in-Ok-clause-buffers : goal.returns-in-Ok-clause-buffers
returns-in-Ok-clause-buffers g c pages right old =
    let held : c.in_ok-held.held ≡ page pages c.args.at = c.in_ok-held.ensures ∙ right in
    subst (λ (x : LruCache ℕ (List ℕ)). AreBuffersOf pages x.entries) (sym c.in-Ok.ensures.entries)
    (buffers-put pages c.args.self.now.held c.args.at c.in_ok-held.held c.len.ensures.valid.0 held old)
