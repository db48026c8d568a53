use Rattle.std.specs.List.{AllByRecursion}
use Rattle.std.proofs.Common.{◌≡◌, ℕ, List, length, sym, ◌∙◌, ap, subst, IsTrue}
use Rattle.alp_disk.specs.Disk.{Image}
use Rattle.alp_batch.specs.declared.batch.PageImage.{PageImage}
use Rattle.alp_wal.specs.State.{State, IsBelow, overlaid}
use Rattle.alp_wal.specs.Wal.{disk_of, state_of}
use Rattle.alp_pool.specs.Buffers.{AreBuffersOf}
use Rattle.alp_pool.specs.Pools.{log_of, buffers_of, device_of, held_by}
use Rattle.alp_pool.proofs.Logged.{as_many_pages, pool_over}
use Rattle.alp_pool.proofs.pool.Pool.commit.Goals as goal

pub returns-clause-pool : goal.returns-clause-pool
returns-clause-pool g c =
    let p = c.args.self.now in
    let pages : Image = (held_by g.D.Disk p).pages in
    let images : List PageImage = c.in_ok-images.images.items in
    let same : images ≡ c.args.batch.now.images = c.in_ok-images.ensures ∙ c.as_slice.ensures in
    let below : AllByRecursion (IsBelow (length pages)) images =
    subst (λ (t : ℕ × List PageImage). AllByRecursion (IsBelow t.0) t.1) (λ i. (sym (as_many_pages (log_of p) (g.D.Disk.seen (device_of p))) i, sym same i)) c.requires.suits.inside in
    pool_over g.D.Disk c.renew_all.new.self c.commit.new.self c.renew_all.ensures.log c.commit.ensures.log c.commit.ensures.known
    (λ told.
    let before : IsTrue (g.D.Disk.tells (device_of p)) = subst IsTrue c.commit.ensures.below.tells told in
    let now : (state_of c.commit.new.self (g.D.Disk.seen (disk_of c.commit.new.self))).pages ≡ overlaid pages images =
    ap (λ (s : State). s.pages) (c.in_ok-commit.ensures.becomes before) ∙ ap (λ (l : List PageImage). overlaid pages l) (sym same) in
    subst (λ (l : Image). AreBuffersOf l (buffers_of c.renew_all.new.self)) (sym now) (c.renew_all.ensures.buffers pages below (c.requires.pool.buffers before)))
