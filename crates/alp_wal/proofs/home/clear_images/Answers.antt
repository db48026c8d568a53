use Rattle.std.proofs.Common.{◌≡◌, ℕ, length, subst, arith}
use Rattle.alp_wal.proofs.Listing.{Dropped, dropped_all}
use Rattle.alp_wal.proofs.home.clear_images.Goals as goal

pub returns : goal.returns
returns c =
    let logged = c.args.logged.now in
    let end : c.loop-j.j ≡ length logged = omega (arith, c.loop-j-test.false, c.loop-j.auto.j-end) in
    dropped_all logged c.args.index.now.items c.loop-j.index.items c.requires (subst (λ (n : ℕ). Dropped logged n c.args.index.now.items c.loop-j.index.items) end c.loop-j.invariant)
