use Rattle.std.proofs.Common.{List, ℕ, sym, subst, arith}
use Rattle.alp_wal.specs.Home.{Index}
use Rattle.alp_wal.specs.Logged.{IsWhole}
use Rattle.alp_wal.proofs.Listing.{whole_none}
use Rattle.alp_wal.proofs.index.ImageIndex.new.Goals as goal

pub invariant_of-result : goal.invariant_of-result
invariant_of-result c =
    let items = c.in_ok-logged.ensures.items in
    let images = c.in_ok-images.ensures in
    subst (λ (t : List ℕ × Index). IsWhole t.0 c.in_ok-logged.logged.cap t.1) (λ i. (sym items i, sym images i)) (whole_none c.args.home c.in_ok-logged.logged.cap (omega (arith, c.in_ok-logged.ensures.capacity)))
