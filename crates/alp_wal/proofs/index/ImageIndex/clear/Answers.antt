use Rattle.std.proofs.Common.{List, ℕ, length, sym, ◌∙◌, ap, subst, arith}
use Rattle.alp_wal.specs.Home.{Index}
use Rattle.alp_wal.specs.Logged.{AreListed, IsWhole}
use Rattle.alp_wal.specs.Wal.{no_index}
use Rattle.alp_wal.proofs.Listing.{whole_none}
use Rattle.alp_wal.proofs.index.ImageIndex.clear.Goals as goal

pub clear_images-requires : goal.clear_images-requires
clear_images-requires c = subst (λ (l : List ℕ). AreListed l c.self.inside.images.items) (sym c.as_slice.ensures.value) c.self.invariant.listed

pub invariant_of-self : goal.invariant_of-self
invariant_of-self c =
    subst (λ (t : List ℕ × Index). IsWhole t.0 c.clear.new.self.cap t.1) (λ i. (sym c.clear.ensures.items i, sym c.clear_images.ensures i))
    (whole_none (length c.self.inside.images.items) c.clear.new.self.cap (omega (arith, c.self.invariant.room_for_all, c.clear.ensures.capacity)))

pub returns : goal.returns
returns c = c.clear_images.ensures ∙ ap (λ (x : Index). no_index (length x)) c.self.view_is
