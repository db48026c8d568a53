use Rattle.alp_wal.proofs.Listing.{Dropped}
use Rattle.alp_wal.proofs.home.clear_images.Given as goal

abbrev pub invariant-loop-j : goal.invariant-loop-j
invariant-loop-j l = Dropped l.logged l.j l.fn.index.items l.index.items
