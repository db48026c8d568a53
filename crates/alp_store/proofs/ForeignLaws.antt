-- A volume that is open, and not the server's.
use Rattle.std.specs.Prelude.{IsTrue, false}
use Rattle.std.proofs.Common.{◌≡◌, ℕ, sym, subst}
use Rattle.alp_anchor.specs.Anchor.{Counts}
use Rattle.alp_disk.specs.Calls.{Looked}
use Rattle.alp_disk.specs.Disk.{Image}
use Rattle.alp_disk.specs.declared.disk.Disk.{Ghosts}
use Rattle.alp_wal.specs.Wal.{disk_of, anchor_of, is_dead, IsKnown}
use Rattle.alp_wal.specs.declared.wal.Wal.{Wal}
use Rattle.alp_store.specs.Holding.{Holds, HoldsBy}
use Rattle.alp_store.specs.Starts.{AreOfServer, IsForeign}
use Rattle.alp_store.specs.Told.{contents_of}

module _ {D : Type 0} (g : Ghosts D) (disk : D) (server servers : ℕ) (w : Wal D) (below : Looked g disk (disk_of w)) (named : (anchor_of w).server ≡ server) (of_all : (anchor_of w).servers ≡ servers) where
  pub tells_on : IsTrue (g.tells disk) → IsTrue (g.tells (disk_of w))
  tells_on told = subst IsTrue (sym below.tells) told

  pub is_foreign : HoldsBy g w (g.seen disk) (contents_of g w) → (AreOfServer server servers (contents_of g w) → ⊥) → IsForeign server servers (g.size disk) (g.seen disk)
  is_foreign holds other = record {
    home = (anchor_of w).sizes.home;
    held = contents_of g w;
    holds = subst (λ (t : (ℕ × ℕ) × ℕ). Holds t.0.0 t.0.1 t.1 (anchor_of w).sizes.home (g.seen disk) (contents_of g w)) (λ i. ((named i, of_all i), below.size i)) holds;
    foreign = other;
  }

  -- the anchor of the log counts on the disk that it was mounted from
  pub still_counts : is_dead w ≡ false → (IsTrue (g.tells (disk_of w)) → is_dead w ≡ false → IsKnown (g.size (disk_of w)) (g.seen (disk_of w)) (g.may_leave (disk_of w)) w) → IsTrue (g.tells disk) → Counts (g.size disk) (g.seen disk) (anchor_of w)
  still_counts alive known told = subst (λ (t : ℕ × Image). Counts t.0 t.1 (anchor_of w)) (λ i. (below.size i, below.seen i)) (known (tells_on told) alive).by.counts
