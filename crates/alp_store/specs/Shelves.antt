-- What is known of stores, and of volumes that are open.
use Rattle.std.specs.Prelude.{◌≡◌, ℕ, Bool, true, false, IsTrue}
use Rattle.alp_anchor.specs.Anchor.{AreSizesOf}
use Rattle.alp_disk.specs.Disk.{Image}
use Rattle.alp_disk.specs.declared.disk.Disk.{Ghosts}
use Rattle.alp_pool.specs.Pools.{log_of}
use Rattle.alp_vault.specs.Contents.{Contents}
use Rattle.alp_vault.specs.Vault.{IsServer}
use Rattle.alp_volume.specs.Drafts.{IsPlanned}
use Rattle.alp_volume.specs.Known.{IsCatalog}
use Rattle.alp_wal.specs.Wal.{disk_of, anchor_of, is_dead}
use Rattle.alp_wal.specs.declared.wal.Wal.{Wal}
use Rattle.alp_store.specs.Holding.{HoldsBy}
use Rattle.alp_store.specs.Told.{pages_of, told_by, contents_of}
use Rattle.alp_store.specs.declared.shelf.Shelf.{Shelf}
use Rattle.alp_store.specs.declared.stage.Stage.{Stage}
use Rattle.alp_store.specs.declared.stage.Stage.TheVariants.{Open, Fallen}

-- The sizes make up the disk, the server is one of so many, and where the disk tells what it holds, each that a crash may
-- leave of it holds a volume.
pub record IsStore {D : Type 0} (g : Ghosts D) (w : Wal D) : Type 0 where
  pub sizes : AreSizesOf (g.size (disk_of w)) (anchor_of w).sizes
  pub server : IsServer (anchor_of w).server (anchor_of w).servers
  pub leaves : IsTrue (g.tells (disk_of w)) → (image : Image) → g.may_leave (disk_of w) image → (c : Contents) × HoldsBy g w image c

abbrev pub shelf_log : {D : Type 0} → Shelf D → Wal D
shelf_log s = log_of s.pages

-- The log of an open volume goes on, and memory keeps what it is to know of the pages.
pub record IsShelf {D : Type 0} (g : Ghosts D) (s : Shelf D) : Type 0 where
  pub alive : is_dead (shelf_log s) ≡ false
  pub store : IsStore g (shelf_log s)
  pub sized : IsCatalog (anchor_of (shelf_log s)).sizes.home s.catalog
  pub knows : IsTrue (g.tells (disk_of (shelf_log s))) → IsPlanned (anchor_of (shelf_log s)).sizes.home (pages_of (told_by g (shelf_log s))) (contents_of g (shelf_log s)).cells s.catalog

-- ---- stores

abbrev pub stage_log : {D : Type 0} → Stage D → Wal D
stage_log (Open s) = shelf_log s
stage_log (Fallen w) = w

abbrev pub IsServing : {D : Type 0} → Ghosts D → Stage D → Type 0
IsServing g (Open s) = IsShelf g s
IsServing g (Fallen w) = ⊥

-- one that serves has its volume open
pub record IsRight {D : Type 0} (g : Ghosts D) (server servers : ℕ) (serves : Bool) (stage : Stage D) : Type 0 where
  pub number : (anchor_of (stage_log stage)).server ≡ server
  pub of_all : (anchor_of (stage_log stage)).servers ≡ servers
  pub store : IsStore g (stage_log stage)
  pub serving : serves ≡ true → IsServing g stage
