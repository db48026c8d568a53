-- What a store knows of itself.
use Rattle.std.specs.Prelude.{IsTrue, Bool}
use Rattle.std.proofs.Common.{◌≡◌, refl, sym, ◌∙◌, ap, subst}
use Rattle.alp_base.specs.Crashes.{Only}
use Rattle.alp_disk.specs.Disk.{Image}
use Rattle.alp_disk.specs.declared.disk.Disk.{Ghosts}
use Rattle.alp_vault.specs.Contents.{Contents}
use Rattle.alp_vault.specs.Vault.{AreSizes, IsServer}
use Rattle.alp_vault.specs.Volumes.{IsVolumeOf}
use Rattle.alp_wal.specs.Wal.{disk_of, anchor_of, IsKnown}
use Rattle.alp_wal.specs.declared.wal.Wal.{Wal}
use Rattle.alp_store.specs.Holding.{HoldsBy, MayLeave, LeftSince}
use Rattle.alp_store.specs.Shelves.{IsStore, IsShelf, IsServing, shelf_log, stage_log}
use Rattle.alp_store.specs.StoreStates.{StoreOf}
use Rattle.alp_store.specs.Told.{contents_of}
use Rattle.alp_store.specs.declared.shelf.Shelf.{Shelf}
use Rattle.alp_store.specs.declared.stage.Stage.{Stage}
use Rattle.alp_store.specs.declared.stage.Stage.TheVariants.{Open, Fallen}
use Rattle.alp_store.proofs.Holdings.{left_volume, known_holds}
use Rattle.alp_store.proofs.StoredLaws.{settled}
use Rattle.alp_store.proofs.VaultLaws.{leaves_held, sizes_of_disk}

-- a stage that is not open serves nobody
pub not_serving : {D : Type 0} (g : Ghosts D) (st : Stage D) → ((s : Shelf D) → st ≡ Open s → ⊥) → IsServing g st → ⊥
not_serving g (Open s) other is = other s refl
not_serving g (Fallen w) other is = is

module _ {D : Type 0} (g : Ghosts D) (st : Stage D) (serves : Bool) (v : StoreOf D) (view : record { log = stage_log st; serves = serves } ≡ v) (store : IsStore g (stage_log st)) where
  log_is : stage_log st ≡ v.log
  log_is = ap (λ (x : StoreOf D). x.log) view

  store_now : IsStore g v.log
  store_now = subst (IsStore g) log_is store

  pub limits : AreSizes (anchor_of v.log).sizes
  limits = sizes_of_disk (g.size (disk_of v.log)) (anchor_of v.log).sizes store_now.sizes

  pub server : IsServer (anchor_of v.log).server (anchor_of v.log).servers
  server = store_now.server

  pub fitting : (c : Contents) → MayLeave g v.log c → IsVolumeOf (anchor_of v.log).sizes c.cells
  fitting c m = left_volume g v.log store_now m.image c m.holds

  pub fitted : (start : StoreOf D) (c : Contents) → LeftSince g start.log v.log c → IsVolumeOf (anchor_of v.log).sizes c.cells
  fitted start c m = left_volume g v.log store_now m.image c m.holds

  -- whatever a crash leaves of the disk holds something
  pub leaves_some : (disk : D) → disk ≡ disk_of v.log → IsTrue (g.tells disk) → (image : Image) → g.may_leave disk image → (c : Contents) × HoldsBy g v.log image c
  leaves_some disk is told image left = store_now.leaves (subst (λ (d : D). IsTrue (g.tells d)) is told) image (subst (λ (d : D). g.may_leave d image) is left)

  -- one that is open
  module _ (s : Shelf D) (open_ : st ≡ Open s) (is : IsShelf g s) (known : IsTrue (g.tells (disk_of (shelf_log s))) → IsKnown (g.size (disk_of (shelf_log s))) (g.seen (disk_of (shelf_log s))) (g.may_leave (disk_of (shelf_log s))) (shelf_log s)) where
    here : shelf_log s ≡ v.log
    here = ap (λ (x : Stage D). stage_log x) (sym open_) ∙ log_is

    told_there : IsTrue (g.tells (disk_of v.log)) → IsTrue (g.tells (disk_of (shelf_log s)))
    told_there told = subst (λ (w : Wal D). IsTrue (g.tells (disk_of w))) (sym here) told

    pub as_held : ((d : D) → IsTrue (g.tells d) → g.may_leave d (g.seen d)) → IsTrue (g.tells (disk_of v.log)) → MayLeave g v.log (contents_of g v.log)
    as_held as_read told = subst (λ (w : Wal D). MayLeave g w (contents_of g w)) here (leaves_held g s is (known (told_there told)) as_read (told_there told))

    pub settles : ((start disk : D) (c : Image) → g.may_leave disk c → g.left_since start disk c) → IsTrue (g.tells (disk_of v.log)) → Only (contents_of g v.log) (MayLeave g v.log)
    settles counts told = subst (λ (w : Wal D). Only (contents_of g w) (MayLeave g w)) here (settled g counts s is known (told_there told))

    -- its disk reads what it holds, and a crash leaves that
    module _ (disk : D) (is_its : disk ≡ disk_of v.log) (told : IsTrue (g.tells disk)) where
      known_now : IsKnown (g.size (disk_of (shelf_log s))) (g.seen (disk_of (shelf_log s))) (g.may_leave (disk_of (shelf_log s))) (shelf_log s)
      known_now = known (told_there (subst (λ (d : D). IsTrue (g.tells d)) is_its told))

      disk_there : disk_of (shelf_log s) ≡ disk
      disk_there = ap (λ (w : Wal D). disk_of w) here ∙ sym is_its

      pub disk_holds : HoldsBy g v.log (g.seen disk) (contents_of g v.log)
      disk_holds = subst (λ (t : Wal D × D). HoldsBy g t.0 (g.seen t.1) (contents_of g t.0)) (λ i. (here i, disk_there i))
          (known_holds g (shelf_log s) known_now (contents_of g (shelf_log s)).cells (is.knows (told_there (subst (λ (d : D). IsTrue (g.tells d)) is_its told))).stands)

      pub disk_leaves : Only (g.seen disk) (g.may_leave disk)
      disk_leaves = subst (λ (d : D). Only (g.seen d) (g.may_leave d)) disk_there known_now.durable
