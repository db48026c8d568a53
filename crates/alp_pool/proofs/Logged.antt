-- What the log holds, while its disk is read.
use Rattle.std.specs.Prelude.{slice_index_or, false}
use Rattle.std.proofs.Common.{◌≡◌, ◌<◌, ℕ, suc, List, [], ◌∷◌, length, Some, None, refl, sym, ◌∙◌, ap, subst, arith, IsTrue}
use Rattle.alp_disk.specs.declared.disk.Disk.{Ghosts}
use Rattle.alp_disk.specs.Disk.{Image, page}
use Rattle.alp_disk.specs.Calls.{OnlyRead}
use Rattle.alp_wal.specs.declared.wal.Wal.{Wal}
use Rattle.alp_wal.specs.Reading.{home_pages, home_first}
use Rattle.alp_wal.specs.Home.{Index}
use Rattle.alp_wal.specs.State.{State}
use Rattle.alp_wal.specs.Wal.{disk_of, anchor_of, index_of, is_dead, state_of, shown, IsLog, IsKnown}
use Rattle.alp_wal.specs.Calls.{IsSameLog}
use Rattle.alp_wal.proofs.States.{shown_some, length-pages_from}
use Rattle.alp_pool.specs.Buffers.{AreBuffersOf, Buffers}
use Rattle.alp_pool.specs.Pools.{log_of, buffers_of, device_of, held_by, IsPool}
use Rattle.alp_pool.specs.declared.pool.Pool.{Pool}

module _ {D : Type 0} (w : Wal D) (image : Image) where
  -- the image of a home page is what the log holds there
  pub logged_is_held : (at : ℕ) (p : List ℕ) → at < (anchor_of w).sizes.home → slice_index_or (index_of w) at None ≡ Some p → p ≡ page (state_of w image).pages at
  logged_is_held at p low there = sym (shown_some (home_pages image (anchor_of w)) (index_of w) at p there (omega (arith, low, length-pages_from image (home_first (anchor_of w)) (anchor_of w).sizes.home)))

-- the same log, over a disk that reads the same, holds the same
pub holds_the_same : {D : Type 0} (g : Ghosts D) (old new : Wal D) → IsSameLog old new → g.seen (disk_of new) ≡ g.seen (disk_of old) → state_of new (g.seen (disk_of new)) ≡ state_of old (g.seen (disk_of old))
holds_the_same g old new same seen = λ i. record { pages = shown (home_pages (seen i) (same.anchor i)) (same.index i); notes = (same.notes i).notes }

-- a call that reads, and leaves the buffers
pub still_pool : {D : Type 0} (g : Ghosts D) (p q : Pool D) → IsPool g p → IsLog (g.size (device_of q)) (log_of q)
    → (IsKnown (g.size (device_of p)) (g.seen (device_of p)) (g.may_leave (device_of p)) (log_of p) → IsKnown (g.size (device_of q)) (g.seen (device_of q)) (g.may_leave (device_of q)) (log_of q))
    → IsSameLog (log_of p) (log_of q) → OnlyRead g (device_of p) (device_of q) → buffers_of q ≡ buffers_of p → IsPool g q
still_pool g p q was log known same read held =
    let here : (held_by g q).pages ≡ (held_by g p).pages = ap (λ (s : State). s.pages) (holds_the_same g (log_of p) (log_of q) same read.seen) in
    record {
      log = log;
      known = λ told alive. known (was.known (subst IsTrue read.tells told) (sym same.dead ∙ alive));
      buffers = λ told. subst (λ (t : Image × Buffers). AreBuffersOf t.0 t.1) (λ i. (sym here i, sym held i)) (was.buffers (subst IsTrue read.tells told));
    }

length-shown : (pages : Image) (index : Index) → length (shown pages index) ≡ length pages
length-shown [] index = refl
length-shown (p ∷ pages) [] = ap suc (length-shown pages [])
length-shown (p ∷ pages) (None ∷ index) = ap suc (length-shown pages index)
length-shown (p ∷ pages) (Some image ∷ index) = ap suc (length-shown pages index)

-- there are as many pages as the volume has home pages
pub as_many_pages : {D : Type 0} (w : Wal D) (image : Image) → length (state_of w image).pages ≡ (anchor_of w).sizes.home
as_many_pages w image = length-shown (home_pages image (anchor_of w)) (index_of w) ∙ length-pages_from image (home_first (anchor_of w)) (anchor_of w).sizes.home

-- the log after a call, under buffers in step with it
pub pool_over : {D : Type 0} (g : Ghosts D) (p : Pool D) (w : Wal D) → log_of p ≡ w → IsLog (g.size (disk_of w)) w
    → (IsTrue (g.tells (disk_of w)) → is_dead w ≡ false → IsKnown (g.size (disk_of w)) (g.seen (disk_of w)) (g.may_leave (disk_of w)) w)
    → (IsTrue (g.tells (disk_of w)) → AreBuffersOf (state_of w (g.seen (disk_of w))).pages (buffers_of p)) → IsPool g p
pool_over g p w is log known buffers = record {
  log = subst (λ (v : Wal _). IsLog (g.size (disk_of v)) v) (sym is) log;
  known = subst (λ (v : Wal _). IsTrue (g.tells (disk_of v)) → is_dead v ≡ false → IsKnown (g.size (disk_of v)) (g.seen (disk_of v)) (g.may_leave (disk_of v)) v) (sym is) known;
  buffers = subst (λ (v : Wal _). IsTrue (g.tells (disk_of v)) → AreBuffersOf (state_of v (g.seen (disk_of v))).pages (buffers_of p)) (sym is) buffers;
}
