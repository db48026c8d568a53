-- A volume that is made and opened at once.
use Rattle.std.specs.Prelude.{None, Result, Ok, Err, MatchResult, IfOk, IfErr}
use Rattle.std.specs.FinMap as map
use Rattle.std.specs.FinMap.{get-empty}
use Rattle.std.proofs.Common.{◌≡◌, ◌≤◌, ℕ, refl, ◌∙◌, ap, subst}
use Rattle.alp_anchor.specs.declared.anchor.Anchor.{Anchor}
use Rattle.alp_base.specs.Notes.{Notes, text_cmp}
use Rattle.alp_base.specs.Faults.{IsOfVolume, IsCountKept}
use Rattle.alp_base.specs.declared.faults.Sizes.{Sizes}
use Rattle.alp_base.specs.declared.faults.VaultFault.{VaultFault}
use Rattle.alp_base.specs.declared.faults.VaultFault.TheVariants as fault
use Rattle.alp_disk.specs.Calls.{OnlyRead}
use Rattle.alp_disk.specs.declared.disk.Disk.{Ghosts}
use Rattle.alp_format.specs.Format.{blank_state, IsRefused}
use Rattle.alp_pages.specs.Reading.{MayBeDamaged}
use Rattle.alp_pool.specs.Pools.{log_of, device_of}
use Rattle.alp_pool.specs.declared.pool.Pool.{Pool}
use Rattle.alp_vault.specs.Volumes.{AreServerNotes}
use Rattle.alp_wal.specs.State.{applied}
use Rattle.alp_wal.specs.Wal.{anchor_of, notes_of}
use Rattle.alp_store.specs.Reads.{IsReadOn}
use Rattle.alp_store.specs.ReadLaws.{read_told}
use Rattle.alp_store.specs.Shelves.{shelf_log}
use Rattle.alp_store.specs.Starts.{header_batch, IsDamagedHome}
use Rattle.alp_store.specs.Told.{pages_of, told_by, contents_of}
use Rattle.alp_store.specs.declared.shelf.Shelf.{Shelf}
use Rattle.alp_store.proofs.NewLaws.{new_contents, new_undamaged, refused_volume}

module _ {D : Type 0} (g : Ghosts D) (q : Pool D) (sizes : Sizes) (least : 512 ≤ sizes.home) (state : told_by g (log_of q) ≡ applied (blank_state sizes.home) header_batch) where
  pub made_empty : (result : Result (Shelf D) (D × VaultFault)) → MatchResult result (λ s. IsReadOn g q s.pages) (λ e. OnlyRead g (device_of q) e.0) → IfOk result (λ s. contents_of g (shelf_log s) ≡ record { cells = map.empty; notes = map.empty })
  made_empty (Ok s) read = new_contents sizes.home least (told_by g (shelf_log s)) (read_told g q s.pages read ∙ state)
  made_empty (Err e) read = tt

  pub made_volume : (result : Result (Shelf D) (D × VaultFault)) → (anchor_of (log_of q)).sizes ≡ sizes → IfErr result (λ e. (place : ℕ) → e.1 ≡ fault.Damaged place → IsDamagedHome (anchor_of (log_of q)).sizes (pages_of (told_by g (log_of q))) place)
      → IfErr result (λ e. MayBeDamaged e.1) → IfErr result (λ e. IsOfVolume e.1)
  made_volume (Ok s) sized damaged may = tt
  made_volume (Err e) sized damaged may = refused_volume e.1
      (λ place is. new_undamaged sizes (told_by g (log_of q)) place least state (subst (λ (z : Sizes). IsDamagedHome z (pages_of (told_by g (log_of q))) place) sized (damaged place is)))
      (λ found is. subst MayBeDamaged is may)

none_noted : (server servers : ℕ) (notes : Notes) → notes ≡ map.empty → AreServerNotes server servers notes
none_noted server servers notes none name value there =
    let gone : map.get notes name ≡ None = ap (λ (n : Notes). map.get n name) none ∙ get-empty text_cmp name in
    cc

pub noted_empty : {D : Type 0} (server servers : ℕ) (result : Result (Shelf D) (D × VaultFault)) → IfOk result (λ s. notes_of (shelf_log s) ≡ map.empty) → IfOk result (λ s. AreServerNotes server servers (notes_of (shelf_log s)))
noted_empty server servers (Ok s) none = none_noted server servers (notes_of (shelf_log s)) none
noted_empty server servers (Err e) none = tt

-- the anchor stays the first
pub made_anchored : {D : Type 0} (g : Ghosts D) (q : Pool D) (a : Anchor) → anchor_of (log_of q) ≡ a → (result : Result (Shelf D) (D × VaultFault)) → MatchResult result (λ s. IsReadOn g q s.pages) (λ e. OnlyRead g (device_of q) e.0) → IfOk result (λ s. anchor_of (shelf_log s) ≡ a)
made_anchored g q a is (Ok s) read = read.same.anchor ∙ is
made_anchored g q a is (Err e) read = tt

-- why a disk was not formatted: nothing but its device moves the count of faults
pub refused_still : {D : Type 0} (g : Ghosts D) (disk back : D) (f : VaultFault) → IsRefused g disk back f → IsCountKept (g.faults disk) (g.faults back) f
refused_still g disk back fault.Failed is = tt
refused_still g disk back fault.Stopped is = tt
refused_still g disk back fault.OutOfMemory is = ap g.faults (is.memory refl)
refused_still g disk back (fault.NotAVolume found) is = absurd (is.never_no_volume found refl)
refused_still g disk back (fault.Damaged place) is = absurd (is.never_damaged place refl)
