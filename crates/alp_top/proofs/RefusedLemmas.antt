-- a server that the bay has no disk for, and faults that are handed on
use Rattle.std.specs.Prelude.{Bool, IsTrue, Option, Result, Ok, Err, IfErr}
use Rattle.std.specs.Result.{IsErr, IsErrAnd}
use Rattle.std.proofs.Common.{inl, inr, ◌⊎◌, ◌≡◌, ℕ, List, refl, sym, ◌∙◌, ap, subst}
use Rattle.alp_base.specs.Causes.{Rose}
use Rattle.alp_bay.specs.Bays.{HasBayCause}
use Rattle.alp_bay.specs.declared.bay.BayFault.{BayFault}
use Rattle.alp_bay.specs.declared.bay.BayFault.TheVariants as bay_fault
use Rattle.alp_disk.specs.declared.disk.Disk.{Ghosts}
use Rattle.alp_script.specs.declared.numbered.NumberedLine.{NumberedLine}
use Rattle.alp_top.specs.Disks.{IsUntaken, IsOfServer, IsRefusedHere}
use Rattle.alp_top.specs.Faults.{of_bay}
use Rattle.alp_top.specs.Volumes.{IsBayFault, IsBayTold, IsFolderChosen}
use Rattle.alp_top.specs.declared.fault.NoReport.{NoReport}
use Rattle.alp_top.specs.declared.fault.NoReport.TheVariants as fault

pub as_err : {U : Type 0} (f : NoReport) (r : Result U NoReport) → IsErr r → IsErrAnd r (λ e. e ≡ f) → r ≡ Err f
as_err f (Ok x) is same = cc
as_err f (Err e) is same = ap Err same

-- what holds of the fault holds of what is handed on
pub err_of : {U : Type 0} (P : NoReport → Type 0) (f : NoReport) (r : Result U NoReport) → IsErr r → IsErrAnd r (λ e. e ≡ f) → P f → IfErr r P
err_of {U = U} P f r is same p = subst (λ (q : Result U NoReport). IfErr q P) (sym (as_err f r is same)) p

pub told_of : {U : Type 0} (before now : ℕ) (f : NoReport) (r : Result U NoReport) → IsErr r → IsErrAnd r (λ e. e ≡ f) → IsBayFault f before now → IsBayTold r before now
told_of {U = U} before now f r is same p = subst (λ (q : Result U NoReport). IsBayTold q before now) (sym (as_err f r is same)) p

-- ---- the bay gave no disk

pub untaken : {T : Type 0} (before now : ℕ) (f : BayFault) → HasBayCause {T = T} before now (Err f) → IsUntaken (of_bay f) before now
untaken before now bay_fault.Failed h = h.failed refl
untaken before now bay_fault.OutOfMemory h = tt

of_none : {D : Type 0} (g : Ghosts D) (server : ℕ) (f : BayFault) → IsOfServer g server (of_bay f)
of_none g server bay_fault.Failed = tt
of_none g server bay_fault.OutOfMemory = tt

pub bay_refused : {D T : Type 0} (g : Ghosts D) (tells : Bool) (lines : List NumberedLine) (server : ℕ) (before now : ℕ → Option D) (bay_before bay_now : ℕ) (f : BayFault) → HasBayCause {T = T} bay_before bay_now (Err f) → (IsTrue tells → now ≡ before)
    → IsRefusedHere g tells lines server before now bay_before bay_now (of_bay f)
bay_refused {D} g tells lines server before now bay_before bay_now f cause same = record {
  refused = λ told. inl (ap (λ (places : ℕ → Option D). places server) (same told), untaken bay_before bay_now f cause);
  others = λ told k away. ap (λ (places : ℕ → Option D). places k) (same told);
  of_server = of_none g server f;
}

pub bay_counted : {T : Type 0} (before now : ℕ) (f : BayFault) → HasBayCause {T = T} before now (Err f) → IsBayFault (of_bay f) before now
bay_counted before now bay_fault.Failed h = h.failed refl
bay_counted before now bay_fault.OutOfMemory h = h.memory refl

-- a fault of a disk is none of the bay
pub disk_still : {D : Type 0} (g : Ghosts D) (server : ℕ) (f : NoReport) (before now : ℕ) → now ≡ before → (f ≡ fault.Bay → ⊥) → IsBayFault f before now
disk_still g server fault.Bay before now same other = absurd (other refl)
disk_still g server (fault.Disk s) before now same other = same
disk_still g server fault.OutOfMemory before now same other = same
disk_still g server fault.JournalFull before now same other = same
disk_still g server (fault.EpochEnd s) before now same other = same
disk_still g server (fault.NotAVolume s found) before now same other = same
disk_still g server (fault.Damaged s place) before now same other = same

-- which folder the bay is left with
pub bay_folder : {U : Type 0} (f : BayFault) (r : Result U NoReport) → IsErr r → IsErrAnd r (λ e. e ≡ of_bay f) → (was is named : Option (List ℕ)) → (is ≡ named) ⊎ (is ≡ was) → IsFolderChosen r was is named
bay_folder {U = U} f r err alike was is named left = subst (λ (q : Result U NoReport). IsFolderChosen q was is named) (sym (as_err (of_bay f) r err alike)) (go f)
  where
    go : (f : BayFault) → IsFolderChosen {T = U} (Err (of_bay f)) was is named
    go bay_fault.Failed = left
    go bay_fault.OutOfMemory = left

pub folder_taken : {U : Type 0} (r : Result U NoReport) (was is named : Option (List ℕ)) → is ≡ named → IsFolderChosen r was is named
folder_taken (Ok x) was is named same = same
folder_taken (Err fault.Bay) was is named same = inl same
folder_taken (Err (fault.Disk s)) was is named same = same
folder_taken (Err fault.OutOfMemory) was is named same = inl same
folder_taken (Err fault.JournalFull) was is named same = same
folder_taken (Err (fault.EpochEnd s)) was is named same = same
folder_taken (Err (fault.NotAVolume s found)) was is named same = same
folder_taken (Err (fault.Damaged s place)) was is named same = same
