-- What the calls of a bay leave.
use Rattle.std.specs.Prelude.{◌≡◌, ◌≢◌, ℕ, ◌≤◌, ◌<◌, ◌^◌, List, String, string_bytes, Option, None, Some, Result, OnOk, IsErrOf, IsTrue, replicate}
use Rattle.std.specs.Option.{option_map}
use Rattle.std.proofs.Common.{arith}
use Rattle.alp_base.specs.Causes.{Rose}
use Rattle.alp_base.specs.Crashes.{Only}
use Rattle.alp_base.specs.Pages.{zero_page}
use Rattle.alp_disk.specs.declared.disk.Disk.{Ghosts}
use Rattle.alp_bay.specs.declared.bay.BayFault.{BayFault}
use Rattle.alp_bay.specs.declared.bay.BayFault.TheVariants as fault

-- the name of the folder, if one was chosen
abbrev pub folder_name : {Z : Type 0} → Option (String Z) → Option (List ℕ)
folder_name folder = option_map string_bytes folder

-- The count of faults did not fall in a call, rose where the call failed, and stayed where it went well or lacked memory.
pub record HasBayCause {T : Type 0} (before now : ℕ) (result : Result T BayFault) : Type 0 where
  pub later : before ≤ now
  pub still : OnOk result (now ≡ before)
  pub failed : IsErrOf result fault.Failed → Rose before now
  pub memory : IsErrOf result fault.OutOfMemory → now ≡ before

-- a new device of so many pages: it tells what it holds, reads as zeros, would read so after a crash, and has not failed yet
pub record IsNewDevice {D : Type 0} (g : Ghosts D) (pages : ℕ) (device : D) : Type 0 where
  pub tells : IsTrue (g.tells device)
  pub size : g.size device ≡ pages
  pub zeros : g.seen device ≡ replicate pages zero_page
  pub synced : Only (replicate pages zero_page) (g.may_leave device)
  pub faults : g.faults device ≡ 0

-- what stood there, or a new device
abbrev pub IsTaken : {D : Type 0} → Ghosts D → Option D → ℕ → D → Type 0
IsTaken g None pages device = IsNewDevice g pages device
IsTaken g (Some stood) pages device = device ≡ stood

-- nothing stands at that place, and the others are as before
pub record IsEmptied {D : Type 0} (before now : ℕ → Option D) (server : ℕ) : Type 0 where
  pub here : now server ≡ None
  pub others : (k : ℕ) → k ≢ server → now k ≡ before k

-- this device stands there, and the others are as before
pub record IsFilled {D : Type 0} (before now : ℕ → Option D) (server : ℕ) (device : D) : Type 0 where
  pub here : now server ≡ Some device
  pub others : (k : ℕ) → k ≢ server → now k ≡ before k

-- a bay that never fails has room for its count
pub no_faults : 0 < 2 ^ 64
no_faults = omega arith
