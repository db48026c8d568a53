-- Why the host gave no folder, or no disk.
use Rattle.std.specs.Prelude.{◌≡◌, ◌≢◌, ℕ, ◌*◌, ◌<◌, ◌≤◌, ◌^◌, List, [], Option, None, Some}
use Rattle.std.specs.Fs.{metadata_len, file_type, IsDir}
use Rattle.std.specs.declared.fs.attrs.Metadata.{Metadata}
use Rattle.alp_bay.specs.declared.refusal.Refusal.{Refusal}
use Rattle.alp_bay.specs.declared.refusal.Refusal.TheVariants as refusal
use Rattle.alp_bay.specs.declared.refusal.HostFault.{HostFault}
use Rattle.alp_bay.specs.declared.refusal.HostFault.TheVariants as fault

-- of the refusal, or of want of memory
abbrev pub MatchFault : HostFault → (Refusal → Type 0) → Type 0 → Type 0
MatchFault (fault.Refused r) P Q = P r
MatchFault fault.OutOfMemory P Q = Q

-- a disk has two pages or more, and fewer than 2^32: this is no length of one
abbrev pub IsNoLength : Metadata → Type 0
IsNoLength found = (metadata_len found ≢ 0) × ((pages : ℕ) → 2 ≤ pages → pages < 2 ^ 32 → metadata_len found ≢ 512 * pages)

-- Why a folder was not found at a name: it is empty, no folder stands there, or the call failed.
abbrev pub IsNoFolderFor : List ℕ → Refusal → Type 0
IsNoFolderFor name refusal.NoName = name ≡ []
IsNoFolderFor name (refusal.NoFolder found) = IsDir (file_type found) → ⊥
IsNoFolderFor name (refusal.Host e) = Unit {0}
IsNoFolderFor name (refusal.Locked e) = ⊥
IsNoFolderFor name (refusal.Length found) = ⊥

-- at the name that was given
abbrev pub IsNoFolderAt : Option (List ℕ) → Refusal → Type 0
IsNoFolderAt None r = ⊥
IsNoFolderAt (Some name) r = IsNoFolderFor name r

-- why a file gave no disk: its length is none of a disk, its lock was not given, or another call failed
abbrev pub IsNoDiskFor : Refusal → Type 0
IsNoDiskFor refusal.NoName = ⊥
IsNoDiskFor (refusal.NoFolder found) = ⊥
IsNoDiskFor (refusal.Host e) = Unit {0}
IsNoDiskFor (refusal.Locked e) = Unit {0}
IsNoDiskFor (refusal.Length found) = IsNoLength found

-- a call failed
abbrev pub IsCallFailed : Refusal → Type 0
IsCallFailed refusal.NoName = ⊥
IsCallFailed (refusal.NoFolder found) = ⊥
IsCallFailed (refusal.Host e) = Unit {0}
IsCallFailed (refusal.Locked e) = Unit {0}
IsCallFailed (refusal.Length found) = ⊥

-- the same of a fault: memory may have been wanting
abbrev pub IsNoFolder : List ℕ → HostFault → Type 0
IsNoFolder name f = MatchFault f (IsNoFolderFor name) (Unit {0})

abbrev pub IsNoDisk : HostFault → Type 0
IsNoDisk f = MatchFault f IsNoDiskFor (Unit {0})

-- a call failed, and memory was not wanting
abbrev pub IsOfHost : HostFault → Type 0
IsOfHost f = MatchFault f IsCallFailed ⊥

-- a refusal is kept, for such a reason
abbrev pub HasWhy : (Refusal → Type 0) → Option Refusal → Type 0
HasWhy P None = ⊥
HasWhy P (Some r) = P r
