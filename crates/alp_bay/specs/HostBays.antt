-- What stands in a bay of the host.
use Rattle.std.specs.Prelude.{◌≡◌, ℕ, List, Option, Some, None, IsTrue, not, is_some, string_bytes}
use Rattle.std.specs.Option.{option_map}
use Rattle.std.proofs.Common.{refl, sym}
use Rattle.std.proofs.lemmas.Option.{none-some}
use Rattle.alp_bay.specs.Bays.{IsFilled}
use Rattle.alp_bay.specs.MemBays.{disk_at}
use Rattle.alp_bay.specs.VolumeFiles.{volume_path}
use Rattle.alp_bay.specs.declared.folder.Folder.{Folder}
use Rattle.alp_bay.specs.declared.mem_bay.MemBay.{MemBay}
use Rattle.alp_bay.specs.declared.host_disk.HostDisk.{HostDisk}
use Rattle.alp_bay.specs.declared.host_disk.HostDisk.TheVariants as kind

-- the disk in memory at a server's place, if any
abbrev pub host_disk_at : MemBay → ℕ → Option HostDisk
host_disk_at memory server = option_map kind.Memory (disk_at memory server)

-- the name of the folder, if one was chosen
abbrev pub host_folder : Option Folder → Option (List ℕ)
host_folder folder = option_map (λ f. string_bytes f.at.name) folder

-- where none was chosen, what stands there is told
pub unnamed_tells : (folder : Option Folder) → host_folder folder ≡ None → IsTrue (not (is_some folder))
unnamed_tells None none = refl
unnamed_tells (Some x) none = absurd (none-some (string_bytes x.at.name) (sym none))

-- the disk is the file of that server in the folder
abbrev pub IsOfServer : ℕ → HostDisk → Folder → Type 0
IsOfServer server (kind.Memory m) folder = ⊥
IsOfServer server (kind.File f) folder = string_bytes f.path ≡ volume_path (string_bytes folder.at.name) server

-- A disk in memory stands at its server's place again, and the others stay. The file of a folder stands in the folder, and what is in memory
-- stays.
abbrev pub IsBackAt : ℕ → (before now : MemBay) → HostDisk → Type 0
IsBackAt server before now (kind.Memory m) = IsFilled (disk_at before) (disk_at now) server m
IsBackAt server before now (kind.File f) = now ≡ before
