-- What a disk shows that is in memory, or a file of the host.
use Rattle.std.specs.Prelude.{◌≡◌, ℕ, Bool}
use Rattle.alp_disk.specs.Disk.{Image}
use Rattle.alp_disk.specs.contracts.mem_disk.MemDiskDisk.TheImpl as mem_disk
use Rattle.alp_disk.specs.contracts.file_disk.FileDiskDisk.TheImpl as file_disk
use Rattle.alp_disk.specs.declared.mem_disk.MemDisk.{MemDisk}
use Rattle.alp_bay.specs.declared.host_disk.HostDisk.{HostDisk}
use Rattle.alp_bay.specs.declared.host_disk.HostDisk.TheVariants as kind
use Rattle.alp_bay.specs.declared.volume_file.VolumeFile.{VolumeFile}

-- what holds of each of the two kinds holds of the disk
abbrev pub each : (P : HostDisk → Type 0) → ((m : MemDisk) → P (kind.Memory m)) → ((f : VolumeFile) → P (kind.File f)) → (d : HostDisk) → P d
each P memory file (kind.Memory m) = memory m
each P memory file (kind.File f) = file f

-- whether it tells what it holds: only in memory
abbrev pub tells_of : HostDisk → Bool
tells_of (kind.Memory m) = mem_disk.ghosts.tells m
tells_of (kind.File f) = file_disk.ghosts.tells f.disk

abbrev pub size_of : HostDisk → ℕ
size_of (kind.Memory m) = mem_disk.ghosts.size m
size_of (kind.File f) = file_disk.ghosts.size f.disk

abbrev pub seen_of : HostDisk → Image
seen_of (kind.Memory m) = mem_disk.ghosts.seen m
seen_of (kind.File f) = file_disk.ghosts.seen f.disk

abbrev pub LeftBy : HostDisk → Image → Type 0
LeftBy (kind.Memory m) = mem_disk.ghosts.may_leave m
LeftBy (kind.File f) = file_disk.ghosts.may_leave f.disk

abbrev pub faults_of : HostDisk → ℕ
faults_of (kind.Memory m) = mem_disk.ghosts.faults m
faults_of (kind.File f) = file_disk.ghosts.faults f.disk

-- a crash leaves it of its kind, as disks of that kind are left; a file is the one of that path
abbrev pub CrashedBy : ℕ → HostDisk → HostDisk → Type 0
CrashedBy pick (kind.Memory m) (kind.Memory n) = mem_disk.ghosts.crashed m pick n
CrashedBy pick (kind.File f) (kind.File g) = file_disk.ghosts.crashed f.disk pick g.disk × (g.path ≡ f.path)
CrashedBy pick (kind.Memory m) (kind.File g) = ⊥
CrashedBy pick (kind.File f) (kind.Memory n) = ⊥
