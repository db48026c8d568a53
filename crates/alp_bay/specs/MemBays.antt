-- What stands in a bay in memory.
use Rattle.std.specs.Prelude.{ℕ, Option, None, get_or}
use Rattle.std.specs.Option.{option_map}
use Rattle.alp_disk.specs.declared.mem_disk.MemDisk.{MemDisk}
use Rattle.alp_bay.specs.declared.mem_bay.MemBay.{MemBay}

-- the disk at a server's place, if any
abbrev pub disk_at : MemBay → ℕ → Option MemDisk
disk_at bay server = option_map (λ standing. standing.disk) (get_or bay.places.items server None)
