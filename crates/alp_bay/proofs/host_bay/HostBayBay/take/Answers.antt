use Rattle.std.proofs.Common.{◌≡◌, ℕ, ap}
use Rattle.std.specs.Prelude.{Option}
use Rattle.std.specs.Option.{option_map}
use Rattle.alp_disk.specs.declared.mem_disk.MemDisk.{MemDisk}
use Rattle.alp_bay.specs.declared.host_disk.HostDisk.TheVariants as kind
use Rattle.alp_bay.proofs.host_bay.HostBayBay.take.Goals as goal

pub returns-in-Err-clause-refused : goal.returns-in-Err-clause-refused
returns-in-Err-clause-refused g c = ap (λ (f : ℕ → Option MemDisk). λ (server : ℕ). option_map kind.Memory (f server)) c.in-Err.ensures.refused
