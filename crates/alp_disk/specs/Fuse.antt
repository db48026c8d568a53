-- What a fuse shows.
use Rattle.std.specs.Prelude.{◌≡◌, ◌↔◌, Result, Err}
use Rattle.alp_base.specs.Allowances.{burnt}
use Rattle.alp_base.specs.declared.allowance.Allowance.{Allowance}
use Rattle.alp_base.specs.declared.allowance.Allowance.TheVariants.{Spent}
use Rattle.alp_base.specs.declared.faults.Halt.{Halt}
use Rattle.alp_base.specs.declared.faults.Halt.TheVariants.{Stopped}
use Rattle.alp_disk.specs.declared.disk.Disk.{Ghosts}
use Rattle.alp_disk.specs.declared.fuse.Fuse.{Fuse}

abbrev pub inner_of : {D : Type 0} {G : Ghosts D} → Fuse D G → D
inner_of f = f.inner

abbrev pub allowance_of : {D : Type 0} {G : Ghosts D} → Fuse D G → Allowance
allowance_of f = f.allowance

-- A changing call burns the allowance. It is stopped just where none is left then; a fuse that had stopped stays as it was.
pub record Burns {D : Type 0} {G : Ghosts D} {T : Type 0} (old new : Fuse D G) (result : Result T Halt) : Type 0 where
  pub allowance : allowance_of new ≡ burnt (allowance_of old)
  pub stops : (result ≡ Err Stopped) ↔ (allowance_of new ≡ Spent)
  pub stopped : allowance_of old ≡ Spent → new ≡ old
