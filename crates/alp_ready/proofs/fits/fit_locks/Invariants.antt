use Rattle.std.specs.Prelude.{All}
use Rattle.std.proofs.Common.{take}
use Rattle.alp_base.specs.declared.key.Resource.{Resource}
use Rattle.alp_modes.specs.declared.Mode.{Mode}
use Rattle.alp_fields.specs.Fields.{FitsResource}
use Rattle.alp_ready.proofs.fits.fit_locks.Given as goal

abbrev pub invariant-loop-lock : goal.invariant-loop-lock
invariant-loop-lock l = All (λ (e : Resource × Mode). FitsResource e.0) (take l.lock-index l.locks)
