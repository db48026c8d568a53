-- What a call that reads home pages leaves of its reader, and why it fails.
use Rattle.std.specs.Prelude.{◌≡◌, ℕ, Result, MatchResult, IfErr}
use Rattle.alp_base.specs.declared.allowance.Allowance.{Allowance}
use Rattle.alp_base.specs.declared.faults.VaultFault.{VaultFault}
use Rattle.alp_base.specs.declared.faults.VaultFault.TheVariants.{Failed, Stopped, OutOfMemory, NotAVolume, Damaged}
use Rattle.alp_base.specs.Faults.{HasVaultCause, HasFaultCause, IsCountKept, IsOfVolume}

-- The reader did no more than reads. The call failed or was stopped only by a read that was; else memory was not there.
pub record HasRead {R T : Type 0} (ReadOn : R → R → Type 0) (faults : R → ℕ) (allowance : R → Allowance) (old new : R) (result : Result T VaultFault) : Type 0 where
  pub on : ReadOn old new
  pub cause : HasVaultCause (faults old) (faults new) (allowance new) result
  pub fault : IfErr result IsOfVolume

-- the device is a volume; a page of it may be damaged
abbrev pub MayBeDamaged : VaultFault → Type 0
MayBeDamaged Failed = Unit {0}
MayBeDamaged Stopped = Unit {0}
MayBeDamaged OutOfMemory = Unit {0}
MayBeDamaged (NotAVolume found) = ⊥
MayBeDamaged (Damaged place) = Unit {0}

-- The same of a call that reads a whole volume, and names the page that is damaged.
pub record HasReadAll {R T : Type 0} (ReadOn : R → R → Type 0) (faults : R → ℕ) (allowance : R → Allowance) (old new : R) (result : Result T VaultFault) : Type 0 where
  pub on : ReadOn old new
  pub still : MatchResult result (λ _. faults new ≡ faults old) (IsCountKept (faults old) (faults new))
  pub cause : IfErr result (HasFaultCause (faults old) (faults new) (allowance new))
  pub fault : IfErr result MayBeDamaged
