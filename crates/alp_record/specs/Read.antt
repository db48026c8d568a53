-- Why no record was read.
use Rattle.std.specs.Prelude.{◌≡◌, ◌≤◌, ℕ, Result, MatchResult, IsErrOf}
use Rattle.alp_base.specs.Causes.{Rose}
use Rattle.alp_base.specs.declared.faults.Halt.TheVariants.{Failed, Stopped}
use Rattle.alp_base.specs.declared.allowance.Allowance.{Allowance}
use Rattle.alp_base.specs.declared.allowance.Allowance.TheVariants.{Spent}
use Rattle.alp_record.specs.declared.fault.RecordFault.{RecordFault}
use Rattle.alp_record.specs.declared.fault.RecordFault.TheVariants.{Halted, OutOfMemory, Damaged}

-- the count of faults moves only where the device halted
abbrev pub IsCountKept : ℕ → ℕ → RecordFault → Type 0
IsCountKept before now (Halted halt) = Unit {0}
IsCountKept before now OutOfMemory = now ≡ before
IsCountKept before now (Damaged place) = now ≡ before

-- why the device halted: it failed where the count of faults rose, and was stopped where the allowance is spent then
pub record HasRecordCause {T : Type 0} (before now : ℕ) (allowance : Allowance) (result : Result T RecordFault) : Type 0 where
  pub later : before ≤ now
  pub still : MatchResult result (λ _. now ≡ before) (IsCountKept before now)
  pub failed : IsErrOf result (Halted Failed) → Rose before now
  pub stopped : IsErrOf result (Halted Stopped) → allowance ≡ Spent
