-- Why no record was read, through a call of its own.
use Rattle.std.proofs.Common.{◌≡◌, ℕ, Ok, Err, arith}
use Rattle.alp_base.specs.declared.allowance.Allowance.{Allowance}
use Rattle.alp_record.specs.declared.fault.RecordFault.TheVariants.{Damaged}
use Rattle.alp_record.specs.Read.{HasRecordCause}

-- what was read went well
pub none_of_ok : {T : Type 0} (before now : ℕ) (a : Allowance) (x : T) → now ≡ before → HasRecordCause before now a (Ok x)
none_of_ok before now a x same = record { later = omega (arith, same); still = same; failed = λ is. grind arith; stopped = λ is. grind arith }

-- what was read is no record
pub none_of_damage : {T : Type 0} (before now : ℕ) (a : Allowance) (place : ℕ) → now ≡ before → HasRecordCause {T = T} before now a (Err (Damaged place))
none_of_damage before now a place same = record { later = omega (arith, same); still = same; failed = λ is. grind arith; stopped = λ is. grind arith }
