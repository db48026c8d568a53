-- what reading a part of a line tells
use Rattle.std.specs.Prelude.{◌≡◌, Result, Ok, Err, Option, None, Some}
use Rattle.alp_tokens.specs.declared.fault.LineFault.{LineFault}
use Rattle.alp_tokens.specs.declared.fault.LineFault.TheVariants as fault

-- the result is what is said, or nothing is said and the result is outside, unless memory ran out
abbrev pub TellsBy : {X Y : Type 0} → (X → Y) → Result X LineFault → Option Y → Type 0
TellsBy view (Ok x) said = said ≡ Some (view x)
TellsBy view (Err fault.Outside) said = said ≡ None
TellsBy view (Err fault.OutOfMemory) said = Unit {0}

abbrev pub Tells : {X : Type 0} → Result X LineFault → Option X → Type 0
Tells result said = TellsBy (λ x. x) result said
