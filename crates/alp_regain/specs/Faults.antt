-- What came of the vault where a server does not regain what its notes keep.
use Rattle.std.specs.Prelude.{Result, Ok, Err, Option, None, Some}
use Rattle.alp_calls.specs.declared.fault.CallFault.{CallFault}
use Rattle.alp_calls.specs.declared.fault.CallFault.TheVariants.{Failed, Stopped, OutOfMemory}
use Rattle.alp_regain.specs.declared.fault.RegainFault.{RegainFault}
use Rattle.alp_regain.specs.declared.fault.RegainFault.TheVariants.{BadNote, Vault}

-- a bad note is no fault of the vault
abbrev pub fault_in : RegainFault → Option CallFault
fault_in BadNote = None
fault_in (Vault f) = Some f

abbrev pub fault_from : {T : Type 0} → Result T RegainFault → Option CallFault
fault_from (Ok x) = None
fault_from (Err f) = fault_in f

-- it is a bad note, or want of memory, and no fault of a device
abbrev pub IsOfNoDevice : RegainFault → Type 0
IsOfNoDevice BadNote = Unit {0}
IsOfNoDevice (Vault Failed) = ⊥
IsOfNoDevice (Vault Stopped) = ⊥
IsOfNoDevice (Vault OutOfMemory) = Unit {0}
