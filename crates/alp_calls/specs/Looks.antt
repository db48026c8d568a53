-- What a look into a vault leaves, and what may come in its way.
use Rattle.std.specs.Prelude.{◌≡◌, ◌≤◌, IsTrue, false, Result, Ok, Err, Option, None, Some}
use Rattle.alp_base.specs.Causes.{Rose}
use Rattle.alp_base.specs.declared.allowance.Allowance.TheVariants.{Spent}
use Rattle.alp_base.specs.declared.faults.VaultFault.{VaultFault}
use Rattle.alp_base.specs.declared.faults.VaultFault.TheVariants as vault_fault
use Rattle.alp_vault.specs.Vault.{IsSameVault}
use Rattle.alp_vault.specs.declared.vault.Vault.{Ghosts}
use Rattle.alp_base.specs.Crashes.{NoMore, Adds}
use Rattle.alp_calls.specs.declared.fault.CallFault.{CallFault}
use Rattle.alp_calls.specs.declared.fault.CallFault.TheVariants.{Failed, Stopped, OutOfMemory}

-- a vault's fault as that of a call
abbrev pub fault_as : VaultFault → CallFault
fault_as vault_fault.Failed = Failed
fault_as vault_fault.Stopped = Stopped
fault_as vault_fault.OutOfMemory = OutOfMemory
fault_as (vault_fault.NotAVolume found) = Failed
fault_as (vault_fault.Damaged place) = Failed

-- the fault that was answered, if one was
abbrev pub fault_in : {T : Type 0} → Result T CallFault → Option CallFault
fault_in (Ok x) = None
fault_in (Err f) = Some f

module _ {V : Type 0} (G : Ghosts V) where
  -- it holds what it held, and a crash leaves no more than it did
  pub record IsLeft (old new : V) : Type 0 where
    pub same : IsSameVault G.tells G.volume G.server G.servers old new
    pub contents : G.held new ≡ G.held old
    pub crash : NoMore (G.may_leave old) (G.may_leave new)
    pub time : Adds G.left_since old new (G.may_leave old)
    pub later : G.faults old ≤ G.faults new
    pub allowed : G.allowance new ≡ G.allowance old

  -- It is left so, and serves on, unless it was stopped, and then not. The count of faults stays but where it failed or was stopped, and a fault has its cause.
  abbrev pub Looks : V → V → Option CallFault → Type 0
  Looks old new None = IsLeft old new × IsTrue (G.serves new) × (G.faults new ≡ G.faults old)
  Looks old new (Some Failed) = IsLeft old new × IsTrue (G.serves new) × Rose (G.faults old) (G.faults new)
  Looks old new (Some Stopped) = IsLeft old new × (G.serves new ≡ false) × (G.allowance new ≡ Spent)
  Looks old new (Some OutOfMemory) = IsLeft old new × IsTrue (G.serves new) × (G.faults new ≡ G.faults old)
