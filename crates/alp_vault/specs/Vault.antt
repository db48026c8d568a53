-- What the calls of a vault answer, and why.
use Rattle.std.specs.Prelude.{◌≡◌, ◌≤◌, ℕ, Bool, true, false, IsTrue, Result, MatchResult}
use Rattle.alp_base.specs.Allowances.{Spends}
use Rattle.alp_base.specs.Faults.{HasVaultCause}
use Rattle.alp_base.specs.Crashes.{Only, NoMore}
use Rattle.alp_base.specs.declared.allowance.Allowance.{Allowance}
use Rattle.alp_base.specs.declared.faults.Sizes.{Sizes}
use Rattle.alp_base.specs.declared.faults.VaultFault.{VaultFault}
use Rattle.alp_base.specs.declared.faults.VaultFault.TheVariants.{Failed, Stopped, OutOfMemory, NotAVolume, Damaged}

-- ---- what no call changes

-- the sizes that a volume may have, in pages
pub record AreSizes (s : Sizes) : Type 0 where
  pub home_least : 512 ≤ s.home
  pub home_most : s.home ≤ 65536
  pub area_least : 64 ≤ s.area
  pub area_most : s.area ≤ 4096

-- a server by its number, which is one of so many
pub record IsServer (server servers : ℕ) : Type 0 where
  pub first : 1 ≤ server
  pub among : server ≤ servers
  pub most : servers ≤ 8

-- No call changes what a vault is: whether it tells what it holds, the sizes of its volume, its server and how many there are.
pub record IsSameVault {V : Type 0} (tells : V → Bool) (volume : V → Sizes) (server servers : V → ℕ) (old new : V) : Type 0 where
  pub telling : tells new ≡ tells old
  pub sizes : volume new ≡ volume old
  pub number : server new ≡ server old
  pub of_all : servers new ≡ servers old

-- ---- whether a vault serves on

-- a read that failed leaves it serving, and one that was stopped does not
abbrev pub serves_past_read : VaultFault → Bool
serves_past_read Failed = true
serves_past_read Stopped = false
serves_past_read OutOfMemory = true
serves_past_read (NotAVolume found) = true
serves_past_read (Damaged place) = true

-- nor does a change that failed or was stopped
abbrev pub serves_past_change : VaultFault → Bool
serves_past_change Failed = false
serves_past_change Stopped = false
serves_past_change OutOfMemory = true
serves_past_change (NotAVolume found) = true
serves_past_change (Damaged place) = true

-- how a commit ends: whether the vault serves on, what it spent, and why it was refused
pub record HasEnded {V T : Type 0} (serves : V → Bool) (faults : V → ℕ) (allowance : V → Allowance) (old new : V) (result : Result T VaultFault) : Type 0 where
  pub serving : MatchResult result (λ _. IsTrue (serves new)) (λ f. serves new ≡ serves_past_change f)
  pub spends : Spends (allowance old) (allowance new)
  pub cause : HasVaultCause (faults old) (faults new) (allowance new) result

-- ---- crashes and recoveries

-- the count of faults did not fall, and nobody added to the allowance
pub record HasSpent {V : Type 0} (faults : V → ℕ) (allowance : V → Allowance) (old new : V) : Type 0 where
  pub later : faults old ≤ faults new
  pub spends : Spends (allowance old) (allowance new)

-- A crash gives one of the outcomes there were, and the vault that comes back has no other.
pub record IsOneOf {C : Type 0} (old new : C → Type 0) : Type 0 where
  pub was : NoMore old new
  pub alone : ∥ ((c : C) × new c × Only c new) ∥₁
