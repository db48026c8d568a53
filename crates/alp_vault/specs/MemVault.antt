-- What a vault in memory shows.
use Rattle.std.specs.Prelude.{◌≡◌, true}
use Rattle.alp_base.specs.Allowances.{burnt, Passes}
use Rattle.alp_base.specs.Crashes.{SameOutcomes}
use Rattle.alp_base.specs.declared.allowance.Allowance.{Allowance}
use Rattle.alp_vault.specs.Contents.{Contents}
use Rattle.alp_vault.specs.HeldWords.{contents_of}
use Rattle.alp_vault.specs.Stages.{held_at, MayLeave}
use Rattle.alp_vault.specs.Vault.{IsSameVault}
use Rattle.alp_vault.specs.declared.mem_vault.MemVault.{MemVault}

-- the contents in memory
abbrev pub kept_by : MemVault → Contents
kept_by v = contents_of v.held

abbrev pub held_by : MemVault → Contents
held_by v = held_at v.stage (kept_by v)

abbrev pub LeftBy : MemVault → Contents → Type 0
LeftBy v = MayLeave v.stage (kept_by v)

-- the same vault as far as no call changes it
abbrev pub IsSame : MemVault → MemVault → Type 0
IsSame old new = IsSameVault (λ v. true) (λ v. v.sizes) (λ v. v.server) (λ v. v.servers) old new

-- it holds what it held, and a crash may leave what it might have left
pub record IsAsWas (old new : MemVault) : Type 0 where
  pub holds : held_by new ≡ held_by old
  pub outcomes : SameOutcomes (LeftBy old) (LeftBy new)

-- a changing call passed, and counts
pub record IsPassed (before now : Allowance) : Type 0 where
  pub passes : Passes before
  pub burns : now ≡ burnt before
