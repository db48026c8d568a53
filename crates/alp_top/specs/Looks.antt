-- What a call leaves of a vault that it only looks at.
use Rattle.std.specs.Prelude.{◌≡◌, IsTrue, Result, Ok, Err, OnOk}
use Rattle.alp_base.specs.Crashes.{NoMore}
use Rattle.alp_cluster.specs.declared.fault.RunFault.{RunFault}
use Rattle.alp_cluster.specs.declared.fault.RunFault.TheVariants as fault
use Rattle.alp_vault.specs.declared.vault.Vault.{Ghosts}

-- a look ends where the device failed, or memory was wanting: no journal is asked for room, and no server is started again
abbrev pub IsLookFault : RunFault → Type 0
IsLookFault (fault.DiskFault server) = Unit {0}
IsLookFault fault.OutOfMemory = Unit {0}
IsLookFault f = ⊥

abbrev pub OnlyLooks : {T : Type 0} → Result T RunFault → Type 0
OnlyLooks (Ok x) = Unit {0}
OnlyLooks (Err f) = IsLookFault f

-- a call that only looks: what the vault holds stays, a crash leaves no more than before, and where it went well the vault serves on
pub record HasLooked {V T : Type 0} (G : Ghosts V) (old new : V) (result : Result T RunFault) : Type 0 where
  pub held : G.held new ≡ G.held old
  pub crash : NoMore (G.may_leave old) (G.may_leave new)
  pub allowance : G.allowance new ≡ G.allowance old
  pub serves : OnOk result (IsTrue (G.serves new))
  pub ends : OnlyLooks result
