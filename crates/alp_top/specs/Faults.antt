-- How a fault of a part is told of the whole run.
use Rattle.std.specs.Prelude.{ℕ}
use Rattle.alp_base.specs.declared.faults.VaultFault.{VaultFault}
use Rattle.alp_base.specs.declared.faults.VaultFault.TheVariants as vault_fault
use Rattle.alp_bay.specs.declared.bay.BayFault.{BayFault}
use Rattle.alp_bay.specs.declared.bay.BayFault.TheVariants as bay_fault
use Rattle.alp_node.specs.declared.start.StartFault.{StartFault}
use Rattle.alp_node.specs.declared.start.StartFault.TheVariants as start_fault
use Rattle.alp_cluster.specs.declared.fault.RunFault.{RunFault}
use Rattle.alp_cluster.specs.declared.fault.RunFault.TheVariants as run_fault
use Rattle.alp_top.specs.declared.fault.NoReport.{NoReport}
use Rattle.alp_top.specs.declared.fault.NoReport.TheVariants as fault

abbrev pub of_bay : BayFault → NoReport
of_bay bay_fault.Failed = fault.Bay
of_bay bay_fault.OutOfMemory = fault.OutOfMemory

-- a disk that is started is not stopped then
abbrev pub of_vault : ℕ → VaultFault → NoReport
of_vault server vault_fault.Failed = fault.Disk server
of_vault server vault_fault.Stopped = fault.Disk server
of_vault server vault_fault.OutOfMemory = fault.OutOfMemory
of_vault server (vault_fault.NotAVolume found) = fault.NotAVolume server found
of_vault server (vault_fault.Damaged place) = fault.Damaged server place

-- place 0 stands for a note
abbrev pub of_start : ℕ → StartFault → NoReport
of_start server (start_fault.Vault f) = of_vault server f
of_start server start_fault.BadNote = fault.Damaged server 0
of_start server start_fault.EpochEnd = fault.EpochEnd server

abbrev pub played : RunFault → NoReport
played (run_fault.DiskFault server) = fault.Disk server
played run_fault.OutOfMemory = fault.OutOfMemory
played run_fault.JournalFull = fault.JournalFull
played (run_fault.Start server f) = of_start server f
