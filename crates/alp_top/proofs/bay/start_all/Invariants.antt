use Rattle.std.proofs.Common.{◌≡◌}
use Rattle.alp_disk.specs.contracts.fuse.Fuse.{the_row}
use Rattle.alp_disk.specs.contracts.fuse.FuseDisk.TheImpl as fuse_disk
use Rattle.alp_store.specs.contracts.store.StoreVault.TheImpl as store_vault
use Rattle.alp_top.specs.Disks.{HaveBegun}
use Rattle.alp_top.proofs.bay.start_all.Given as goal

abbrev pub invariant-loop-at : goal.invariant-loop-at
invariant-loop-at g l = record {
  begun : HaveBegun (store_vault.ghosts (the_row g.row.B-Device g.B.Device.Disk) (fuse_disk.ghosts g.row.B-Device g.B.Device.Disk g.B.Device.Disk-dict g.B.Device.Destruct-dict) fuse_disk.no_dict fuse_disk.no_dict) g.B.Device.Disk (g.B.Bay.tells l.fn.bay) l.lines l.at (g.B.Bay.at l.fn.bay) (g.B.Bay.at l.bay) l.cluster;
  tells : g.B.Bay.tells l.bay ≡ g.B.Bay.tells l.fn.bay;
  chosen : g.B.Bay.chosen l.bay ≡ g.B.Bay.chosen l.fn.bay;
  faults : g.B.Bay.faults l.bay ≡ g.B.Bay.faults l.fn.bay;
}
