use Rattle.std.proofs.Common.{◌≡◌, ◌≤◌, length}
use Rattle.alp_disk.specs.contracts.fuse.Fuse.{the_row}
use Rattle.alp_disk.specs.contracts.fuse.FuseDisk.TheImpl as fuse_disk
use Rattle.alp_store.specs.contracts.store.StoreVault.TheImpl as store_vault
use Rattle.alp_top.specs.Looks.{OnlyLooks}
use Rattle.alp_top.proofs.CloseLemmas.{Closing}
use Rattle.alp_top.proofs.bay.close_all.Given as goal

abbrev pub invariant-loop-station : goal.invariant-loop-station
invariant-loop-station g l = record {
  going : Closing (store_vault.ghosts (the_row g.row.B-Device g.B.Device.Disk) (fuse_disk.ghosts g.row.B-Device g.B.Device.Disk g.B.Device.Disk-dict g.B.Device.Destruct-dict) fuse_disk.no_dict fuse_disk.no_dict) g.B.Device.Disk (g.B.Bay.tells l.fn.bay) l.fn.stations.items l.stations.items (g.B.Bay.at l.fn.bay) (g.B.Bay.at l.bay) l.ended l.rests;
  looks : OnlyLooks l.ended;
  few : length l.stations.items ≤ 8;
  tells : g.B.Bay.tells l.bay ≡ g.B.Bay.tells l.fn.bay;
  chosen : g.B.Bay.chosen l.bay ≡ g.B.Bay.chosen l.fn.bay;
  faults : g.B.Bay.faults l.bay ≡ g.B.Bay.faults l.fn.bay;
}

abbrev pub decreases-loop-station : goal.decreases-loop-station
decreases-loop-station g l = length l.stations.items
