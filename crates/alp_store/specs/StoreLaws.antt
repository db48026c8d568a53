-- Laws of what a crash may leave of a store.
use Rattle.alp_disk.specs.Disk.{Image}
use Rattle.alp_disk.specs.declared.disk.Disk.{Ghosts}
use Rattle.alp_vault.specs.Contents.{Contents}
use Rattle.alp_wal.specs.Wal.{disk_of}
use Rattle.alp_wal.specs.declared.wal.Wal.{Wal}
use Rattle.alp_store.specs.Holding.{MayLeave, LeftSince}

module _ {D : Type 0} (g : Ghosts D) where
  pub left_now : ((start disk : D) (c : Image) → g.may_leave disk c → g.left_since start disk c) → (start w : Wal D) (c : Contents) → MayLeave g w c → LeftSince g start w c
  left_now counts start w c may = record { image = may.image; left = counts (disk_of start) (disk_of w) may.image may.left; holds = may.holds }

  pub left_here : ((disk : D) (c : Image) → g.left_since disk disk c → g.may_leave disk c) → (w : Wal D) (c : Contents) → LeftSince g w w c → MayLeave g w c
  left_here only w c was = record { image = was.image; left = only (disk_of w) was.image was.left; holds = was.holds }
