-- A store as its callers see it.
use Rattle.std.specs.Prelude.{Bool}
use Rattle.alp_wal.specs.declared.wal.Wal.{Wal}

-- its log, and whether it serves
pub record StoreOf (D : Type 0) : Type 0 where
  pub log : Wal D
  pub serves : Bool
