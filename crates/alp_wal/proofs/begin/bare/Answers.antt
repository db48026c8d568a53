use Rattle.std.proofs.Common.{refl}
use Rattle.alp_wal.proofs.Lives.{none_live}
use Rattle.alp_wal.proofs.Mounts.{finds_none}
use Rattle.alp_wal.proofs.begin.bare.Goals as goal

pub returns-clause-finds : goal.returns-clause-finds
returns-clause-finds c image = finds_none image c.args.anchor _ refl c.requires c.in_ok-index.ensures c.new-2.ensures

pub returns-clause-live : goal.returns-clause-live
returns-clause-live c = none_live _ c.new-2.ensures
