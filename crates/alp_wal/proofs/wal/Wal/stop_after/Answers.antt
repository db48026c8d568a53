use Rattle.std.proofs.Common.{refl, sym}
use Rattle.alp_wal.proofs.Commits.{known_kept}
use Rattle.alp_wal.proofs.wal.Wal.stop_after.Goals as goal

pub returns-clause-known : goal.returns-clause-known
returns-clause-known g c known = known_kept (sym c.stop_after.ensures.size) (sym c.stop_after.ensures.seen) c.stop_after.ensures.crash.no_more refl refl refl refl known
