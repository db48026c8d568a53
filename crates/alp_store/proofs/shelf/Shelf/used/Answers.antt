use Rattle.std.proofs.Common.{arith}
use Rattle.alp_pool.specs.Pools.{log_of}
use Rattle.alp_wal.specs.Wal.{anchor_of}
use Rattle.alp_store.specs.Told.{pages_of, told_by, contents_of}
use Rattle.alp_store.proofs.shelf.Shelf.used.Goals as goal

pub used-requires : goal.used-requires
used-requires g c = ((anchor_of (log_of c.args.self.now.pages)).sizes.home, c.requires.sized, omega (arith, c.requires.store.sizes.least_home))

pub returns-clause-places : goal.returns-clause-places
returns-clause-places g c told =
    let w = log_of c.args.self.now.pages in
    let known = c.requires.knows told in
    c.used.ensures.used (anchor_of w).sizes.home (pages_of (told_by g.D.Disk w)) (contents_of g.D.Disk w).cells known.stands known.knows c.requires.sized (omega (arith, c.requires.store.sizes.least_home))

pub returns-clause-room : goal.returns-clause-room
returns-clause-room g c = c.used.ensures.room (anchor_of (log_of c.args.self.now.pages)).sizes.home c.requires.sized (omega (arith, c.requires.store.sizes.least_home))
