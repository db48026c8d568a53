use Rattle.alp_pool.specs.Pools.{log_of}
use Rattle.alp_wal.specs.Wal.{anchor_of}
use Rattle.alp_store.specs.Told.{pages_of, told_by, contents_of}
use Rattle.alp_store.proofs.shelf.Shelf.has_block.Goals as goal

pub returns : goal.returns
returns g c told =
    let w = log_of c.args.self.now.pages in
    let known = c.requires.shelf.knows told in
    c.has_block.ensures (anchor_of w).sizes.home (pages_of (told_by g.D.Disk w)) (contents_of g.D.Disk w).cells known.stands known.knows
