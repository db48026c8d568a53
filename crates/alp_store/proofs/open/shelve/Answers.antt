use Rattle.alp_store.proofs.Holdings.{read_shelf}
use Rattle.alp_store.proofs.OpenLaws.{shelf_read}
use Rattle.alp_store.proofs.open.shelve.Goals as goal

pub returns-in-Ok-clause-shelf : goal.returns-in-Ok-clause-shelf
returns-in-Ok-clause-shelf g c =
    read_shelf g.D.Disk (record { pages = c.args.pages; catalog = c.in-Ok.catalog }) c.read_catalog.new.pages c.read_catalog.ensures.read.on
    (shelf_read g.D.Disk c.args.pages c.knows.ensures c.requires.alive c.requires.server c.in-Ok.catalog c.in-Ok.ensures.sized c.in-Ok.ensures.right c.in-Ok.ensures.known)
