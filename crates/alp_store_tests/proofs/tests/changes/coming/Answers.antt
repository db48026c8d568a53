use Rattle.std.proofs.Common.{refl}
use Rattle.alp_store_tests.proofs.ChangeLemmas.{owner_comes}
use Rattle.alp_store_tests.proofs.tests.changes.coming.Goals as goal

pub returns : goal.returns
returns c =
    rw (c.change_of.ensures, c.new-3.ensures.items, c.new-4.ensures.items, c.in_ok-puts.ensures.items)
    (owner_comes c.args.cells.now _ refl c.requires)
