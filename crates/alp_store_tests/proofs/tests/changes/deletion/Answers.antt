use Rattle.alp_store_tests.proofs.ChangeLemmas.{file_goes}
use Rattle.alp_store_tests.proofs.tests.changes.deletion.Goals as goal

pub returns : goal.returns
returns c =
    rw (c.change_of.ensures, c.in_ok-drops.ensures.items, c.new.ensures.items, c.in_ok-puts.ensures.items)
    (file_goes c.args.cells.now c.args.file c.args.owner c.args.size _ c.requires.stands c.requires.sized c.in_ok-charged.ensures)
