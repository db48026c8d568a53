use Rattle.alp_store_tests.proofs.ChangeLemmas.{file_written}
use Rattle.alp_store_tests.proofs.tests.changes.writing.Goals as goal

pub returns : goal.returns
returns c =
    rw (c.change_of.ensures, c.new-3.ensures.items, c.in_ok-cuts.ensures.items, c.in_ok-puts.ensures.items)
    (file_written c.args.cells.now c.args.file c.args.size c.args.props _ c.args.number _ c.requires.within c.requires.sized c.in_ok-charged.ensures)
