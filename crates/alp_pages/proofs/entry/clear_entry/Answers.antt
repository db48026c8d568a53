use Rattle.alp_pages.proofs.PageParts.{cleared_own, cleared_others}
use Rattle.alp_pages.proofs.entry.clear_entry.Goals as goal

pub returns-clause-own : goal.returns-clause-own
returns-clause-own c = cleared_own c.args.page.now c.set_zeros.new.out c.args.k c.requires.page c.requires.within c.set_zeros.ensures

pub returns-clause-others : goal.returns-clause-others
returns-clause-others c = cleared_others c.args.page.now c.set_zeros.new.out c.args.k c.requires.page c.requires.within c.set_zeros.ensures
