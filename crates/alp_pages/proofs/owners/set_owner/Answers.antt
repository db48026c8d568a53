use Rattle.alp_pages.proofs.PageParts.{row_own, row_others}
use Rattle.alp_pages.proofs.owners.set_owner.Goals as goal

pub returns-clause-own : goal.returns-clause-own
returns-clause-own c =
    row_own c.args.page.now c.set_bytes.new.out c.encode_owner.new.out c.args.k c.args.owner.now c.requires.page c.requires.within c.encode_owner.ensures.spelled c.encode_owner.ensures.fits c.set_bytes.ensures

pub returns-clause-others : goal.returns-clause-others
returns-clause-others c =
    row_others c.args.page.now c.set_bytes.new.out c.encode_owner.new.out c.args.k c.args.owner.now c.requires.page c.requires.within c.encode_owner.ensures.spelled c.encode_owner.ensures.fits c.set_bytes.ensures
