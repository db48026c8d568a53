use Rattle.alp_pages.proofs.PageParts.{entry_own, entry_others}
use Rattle.std.proofs.Common.{arith}
use Rattle.alp_pages.proofs.entry.set_entry.Goals as goal

pub returns-clause-own : goal.returns-clause-own
returns-clause-own c =
    entry_own c.args.page.now c.set_file_id.new.out c.set_zeros.new.out c.set_u32.new.out c.args.k c.args.entry.now c.requires.page (omega arith) c.requires.within c.set_file_id.ensures c.set_zeros.ensures
    c.set_u32.ensures c.requires.placed

pub returns-clause-others : goal.returns-clause-others
returns-clause-others c =
    entry_others c.args.page.now c.set_file_id.new.out c.set_zeros.new.out c.set_u32.new.out c.args.k c.args.entry.now c.requires.page (omega arith) c.requires.within c.set_file_id.ensures c.set_zeros.ensures
    c.set_u32.ensures
