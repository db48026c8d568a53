use Rattle.std.proofs.Common.{sym}
use Rattle.alp_vault.proofs.CountLemmas.{block_known}
use Rattle.alp_calls.proofs.counting.has_page.Goals as goal

pub returns : goal.returns
returns c = sym (block_known c.args.cells.now c.args.file c.args.number c.has_page_in.result c.has_page_in.ensures.page c.has_page_in.ensures.none)
