use Rattle.std.proofs.Common.{sym}
use Rattle.alp_vault.proofs.CountLemmas.{block_known}
use Rattle.alp_calls.proofs.counting.puts_page.Goals as goal

pub returns : goal.returns
returns c = sym (block_known c.args.ahead.now.puts c.args.file c.args.number c.puts_page_in.result c.puts_page_in.ensures.page c.puts_page_in.ensures.none)
