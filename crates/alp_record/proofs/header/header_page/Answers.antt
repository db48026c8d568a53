use Rattle.std.proofs.Common.{◌∙◌}
use Rattle.alp_record.proofs.Headers.{header_bytes}
use Rattle.alp_record.proofs.header.header_page.Goals as goal

pub returns : goal.returns
returns c = c.beginning.ensures ∙ header_bytes c.args.generation c.args.size _ _ c.to_be_bytes-g.ensures c.to_be_bytes-s.ensures
