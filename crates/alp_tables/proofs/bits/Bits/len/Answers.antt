use Rattle.std.proofs.Common.{◌∙◌, length, ap, sym}
use Rattle.alp_tables.proofs.BitsLaws.{flags_long}
use Rattle.alp_tables.proofs.bits.Bits.len.Goals as goal

pub returns : goal.returns
returns c = sym (flags_long c.self.inside.words.items c.self.inside.len) ∙ ap length c.self.view_is
