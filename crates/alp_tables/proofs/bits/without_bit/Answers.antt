use Rattle.std.proofs.Common.{w32}
use Rattle.std.proofs.lemmas.Nat.Bits.{bit_at_clear_same, bit_at_clear_other}
use Rattle.alp_tables.proofs.bits.without_bit.Goals as goal

pub returns-clause-own : goal.returns-clause-own
returns-clause-own c = bit_at_clear_same w32 c.args.word c.args.bit c.requires

pub returns-clause-others : goal.returns-clause-others
returns-clause-others c i few other = bit_at_clear_other w32 c.args.word c.args.bit c.requires i few other
