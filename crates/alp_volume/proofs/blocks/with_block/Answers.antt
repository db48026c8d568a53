use Rattle.std.specs.Prelude.{Bool, true, false, not, ◌==◌}
use Rattle.std.proofs.Common.{◌≡◌, ◌∙◌, refl, sym, ap, w32}
use Rattle.std.proofs.lemmas.Nat.Bits.{bit_at_set_same, bit_at_set_other}
use Rattle.alp_pages.specs.Counted.{bit}
use Rattle.alp_pages.proofs.NamingLaws.{eqb_other}
use Rattle.alp_volume.proofs.blocks.with_block.Goals as goal

pub returns-clause-own : goal.returns-clause-own
returns-clause-own c = bit_at_set_same w32 c.args.blocks c.args.block c.requires.within ∙ sym (ap (λ (t : Bool). bit (not t)) (eqb_other c.args.place 0 c.if-place-eq0.false))

pub returns-clause-others : goal.returns-clause-others
returns-clause-others c b other = bit_at_set_other w32 c.args.blocks c.args.block c.requires.within b other
