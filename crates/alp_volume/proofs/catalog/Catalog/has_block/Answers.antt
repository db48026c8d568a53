use Rattle.std.proofs.Common.{◌∙◌, ◌==◌, ℕ, ap, sym}
use Rattle.std.proofs.lemmas.Nat.Bits.{shr_and_one}
use Rattle.alp_volume.proofs.CountedLaws.{block_known, block_unknown}
use Rattle.alp_volume.proofs.catalog.Catalog.has_block.Goals as goal

pub returns-in_default : goal.returns-in_default
returns-in_default c home at m stands knows = block_unknown home at m stands c.args.self.now knows c.args.file c.args.block (sym c.get.ensures ∙ c.in_default.is)

pub returns : goal.returns
returns c home at m stands knows =
    ap (λ (n : ℕ). n == 1) (shr_and_one c.in-Some.kept.blocks c.args.block)
    ∙ block_known home at m stands c.args.self.now knows c.args.file c.args.block c.in-Some.kept c.requires (sym c.get.ensures ∙ c.in-Some.is)
