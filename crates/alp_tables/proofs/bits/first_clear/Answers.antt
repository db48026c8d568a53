use Rattle.std.proofs.Common.{refl}
use Rattle.alp_tables.proofs.BitsLaws.{found_clear, found_lowest, word_full}
use Rattle.alp_tables.proofs.bits.first_clear.Goals as goal

pub returns-in-Some-clause-clear : goal.returns-in-Some-clause-clear
returns-in-Some-clause-clear c = found_clear c.args.words.now c.loop-at.at c.in-Some.bit c.in-Some.ensures.clear.0 c.in-Some.ensures.clear.1

pub returns-in-Some-clause-lowest : goal.returns-in-Some-clause-lowest
returns-in-Some-clause-lowest c = found_lowest c.args.words.now c.loop-at.at c.in-Some.bit c.in-Some.ensures.clear.0 c.in-Some.ensures.lowest c.loop-at.invariant

pub loop-at-preserved : goal.loop-at-preserved
loop-at-preserved c = word_full c.args.words.now c.loop-at.at (c.in_default.ensures.full refl) c.loop-at.invariant
