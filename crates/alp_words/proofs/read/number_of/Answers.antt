use Rattle.alp_words.proofs.Numbers.{too_small, too_great, within}
use Rattle.alp_words.proofs.read.number_of.Goals as goal

pub returns-then-number-least-clause-number : goal.returns-then-number-least-clause-number
returns-then-number-least-clause-number c = too_small c.args.least c.args.most c.args.text.now c.parse.result c.in-Ok.number c.parse.ensures.value.0 c.in-Ok.is c.if-number-least.true

pub returns-then-most-number-clause-number : goal.returns-then-most-number-clause-number
returns-then-most-number-clause-number c = too_great c.args.least c.args.most c.args.text.now c.parse.result c.in-Ok.number c.parse.ensures.value.0 c.in-Ok.is c.if-most-number.true

pub returns-clause-number : goal.returns-clause-number
returns-clause-number c =
    within c.args.least c.args.most c.args.text.now c.parse.result c.in-Ok.number c.parse.ensures.value.0 c.in-Ok.is c.if-number-least.false c.if-most-number.false
