use Rattle.std.proofs.Common.{rules, arith}
use Rattle.alp_drill.proofs.StepLemmas.{pages_more, pages_left, pages_count, pages_some, pages_end, dice_end}
use Rattle.alp_drill.proofs.files.roll_pages.Goals as goal

pub loop-preserved : goal.loop-preserved
loop-preserved c =
    let before = c.loop.invariant in
    let most = c.args.shape.pages in
    record {
      pages = pages_more most c.loop.counter _ _ _ _ _ before.pages before.dice c.roll.ensures.value (search rules);
      dice = pages_left most c.loop.counter _ _ _ before.dice c.roll.ensures.dice;
      count = pages_count c.loop.counter c.roll.result _ _ before.count (search rules);
      some = pages_some c.roll.result _ _ before.some (search rules);
    }

pub returns-clause-pages : goal.returns-clause-pages
returns-clause-pages c = pages_end c.args.shape c.loop.counter c.args.dice.now c.loop.pages.items (omega (arith, c.loop.auto.counter-end, c.loop-test.false, c.files_of-count.ensures)) c.loop.invariant.pages

pub returns-clause-dice : goal.returns-clause-dice
returns-clause-dice c = dice_end c.args.shape c.loop.counter c.args.dice.now c.loop.dice (omega (arith, c.loop.auto.counter-end, c.loop-test.false, c.files_of-count.ensures)) c.loop.invariant.dice

pub returns-clause-files : goal.returns-clause-files
returns-clause-files c = record { count = omega (arith, c.loop.invariant.count, c.loop.auto.counter-end, c.loop-test.false, c.files_of-count.ensures); some = c.loop.invariant.some }
