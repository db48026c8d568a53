use Rattle.std.proofs.Common.{rules, arith}
use Rattle.alp_drill.proofs.StepLemmas.{part_more, part_left, parts_end}
use Rattle.alp_drill.proofs.storms.job_of.Goals as goal

pub loop-number-preserved : goal.loop-number-preserved
loop-number-preserved c =
    let before = c.loop-number.invariant in
    record {
      parts = part_more c.args.pages.now c.args.storm c.args.client c.loop-number.number c.loop-number.job.items c.push.new.self.items c.in_ok-lines.lines c.loop-number.dice c.turn_of-turn.result c.turn_of-turn.ensures.turn before.parts before.dice c.in_ok-lines.ensures.lines (search rules);
      dice = part_left c.args.pages.now c.args.storm c.args.client c.loop-number.number _ _ _ c.turn_of-turn.ensures.turn before.dice c.in_ok-lines.ensures.dice;
    }

pub returns : goal.returns
returns c =
    parts_end c.args.pages.now c.args.storm c.args.client c.loop-number.number _ (omega (arith, c.loop-number.auto.number-end, c.loop-number-test.false)) c.requires.files.same
    c.loop-number.invariant.parts
