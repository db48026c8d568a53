use Rattle.std.proofs.Common.{arith}
use Rattle.alp_drill.proofs.StepLemmas.{none_yet, jobs_more, jobs_end}
use Rattle.alp_drill.proofs.storms.add_jobs.Goals as goal

pub loop-i-init : goal.loop-i-init
loop-i-init c = none_yet c.args.script.now.items

pub loop-i-preserved : goal.loop-i-preserved
loop-i-preserved c = jobs_more c.args.storm c.loop-i.i _ _ _ c.loop-i.invariant c.in_ok-add_job.ensures

pub returns : goal.returns
returns c = jobs_end c.args.storm c.loop-i.i _ _ (omega (arith, c.loop-i.auto.i-end, c.loop-i-test.false)) c.loop-i.invariant
