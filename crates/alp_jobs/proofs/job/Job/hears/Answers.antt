use Rattle.alp_jobs.proofs.RestLemmas.{sent_if}
use Rattle.alp_jobs.proofs.job.Job.hears.Goals as goal

pub returns-clause-does : goal.returns-clause-does
returns-clause-does c = sent_if c.hear.result c.args.self.now c.hear.new.self c.args.frame c.args.item c.requires.asked c.requires.fits c.requires.sent c.hear.ensures.now
