use Rattle.alp_jobs.proofs.RestLemmas.{gone_if}
use Rattle.alp_jobs.proofs.job.Job.goes_on.Goals as goal

pub returns-clause-goes : goal.returns-clause-goes
returns-clause-goes c = gone_if c.go_on.result c.args.self.now c.go_on.new.self c.requires.over c.go_on.ensures.now
