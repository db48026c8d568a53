use Rattle.alp_jobs.proofs.RestLemmas.{timeout_if}
use Rattle.alp_jobs.proofs.job.Job.timed_out.Goals as goal

pub returns-clause-does : goal.returns-clause-does
returns-clause-does c = timeout_if c.args.self.now c.time_out.new.self c.time_out.ensures
