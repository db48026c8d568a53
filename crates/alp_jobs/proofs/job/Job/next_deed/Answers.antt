use Rattle.alp_jobs.proofs.RestLemmas.{done_if}
use Rattle.alp_jobs.proofs.job.Job.next_deed.Goals as goal

pub returns-clause-done : goal.returns-clause-done
returns-clause-done c = done_if c.due.result c.args.self.now c.due.ensures.due
