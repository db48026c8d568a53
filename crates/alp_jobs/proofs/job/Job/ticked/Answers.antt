use Rattle.alp_jobs.proofs.RestLemmas.{tick_if}
use Rattle.alp_jobs.proofs.job.Job.ticked.Goals as goal

pub returns-clause-does : goal.returns-clause-does
returns-clause-does c = tick_if c.args.self.now c.tick.new.self c.tick.ensures
