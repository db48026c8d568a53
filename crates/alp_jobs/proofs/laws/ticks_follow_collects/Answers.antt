use Rattle.alp_jobs.proofs.TickLemmas.{job_ticked}
use Rattle.alp_jobs.proofs.laws.ticks_follow_collects.Goals as goal

pub returns : goal.returns
returns c k ts crowd d ds does = job_ticked k ts crowd ds d does
