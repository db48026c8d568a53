use Rattle.alp_jobs.proofs.PatienceLemmas.{job_patient}
use Rattle.alp_jobs.proofs.laws.jobs_are_patient.Goals as goal

pub returns : goal.returns
returns c k ts e d ds does plain within small = job_patient k ts e d ds does plain within small
