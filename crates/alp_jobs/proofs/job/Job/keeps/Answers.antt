use Rattle.std.proofs.Common.{sym, ◌∙◌, ap}
use Rattle.alp_jobs.specs.States.{JobState}
use Rattle.alp_jobs.proofs.RestLemmas.{placed}
use Rattle.alp_jobs.proofs.job.Job.keeps.Goals as goal

pub push_reserved-requires : goal.push_reserved-requires
push_reserved-requires c = placed c.self.inside.room c.self.inside.items (ap (λ (j : JobState). j.room) c.self.view_is ∙ c.requires.room) c.self.invariant.place
