use Rattle.std.proofs.Common.{List, sym, subst}
use Rattle.alp_lines.specs.declared.line.Line.{Line}
use Rattle.alp_drill.specs.Storms.{AreOfJob}
use Rattle.alp_drill.proofs.StormLemmas.{jobs_own}
use Rattle.alp_drill.proofs.storms.storm_job.Goals as goal

pub returns-clause-own : goal.returns-clause-own
returns-clause-own c = subst (λ (job : List (List Line)). AreOfJob c.args.storm c.args.client job) (sym c.in_ok-job.ensures) (jobs_own c.args.storm c.args.client c.requires.storm c.requires.client)
