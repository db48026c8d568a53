use Rattle.std.specs.Global.{Global}
use Rattle.std.specs.Prelude.{Vec, map}
use Rattle.alp_lines.specs.declared.line.Line.{Line}
use Rattle.alp_jobs.proofs.RestLemmas.{new_if}
use Rattle.alp_jobs.proofs.job.Job.new.Goals as goal

pub returns-clause-does : goal.returns-clause-does
returns-clause-does c = new_if c.args.number (map (λ (ls : Vec Line Global). ls.items) c.args.transactions.items) c.args.clients c.fresh.result c.fresh.ensures
