use Rattle.alp_jobs.proofs.RestLemmas.{room_if, due_if, asked_if}
use Rattle.alp_jobs.proofs.job.Job.make_room.Goals as goal

pub returns-clause-goes : goal.returns-clause-goes
returns-clause-goes c = room_if c.reserve.result c.args.self.now c.reserve.new.self c.reserve.ensures.now

pub returns-clause-due : goal.returns-clause-due
returns-clause-due c = due_if c.reserve.result c.args.self.now c.reserve.new.self c.reserve.ensures.now

pub returns-clause-asked : goal.returns-clause-asked
returns-clause-asked c = asked_if c.reserve.result c.args.self.now c.reserve.new.self c.reserve.ensures.now
