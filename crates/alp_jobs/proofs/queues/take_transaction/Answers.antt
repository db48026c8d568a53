use Rattle.alp_jobs.proofs.QueueLemmas.{some_taken, none_taken}
use Rattle.alp_jobs.proofs.queues.take_transaction.Goals as goal

pub returns-clause-some : goal.returns-clause-some
returns-clause-some c = some_taken c.pop_front.result c.args.transactions.now.items c.pop_front.new.self.items c.pop_front.ensures.items

pub returns-clause-none : goal.returns-clause-none
returns-clause-none c = none_taken c.pop_front.result c.args.transactions.now.items c.pop_front.new.self.items c.pop_front.ensures.items c.pop_front.ensures.rest
