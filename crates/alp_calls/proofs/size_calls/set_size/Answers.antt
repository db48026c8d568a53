use Rattle.alp_calls.proofs.size_calls.set_size.Goals as goal

pub returns-clause-proper : goal.returns-clause-proper
returns-clause-proper g c = c.in_ok-said.ensures.proper c.args.part.now
