use Rattle.alp_locks.proofs.HolderLemmas.{names-first, names-any}
use Rattle.alp_locks.proofs.laws.holders_are_first_and_least.Goals as goal

pub returns-clause-first : goal.returns-clause-first
returns-clause-first c = names-first

pub returns-clause-any : goal.returns-clause-any
returns-clause-any c = names-any
