use Rattle.alp_locks.proofs.LawLemmas.{all-or-none, all-of-waiter, all-of-plan, entering-keeps-held}
use Rattle.alp_locks.proofs.laws.grants_are_of_all_or_none.Goals as goal

pub returns-clause-asked : goal.returns-clause-asked
returns-clause-asked c = all-or-none

pub returns-clause-woken : goal.returns-clause-woken
returns-clause-woken c = all-of-waiter

pub returns-clause-taken : goal.returns-clause-taken
returns-clause-taken c = all-of-plan

pub returns-clause-entered : goal.returns-clause-entered
returns-clause-entered c = entering-keeps-held
