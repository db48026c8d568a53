use Rattle.alp_locks.proofs.ReleaseLemmas.{releases-in-order, leaves-none-free, releases-alone}
use Rattle.alp_locks.proofs.laws.releases_grant_what_is_free.Goals as goal

pub returns-clause-in_order : goal.returns-clause-in_order
returns-clause-in_order c = releases-in-order

pub returns-clause-none_free : goal.returns-clause-none_free
returns-clause-none_free c = leaves-none-free

pub returns-clause-alone : goal.returns-clause-alone
returns-clause-alone c = releases-alone
