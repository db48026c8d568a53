use Rattle.std.proofs.Common.{ap}
use Rattle.alp_chain.specs.Chains.{Chains, nodes_of}
use Rattle.alp_chain.proofs.LockLemmas.{locks-none}
use Rattle.alp_chain.proofs.StepLemmas.{none-is, none-chained}
use Rattle.alp_chain.proofs.chains.Chains.new.Goals as goal

pub invariant_of-result : goal.invariant_of-result
invariant_of-result c = none-chained c.new.result c.new-2.result c.new-3.result c.new.ensures.empty c.new-2.ensures c.new-3.ensures

pub returns-clause-empty : goal.returns-clause-empty
returns-clause-empty c = none-is c.new.result c.new-2.result c.new-3.result c.new.ensures.empty c.new-2.ensures c.new-3.ensures

pub returns-clause-locks : goal.returns-clause-locks
returns-clause-locks c = locks-none (nodes_of c.new.result) (ap (λ (h : Chains). h.nodes) (none-is c.new.result c.new-2.result c.new-3.result c.new.ensures.empty c.new-2.ensures c.new-3.ensures))
