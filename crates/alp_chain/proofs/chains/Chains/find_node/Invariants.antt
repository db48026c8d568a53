use Rattle.std.proofs.Common.{◌≡◌, ℕ, ◌≤◌, Some, find, length}
use Rattle.alp_chain.specs.Linked.{times}
use Rattle.alp_chain.specs.Lists.{list_at}
use Rattle.alp_chain.specs.Chains.{StandOnce}
use Rattle.alp_chain.specs.Spans.{runs, has_page}
use Rattle.alp_chain.proofs.WalkLemmas.{rest_from}
use Rattle.alp_chain.proofs.chains.Chains.find_node.Given as goal

abbrev pub invariant-loop-place : goal.invariant-loop-place
invariant-loop-place l = record {
  found : find (λ n. has_page (runs l.self.nodes l.resource l.trans n) l.page) (list_at l.self.on l.resource) ≡ find (λ n. has_page (runs l.self.nodes l.resource l.trans n) l.page) (rest_from (list_at l.self.on l.resource) l.place);
  member : (n : ℕ) → l.place ≡ Some n → 1 ≤ times n (list_at l.self.on l.resource);
  once : StandOnce l.self;
}

abbrev pub decreases-loop-place : goal.decreases-loop-place
decreases-loop-place l = length (rest_from (list_at l.self.on l.resource) l.place)
