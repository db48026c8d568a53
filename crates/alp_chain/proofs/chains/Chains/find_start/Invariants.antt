use Rattle.std.proofs.Common.{◌≡◌, ℕ, ◌<◌, ◌≤◌, Some, length}
use Rattle.alp_chain.specs.Linked.{times}
use Rattle.alp_chain.specs.Lists.{list_at}
use Rattle.alp_chain.specs.Chains.{StandOnce}
use Rattle.alp_chain.specs.Spans.{PageRun, runs}
use Rattle.alp_chain.proofs.WalkLemmas.{rest_from}
use Rattle.alp_chain.proofs.chains.Chains.find_start.Given as goal

abbrev pub invariant-loop-place : goal.invariant-loop-place
invariant-loop-place l = record {
  more : l.page < l.next;
  within : l.next ≤ l.end;
  gap : (n : ℕ) (a : PageRun) → runs l.self.nodes l.resource l.trans n ≡ Some a → times n (rest_from (list_at l.self.on l.resource) l.place) ≡ 0 → l.page < a.first → a.first < l.next → ⊥;
  member : (n : ℕ) → l.place ≡ Some n → 1 ≤ times n (list_at l.self.on l.resource);
  once : StandOnce l.self;
}

abbrev pub decreases-loop-place : goal.decreases-loop-place
decreases-loop-place l = length (rest_from (list_at l.self.on l.resource) l.place)
