use Rattle.std.proofs.Common.{◌≡◌, ℕ, ◌∙◌, Some, None, is_some, nat_cmp, ap}
use Rattle.std.specs.FinMap as map
use Rattle.alp_modes.specs.declared.Mode.TheVariants.{Read, Write}
use Rattle.alp_chain.specs.declared.node.NodeView.{NodeView}
use Rattle.alp_chain.specs.Chains.{Chains, is_whole, with_mode_as}
use Rattle.alp_chain_tests.proofs.FreeLemmas.{unused-none, unused-not, put-view}
use Rattle.alp_chain_tests.proofs.tests.changes_and_goes.Goals as goal

-- what stands at the node that was added
added_view : (k : ℕ) (w : NodeView) (c d : Chains) → d.nodes ≡ map.insert c.nodes k w → map.get d.nodes k ≡ Some w
added_view k w c d is = ap (λ (m : map.FinMap nat_cmp NodeView). map.get m k) is ∙ put-view c.nodes k w

pub add-requires-clause-whole : goal.add-requires-clause-whole
add-requires-clause-whole c n = unused-not 2 c.new-chains.result.nodes n (unused-none 2 c.new-chains.result.nodes (ap (λ (h : Chains). h.nodes) c.new-chains.ensures.empty))

pub add-requires-clause-first : goal.add-requires-clause-first
add-requires-clause-first c n = unused-not 2 c.new-chains.result.nodes n (unused-none 2 c.new-chains.result.nodes (ap (λ (h : Chains). h.nodes) c.new-chains.ensures.empty))

pub set_mode-requires : goal.set_mode-requires
set_mode-requires c = ap is_whole (added_view c.in_ok-node.node (record { resource = 2; trans = 7; mode = Read; span = None }) c.new-chains.result c.add.new.self (ap (λ (h : Chains). h.nodes) c.in_ok-node.ensures.ok))

pub remove-requires : goal.remove-requires
remove-requires c =
    let view : NodeView = record { resource = 2; trans = 7; mode = Read; span = None } in
    let there : map.get c.add.new.self.nodes c.in_ok-node.node ≡ Some view = added_view c.in_ok-node.node view c.new-chains.result c.add.new.self (ap (λ (h : Chains). h.nodes) c.in_ok-node.ensures.ok) in
    let is : c.set_mode.new.self ≡ with_mode_as c.add.new.self c.in_ok-node.node Write (Some view) = c.set_mode.ensures.after ∙ ap (with_mode_as c.add.new.self c.in_ok-node.node Write) there in
    ap is_some (added_view c.in_ok-node.node (record view { mode = Write }) c.add.new.self c.set_mode.new.self (ap (λ (h : Chains). h.nodes) is))
