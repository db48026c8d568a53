use Rattle.std.proofs.Common.{◌≤◌, option_map, is_some, IsSome, sym, ◌∙◌, ap, subst, arith}
use Rattle.std.specs.FinMap as map
use Rattle.slab.specs.Slab.{get}
use Rattle.alp_chain.specs.Linked.{times}
use Rattle.alp_chain.specs.Lists.{Lists, list_at}
use Rattle.alp_chain.specs.declared.node.Node.{Node}
use Rattle.alp_chain.specs.declared.node.Way.TheVariants.{Resource}
use Rattle.alp_chain.specs.Chains.{Chains, chains_of, removed, removed_as}
use Rattle.alp_chain.specs.Spans.{AreLocks}
use Rattle.alp_chain.proofs.ListLemmas.{some-kept}
use Rattle.alp_chain.proofs.ChainLemmas.{get-nodes}
use Rattle.alp_chain.proofs.LockLemmas.{locks-gone}
use Rattle.alp_chain.proofs.StepLemmas.{there-is, member-on, member-of, other-lists, other-listed, remove-is, remove-once, remove-chained}
use Rattle.alp_chain.proofs.chains.Chains.remove.Goals as goal

pub index-requires : goal.index-requires
index-requires c = there-is c.self.inside.nodes c.args.node (subst (λ (h : Chains). IsSome (map.get h.nodes c.args.node)) (sym c.self.view_is) c.requires)

pub take_off-requires-clause-listed : goal.take_off-requires-clause-listed
take_off-requires-clause-listed c = c.self.invariant.on

pub take_off-requires-clause-there : goal.take_off-requires-clause-there
take_off-requires-clause-there c = member-on c.self.inside.nodes c.self.inside.on c.self.inside.of c.self.inside.spare c.args.node c.index.result.now.view c.self.invariant (get-nodes c.self.inside.nodes c.args.node ∙ ap (option_map (λ (v : Node). v.view)) c.index.ensures)

pub take_off-requires-2-clause-listed : goal.take_off-requires-2-clause-listed
take_off-requires-2-clause-listed c = other-listed Resource c.self.inside.nodes c.take_off.new.nodes c.take_off.ensures.rest c.self.inside.of.ends c.self.invariant.of

pub take_off-requires-2-clause-there : goal.take_off-requires-2-clause-there
take_off-requires-2-clause-there c =
    subst (λ (m : Lists). 1 ≤ times c.args.node (list_at m c.index.result.now.view.trans)) (sym (other-lists Resource c.self.inside.nodes c.take_off.new.nodes c.take_off.ensures.rest c.self.inside.of.ends c.self.invariant.of))
    (member-of c.self.inside.nodes c.self.inside.on c.self.inside.of c.self.inside.spare c.args.node c.index.result.now.view c.self.invariant (get-nodes c.self.inside.nodes c.args.node ∙ ap (option_map (λ (v : Node). v.view)) c.index.ensures))

pub remove-requires : goal.remove-requires
remove-requires c =
    some-kept (get c.take_off.new.nodes c.args.node) (get c.take_off-2.new.nodes c.args.node) (c.take_off-2.ensures.rest.views c.args.node)
    (some-kept (get c.self.inside.nodes c.args.node) (get c.take_off.new.nodes c.args.node) (c.take_off.ensures.rest.views c.args.node) (ap is_some c.index.ensures))

pub invariant_of-self : goal.invariant_of-self
invariant_of-self c =
    remove-chained c.self.inside.nodes c.take_off.new.nodes c.take_off-2.new.nodes c.remove.new.self c.self.inside.on c.self.inside.of c.take_off.new.heads c.take_off-2.new.heads c.self.inside.spare c.args.node c.index.result.now.view c.self.invariant (get-nodes c.self.inside.nodes c.args.node ∙ ap (option_map (λ (v : Node). v.view)) c.index.ensures) c.take_off.ensures.rest c.take_off-2.ensures.rest c.remove.ensures.updates c.remove.ensures.capacity
    c.take_off.ensures.lists c.take_off.ensures.listed c.take_off-2.ensures.lists c.take_off-2.ensures.listed
    (omega (arith, c.self.invariant.room, c.take_off.ensures.rest.len, c.take_off-2.ensures.rest.len, c.take_off.ensures.rest.capacity, c.take_off-2.ensures.rest.capacity))
    (omega (arith, c.self.invariant.room_on, c.take_off.ensures.spare)) (omega (arith, c.self.invariant.room_of, c.take_off-2.ensures.spare))

pub returns-clause-after : goal.returns-clause-after
returns-clause-after c =
    remove-is c.self.inside.nodes c.take_off.new.nodes c.take_off-2.new.nodes c.remove.new.self c.self.inside.on c.self.inside.of c.take_off.new.heads c.take_off-2.new.heads c.self.inside.spare c.args.node c.index.result.now.view c.self.invariant (get-nodes c.self.inside.nodes c.args.node ∙ ap (option_map (λ (v : Node). v.view)) c.index.ensures) c.take_off.ensures.rest c.take_off-2.ensures.rest c.remove.ensures.updates c.remove.ensures.capacity
    c.take_off.ensures.lists c.take_off.ensures.listed c.take_off-2.ensures.lists c.take_off-2.ensures.listed
    ∙ sym (ap (removed_as (chains_of c.self.inside.nodes c.self.inside.on c.self.inside.of c.self.inside.spare) c.args.node) (get-nodes c.self.inside.nodes c.args.node ∙ ap (option_map (λ (v : Node). v.view)) c.index.ensures))
    ∙ ap (λ (h : Chains). removed h c.args.node) c.self.view_is

pub returns-clause-once : goal.returns-clause-once
returns-clause-once c = remove-once c.self.inside.nodes c.take_off.new.nodes c.take_off-2.new.nodes c.remove.new.self c.self.inside.on c.self.inside.of c.take_off.new.heads c.take_off-2.new.heads c.self.inside.spare c.args.node c.index.result.now.view c.self.invariant (get-nodes c.self.inside.nodes c.args.node ∙ ap (option_map (λ (v : Node). v.view)) c.index.ensures) c.take_off.ensures.rest c.take_off-2.ensures.rest c.remove.ensures.updates c.remove.ensures.capacity
    c.take_off.ensures.lists c.take_off.ensures.listed c.take_off-2.ensures.lists c.take_off-2.ensures.listed

pub returns-clause-locks : goal.returns-clause-locks
returns-clause-locks c held = subst (λ (h : Chains). AreLocks h.nodes) (sym (returns-clause-after c)) (locks-gone c.args.self.now c.args.node held)
