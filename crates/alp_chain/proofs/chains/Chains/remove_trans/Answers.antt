use Rattle.std.proofs.Common.{◌≡◌, ◌+◌, length, refl, sym, ◌∙◌, ap, subst, arith}
use Rattle.alp_chain.specs.Lists.{list_at}
use Rattle.alp_chain.specs.Chains.{Chains}
use Rattle.alp_chain.proofs.LockLemmas.{locks-released}
use Rattle.alp_chain.proofs.ReleaseLemmas.{IsPartway, partway-none, it, held-some, partway-more, shorter, all-nodes, all-on, all-of, all-counted}
use Rattle.alp_chain.proofs.chains.Chains.remove_trans.Goals as goal

pub loop-node-init : goal.loop-node-init
loop-node-init g c = record { part = partway-none c.args.trans c.args.self.now; cost = refl }

pub remove-requires : goal.remove-requires
remove-requires g c = held-some c.loop-node.self c.args.trans c.in-Some.node (it c.args.trans c.in-Some.node c.args.self.now c.loop-node.self c.loop-node.invariant.part c.first_of.ensures.once (sym c.first_of.ensures.first ∙ c.in-Some.is))

pub loop-node-preserved : goal.loop-node-preserved
loop-node-preserved g c = record {
  part = subst (IsPartway c.args.trans c.args.self.now) (sym c.remove.ensures.after) (partway-more c.args.trans c.in-Some.node c.args.self.now c.loop-node.self c.loop-node.invariant.part c.first_of.ensures.once (sym c.first_of.ensures.first ∙ c.in-Some.is));
  cost =
      let less = shorter c.args.trans c.in-Some.node c.args.self.now c.loop-node.self c.loop-node.invariant.part c.first_of.ensures.once (sym c.first_of.ensures.first ∙ c.in-Some.is) in
      let same : length (list_at c.remove.new.self.of c.args.trans) + 1 ≡ length (list_at c.loop-node.self.of c.args.trans) = ap (λ (h : Chains). length (list_at h.of c.args.trans) + 1) c.remove.ensures.after ∙ less in
      omega (arith, c.loop-node.invariant.cost, c.tick.ensures);
}

pub loop-node-smaller : goal.loop-node-smaller
loop-node-smaller g c =
    let less = shorter c.args.trans c.in-Some.node c.args.self.now c.loop-node.self c.loop-node.invariant.part c.first_of.ensures.once (sym c.first_of.ensures.first ∙ c.in-Some.is) in
    let same : length (list_at c.remove.new.self.of c.args.trans) + 1 ≡ length (list_at c.loop-node.self.of c.args.trans) = ap (λ (h : Chains). length (list_at h.of c.args.trans) + 1) c.remove.ensures.after ∙ less in
    omega arith

pub returns-clause-nodes : goal.returns-clause-nodes
returns-clause-nodes g c = all-nodes c.args.trans c.args.self.now c.loop-node.self c.loop-node.invariant.part c.first_of.ensures.once (sym c.first_of.ensures.first ∙ c.in_default.is)

pub returns-clause-on : goal.returns-clause-on
returns-clause-on g c = all-on c.args.trans c.args.self.now c.loop-node.self c.loop-node.invariant.part c.first_of.ensures.once (sym c.first_of.ensures.first ∙ c.in_default.is)

pub returns-clause-of : goal.returns-clause-of
returns-clause-of g c = all-of c.args.trans c.args.self.now c.loop-node.self c.loop-node.invariant.part c.first_of.ensures.once (sym c.first_of.ensures.first ∙ c.in_default.is)

pub returns-clause-spare : goal.returns-clause-spare
returns-clause-spare g c = c.loop-node.invariant.part.spare

pub returns-clause-once : goal.returns-clause-once
returns-clause-once g c = c.first_of.ensures.once

pub returns-clause-locks : goal.returns-clause-locks
returns-clause-locks g c held =
    locks-released c.args.trans c.args.self.now.nodes c.loop-node.self.nodes
    (all-nodes c.args.trans c.args.self.now c.loop-node.self c.loop-node.invariant.part c.first_of.ensures.once (sym c.first_of.ensures.first ∙ c.in_default.is)) held

pub returns-clause-cost : goal.returns-clause-cost
returns-clause-cost g c = let none = all-counted c.args.trans c.args.self.now c.loop-node.self c.loop-node.invariant.part c.first_of.ensures.once (sym c.first_of.ensures.first ∙ c.in_default.is) in omega (arith, c.loop-node.invariant.cost)
