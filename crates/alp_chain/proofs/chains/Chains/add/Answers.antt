use Rattle.std.proofs.Common.{◌≡◌, None, refl, sym, ◌∙◌, ap, subst}
use Rattle.std.specs.FinMap as map
use Rattle.alp_chain.specs.declared.node.NodeView.{NodeView}
use Rattle.alp_chain.specs.Chains.{Nodes, Chains}
use Rattle.alp_chain.specs.Spans.{AreLocks}
use Rattle.alp_chain.proofs.LockLemmas.{locks-added}
use Rattle.alp_chain.proofs.chains.Chains.add.Goals as goal

pub returns-clause-locks : goal.returns-clause-locks
returns-clause-locks c held =
    let view : NodeView = record { resource = c.args.resource; trans = c.args.trans; mode = c.args.mode; span = None } in
    let was : c.reserve.new.self.nodes ≡ c.args.self.now.nodes = ap (λ (h : Chains). h.nodes) c.in_ok-reserve.ensures.ok in
    let new : map.get c.args.self.now.nodes c.add_reserved.result ≡ None = ap (λ (m : Nodes). map.get m c.add_reserved.result) (sym was) ∙ c.add_reserved.ensures.new in
    subst (λ (h : Chains). AreLocks h.nodes) (sym c.add_reserved.ensures.added)
    (subst (λ (m : Nodes). AreLocks (map.insert m c.add_reserved.result view)) (sym was) (locks-added c.args.self.now.nodes c.add_reserved.result view refl new c.requires.whole c.requires.first held))
