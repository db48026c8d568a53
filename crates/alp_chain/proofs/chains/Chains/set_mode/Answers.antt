use Rattle.std.proofs.Common.{◌≡◌, true, Option, Some, None, option_map, IsSome, refl, sym, ◌∙◌, ap, subst}
use Rattle.std.specs.FinMap as map
use Rattle.alp_chain.specs.declared.node.Node.{Node}
use Rattle.alp_chain.specs.declared.node.NodeView.{NodeView}
use Rattle.alp_chain.specs.Chains.{Chains, is_whole, with_mode_as}
use Rattle.alp_chain.specs.Spans.{AreLocks}
use Rattle.alp_chain.proofs.ChainLemmas.{get-nodes}
use Rattle.alp_chain.proofs.LockLemmas.{no_span, locks-mode}
use Rattle.alp_chain.proofs.StepLemmas.{there-is}
use Rattle.alp_chain.proofs.chains.Chains.set_mode.Goals as goal

whole_some : (o : Option NodeView) → is_whole o ≡ true → IsSome o
whole_some None h = absurd (cc)
whole_some (Some v) h = refl

pub index-requires : goal.index-requires
index-requires c = there-is c.self.inside.nodes c.args.node (subst (λ (h : Chains). IsSome (map.get h.nodes c.args.node)) (sym c.self.view_is) (whole_some (map.get c.args.self.now.nodes c.args.node) c.requires))

pub set_view-requires : goal.set_view-requires
set_view-requires c = record {
  view = c.index.result.now.view;
  there = ap (λ (h : Chains). map.get h.nodes c.args.node) (sym c.self.view_is) ∙ get-nodes c.self.inside.nodes c.args.node ∙ ap (option_map (λ (v : Node). v.view)) c.index.ensures;
  resource = refl;
  trans = refl;
}

pub returns-clause-after : goal.returns-clause-after
returns-clause-after c =
    c.set_view.ensures.after
    ∙ sym (ap (with_mode_as c.args.self.now c.args.node c.args.mode)
    (ap (λ (h : Chains). map.get h.nodes c.args.node) (sym c.self.view_is) ∙ get-nodes c.self.inside.nodes c.args.node ∙ ap (option_map (λ (v : Node). v.view)) c.index.ensures))

pub returns-clause-locks : goal.returns-clause-locks
returns-clause-locks c held =
    let there : map.get c.args.self.now.nodes c.args.node ≡ Some c.index.result.now.view =
    ap (λ (h : Chains). map.get h.nodes c.args.node) (sym c.self.view_is) ∙ get-nodes c.self.inside.nodes c.args.node ∙ ap (option_map (λ (v : Node). v.view)) c.index.ensures in
    subst (λ (h : Chains). AreLocks h.nodes) (sym c.set_view.ensures.after)
    (locks-mode c.args.self.now.nodes c.args.node c.index.result.now.view c.args.mode there (no_span c.index.result.now.view.span (sym (ap is_whole there) ∙ c.requires)) held)
