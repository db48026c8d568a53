use Rattle.std.proofs.Common.{◌≡◌, ◌+◌, ◌<◌, ◌≤◌, ℕ, Some, is_some, sym, ◌∙◌, ap, subst}
use Rattle.std.specs.FinMap as map
use Rattle.alp_chain.specs.declared.node.NodeView.{NodeView}
use Rattle.alp_chain.specs.declared.node.Span.{Span}
use Rattle.alp_chain.specs.Chains.{Chains, StandOnce}
use Rattle.alp_chain.specs.Spans.{PageRun, run_of, node_on, IsHeld}
use Rattle.alp_chain.proofs.RunLists.{run-is, node-some}
use Rattle.alp_chain.proofs.chains.Chains.find_held.Goals as goal

-- a node that is found is of the transaction and on the resource
held_from : (c : Chains) (r t p n : ℕ) (v : NodeView) (s : Span) → StandOnce c → node_on c r t p ≡ Some n → map.get c.nodes n ≡ Some v → v.span ≡ Some s → IsHeld c r t p n v s
held_from c r t p n v s once e f g =
    let h = node-some c r t once p n e in
    let is = run-is r t n (map.get c.nodes n) h.run h.there in
    let same : Some is.view ≡ Some v = sym is.there ∙ f in
    let one : is.view ≡ v = cc in
    let it : Some (record { first = s.first; end = s.first + s.count; mode = v.mode }) ≡ Some h.run = sym (ap (λ (w : NodeView). run_of w.mode w.span) one ∙ ap (run_of v.mode) g) ∙ is.run in
    let run : ◌≡◌ {A = PageRun} (record { first = s.first; end = s.first + s.count; mode = v.mode }) h.run = cc in
    record {
      first = e;
      there = f;
      resource = is.resource ∙ ap (λ (w : NodeView). w.resource) one;
      trans = is.trans ∙ ap (λ (w : NodeView). w.trans) one;
      span = g;
      from = subst (λ (a : PageRun). a.first ≤ p) (sym run) h.from;
      to = subst (λ (a : PageRun). p < a.end) (sym run) h.to;
    }

pub read_held-requires : goal.read_held-requires
read_held-requires c = ap is_some (node-some c.args.self.now c.args.resource c.args.trans c.find_node.ensures.once c.args.page c.in-Some.node (sym c.find_node.ensures.first ∙ c.in-Some.is)).there

pub returns-in-Some-clause-some : goal.returns-in-Some-clause-some
returns-in-Some-clause-some c =
    subst (λ n. IsHeld c.args.self.now c.args.resource c.args.trans c.args.page n c.read_held.result.view c.read_held.result.span) (sym c.read_held.ensures.node)
    (held_from c.args.self.now c.args.resource c.args.trans c.args.page c.in-Some.node c.read_held.result.view c.read_held.result.span c.find_node.ensures.once (sym c.find_node.ensures.first ∙ c.in-Some.is) c.read_held.ensures.view c.read_held.ensures.span)
