use Rattle.std.proofs.Common.{◌+◌, cond, Some, sym, ◌∙◌, ap, subst, []}
use Rattle.alp_chain.specs.Chains.{Chains}
use Rattle.alp_chain.specs.Spans.{runs, mode_on, AreRuns, AreAllSpans, AreLocks, IsFree, is_among, raised}
use Rattle.alp_chain.proofs.LockLemmas.{locks-spans, all-spans}
use Rattle.alp_chain.proofs.chains.Chains.add_span.Goals as goal

pub add_span_reserved-requires-clause-spans : goal.add_span_reserved-requires-clause-spans
add_span_reserved-requires-clause-spans c =
    subst (λ (h : Chains). AreRuns [] (runs h.nodes c.args.resource c.args.trans)) (sym c.in_ok-reserve.ensures.ok) (c.requires.locks.longest c.args.resource c.args.trans)

pub returns-clause-locked : goal.returns-clause-locked
returns-clause-locked c =
    let locks : AreLocks c.reserve.new.self.nodes = subst (λ (h : Chains). AreLocks h.nodes) (sym c.in_ok-reserve.ensures.ok) c.requires.locks in
    let spans : AreAllSpans c.args.resource c.reserve.new.self.nodes = subst (λ (h : Chains). AreAllSpans c.args.resource h.nodes) (sym c.in_ok-reserve.ensures.ok) c.requires.spans in
    record {
      modes = λ p.
          c.add_span_reserved.ensures.modes p
          ∙ ap (λ (h : Chains). cond (is_among c.args.span.first (c.args.span.first + c.args.span.count) p) (Some (raised (mode_on h c.args.resource c.args.trans p) c.args.mode)) (mode_on h c.args.resource c.args.trans p)) c.in_ok-reserve.ensures.ok;
      free = λ p out f. c.add_span_reserved.ensures.free p out (subst (λ (h : Chains). IsFree p (runs h.nodes c.args.resource c.args.trans)) (sym c.in_ok-reserve.ensures.ok) f);
      locks = locks-spans c.args.resource c.args.trans c.reserve.new.self c.add_span_reserved.new.self c.add_span_reserved.ensures.others c.add_span_reserved.ensures.runs spans locks;
      spans = all-spans c.args.resource c.args.trans c.reserve.new.self c.add_span_reserved.new.self c.add_span_reserved.ensures.others c.add_span_reserved.ensures.runs spans locks;
    }
