use Rattle.std.proofs.Common.{◌≡◌, ◌+◌, ◌<◌, Bool, cond, [], Some, sym, ◌∙◌, ap, subst, arith}
use Rattle.alp_chain.specs.Spans.{runs, mode_on, node_on, IsCut, raised, Meets, Splits}
use Rattle.alp_chain.proofs.SpanLemmas.{among-yes}
use Rattle.alp_chain.proofs.RaisedLemmas.{IsRaised, raised-start, raised-step, raised-done, spans-start, spans-split, spans-raised, spans-up, node-there, short-span, among-no}
use Rattle.alp_chain.proofs.chains.Chains.add_span_reserved.Goals as goal

pub cut-requires-clause-spans : goal.cut-requires-clause-spans
cut-requires-clause-spans c = spans-start c.args.resource c.args.trans c.args.span c.args.self.now c.requires.spans c.requires.free

pub cut-requires-2-clause-spans : goal.cut-requires-2-clause-spans
cut-requires-2-clause-spans c = spans-split c.from-first.result c.args.resource c.args.trans c.args.self.now c.cut.new.self (spans-start c.args.resource c.args.trans c.args.span c.args.self.now c.requires.spans c.requires.free) c.cut.ensures.splits

pub loop-page-init : goal.loop-page-init
loop-page-init c =
    let start : c.from-first.result ≡ c.args.span.first = omega arith in
    let first : Splits c.args.span.first c.args.resource c.args.trans c.args.self.now c.cut.new.self = subst (λ p. Splits p c.args.resource c.args.trans c.args.self.now c.cut.new.self) start c.cut.ensures.splits in
    let second : Splits (c.args.span.first + c.args.span.count) c.args.resource c.args.trans c.cut.new.self c.cut-2.new.self = subst (λ p. Splits p c.args.resource c.args.trans c.cut.new.self c.cut-2.new.self) c.end_of-end.ensures c.cut-2.ensures.splits in
    record {
      raised = subst (λ p. IsRaised c.args.span.first (c.args.span.first + c.args.span.count) p c.args.resource c.args.trans c.args.mode c.args.self.now c.cut-2.new.self) (sym start) (raised-start c.args.span.first (c.args.span.first + c.args.span.count) c.args.resource c.args.trans c.args.mode c.args.self.now c.cut.new.self c.cut-2.new.self (omega arith) first second);
      end = c.end_of-end.ensures;
      first = start;
      cost = omega (arith, c.cut.ensures.spare, c.cut-2.ensures.spare);
      once = c.cut-2.ensures.once;
    }

pub raise-next-requires-clause-spans : goal.raise-next-requires-clause-spans
raise-next-requires-clause-spans c = spans-raised c.loop-page.page c.args.resource c.args.trans c.args.span c.args.mode c.args.self.now c.loop-page.self c.requires.spans c.requires.free c.loop-page.invariant.raised

pub raise-next-requires-clause-cut_page : goal.raise-next-requires-clause-cut_page
raise-next-requires-clause-cut_page c = c.loop-page.invariant.raised.cut_page

pub raise-next-requires-clause-cut_end : goal.raise-next-requires-clause-cut_end
raise-next-requires-clause-cut_end c = subst (λ e. IsCut e (runs c.loop-page.self.nodes c.args.resource c.args.trans)) (sym c.loop-page.invariant.end) c.loop-page.invariant.raised.cut_end

pub meet-requires : goal.meet-requires
meet-requires c =
    record { spans = spans-up c.loop-page.page c.raise-next.result c.args.resource c.args.trans c.args.span c.args.mode c.args.self.now c.loop-page.self c.raise-next.new.self c.requires.spans c.requires.free (omega (arith, c.raise-next.ensures.within, c.loop-page.invariant.end)) c.loop-page.invariant.raised c.raise-next.ensures.raises }

pub loop-page-preserved : goal.loop-page-preserved
loop-page-preserved c = record {
  raised = raised-step c.args.span.first (c.args.span.first + c.args.span.count) c.loop-page.page c.raise-next.result c.args.resource c.args.trans c.args.mode c.args.self.now c.loop-page.self c.raise-next.new.self c.meet.new.self c.raise-next.ensures.more
      (omega (arith, c.raise-next.ensures.within, c.loop-page.invariant.end)) (omega (arith, c.loop-page.invariant.end)) c.loop-page.invariant.raised c.raise-next.ensures.raises c.meet.ensures.meets;
  end = c.loop-page.invariant.end;
  first = c.loop-page.invariant.first;
  cost = omega (arith, c.loop-page.invariant.cost, c.raise-next.ensures.spare, c.raise-next.ensures.more, c.meet.ensures.spare);
  once = c.meet.ensures.once;
}

pub meet-requires-2 : goal.meet-requires-2
meet-requires-2 c = record { spans = spans-raised c.loop-page.page c.args.resource c.args.trans c.args.span c.args.mode c.args.self.now c.loop-page.self c.requires.spans c.requires.free c.loop-page.invariant.raised }

pub raise-next-requires-clause-room : goal.raise-next-requires-clause-room
raise-next-requires-clause-room c = let low = c.loop-page.invariant.raised.low in omega (arith, c.loop-page.invariant.cost, c.loop-page.invariant.end)

pub raise-next-requires-clause-narrow : goal.raise-next-requires-clause-narrow
raise-next-requires-clause-narrow c =
    let low = c.loop-page.invariant.raised.low in
    let short = short-span c.args.resource c.args.trans c.args.span c.args.self.now c.requires.free c.requires.end in
    omega (arith, c.loop-page.invariant.end)

pub unreachable-requires : goal.unreachable-requires
unreachable-requires c =
    let high = c.loop-page.invariant.raised.high in
    let at_end : c.loop-page.page ≡ (c.args.span.first + c.args.span.count) = omega (arith, c.loop-page.invariant.end) in
    let last : Meets (c.args.span.first + c.args.span.count) c.args.resource c.args.trans c.loop-page.self c.meet-2.new.self = subst (λ p. Meets p c.args.resource c.args.trans c.loop-page.self c.meet-2.new.self) c.end_of-end.ensures c.meet-2.ensures.meets in
    let done = raised-done c.args.span.first (c.args.span.first + c.args.span.count) c.loop-page.page c.args.resource c.args.trans c.args.mode c.args.self.now c.loop-page.self c.meet-2.new.self at_end c.loop-page.invariant.raised last in
    let full : c.args.span.first < (c.args.span.first + c.args.span.count) = omega (arith, c.requires.count) in
    node-there c.meet-2.new.self c.args.resource c.args.trans c.args.span.first (raised (mode_on c.args.self.now c.args.resource c.args.trans c.args.span.first) c.args.mode)
    (done.modes c.args.span.first ∙ ap (λ (b : Bool). cond b (Some (raised (mode_on c.args.self.now c.args.resource c.args.trans c.args.span.first) c.args.mode)) (mode_on c.args.self.now c.args.resource c.args.trans c.args.span.first)) (among-yes c.args.span.first (c.args.span.first + c.args.span.count) c.args.span.first (omega arith) full))
    (ap (node_on c.meet-2.new.self c.args.resource c.args.trans) (sym c.loop-page.invariant.first) ∙ sym c.find_node.ensures.first ∙ c.in-None.is)

pub returns-clause-modes : goal.returns-clause-modes
returns-clause-modes c =
    let high = c.loop-page.invariant.raised.high in
    let at_end : c.loop-page.page ≡ (c.args.span.first + c.args.span.count) = omega (arith, c.loop-page.invariant.end) in
    let last : Meets (c.args.span.first + c.args.span.count) c.args.resource c.args.trans c.loop-page.self c.meet-2.new.self = subst (λ p. Meets p c.args.resource c.args.trans c.loop-page.self c.meet-2.new.self) c.end_of-end.ensures c.meet-2.ensures.meets in
    let done = raised-done c.args.span.first (c.args.span.first + c.args.span.count) c.loop-page.page c.args.resource c.args.trans c.args.mode c.args.self.now c.loop-page.self c.meet-2.new.self at_end c.loop-page.invariant.raised last in
    done.modes

pub returns-clause-runs : goal.returns-clause-runs
returns-clause-runs c =
    let high = c.loop-page.invariant.raised.high in
    let at_end : c.loop-page.page ≡ (c.args.span.first + c.args.span.count) = omega (arith, c.loop-page.invariant.end) in
    let last : Meets (c.args.span.first + c.args.span.count) c.args.resource c.args.trans c.loop-page.self c.meet-2.new.self = subst (λ p. Meets p c.args.resource c.args.trans c.loop-page.self c.meet-2.new.self) c.end_of-end.ensures c.meet-2.ensures.meets in
    let done = raised-done c.args.span.first (c.args.span.first + c.args.span.count) c.loop-page.page c.args.resource c.args.trans c.args.mode c.args.self.now c.loop-page.self c.meet-2.new.self at_end c.loop-page.invariant.raised last in
    done.runs_after [] c.requires.spans

pub returns-clause-free : goal.returns-clause-free
returns-clause-free c =
    let high = c.loop-page.invariant.raised.high in
    let at_end : c.loop-page.page ≡ (c.args.span.first + c.args.span.count) = omega (arith, c.loop-page.invariant.end) in
    let last : Meets (c.args.span.first + c.args.span.count) c.args.resource c.args.trans c.loop-page.self c.meet-2.new.self = subst (λ p. Meets p c.args.resource c.args.trans c.loop-page.self c.meet-2.new.self) c.end_of-end.ensures c.meet-2.ensures.meets in
    let done = raised-done c.args.span.first (c.args.span.first + c.args.span.count) c.loop-page.page c.args.resource c.args.trans c.args.mode c.args.self.now c.loop-page.self c.meet-2.new.self at_end c.loop-page.invariant.raised last in
    λ p out f. done.free p (λ i j. among-no c.args.span.first (c.args.span.first + c.args.span.count) p out i j) f

pub returns-clause-others : goal.returns-clause-others
returns-clause-others c =
    let high = c.loop-page.invariant.raised.high in
    let at_end : c.loop-page.page ≡ (c.args.span.first + c.args.span.count) = omega (arith, c.loop-page.invariant.end) in
    let last : Meets (c.args.span.first + c.args.span.count) c.args.resource c.args.trans c.loop-page.self c.meet-2.new.self = subst (λ p. Meets p c.args.resource c.args.trans c.loop-page.self c.meet-2.new.self) c.end_of-end.ensures c.meet-2.ensures.meets in
    let done = raised-done c.args.span.first (c.args.span.first + c.args.span.count) c.loop-page.page c.args.resource c.args.trans c.args.mode c.args.self.now c.loop-page.self c.meet-2.new.self at_end c.loop-page.invariant.raised last in
    done.others

pub returns-clause-spare : goal.returns-clause-spare
returns-clause-spare c = let high = c.loop-page.invariant.raised.high in omega (arith, c.loop-page.invariant.cost, c.loop-page.invariant.end, c.meet-2.ensures.spare)
