use Rattle.std.proofs.Common.{◌≡◌, ◌+◌, ◌++◌, ◌∙◌, List, [], ◌∷◌, length, sym, ap, arith, length-append}
use Rattle.std.proofs.lemmas.List.{nil_from_length}
use Rattle.alp_lines.specs.declared.line.Line.{Line}
use Rattle.alp_script.specs.declared.numbered.NumberedLine.{NumberedLine}
use Rattle.alp_drill.specs.Script.{counted}
use Rattle.alp_drill.proofs.StepLemmas.{counted_none, counted_more, counted_end}
use Rattle.alp_drill.proofs.script.counted.Goals as goal

pub loop-line-init : goal.loop-line-init
loop-line-init c = record {
  script = counted_none c.in_ok-script.script.items _ _ c.in_ok-script.ensures.items c.into_iter-line-iterator.ensures.into_iter_gives.0;
  count = omega (arith, ap (λ (ls : List NumberedLine). length ls) c.in_ok-script.ensures.items, ap (λ (ls : List Line). length ls) c.into_iter-line-iterator.ensures.into_iter_gives.0);
}

pub add_counted-requires : goal.add_counted-requires
add_counted-requires c = omega (arith, c.loop-line.invariant.count, c.requires, ap (λ (ls : List Line). length ls) c.in-Some.ensures.steps.0)

pub loop-line-preserved : goal.loop-line-preserved
loop-line-preserved c =
    let before : List NumberedLine = c.loop-line.script.items in
    let first : NumberedLine = record { number = length before + 1; line = c.in-Some.line } in
    record {
      script = counted_more before _ c.in-Some.line c.next.new.self.rest.items _
          (ap (λ (ls : List Line). before ++ counted (length before + 1) ls) (sym c.in-Some.ensures.steps.0) ∙ c.loop-line.invariant.script) c.in_ok-add_counted.ensures;
      count = omega (arith, c.loop-line.invariant.count, ap (λ (ls : List Line). length ls) c.in-Some.ensures.steps.0, ap (λ (ls : List NumberedLine). length ls) c.in_ok-add_counted.ensures, length-append before (first ∷ []));
    }

pub returns : goal.returns
returns c =
    let over : c.loop-line.line-iterator.rest.items ≡ [] = nil_from_length c.loop-line.line-iterator.rest.items (omega (arith, c.loop-line.line-iterator.rest.ok, c.in-None.ensures.steps.0)) in
    counted_end c.loop-line.script.items _ c.loop-line.line-iterator.rest.items _ over c.loop-line.invariant.script
