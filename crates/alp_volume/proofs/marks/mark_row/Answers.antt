use Rattle.std.specs.Prelude.{◌⊎◌, Bool, true, false, slice_index_or}
use Rattle.std.proofs.Common.{◌≡◌, ◌<◌, ◌+◌, ℕ, List, length, refl, sym, ◌∙◌, arith, below_more, subst}
use Rattle.alp_volume.proofs.MarkLaws.{RowLeft, row_begins, row_more, row_stops, row_done, row_marked}
use Rattle.alp_volume.proofs.marks.mark_row.Goals as goal

pub returns-then-not-mark_one-clause-judged : goal.returns-then-not-mark_one-clause-judged
returns-then-not-mark_one-clause-judged c home names k marks fresh =
    let left = c.loop-j.invariant.left home names k marks fresh in
    row_stops home c.args.limit names k c.args.row.now c.loop-j.j c.loop-j.places left fresh.parent c.loop-j-test.true
    (sym c.if-not-mark_one.true ∙ c.mark_one.ensures.judged home left.before k left.marks (left.fresh c.loop-j.j (omega arith)))

pub loop-j-preserved : goal.loop-j-preserved
loop-j-preserved c = record {
  left = λ home names k marks fresh.
      let left = c.loop-j.invariant.left home names k marks fresh in
      row_more home c.args.limit names k c.args.row.now c.loop-j.j c.loop-j.places left fresh.parent c.loop-j-test.true c.mark_one.new.places
      (sym c.if-not-mark_one.false ∙ c.mark_one.ensures.judged home left.before k left.marks (left.fresh c.loop-j.j (omega arith)))
      (c.mark_one.ensures.marked home left.before k left.marks c.if-not-mark_one.false);
  within = below_more _ _ c.loop-j.invariant.within (subst (λ (n : ℕ). (slice_index_or c.args.row.now c.loop-j.j 0 ≡ 0) ⊎ (slice_index_or c.args.row.now c.loop-j.j 0 < n)) c.loop-j.invariant.long (c.mark_one.ensures.within c.if-not-mark_one.false));
  long = c.mark_one.ensures.long ∙ c.loop-j.invariant.long;
  stay = λ p taken. c.mark_one.ensures.stay p (c.loop-j.invariant.stay p taken);
}

pub returns-clause-judged : goal.returns-clause-judged
returns-clause-judged c home names k marks fresh =
    row_done home c.args.limit names k c.args.row.now c.loop-j.j c.loop-j.places (c.loop-j.invariant.left home names k marks fresh) c.loop-j-test.false

pub returns-clause-marked : goal.returns-clause-marked
returns-clause-marked c home names k marks fresh _ =
    row_marked home c.args.limit names k c.args.row.now c.loop-j.j c.loop-j.places (c.loop-j.invariant.left home names k marks fresh) c.loop-j-test.false
