use Rattle.std.proofs.Common.{refl, ap, sym, append-nil, arith}
use Rattle.std.proofs.lemmas.Result.{err_from_is_err_and}
use Rattle.alp_script.specs.Progress.{unended}
use Rattle.alp_script.proofs.ScriptLemmas.{resume-next, refused-next, counted-next, held-next, follows-all}
use Rattle.alp_script.proofs.reader.Reader.feed.Goals as goal

pub loop-byte-init : goal.loop-byte-init
loop-byte-init c = record { same = λ rest. refl; counted = omega arith; few = λ some. some; held = ap unended (sym (append-nil c.args.self.now.partial)); short = λ few. few; nearer = omega arith }

pub loop-byte-preserved : goal.loop-byte-preserved
loop-byte-preserved c = record {
  same = resume-next _ _ _ c.args.piece.now c.loop-byte.byte-index c.loop-byte-test.true c.loop-byte.invariant.same c.in_ok-take.ensures;
  counted = counted-next c.args.self.now c.loop-byte.self c.take.new.self c.args.piece.now c.loop-byte.byte-index c.loop-byte-test.true c.loop-byte.invariant.counted c.in_ok-take.ensures;
  few = λ some. c.in_ok-take.ensures.few (c.loop-byte.invariant.few some);
  held = held-next c.args.self.now c.loop-byte.self c.take.new.self c.args.piece.now c.loop-byte.byte-index c.loop-byte-test.true c.loop-byte.invariant.held c.in_ok-take.ensures;
  short = λ few. c.in_ok-take.ensures.short (c.loop-byte.invariant.short few);
  nearer = omega (arith, c.loop-byte.invariant.nearer, c.in_ok-take.ensures.nearer);
}

pub returns-in_err-take : goal.returns-in_err-take
returns-in_err-take c =
    let p = err_from_is_err_and c.from_residual.result c.from_residual.ensures.1 in
    rw (p.1, p.2) (refused-next c.args.self.now c.loop-byte.self c.take.new.self c.args.piece.now c.loop-byte.byte-index c.in_err-take.field-0.0 c.loop-byte-test.true c.loop-byte.invariant.same c.in_err-take.ensures)

pub returns : goal.returns
returns c = follows-all _ _ c.args.piece.now c.loop-byte.byte-index c.loop-byte-test.false c.loop-byte.invariant.same c.loop-byte.invariant.counted c.loop-byte.invariant.few c.loop-byte.invariant.held c.loop-byte.invariant.short c.loop-byte.invariant.nearer
