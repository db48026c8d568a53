use Rattle.std.proofs.Common.{◌∙◌, refl, ap, rules, arith, ℕ, [], take, subst}
use Rattle.std.specs.Io.KnownBytes.{Consumes}
use Rattle.std.proofs.lemmas.Result.{err_from_is_err_and}
use Rattle.alp_script.proofs.ReadingLemmas.{has_read-nothing, has_read-more, reads-refused, reads-finished, reads-failed}
use Rattle.alp_script.proofs.read.read_script.Goals as goal

pub loop-count-init : goal.loop-count-init
loop-count-init g c = record {
  read = has_read-nothing (g.S.Source.left c.args.source.now) c.new-reader.result (ap (λ p. p.lines) c.new-reader.ensures.start) (ap (λ p. p.partial) c.new-reader.ensures.start) c.new-reader.ensures.whole;
  still = refl;
}

pub loop-count-preserved : goal.loop-count-preserved
loop-count-preserved g c = record {
  read = has_read-more (g.S.Source.left c.args.source.now) (g.S.Source.left c.loop-count.source) (g.S.Source.left c.read.new.self) c.loop-count.reader c.feed.new.self _ c.loop-count.invariant.read c.in-Ok.ensures.bytes.0 c.in_ok-feed.ensures;
  still = c.in-Ok.ensures.cause.still ∙ c.loop-count.invariant.still;
}

pub returns-in_err-feed-clause-script : goal.returns-in_err-feed-clause-script
returns-in_err-feed-clause-script g c =
    let p = err_from_is_err_and c.from_residual.result c.from_residual.ensures.1 in
    rw (p.1, p.2)
    (reads-refused (g.S.Source.left c.args.source.now) (g.S.Source.left c.loop-count.source) (g.S.Source.left c.read.new.self)
    c.loop-count.reader c.feed.new.self _ c.in_err-feed.field-0.0 (search (rules, arith)) c.loop-count.invariant.read c.in-Ok.ensures.bytes.0 c.in_err-feed.ensures)

pub returns-then-count-eq0-clause-script : goal.returns-then-count-eq0-clause-script
returns-then-count-eq0-clause-script g c =
    let none : Consumes (g.S.Source.left c.loop-count.source) (g.S.Source.left c.read.new.self) [] =
    subst (λ (n : ℕ). Consumes (g.S.Source.left c.loop-count.source) (g.S.Source.left c.read.new.self) (take n c.read.new.buf)) c.if-count-eq0.true c.in-Ok.ensures.bytes.0 in
    reads-finished (g.S.Source.left c.args.source.now) (g.S.Source.left c.loop-count.source) (g.S.Source.left c.read.new.self)
    c.loop-count.reader c.finish.result c.loop-count.invariant.read none (c.in-Ok.ensures.bytes.1 c.if-count-eq0.true (search rules)) c.finish.ensures

pub returns-in_default-clause-script : goal.returns-in_default-clause-script
returns-in_default-clause-script g c =
    reads-failed (g.S.Source.left c.args.source.now) (g.S.Source.left c.loop-count.source) (g.S.Source.left c.read.new.self) c.loop-count.reader c.loop-count.invariant.read (search rules)
