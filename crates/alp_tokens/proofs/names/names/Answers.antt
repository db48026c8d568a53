use Rattle.std.proofs.Common.{arith}
use Rattle.std.proofs.lemmas.Result.{err_from_is_err_and}
use Rattle.alp_tokens.proofs.NameLemmas.{kept-next, named-next, unnamed}
use Rattle.alp_tokens.proofs.names.names.Goals as goal

pub returns-in_err-name : goal.returns-in_err-name
returns-in_err-name c =
    let p = err_from_is_err_and c.from_residual.result c.from_residual.ensures.1 in
    rw (p.1, p.2) (unnamed c.args.words.now c.loop-word.word-index _ c.in_err-name.field-0.0 c.loop-word-test.true c.loop-word.invariant.named c.in_err-name.ensures)

pub loop-word-preserved : goal.loop-word-preserved
loop-word-preserved c = record {
  kept = rw c.in_ok-push.ensures.items (kept-next c.args.words.now c.loop-word.word-index _ c.loop-word.names.items c.in_ok-name.name c.loop-word-test.true c.in_ok-name.ensures c.loop-word.invariant.kept);
  many = omega (arith, c.in_ok-push.ensures.len, c.loop-word.invariant.many);
  named = named-next c.args.words.now c.loop-word.word-index _ c.in_ok-name.name c.loop-word-test.true c.in_ok-name.ensures c.loop-word.invariant.named;
}
