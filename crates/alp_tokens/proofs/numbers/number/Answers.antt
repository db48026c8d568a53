use Rattle.std.proofs.Common.{◌≡◌, ℕ, suc, ◌+◌, ◌-◌, ◌*◌, List, drop, get_or, ap, sym, ◌∙◌, arith}
use Rattle.std.proofs.Math.Seq.{drop-cons}
use Rattle.alp_tokens.specs.Numbers.{value_from}
use Rattle.alp_tokens.proofs.NumberLemmas.{too_large, value_from-above}
use Rattle.alp_tokens.proofs.numbers.number.Goals as goal

pub returns-then-n-most-clause-value : goal.returns-then-n-most-clause-value
returns-then-n-most-clause-value c =
    let next : ℕ = 10 * c.loop-b.n + (get_or c.args.word.now c.loop-b.b-index 0 - 48) in
    let rest : List ℕ = drop (suc c.loop-b.b-index) c.args.word.now in
    let value : value_from next rest ≡ value_from 0 c.args.word.now =
    ap (value_from c.loop-b.n) (sym (drop-cons c.args.word.now c.loop-b.b-index 0 c.loop-b-test.true)) ∙ c.loop-b.invariant.value in
    too_large c.args.most c.args.word.now (omega (arith, value, value_from-above next rest, c.if-n-most.true))
