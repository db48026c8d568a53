use Rattle.std.proofs.Common.{ap, ◌∙◌, ◌*◌, ◌+◌, ℕ, get_or}
use Rattle.alp_lines.specs.Hex.{digit_of}
use Rattle.alp_lines.proofs.HexLemmas.{pairs-next, pairs-end}
use Rattle.alp_lines.proofs.hex.pairs.Goals as goal

pub loop-pair-preserved : goal.loop-pair-preserved
loop-pair-preserved c =
    rw c.in_ok-push.ensures.items
    (pairs-next c.args.word.now c.loop-pair.pair _ c.loop-pair.bytes.items c.loop-pair-test.true
    (ap (λ (h : ℕ). 16 * h + c.digit-low.result) c.digit-high.ensures.value
    ∙ ap (λ (l : ℕ). 16 * digit_of (get_or c.args.word.now (2 * c.loop-pair.pair) 0) + l) c.digit-low.ensures.value)
    c.loop-pair.invariant)

pub returns : goal.returns
returns c = pairs-end c.args.word.now c.loop-pair.pair c.loop-pair.bytes.items c.loop-pair-test.false c.loop-pair.invariant
