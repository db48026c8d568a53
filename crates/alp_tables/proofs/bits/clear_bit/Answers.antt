use Rattle.std.specs.Prelude.{Bool, true, false, ◌==◌}
use Rattle.std.specs.Int.{bit_at, trailing_ones}
use Rattle.std.proofs.Common.{◌≡◌, ◌<◌, ◌+◌, ◌^◌, ◌∙◌, ℕ, ap, arith, eq-eqb, subst, sym, w32}
use Rattle.std.proofs.lemmas.Nat.Bits.{bit_at_ones, bit_at-trailing_ones}
use Rattle.alp_tables.proofs.bits.clear_bit.Goals as goal

pub returns-then-word-eq4294967295-clause-full : goal.returns-then-word-eq4294967295-clause-full
returns-then-word-eq4294967295-clause-full c none i few =
    ap (λ (w : ℕ). bit_at w i) (omega (arith, c.if-word-eq4294967295.true)) ∙ bit_at_ones 32 i few

pub returns-clause-clear : goal.returns-clause-clear
returns-clause-clear c =
    let below : c.args.word + 1 < 2 ^ 32 = omega (arith, c.if-word-eq4294967295.false, c.ranges.word.fits) in
    let lowest = bit_at-trailing_ones w32 c.args.word below in
    (subst (λ (t : ℕ). t < 32) (sym c.trailing_ones.ensures) lowest.0, ap (λ (t : ℕ). bit_at c.args.word t) c.trailing_ones.ensures ∙ lowest.1)

pub returns-clause-lowest : goal.returns-clause-lowest
returns-clause-lowest c i few =
    let below : c.args.word + 1 < 2 ^ 32 = omega (arith, c.if-word-eq4294967295.false, c.ranges.word.fits) in
    (bit_at-trailing_ones w32 c.args.word below).2 i (subst (λ (t : ℕ). i < t) c.trailing_ones.ensures few)
