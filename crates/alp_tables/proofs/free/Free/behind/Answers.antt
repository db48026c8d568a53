use Rattle.std.specs.Prelude.{Bool, List, true, false, replicate, ◌++◌}
use Rattle.std.proofs.Common.{◌≡◌, ◌+◌, ◌-◌, ◌∙◌, ℕ, suc, ap, arith}
use Rattle.alp_tables.proofs.BitsLaws.{next_marked}
use Rattle.alp_tables.proofs.free.Free.behind.Goals as goal

pub loop-number-preserved : goal.loop-number-preserved
loop-number-preserved c =
    let n = c.loop-number.number in
    let more : c.args.count - n ≡ suc (c.args.count - (n + 1)) = omega (arith, c.requires, c.loop-number-test.true) in
    let next : suc n ≡ n + 1 = omega arith in
    next_marked c.mark.result c.loop-number.free c.mark.new.self n (c.args.count - (n + 1)) (c.loop-number.invariant ∙ ap (λ (k : ℕ). replicate n true ++ replicate k false) more) c.mark.ensures.yes c.mark.ensures.no
    ∙ ap (λ (k : ℕ). replicate k true ++ replicate (c.args.count - (n + 1)) false) next
