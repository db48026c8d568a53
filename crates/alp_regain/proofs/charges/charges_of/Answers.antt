use Rattle.std.proofs.Common.{◌≡◌, ℕ, List, ap, ◌∙◌, arith}
use Rattle.alp_regain.specs.Sums.{Charges, charge_at}
use Rattle.alp_regain.proofs.SumLemmas.{none_charged}
use Rattle.alp_regain.proofs.charges.charges_of.Goals as goal

pub loop-cell-init : goal.loop-cell-init
loop-cell-init c =
    let none : (name : List ℕ) → charge_at c.new-charges.result name ≡ 0 = λ name. ap (λ (t : Charges). charge_at t name) c.new-charges.ensures ∙ none_charged name in
    record {
      sums = λ name. omega (arith, none name);
      few = λ name. omega (arith, none name);
    }
