use Rattle.std.specs.FinMap as map
use Rattle.std.specs.Prelude.{ℕ, Option, unwrap_or}
use Rattle.std.proofs.Common.{ap, sym, ◌∙◌}
use Rattle.alp_base.proofs.TreeLemmas.{get_at}
use Rattle.alp_regain.specs.Sums.{Charges}
use Rattle.alp_regain.proofs.SumLemmas.{nat_list_cmp_total, exact_bytes}
use Rattle.alp_regain.proofs.charges.Charges.of.Goals as goal

pub returns : goal.returns
returns c =
    c.unwrap_or.ensures
    ∙ ap (λ (o : Option ℕ). unwrap_or o 0)
    (c.copied.ensures ∙ c.get.ensures.value ∙ sym (get_at nat_list_cmp_total exact_bytes c.self.inside.sums.entries c.args.owner.now)
    ∙ ap (λ (t : Charges). map.get t c.args.owner.now) c.self.view_is)
