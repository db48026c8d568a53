use Rattle.std.specs.FinMap as map
use Rattle.std.proofs.Common.{◌≡◌, ◌+◌, ap, ◌∙◌, arith}
use Rattle.alp_base.proofs.TreeLemmas.{put_at}
use Rattle.alp_regain.specs.Sums.{Charges, charge_at}
use Rattle.alp_regain.proofs.SumLemmas.{nat_list_cmp_total, exact_bytes, added, few_for}
use Rattle.alp_regain.proofs.charges.Charges.add.Goals as goal

pub returns-clause-more : goal.returns-clause-more
returns-clause-more c = λ name.
    let sum : c.of-before.result + c.from.result ≡ charge_at c.args.self.now c.args.owner + c.args.pages = λ i. c.of-before.ensures i + c.from.ensures i in
    ap (λ (t : Charges). charge_at t name)
    (put_at nat_list_cmp_total exact_bytes c.self.inside.sums.entries c.insert.new.self.entries c.args.owner (c.of-before.result + c.from.result) c.in_ok-insert.ensures.updates.0
    ∙ (λ i. map.insert (c.self.view_is i) c.args.owner (sum i)))
    ∙ added c.args.self.now c.args.owner c.args.pages name

pub returns-clause-few : goal.returns-clause-few
returns-clause-few c = λ name.
    omega (arith, returns-clause-more c name, few_for c.args.owner c.args.pages name, c.ranges.pages.fits)
