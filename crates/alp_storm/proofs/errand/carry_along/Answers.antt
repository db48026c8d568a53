use Rattle.std.proofs.Common.{refl, subst, ℕ}
use Rattle.alp_carrier.specs.Carries.{HasCarried}
use Rattle.alp_storm.proofs.errand.carry_along.Goals as goal

pub returns : goal.returns
returns g c = record {
  route = c.args.route.now;
  pair_is = refl;
  from_is = refl;
  to_is = refl;
  did = subst (λ (n : ℕ). HasCarried g.S.Story.base g.S.Station.sight c.args.route.now n c.args.sender c.args.receiver c.carry.result) c.of_pair-plan.ensures c.carry.ensures;
}
