use Rattle.std.specs.Prelude.{Bool, true}
use Rattle.std.proofs.Common.{◌≡◌, [], ◌∷◌, subst}
use Rattle.std.proofs.lemmas.Result.{on_ok_weaker}
use Rattle.alp_course.specs.Courses.{at}
use Rattle.alp_course.specs.Happens.{lifts}
use Rattle.alp_course.specs.Languages.{Just}
use Rattle.alp_cluster.specs.Stations.{Did}
use Rattle.alp_cluster.proofs.DidLemmas.{gone_both}
use Rattle.alp_cluster.proofs.GoneLemmas.{end_map}
use Rattle.alp_cluster.proofs.SettleLemmas.{lifted_again, lifted_cut}
use Rattle.alp_cluster.proofs.stations.Stations.lift_at.Goals as goal

pub returns-clause-gone : goal.returns-clause-gone
returns-clause-gone g c = gone_both g.V.Vault (Unit {0}) c.args.self.now c.lift.new.self c.restart.new.self (tt {0}) c.restart.result c.lift.ensures.did.goes.later.on c.lift.ensures.gone c.restart.ensures.gone

pub returns-clause-did : goal.returns-clause-did
returns-clause-did g c =
    let down : c.lift.result ≡ true = c.if-not-lift.false in
    let lifted = subst (λ (b : Bool). Did g.V.Vault (Just (at c.args.server (lifts b) ∷ [])) c.args.self.now c.lift.new.self) down c.lift.ensures.did in
    on_ok_weaker c.restart.result (λ again. lifted_again g.V.Vault c.args.server c.args.self.now c.lift.new.self c.restart.new.self lifted again) c.restart.ensures.did

pub returns-clause-ended : goal.returns-clause-ended
returns-clause-ended g c =
    let down : c.lift.result ≡ true = c.if-not-lift.false in
    let lifted = subst (λ (b : Bool). Did g.V.Vault (Just (at c.args.server (lifts b) ∷ [])) c.args.self.now c.lift.new.self) down c.lift.ensures.did in
    end_map c.restart.result _ _ (λ f some. lifted_cut g.V.Vault c.args.server f c.args.self.now c.lift.new.self c.restart.new.self lifted some) c.restart.ensures.ended
