use Rattle.std.specs.Prelude.{Bool}
use Rattle.std.proofs.Common.{length, subst}
use Rattle.std.proofs.lemmas.Result.{on_ok_weaker}
use Rattle.alp_course.specs.Carries.{CarriesIf}
use Rattle.alp_cluster.specs.Stations.{Did, DidSome}
use Rattle.alp_cluster.proofs.GoneLemmas.{end_map}
use Rattle.alp_cluster.proofs.parties.Parties.carry_behind.Goals as goal

pub returns-clause-did : goal.returns-clause-did
returns-clause-did g c =
    let s = c.args.self.now.stations in
    on_ok_weaker c.carry_if.result (λ d. subst (λ (b : Bool). Did g.V.Vault (CarriesIf (length s.all.items) b) s c.carry_if.new.self) c.carries.ensures d) c.carry_if.ensures.did

pub returns-clause-ended : goal.returns-clause-ended
returns-clause-ended g c =
    let s = c.args.self.now.stations in
    end_map c.carry_if.result _ _ (λ f d. subst (λ (b : Bool). DidSome g.V.Vault (CarriesIf (length s.all.items) b) f s c.carry_if.new.self) c.carries.ensures d) c.carry_if.ensures.ended
