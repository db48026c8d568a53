use Rattle.std.specs.Prelude.{Bool}
use Rattle.std.proofs.Common.{length, sym, subst}
use Rattle.std.proofs.lemmas.Result.{on_ok_weaker}
use Rattle.alp_course.specs.Carries.{CarriesIf}
use Rattle.alp_cluster.specs.Stations.{Did, DidSome}
use Rattle.alp_cluster.proofs.DidLemmas.{did_nothing, gone_none}
use Rattle.alp_cluster.proofs.GoneLemmas.{end_map}
use Rattle.alp_cluster.proofs.stations.Stations.carry_if.Goals as goal

pub returns-then-carries-clause-did : goal.returns-then-carries-clause-did
returns-then-carries-clause-did g c =
    let s = c.args.self.now in
    on_ok_weaker c.carry_all.result (λ d. subst (λ (b : Bool). Did g.V.Vault (CarriesIf (length s.all.items) b) s c.carry_all.new.self) (sym c.if-carries.true) d) c.carry_all.ensures.did

pub returns-then-carries-clause-ended : goal.returns-then-carries-clause-ended
returns-then-carries-clause-ended g c =
    let s = c.args.self.now in
    end_map c.carry_all.result _ _ (λ f d. subst (λ (b : Bool). DidSome g.V.Vault (CarriesIf (length s.all.items) b) f s c.carry_all.new.self) (sym c.if-carries.true) d) c.carry_all.ensures.ended

pub returns-clause-gone : goal.returns-clause-gone
returns-clause-gone g c = gone_none g.V.Vault (Unit {0}) c.args.self.now (tt {0})

pub returns-clause-did : goal.returns-clause-did
returns-clause-did g c =
    let s = c.args.self.now in
    subst (λ (b : Bool). Did g.V.Vault (CarriesIf (length s.all.items) b) s s) (sym c.if-carries.false) (did_nothing g.V.Vault s c.requires.on)
