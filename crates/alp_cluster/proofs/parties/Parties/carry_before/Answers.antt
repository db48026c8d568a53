use Rattle.std.specs.Prelude.{Bool}
use Rattle.std.proofs.Common.{length, sym, subst}
use Rattle.std.proofs.lemmas.Result.{on_ok_weaker}
use Rattle.alp_session.specs.declared.waiting.Next.{Next}
use Rattle.alp_course.specs.Carries.{CarriesIf}
use Rattle.alp_course.specs.Plays.{CarriesAt}
use Rattle.alp_cluster.specs.Stations.{Did, DidSome}
use Rattle.alp_cluster.proofs.DidLemmas.{gone_none}
use Rattle.alp_cluster.proofs.GoneLemmas.{end_map}
use Rattle.alp_cluster.proofs.OtherLemmas.{carries_none, did_none}
use Rattle.alp_cluster.proofs.parties.Parties.carry_before.Goals as goal

pub returns-in-Collect-clause-did : goal.returns-in-Collect-clause-did
returns-in-Collect-clause-did g c =
    let s = c.args.self.now.stations in
    let n = length s.all.items in
    on_ok_weaker c.carry_if.result
    (λ d. subst (λ (x : Next). Did g.V.Vault (CarriesAt n c.args.self.now.clients x) s c.carry_if.new.self) (sym c.in-Collect.is)
    (subst (λ (b : Bool). Did g.V.Vault (CarriesIf n b) s c.carry_if.new.self) c.carries.ensures d)) c.carry_if.ensures.did

pub returns-in-Collect-clause-ended : goal.returns-in-Collect-clause-ended
returns-in-Collect-clause-ended g c =
    let s = c.args.self.now.stations in
    let n = length s.all.items in
    end_map c.carry_if.result _ _
    (λ f d. subst (λ (x : Next). DidSome g.V.Vault (CarriesAt n c.args.self.now.clients x) f s c.carry_if.new.self) (sym c.in-Collect.is)
    (subst (λ (b : Bool). DidSome g.V.Vault (CarriesIf n b) f s c.carry_if.new.self) c.carries.ensures d)) c.carry_if.ensures.ended

pub returns-in_default-clause-gone : goal.returns-in_default-clause-gone
returns-in_default-clause-gone g c = gone_none g.V.Vault (Unit {0}) c.args.self.now.stations (tt {0})

pub returns-in_default-clause-did : goal.returns-in_default-clause-did
returns-in_default-clause-did g c =
    let s = c.args.self.now.stations in
    did_none g.V.Vault (CarriesAt (length s.all.items) c.args.self.now.clients c.args.next) s c.requires.on (carries_none (length s.all.items) c.args.self.now.clients c.args.next c.in_default.not-Collect)
