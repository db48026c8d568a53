use Rattle.std.specs.Prelude.{Option}
use Rattle.std.proofs.Common.{ℕ, [], refl, sym, ap, subst}
use Rattle.std.proofs.lemmas.Result.{on_ok_weaker}
use Rattle.alp_base.specs.declared.ids.TransId.{TransId}
use Rattle.alp_course.specs.Courses.{at}
use Rattle.alp_course.specs.Happens.{timed_out}
use Rattle.alp_course.specs.Languages.{Just}
use Rattle.alp_course.specs.Plays.{timeouts_due}
use Rattle.alp_cluster.specs.Stations.{Did, DidSome}
use Rattle.alp_cluster.specs.declared.fault.RunFault.TheVariants as fault
use Rattle.alp_cluster.proofs.DidLemmas.{gone_none, gone_wanting, some_wanting}
use Rattle.alp_cluster.proofs.GoneLemmas.{end_map}
use Rattle.alp_cluster.proofs.OtherLemmas.{did_none}
use Rattle.alp_cluster.proofs.parties.Parties.time_out.Goals as goal

pub returns-in_default-clause-gone : goal.returns-in_default-clause-gone
returns-in_default-clause-gone g c = gone_none g.V.Vault (Unit {0}) c.args.self.now.stations (tt {0})

pub returns-in_default-clause-did : goal.returns-in_default-clause-did
returns-in_default-clause-did g c =
    did_none g.V.Vault (Just (timeouts_due c.args.due)) c.args.self.now.stations c.requires.on (sym (ap timeouts_due c.in_default.is))

pub returns-then-not-has-clause-gone : goal.returns-then-not-has-clause-gone
returns-then-not-has-clause-gone g c = gone_wanting g.V.Vault (Unit {0}) c.args.self.now.stations

pub returns-then-not-has-clause-ended : goal.returns-then-not-has-clause-ended
returns-then-not-has-clause-ended g c =
    subst (λ (o : Option (ℕ × TransId)). DidSome g.V.Vault (Just (timeouts_due o)) fault.OutOfMemory c.args.self.now.stations c.args.self.now.stations) (sym c.in-Some.is)
    (some_wanting g.V.Vault (at c.in-Some.server (timed_out c.in-Some.trans)) c.args.self.now.stations c.requires.on)

pub happen-requires-clause-server : goal.happen-requires-clause-server
happen-requires-clause-server g c = c.has.ensures.yes c.if-not-has.false

pub happen-requires-clause-event : goal.happen-requires-clause-event
happen-requires-clause-event g c = (timed_out c.in-Some.trans, refl)

pub returns-clause-did : goal.returns-clause-did
returns-clause-did g c =
    let s = c.args.self.now.stations in
    on_ok_weaker c.happen.result (λ d. subst (λ (o : Option (ℕ × TransId)). Did g.V.Vault (Just (timeouts_due o)) s c.happen.new.self) (sym c.in-Some.is) (d (timed_out c.in-Some.trans) refl)) c.happen.ensures.did

pub returns-clause-ended : goal.returns-clause-ended
returns-clause-ended g c =
    let s = c.args.self.now.stations in
    end_map c.happen.result _ _ (λ f d. subst (λ (o : Option (ℕ × TransId)). DidSome g.V.Vault (Just (timeouts_due o)) f s c.happen.new.self) (sym c.in-Some.is) (d (timed_out c.in-Some.trans) refl)) c.happen.ensures.ended
