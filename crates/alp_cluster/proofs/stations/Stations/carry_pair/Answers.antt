use Rattle.std.specs.Prelude.{Bool, true, false, Ok}
use Rattle.std.proofs.Common.{[], ◌∷◌, subst}
use Rattle.alp_course.specs.Courses.{looks}
use Rattle.alp_course.specs.Languages.{Just}
use Rattle.alp_cluster.specs.Stations.{Did}
use Rattle.alp_cluster.proofs.CarryLemmas.{apart_later, carrying_none, carrying_over, carrying_more, carrying_cut}
use Rattle.alp_cluster.proofs.DidLemmas.{later_then, gone_none, gone_both, all_ok, all_on}
use Rattle.alp_cluster.proofs.GoneLemmas.{end_on, handed_on}
use Rattle.alp_cluster.proofs.SweepLemmas.{bring_less}
use Rattle.alp_cluster.proofs.stations.Stations.carry_pair.Goals as goal

pub loop-self-init : goal.loop-self-init
loop-self-init g c = record {
  carrying = carrying_none g.V.Vault c.args.from c.args.to c.args.self.now c.requires.on;
  gone = gone_none g.V.Vault (Unit {0}) c.args.self.now (tt {0});
}

pub is_waiting-requires-clause-on : goal.is_waiting-requires-clause-on
is_waiting-requires-clause-on g c = c.loop-self.invariant.carrying.goes.later.on

pub is_waiting-requires-clause-apart : goal.is_waiting-requires-clause-apart
is_waiting-requires-clause-apart g c = apart_later g.V.Vault c.args.self.now c.loop-self.self c.args.from c.args.to c.loop-self.invariant.carrying.goes.later c.requires.apart

pub carry-requires-clause-on : goal.carry-requires-clause-on
carry-requires-clause-on g c = c.is_waiting.ensures.did.goes.later.on

pub carry-requires-clause-apart : goal.carry-requires-clause-apart
carry-requires-clause-apart g c =
    apart_later g.V.Vault c.args.self.now c.is_waiting.new.self c.args.from c.args.to
    (later_then g.V.Vault c.args.self.now c.loop-self.self c.is_waiting.new.self c.loop-self.invariant.carrying.goes.later c.is_waiting.ensures.did.goes.later) c.requires.apart

pub returns-in_err-carry-clause-gone : goal.returns-in_err-carry-clause-gone
returns-in_err-carry-clause-gone g c =
    let s = c.args.self.now in
    let looked = gone_both g.V.Vault (Unit {0}) s c.loop-self.self c.is_waiting.new.self (tt {0}) (Ok (tt {0})) c.loop-self.invariant.carrying.goes.later.on c.loop-self.invariant.gone c.is_waiting.ensures.gone in
    all_on g.V.Vault (Unit {0}) s c.is_waiting.new.self c.carry.new.self (tt {0}) c.in_err-carry.field-0.0 c.from_residual.result c.is_waiting.ensures.did.goes.later.on looked c.in_err-carry.ensures.gone
    (handed_on c.in_err-carry.field-0.0 c.from_residual.result c.from_residual.ensures.0 c.from_residual.ensures.1)

pub returns-in_err-carry-clause-ended : goal.returns-in_err-carry-clause-ended
returns-in_err-carry-clause-ended g c =
    let s = c.args.self.now in
    let look = subst (λ (b : Bool). Did g.V.Vault (Just (looks c.args.from c.args.to b ∷ [])) c.loop-self.self c.is_waiting.new.self) c.loop-self-test.true c.is_waiting.ensures.did in
    end_on c.in_err-carry.field-0.0 c.from_residual.result _ _ (handed_on c.in_err-carry.field-0.0 c.from_residual.result c.from_residual.ensures.0 c.from_residual.ensures.1)
    (λ f cut. carrying_cut g.V.Vault c.args.from c.args.to c.loop-self.some s c.loop-self.self c.is_waiting.new.self c.loop-self.invariant.carrying look f c.carry.new.self cut) c.in_err-carry.ensures.ended

pub loop-self-preserved : goal.loop-self-preserved
loop-self-preserved g c =
    let s = c.args.self.now in
    let look = subst (λ (b : Bool). Did g.V.Vault (Just (looks c.args.from c.args.to b ∷ [])) c.loop-self.self c.is_waiting.new.self) c.loop-self-test.true c.is_waiting.ensures.did in
    let looked = gone_both g.V.Vault (Unit {0}) s c.loop-self.self c.is_waiting.new.self (tt {0}) (Ok (tt {0})) c.loop-self.invariant.carrying.goes.later.on c.loop-self.invariant.gone c.is_waiting.ensures.gone in
    record {
      carrying = carrying_more g.V.Vault c.args.from c.args.to c.loop-self.some s c.loop-self.self c.is_waiting.new.self c.loop-self.invariant.carrying look c.carry.new.self c.in_ok-carry.ensures.did;
      gone = gone_both g.V.Vault (Unit {0}) s c.is_waiting.new.self c.carry.new.self (tt {0}) (Ok (tt {0})) c.is_waiting.ensures.did.goes.later.on looked
          (all_ok g.V.Vault (Unit {0}) c.is_waiting.new.self c.carry.new.self _ (tt {0}) c.in_ok-carry.ensures.gone);
    }

pub loop-self-smaller : goal.loop-self-smaller
loop-self-smaller g c =
    let look = subst (λ (b : Bool). Did g.V.Vault (Just (looks c.args.from c.args.to b ∷ [])) c.loop-self.self c.is_waiting.new.self) c.loop-self-test.true c.is_waiting.ensures.did in
    bring_less g.V.Vault c.args.from c.args.to c.loop-self.self c.is_waiting.new.self c.carry.new.self c.loop-self.invariant.carrying.goes.later.on look c.in_ok-carry.ensures.did

pub returns-clause-gone : goal.returns-clause-gone
returns-clause-gone g c =
    all_ok g.V.Vault (Unit {0}) c.args.self.now c.is_waiting.new.self (tt {0}) c.loop-self.some
    (gone_both g.V.Vault (Unit {0}) c.args.self.now c.loop-self.self c.is_waiting.new.self (tt {0}) (Ok (tt {0})) c.loop-self.invariant.carrying.goes.later.on c.loop-self.invariant.gone c.is_waiting.ensures.gone)

pub returns-clause-did : goal.returns-clause-did
returns-clause-did g c =
    let look = subst (λ (b : Bool). Did g.V.Vault (Just (looks c.args.from c.args.to b ∷ [])) c.loop-self.self c.is_waiting.new.self) c.loop-self-test.false c.is_waiting.ensures.did in
    carrying_over g.V.Vault c.args.from c.args.to c.loop-self.some c.args.self.now c.loop-self.self c.is_waiting.new.self c.loop-self.invariant.carrying look
