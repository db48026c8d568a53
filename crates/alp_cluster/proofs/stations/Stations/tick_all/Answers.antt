use Rattle.std.specs.Prelude.{Ok}
use Rattle.std.proofs.Common.{◌+◌, ◌<◌, length, arith, refl}
use Rattle.alp_course.specs.Happens.{ticked}
use Rattle.alp_course.specs.Settles.{IsTicked}
use Rattle.alp_course.specs.Languages.{Each}
use Rattle.alp_course.proofs.WordLemmas.{ticked_has}
use Rattle.alp_cluster.proofs.DidLemmas.{gone_none, gone_both, all_ok, all_on, each_none, each_one, each_some}
use Rattle.alp_cluster.proofs.GoneLemmas.{end_on, handed_on}
use Rattle.alp_cluster.proofs.LoopLemmas.{next_one, next_small, all_done, did_count}
use Rattle.alp_cluster.proofs.stations.Stations.tick_all.Goals as goal

pub loop-place-init : goal.loop-place-init
loop-place-init g c = record { did = each_none g.V.Vault IsTicked c.args.self.now c.requires.on; gone = gone_none g.V.Vault (Unit {0}) c.args.self.now (tt {0}) }

pub overflow_add-place : goal.overflow_add-place
overflow_add-place g c =
    let low : c.loop-place.place + 1 < 256 = next_small g.V.Vault c.args.self.now c.loop-place.place c.count-place-end.result c.requires.on c.count-place-end.ensures c.loop-place-test.true in
    omega (arith, low)

pub happen-requires-clause-on : goal.happen-requires-clause-on
happen-requires-clause-on g c = c.loop-place.invariant.did.goes.later.on

pub happen-requires-clause-server : goal.happen-requires-clause-server
happen-requires-clause-server g c = next_one g.V.Vault c.args.self.now c.loop-place.self c.loop-place.place c.count-place-end.result c.loop-place.invariant.did.goes.later c.count-place-end.ensures c.loop-place-test.true

pub happen-requires-clause-event : goal.happen-requires-clause-event
happen-requires-clause-event g c = (ticked, refl)

pub returns-in_err-happen-clause-gone : goal.returns-in_err-happen-clause-gone
returns-in_err-happen-clause-gone g c =
    all_on g.V.Vault (Unit {0}) c.args.self.now c.loop-place.self c.happen.new.self (tt {0}) c.in_err-happen.field-0.0 c.from_residual.result c.loop-place.invariant.did.goes.later.on c.loop-place.invariant.gone c.in_err-happen.ensures.gone
    (handed_on c.in_err-happen.field-0.0 c.from_residual.result c.from_residual.ensures.0 c.from_residual.ensures.1)

pub returns-in_err-happen-clause-ended : goal.returns-in_err-happen-clause-ended
returns-in_err-happen-clause-ended g c =
    let s = c.args.self.now in
    end_on c.in_err-happen.field-0.0 c.from_residual.result _ _ (handed_on c.in_err-happen.field-0.0 c.from_residual.result c.from_residual.ensures.0 c.from_residual.ensures.1)
    (λ f d. each_some g.V.Vault IsTicked ticked_has f c.loop-place.place (length s.all.items) s c.loop-place.self c.happen.new.self (omega (arith, c.count-place-end.ensures, c.loop-place-test.true)) c.loop-place.invariant.did (d ticked refl)) c.in_err-happen.ensures.ended

pub loop-place-preserved : goal.loop-place-preserved
loop-place-preserved g c = record {
  did = each_one g.V.Vault IsTicked c.loop-place.place c.args.self.now c.loop-place.self c.happen.new.self c.loop-place.invariant.did (c.in_ok-happen.ensures.did ticked refl);
  gone = gone_both g.V.Vault (Unit {0}) c.args.self.now c.loop-place.self c.happen.new.self (tt {0}) (Ok (tt {0})) c.loop-place.invariant.did.goes.later.on c.loop-place.invariant.gone
      (all_ok g.V.Vault (Unit {0}) c.loop-place.self c.happen.new.self _ (tt {0}) c.in_ok-happen.ensures.gone);
}

pub returns-clause-did : goal.returns-clause-did
returns-clause-did g c =
    did_count g.V.Vault (Each IsTicked) c.loop-place.place (length c.args.self.now.all.items) c.args.self.now c.loop-place.self
    (all_done g.V.Vault c.args.self.now c.loop-place.place c.count-place-end.result c.count-place-end.ensures c.loop-place.auto.place-end c.loop-place-test.false) c.loop-place.invariant.did
