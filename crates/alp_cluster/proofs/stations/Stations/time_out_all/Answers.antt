use Rattle.std.specs.Prelude.{Ok}
use Rattle.std.proofs.Common.{◌<◌, ◌+◌, length, arith}
use Rattle.alp_course.specs.Settles.{AreTimedOut}
use Rattle.alp_course.specs.Languages.{Each}
use Rattle.alp_course.proofs.WordLemmas.{timed_has}
use Rattle.alp_cluster.proofs.DidLemmas.{gone_none, gone_both, all_ok, all_on, each_none, each_one, each_some}
use Rattle.alp_cluster.proofs.GoneLemmas.{end_on, handed_on}
use Rattle.alp_cluster.proofs.LoopLemmas.{next_one, next_small, next_seat, all_done, did_count, timed_up}
use Rattle.alp_cluster.proofs.stations.Stations.time_out_all.Goals as goal

pub loop-place-init : goal.loop-place-init
loop-place-init g c = record { did = each_none g.V.Vault AreTimedOut c.args.self.now c.requires.on; gone = gone_none g.V.Vault (Unit {0}) c.args.self.now (tt {0}); up = c.requires.up }

pub overflow_add-place : goal.overflow_add-place
overflow_add-place g c =
    let low : c.loop-place.place + 1 < 256 = next_small g.V.Vault c.args.self.now c.loop-place.place c.count-place-end.result c.requires.on c.count-place-end.ensures c.loop-place-test.true in
    omega (arith, low)

pub time_out_at-requires-clause-on : goal.time_out_at-requires-clause-on
time_out_at-requires-clause-on g c = c.loop-place.invariant.did.goes.later.on

pub time_out_at-requires-clause-server : goal.time_out_at-requires-clause-server
time_out_at-requires-clause-server g c = next_one g.V.Vault c.args.self.now c.loop-place.self c.loop-place.place c.count-place-end.result c.loop-place.invariant.did.goes.later c.count-place-end.ensures c.loop-place-test.true

pub time_out_at-requires-clause-up : goal.time_out_at-requires-clause-up
time_out_at-requires-clause-up g c =
    c.loop-place.invariant.up (c.loop-place.place + 1)
    (next_seat g.V.Vault c.loop-place.self c.loop-place.place (next_one g.V.Vault c.args.self.now c.loop-place.self c.loop-place.place c.count-place-end.result c.loop-place.invariant.did.goes.later c.count-place-end.ensures c.loop-place-test.true))

pub returns-in_err-time_out_at-clause-gone : goal.returns-in_err-time_out_at-clause-gone
returns-in_err-time_out_at-clause-gone g c =
    all_on g.V.Vault (Unit {0}) c.args.self.now c.loop-place.self c.time_out_at.new.self (tt {0}) c.in_err-time_out_at.field-0.0 c.from_residual.result c.loop-place.invariant.did.goes.later.on c.loop-place.invariant.gone c.in_err-time_out_at.ensures.gone
    (handed_on c.in_err-time_out_at.field-0.0 c.from_residual.result c.from_residual.ensures.0 c.from_residual.ensures.1)

pub returns-in_err-time_out_at-clause-ended : goal.returns-in_err-time_out_at-clause-ended
returns-in_err-time_out_at-clause-ended g c =
    let s = c.args.self.now in
    end_on c.in_err-time_out_at.field-0.0 c.from_residual.result _ _ (handed_on c.in_err-time_out_at.field-0.0 c.from_residual.result c.from_residual.ensures.0 c.from_residual.ensures.1)
    (λ f d. each_some g.V.Vault AreTimedOut timed_has f c.loop-place.place (length s.all.items) s c.loop-place.self c.time_out_at.new.self (omega (arith, c.count-place-end.ensures, c.loop-place-test.true)) c.loop-place.invariant.did d) c.in_err-time_out_at.ensures.ended

pub loop-place-preserved : goal.loop-place-preserved
loop-place-preserved g c = record {
  did = each_one g.V.Vault AreTimedOut c.loop-place.place c.args.self.now c.loop-place.self c.time_out_at.new.self c.loop-place.invariant.did c.in_ok-time_out_at.ensures.did;
  gone = gone_both g.V.Vault (Unit {0}) c.args.self.now c.loop-place.self c.time_out_at.new.self (tt {0}) (Ok (tt {0})) c.loop-place.invariant.did.goes.later.on c.loop-place.invariant.gone
      (all_ok g.V.Vault (Unit {0}) c.loop-place.self c.time_out_at.new.self _ (tt {0}) c.in_ok-time_out_at.ensures.gone);
  up = timed_up g.V.Vault (c.loop-place.place + 1) c.loop-place.self c.time_out_at.new.self c.in_ok-time_out_at.ensures.did c.loop-place.invariant.up;
}

pub returns-clause-did : goal.returns-clause-did
returns-clause-did g c =
    did_count g.V.Vault (Each AreTimedOut) c.loop-place.place (length c.args.self.now.all.items) c.args.self.now c.loop-place.self
    (all_done g.V.Vault c.args.self.now c.loop-place.place c.count-place-end.result c.count-place-end.ensures c.loop-place.auto.place-end c.loop-place-test.false) c.loop-place.invariant.did
