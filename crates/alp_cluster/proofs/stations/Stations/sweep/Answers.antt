use Rattle.std.specs.Prelude.{Bool, Ok}
use Rattle.std.proofs.Common.{◌<◌, ℕ, ◌+◌, length, sym, subst, arith}
use Rattle.alp_course.specs.Carries.{CarriesFrom}
use Rattle.alp_course.specs.Languages.{Each}
use Rattle.alp_course.proofs.WordLemmas.{from_has}
use Rattle.alp_cluster.specs.Messages.{DidSay}
use Rattle.alp_cluster.proofs.CarryLemmas.{count_later}
use Rattle.alp_cluster.proofs.DidLemmas.{gone_none, gone_both, all_ok, all_on, each_some, say_did}
use Rattle.alp_cluster.proofs.GoneLemmas.{end_on, handed_on}
use Rattle.alp_cluster.proofs.LoopLemmas.{next_one, next_small, all_done, say_count, some_count}
use Rattle.alp_cluster.proofs.SweepLemmas.{say_none, say_one}
use Rattle.alp_cluster.proofs.stations.Stations.sweep.Goals as goal

pub loop-place-init : goal.loop-place-init
loop-place-init g c = record { said = say_none g.V.Vault c.args.self.now c.requires.on; gone = gone_none g.V.Vault (Unit {0}) c.args.self.now (tt {0}) }

pub overflow_add-place : goal.overflow_add-place
overflow_add-place g c =
    let low : c.loop-place.place + 1 < 256 = next_small g.V.Vault c.args.self.now c.loop-place.place c.count-place-end.result c.requires.on c.count-place-end.ensures c.loop-place-test.true in
    omega (arith, low)

pub carry_from-requires-clause-on : goal.carry_from-requires-clause-on
carry_from-requires-clause-on g c = c.loop-place.invariant.said.goes.later.on

pub carry_from-requires-clause-from : goal.carry_from-requires-clause-from
carry_from-requires-clause-from g c = next_one g.V.Vault c.args.self.now c.loop-place.self c.loop-place.place c.count-place-end.result c.loop-place.invariant.said.goes.later c.count-place-end.ensures c.loop-place-test.true

pub returns-in_err-more-clause-gone : goal.returns-in_err-more-clause-gone
returns-in_err-more-clause-gone g c =
    all_on g.V.Vault (Unit {0}) c.args.self.now c.loop-place.self c.carry_from.new.self (tt {0}) c.in_err-more.field-0.0 c.from_residual.result c.loop-place.invariant.said.goes.later.on c.loop-place.invariant.gone c.in_err-more.ensures.gone
    (handed_on c.in_err-more.field-0.0 c.from_residual.result c.from_residual.ensures.0 c.from_residual.ensures.1)

pub returns-in_err-more-clause-ended : goal.returns-in_err-more-clause-ended
returns-in_err-more-clause-ended g c =
    let s = c.args.self.now in
    let servers = length s.all.items in
    end_on c.in_err-more.field-0.0 c.from_residual.result _ _ (handed_on c.in_err-more.field-0.0 c.from_residual.result c.from_residual.ensures.0 c.from_residual.ensures.1)
    (λ f d. each_some g.V.Vault (CarriesFrom servers) (from_has servers) f c.loop-place.place servers s c.loop-place.self c.carry_from.new.self (omega (arith, c.count-place-end.ensures, c.loop-place-test.true))
    (say_did g.V.Vault (Each (CarriesFrom servers) c.loop-place.place) c.loop-place.some s c.loop-place.self c.loop-place.invariant.said)
    (some_count g.V.Vault (λ (n : ℕ). CarriesFrom n (c.loop-place.place + 1)) (length c.loop-place.self.all.items) servers f c.loop-place.self c.carry_from.new.self (count_later g.V.Vault s c.loop-place.self c.loop-place.invariant.said.goes.later) d)) c.in_err-more.ensures.ended

pub loop-place-preserved : goal.loop-place-preserved
loop-place-preserved g c =
    let s = c.args.self.now in
    let servers = length s.all.items in
    record {
      said = subst (λ (b : Bool). DidSay g.V.Vault (Each (CarriesFrom servers) (c.loop-place.place + 1)) b s c.carry_from.new.self) (sym c.is_either-some.ensures)
          (say_one g.V.Vault (CarriesFrom servers) c.loop-place.place c.loop-place.some c.in_ok-more.more s c.loop-place.self c.carry_from.new.self c.loop-place.invariant.said
          (say_count g.V.Vault (λ (n : ℕ). CarriesFrom n (c.loop-place.place + 1)) (length c.loop-place.self.all.items) servers c.in_ok-more.more c.loop-place.self c.carry_from.new.self (count_later g.V.Vault s c.loop-place.self c.loop-place.invariant.said.goes.later) c.in_ok-more.ensures.did));
      gone = gone_both g.V.Vault (Unit {0}) s c.loop-place.self c.carry_from.new.self (tt {0}) (Ok (tt {0})) c.loop-place.invariant.said.goes.later.on c.loop-place.invariant.gone
          (all_ok g.V.Vault (Unit {0}) c.loop-place.self c.carry_from.new.self c.in_ok-more.more (tt {0}) c.in_ok-more.ensures.gone);
    }

pub returns-clause-gone : goal.returns-clause-gone
returns-clause-gone g c = all_ok g.V.Vault (Unit {0}) c.args.self.now c.loop-place.self (tt {0}) c.loop-place.some c.loop-place.invariant.gone

pub returns-clause-did : goal.returns-clause-did
returns-clause-did g c =
    say_count g.V.Vault (Each (CarriesFrom (length c.args.self.now.all.items))) c.loop-place.place (length c.args.self.now.all.items) c.loop-place.some c.args.self.now c.loop-place.self
    (all_done g.V.Vault c.args.self.now c.loop-place.place c.count-place-end.result c.count-place-end.ensures c.loop-place.auto.place-end c.loop-place-test.false) c.loop-place.invariant.said
