use Rattle.std.specs.Prelude.{Ok}
use Rattle.std.proofs.Common.{length}
use Rattle.std.proofs.lemmas.Result.{on_ok_weaker}
use Rattle.alp_course.specs.Carries.{IsCarried}
use Rattle.alp_course.specs.Languages.{Each}
use Rattle.alp_course.specs.Settles.{IsTicked}
use Rattle.alp_course.proofs.WordLemmas.{carried_has}
use Rattle.alp_cluster.proofs.CarryLemmas.{count_later}
use Rattle.alp_cluster.proofs.DidLemmas.{gone_both, all_handed, did_then, some_first, some_second}
use Rattle.alp_cluster.proofs.GoneLemmas.{end_on, end_map, handed_on}
use Rattle.alp_cluster.proofs.LoopLemmas.{did_count, some_count}
use Rattle.alp_cluster.proofs.stations.Stations.round.Goals as goal

pub returns-in_err-tick_all-clause-gone : goal.returns-in_err-tick_all-clause-gone
returns-in_err-tick_all-clause-gone g c =
    all_handed g.V.Vault (Unit {0}) c.args.self.now c.tick_all.new.self c.in_err-tick_all.field-0.0 c.from_residual.result c.in_err-tick_all.ensures.gone
    (handed_on c.in_err-tick_all.field-0.0 c.from_residual.result c.from_residual.ensures.0 c.from_residual.ensures.1)

pub returns-in_err-tick_all-clause-ended : goal.returns-in_err-tick_all-clause-ended
returns-in_err-tick_all-clause-ended g c =
    let servers = length c.args.self.now.all.items in
    end_on c.in_err-tick_all.field-0.0 c.from_residual.result _ _ (handed_on c.in_err-tick_all.field-0.0 c.from_residual.result c.from_residual.ensures.0 c.from_residual.ensures.1)
    (λ f d. some_first g.V.Vault (Each IsTicked servers) (IsCarried servers) f c.args.self.now c.tick_all.new.self (carried_has servers) d) c.in_err-tick_all.ensures.ended

pub carry_all-requires : goal.carry_all-requires
carry_all-requires g c = record { on = c.in_ok-tick_all.ensures.did.goes.later.on }

pub returns-clause-gone : goal.returns-clause-gone
returns-clause-gone g c =
    gone_both g.V.Vault (Unit {0}) c.args.self.now c.tick_all.new.self c.carry_all.new.self _ c.carry_all.result c.in_ok-tick_all.ensures.did.goes.later.on c.in_ok-tick_all.ensures.gone c.carry_all.ensures.gone

pub returns-clause-did : goal.returns-clause-did
returns-clause-did g c =
    let s = c.args.self.now in
    let servers = length s.all.items in
    on_ok_weaker c.carry_all.result
    (λ d. did_then g.V.Vault (Each IsTicked servers) (IsCarried servers) s c.tick_all.new.self c.carry_all.new.self c.in_ok-tick_all.ensures.did
    (did_count g.V.Vault IsCarried (length c.tick_all.new.self.all.items) servers c.tick_all.new.self c.carry_all.new.self (count_later g.V.Vault s c.tick_all.new.self c.in_ok-tick_all.ensures.did.goes.later) d)) c.carry_all.ensures.did

pub returns-clause-ended : goal.returns-clause-ended
returns-clause-ended g c =
    let s = c.args.self.now in
    let servers = length s.all.items in
    end_map c.carry_all.result _ _
    (λ f d. some_second g.V.Vault (Each IsTicked servers) (IsCarried servers) f s c.tick_all.new.self c.carry_all.new.self c.in_ok-tick_all.ensures.did
    (some_count g.V.Vault IsCarried (length c.tick_all.new.self.all.items) servers f c.tick_all.new.self c.carry_all.new.self (count_later g.V.Vault s c.tick_all.new.self c.in_ok-tick_all.ensures.did.goes.later) d)) c.carry_all.ensures.ended
