use Rattle.std.specs.Prelude.{Option, Some, Ok}
use Rattle.std.proofs.Common.{rules, ◌<◌, subst}
use Rattle.std.proofs.lemmas.Result.{on_ok_weaker}
use Rattle.alp_base.specs.declared.ids.TransId.{TransId}
use Rattle.alp_course.specs.Carries.{room_left}
use Rattle.alp_cluster.specs.Settled.{FindsOpen, IsUpAt}
use Rattle.alp_cluster.specs.Stations.{AreOn, IsOneOf, course_of}
use Rattle.alp_cluster.proofs.CarryLemmas.{one_later}
use Rattle.alp_cluster.proofs.DidLemmas.{gone_none, gone_both, all_handed}
use Rattle.alp_cluster.proofs.GoneLemmas.{end_on, end_map, handed_on}
use Rattle.alp_cluster.proofs.LoopLemmas.{one_timed_up}
use Rattle.alp_cluster.proofs.SettleLemmas.{none_timed, one_timed, timed_cut, later_timed_cut, timed_less}
use Rattle.alp_cluster.proofs.stations.Stations.+time_out_at.Goals as goal

pub returns-in_default-clause-gone : goal.returns-in_default-clause-gone
returns-in_default-clause-gone g t c = gone_none g.V.Vault (Unit {0}) c.args.self.now (tt {0})

pub returns-in_default-clause-did : goal.returns-in_default-clause-did
returns-in_default-clause-did g t c =
    none_timed g.V.Vault c.args.server c.args.self.now c.requires.on c.requires.server (subst (λ (o : Option TransId). FindsOpen g.V.Vault c.args.server o c.args.self.now) c.in_default.is c.open_at.ensures)

pub returns-in_err-time_out-clause-gone : goal.returns-in_err-time_out-clause-gone
returns-in_err-time_out-clause-gone g t c =
    all_handed g.V.Vault (Unit {0}) c.args.self.now c.time_out.new.self c.in_err-time_out.field-0.0 c.from_residual.result c.in_err-time_out.ensures.gone
    (handed_on c.in_err-time_out.field-0.0 c.from_residual.result c.from_residual.ensures.0 c.from_residual.ensures.1)

pub returns-in_err-time_out-clause-ended : goal.returns-in_err-time_out-clause-ended
returns-in_err-time_out-clause-ended g t c =
    let s = c.args.self.now in
    let finds = subst (λ (o : Option TransId). FindsOpen g.V.Vault c.args.server o s) c.in-Some.is c.open_at.ensures in
    end_on c.in_err-time_out.field-0.0 c.from_residual.result _ _ (handed_on c.in_err-time_out.field-0.0 c.from_residual.result c.from_residual.ensures.0 c.from_residual.ensures.1)
    (λ f d. timed_cut g.V.Vault c.args.server c.in-Some.trans s c.time_out.new.self c.requires.on c.requires.server finds f d) c.in_err-time_out.ensures.ended

pub time_out_at-requires : goal.time_out_at-requires
time_out_at-requires g t c =
    let s = c.args.self.now in
    let b = c.time_out.new.self in
    let finds = subst (λ (o : Option TransId). FindsOpen g.V.Vault c.args.server o s) c.in-Some.is c.open_at.ensures in
    let less : room_left (course_of g.V.Vault b) < room_left (course_of g.V.Vault s) = timed_less g.V.Vault c.args.server c.in-Some.trans s b c.requires.on c.requires.server finds c.requires.up c.in_ok-time_out.ensures.did in
    let on : AreOn g.V.Vault b = c.in_ok-time_out.ensures.did.goes.later.on in
    let here : IsOneOf b c.args.server = one_later g.V.Vault s b c.args.server c.in_ok-time_out.ensures.did.goes.later c.requires.server in
    let up : IsUpAt g.V.Vault c.args.server b = one_timed_up g.V.Vault c.args.server c.in-Some.trans s b c.in_ok-time_out.ensures.did c.requires.up in
    search rules

pub returns-clause-gone : goal.returns-clause-gone
returns-clause-gone g t c =
    gone_both g.V.Vault (Unit {0}) c.args.self.now c.time_out.new.self c.time_out_at.new.self _ c.time_out_at.result c.in_ok-time_out.ensures.did.goes.later.on c.in_ok-time_out.ensures.gone c.time_out_at.ensures.gone

pub returns-clause-did : goal.returns-clause-did
returns-clause-did g t c =
    let s = c.args.self.now in
    let finds = subst (λ (o : Option TransId). FindsOpen g.V.Vault c.args.server o s) c.in-Some.is c.open_at.ensures in
    on_ok_weaker c.time_out_at.result (λ d. one_timed g.V.Vault c.args.server c.in-Some.trans s c.time_out.new.self c.requires.on c.requires.server finds c.time_out_at.new.self c.in_ok-time_out.ensures.did d) c.time_out_at.ensures.did

pub returns-clause-ended : goal.returns-clause-ended
returns-clause-ended g t c =
    let s = c.args.self.now in
    let finds = subst (λ (o : Option TransId). FindsOpen g.V.Vault c.args.server o s) c.in-Some.is c.open_at.ensures in
    end_map c.time_out_at.result _ _ (λ f d. later_timed_cut g.V.Vault c.args.server c.in-Some.trans s c.time_out.new.self c.requires.on c.requires.server finds f c.time_out_at.new.self c.in_ok-time_out.ensures.did d) c.time_out_at.ensures.ended
