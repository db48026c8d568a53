use Rattle.std.specs.Prelude.{Bool, true, false, Ok}
use Rattle.std.proofs.Common.{rules, ◌<◌, length, subst}
use Rattle.std.proofs.lemmas.Result.{on_ok_weaker}
use Rattle.alp_course.specs.Carries.{IsSweep, IsCarried, room_left}
use Rattle.alp_cluster.specs.Messages.{DidSay}
use Rattle.alp_cluster.specs.Stations.{AreOn, course_of}
use Rattle.alp_cluster.proofs.CarryLemmas.{count_later}
use Rattle.alp_cluster.proofs.DidLemmas.{gone_both, all_ok, all_handed}
use Rattle.alp_cluster.proofs.GoneLemmas.{end_on, end_map, handed_on}
use Rattle.alp_cluster.proofs.LoopLemmas.{did_count, some_count}
use Rattle.alp_cluster.proofs.SweepLemmas.{last_carried, more_carried, sweep_cut, later_cut, sweep_less}
use Rattle.alp_cluster.proofs.stations.Stations.+carry_all.Goals as goal

pub returns-in_err-sweep-clause-gone : goal.returns-in_err-sweep-clause-gone
returns-in_err-sweep-clause-gone g t c =
    all_handed g.V.Vault (Unit {0}) c.args.self.now c.sweep.new.self c.in_err-sweep.field-0.0 c.from_residual.result c.in_err-sweep.ensures.gone
    (handed_on c.in_err-sweep.field-0.0 c.from_residual.result c.from_residual.ensures.0 c.from_residual.ensures.1)

pub returns-in_err-sweep-clause-ended : goal.returns-in_err-sweep-clause-ended
returns-in_err-sweep-clause-ended g t c =
    end_on c.in_err-sweep.field-0.0 c.from_residual.result _ _ (handed_on c.in_err-sweep.field-0.0 c.from_residual.result c.from_residual.ensures.0 c.from_residual.ensures.1)
    (λ f d. sweep_cut g.V.Vault (length c.args.self.now.all.items) f c.args.self.now c.sweep.new.self d) c.in_err-sweep.ensures.ended

pub carry_all-requires : goal.carry_all-requires
carry_all-requires g t c =
    let s = c.args.self.now in
    let swept : DidSay g.V.Vault (IsSweep (length s.all.items)) true s c.sweep.new.self = subst (λ (b : Bool). DidSay g.V.Vault (IsSweep (length s.all.items)) b s c.sweep.new.self) c.if-branch.true c.in_ok-sweep.ensures.did in
    let on : AreOn g.V.Vault c.sweep.new.self = swept.goes.later.on in
    let less : room_left (course_of g.V.Vault c.sweep.new.self) < room_left (course_of g.V.Vault s) = sweep_less g.V.Vault s c.sweep.new.self c.requires.on swept in
    search rules

pub returns-then-branch-clause-gone : goal.returns-then-branch-clause-gone
returns-then-branch-clause-gone g t c =
    gone_both g.V.Vault (Unit {0}) c.args.self.now c.sweep.new.self c.carry_all.new.self _ c.carry_all.result c.in_ok-sweep.ensures.did.goes.later.on c.in_ok-sweep.ensures.gone c.carry_all.ensures.gone

pub returns-then-branch-clause-did : goal.returns-then-branch-clause-did
returns-then-branch-clause-did g t c =
    let s = c.args.self.now in
    let servers = length s.all.items in
    let swept = subst (λ (b : Bool). DidSay g.V.Vault (IsSweep servers) b s c.sweep.new.self) c.if-branch.true c.in_ok-sweep.ensures.did in
    on_ok_weaker c.carry_all.result
    (λ d. more_carried g.V.Vault servers s c.sweep.new.self c.carry_all.new.self swept
    (did_count g.V.Vault IsCarried (length c.sweep.new.self.all.items) servers c.sweep.new.self c.carry_all.new.self (count_later g.V.Vault s c.sweep.new.self swept.goes.later) d)) c.carry_all.ensures.did

pub returns-then-branch-clause-ended : goal.returns-then-branch-clause-ended
returns-then-branch-clause-ended g t c =
    let s = c.args.self.now in
    let servers = length s.all.items in
    let swept = subst (λ (b : Bool). DidSay g.V.Vault (IsSweep servers) b s c.sweep.new.self) c.if-branch.true c.in_ok-sweep.ensures.did in
    end_map c.carry_all.result _ _
    (λ f d. later_cut g.V.Vault servers f s c.sweep.new.self c.carry_all.new.self swept
    (some_count g.V.Vault IsCarried (length c.sweep.new.self.all.items) servers f c.sweep.new.self c.carry_all.new.self (count_later g.V.Vault s c.sweep.new.self swept.goes.later) d)) c.carry_all.ensures.ended

pub returns-clause-gone : goal.returns-clause-gone
returns-clause-gone g t c = all_ok g.V.Vault (Unit {0}) c.args.self.now c.sweep.new.self _ (tt {0}) c.in_ok-sweep.ensures.gone

pub returns-clause-did : goal.returns-clause-did
returns-clause-did g t c =
    let s = c.args.self.now in
    last_carried g.V.Vault (length s.all.items) s c.sweep.new.self (subst (λ (b : Bool). DidSay g.V.Vault (IsSweep (length s.all.items)) b s c.sweep.new.self) c.if-branch.false c.in_ok-sweep.ensures.did)
