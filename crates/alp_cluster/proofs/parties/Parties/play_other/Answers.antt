use Rattle.std.specs.Prelude.{Ok, Option, false, true}
use Rattle.std.proofs.Common.{◌≡◌, length, refl, sym, ◌∙◌, ap, subst}
use Rattle.std.proofs.lemmas.Result.{on_ok_weaker}
use Rattle.alp_base.specs.declared.ids.TransId.{TransId}
use Rattle.alp_lines.specs.declared.line.Line.TheVariants as line
use Rattle.alp_course.specs.Happens.{ticked, forced}
use Rattle.alp_course.specs.Languages.{Just}
use Rattle.alp_course.specs.Plays.{timeouts_at}
use Rattle.alp_cluster.specs.Runs.{is_stop_line}
use Rattle.alp_cluster.specs.Stations.{Did, DidSome}
use Rattle.alp_cluster.proofs.DidLemmas.{all_where}
use Rattle.alp_cluster.proofs.GoneLemmas.{end_map}
use Rattle.alp_cluster.proofs.OtherLemmas.{did_line, some_line, none_at_once, timeout_ours, tick_ours, force_ours, stop_ours, restart_ours, timeout_client, stop_line}
use Rattle.alp_cluster.proofs.parties.Parties.play_other.Goals as goal

pub time_out-requires-clause-on : goal.time_out-requires-clause-on
time_out-requires-clause-on g c = c.requires.step.on

pub time_out-requires-clause-server : goal.time_out-requires-clause-server
time_out-requires-clause-server g c = timeout_ours c.args.self.now.stations c.args.line.now c.in-Timeout.server c.in-Timeout.client c.requires.ours c.in-Timeout.is

pub trans_of-trans-requires : goal.trans_of-trans-requires
trans_of-trans-requires g c = timeout_client c.args.line.now c.in-Timeout.server c.in-Timeout.client c.requires.form c.in-Timeout.is

pub returns-in-Timeout-clause-gone : goal.returns-in-Timeout-clause-gone
returns-in-Timeout-clause-gone g c = all_where g.V.Vault (Unit {0}) _ c.args.self.now.stations c.time_out.new.self c.time_out.result (λ e. tt {0}) c.time_out.ensures.gone

pub returns-in-Timeout-clause-did : goal.returns-in-Timeout-clause-did
returns-in-Timeout-clause-did g c =
    let s = c.args.self.now.stations in
    on_ok_weaker c.time_out.result (λ d. did_line g.V.Vault (length s.all.items) c.args.self.now.clients c.args.line.now (line.Timeout c.in-Timeout.server c.in-Timeout.client) s c.time_out.new.self c.in-Timeout.is (subst (λ (o : Option TransId). Did g.V.Vault (Just (timeouts_at c.in-Timeout.server o)) s c.time_out.new.self) c.trans_of-trans.ensures d)) c.time_out.ensures.did

pub returns-in-Timeout-clause-ended : goal.returns-in-Timeout-clause-ended
returns-in-Timeout-clause-ended g c =
    let s = c.args.self.now.stations in
    end_map c.time_out.result _ _ (λ f d. some_line g.V.Vault (length s.all.items) c.args.self.now.clients c.args.line.now (line.Timeout c.in-Timeout.server c.in-Timeout.client) f s c.time_out.new.self c.in-Timeout.is (subst (λ (o : Option TransId). DidSome g.V.Vault (Just (timeouts_at c.in-Timeout.server o)) f s c.time_out.new.self) c.trans_of-trans.ensures d)) c.time_out.ensures.ended

pub happen-requires-clause-on : goal.happen-requires-clause-on
happen-requires-clause-on g c = c.requires.step.on

pub happen-requires-clause-server : goal.happen-requires-clause-server
happen-requires-clause-server g c = tick_ours c.args.self.now.stations c.args.line.now c.in-Tick.server c.requires.ours c.in-Tick.is

pub happen-requires-clause-event : goal.happen-requires-clause-event
happen-requires-clause-event g c = (ticked, refl)

pub returns-in-Tick-clause-gone : goal.returns-in-Tick-clause-gone
returns-in-Tick-clause-gone g c = all_where g.V.Vault (Unit {0}) _ c.args.self.now.stations c.happen.new.self c.happen.result (λ e. tt {0}) c.happen.ensures.gone

pub returns-in-Tick-clause-did : goal.returns-in-Tick-clause-did
returns-in-Tick-clause-did g c =
    let s = c.args.self.now.stations in
    on_ok_weaker c.happen.result (λ d. did_line g.V.Vault (length s.all.items) c.args.self.now.clients c.args.line.now (line.Tick c.in-Tick.server) s c.happen.new.self c.in-Tick.is (d ticked refl)) c.happen.ensures.did

pub returns-in-Tick-clause-ended : goal.returns-in-Tick-clause-ended
returns-in-Tick-clause-ended g c =
    let s = c.args.self.now.stations in
    end_map c.happen.result _ _ (λ f d. some_line g.V.Vault (length s.all.items) c.args.self.now.clients c.args.line.now (line.Tick c.in-Tick.server) f s c.happen.new.self c.in-Tick.is (d ticked refl)) c.happen.ensures.ended

pub happen-requires-in-Force-clause-on : goal.happen-requires-in-Force-clause-on
happen-requires-in-Force-clause-on g c = c.requires.step.on

pub happen-requires-in-Force-clause-server : goal.happen-requires-in-Force-clause-server
happen-requires-in-Force-clause-server g c = force_ours c.args.self.now.stations c.args.line.now c.in-Force.server c.requires.ours c.in-Force.is

pub happen-requires-in-Force-clause-event : goal.happen-requires-in-Force-clause-event
happen-requires-in-Force-clause-event g c = (forced, refl)

pub returns-in-Force-clause-gone : goal.returns-in-Force-clause-gone
returns-in-Force-clause-gone g c = all_where g.V.Vault (Unit {0}) _ c.args.self.now.stations c.happen-in-Force.new.self c.happen-in-Force.result (λ e. tt {0}) c.happen-in-Force.ensures.gone

pub returns-in-Force-clause-did : goal.returns-in-Force-clause-did
returns-in-Force-clause-did g c =
    let s = c.args.self.now.stations in
    on_ok_weaker c.happen-in-Force.result (λ d. did_line g.V.Vault (length s.all.items) c.args.self.now.clients c.args.line.now (line.Force c.in-Force.server) s c.happen-in-Force.new.self c.in-Force.is (d forced refl)) c.happen-in-Force.ensures.did

pub returns-in-Force-clause-ended : goal.returns-in-Force-clause-ended
returns-in-Force-clause-ended g c =
    let s = c.args.self.now.stations in
    end_map c.happen-in-Force.result _ _ (λ f d. some_line g.V.Vault (length s.all.items) c.args.self.now.clients c.args.line.now (line.Force c.in-Force.server) f s c.happen-in-Force.new.self c.in-Force.is (d forced refl)) c.happen-in-Force.ensures.ended

pub stop-requires-clause-on : goal.stop-requires-clause-on
stop-requires-clause-on g c = c.requires.step.on

pub stop-requires-clause-server : goal.stop-requires-clause-server
stop-requires-clause-server g c = stop_ours c.args.self.now.stations c.args.line.now c.in-Stop.server c.in-Stop.calls c.requires.ours c.in-Stop.is

pub returns-in-Stop-clause-gone : goal.returns-in-Stop-clause-gone
returns-in-Stop-clause-gone g c = all_where g.V.Vault ⊥ _ c.args.self.now.stations c.stop.new.self _ (stop_line c.args.line.now c.in-Stop.server c.in-Stop.calls c.in-Stop.is) c.stop.ensures.gone

pub returns-in-Stop-clause-did : goal.returns-in-Stop-clause-did
returns-in-Stop-clause-did g c =
    let s = c.args.self.now.stations in
    did_line g.V.Vault (length s.all.items) c.args.self.now.clients c.args.line.now (line.Stop c.in-Stop.server c.in-Stop.calls) s c.stop.new.self c.in-Stop.is c.stop.ensures.did

pub restart-requires-clause-on : goal.restart-requires-clause-on
restart-requires-clause-on g c = c.requires.step.on

pub restart-requires-clause-server : goal.restart-requires-clause-server
restart-requires-clause-server g c = restart_ours c.args.self.now.stations c.args.line.now c.in-Restart.server c.in-Restart.pick c.requires.ours c.in-Restart.is

pub returns-in-Restart-clause-gone : goal.returns-in-Restart-clause-gone
returns-in-Restart-clause-gone g c = all_where g.V.Vault (Unit {0}) _ c.args.self.now.stations c.restart.new.self c.restart.result (λ e. tt {0}) c.restart.ensures.gone

pub returns-in-Restart-clause-did : goal.returns-in-Restart-clause-did
returns-in-Restart-clause-did g c =
    let s = c.args.self.now.stations in
    on_ok_weaker c.restart.result (λ d. did_line g.V.Vault (length s.all.items) c.args.self.now.clients c.args.line.now (line.Restart c.in-Restart.server c.in-Restart.pick) s c.restart.new.self c.in-Restart.is d) c.restart.ensures.did

pub returns-in-Restart-clause-ended : goal.returns-in-Restart-clause-ended
returns-in-Restart-clause-ended g c =
    let s = c.args.self.now.stations in
    end_map c.restart.result _ _ (λ f d. some_line g.V.Vault (length s.all.items) c.args.self.now.clients c.args.line.now (line.Restart c.in-Restart.server c.in-Restart.pick) f s c.restart.new.self c.in-Restart.is d) c.restart.ensures.ended

pub settle-requires : goal.settle-requires
settle-requires g c = record { on = c.requires.step.on }

pub returns-in-Settle-clause-gone : goal.returns-in-Settle-clause-gone
returns-in-Settle-clause-gone g c = all_where g.V.Vault (Unit {0}) _ c.args.self.now.stations c.settle.new.self c.settle.result (λ e. tt {0}) c.settle.ensures.gone

pub returns-in-Settle-clause-did : goal.returns-in-Settle-clause-did
returns-in-Settle-clause-did g c =
    let s = c.args.self.now.stations in
    on_ok_weaker c.settle.result (λ d. did_line g.V.Vault (length s.all.items) c.args.self.now.clients c.args.line.now line.Settle s c.settle.new.self c.in-Settle.is d) c.settle.ensures.did

pub returns-in-Settle-clause-ended : goal.returns-in-Settle-clause-ended
returns-in-Settle-clause-ended g c =
    let s = c.args.self.now.stations in
    end_map c.settle.result _ _ (λ f d. some_line g.V.Vault (length s.all.items) c.args.self.now.clients c.args.line.now line.Settle f s c.settle.new.self c.in-Settle.is d) c.settle.ensures.ended

pub play_message-requires-clause-other : goal.play_message-requires-clause-other
play_message-requires-clause-other g c =
    none_at_once c.args.line.now c.in_default.not-Timeout c.in_default.not-Tick c.in_default.not-Force c.in_default.not-Stop c.in_default.not-Restart c.in_default.not-Settle

pub returns-in_default-clause-gone : goal.returns-in_default-clause-gone
returns-in_default-clause-gone g c = all_where g.V.Vault (Unit {0}) _ c.args.self.now.stations c.play_message.new.self.stations c.play_message.result (λ e. tt {0}) c.play_message.ensures.gone
