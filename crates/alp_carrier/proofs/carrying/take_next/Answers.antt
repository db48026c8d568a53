use Rattle.std.proofs.Common.{rules, refl, ◌≡◌, ◌≢◌, ◌≤◌}
use Rattle.std.specs.Prelude.{length}
use Rattle.alp_monitor.specs.History.{entries_in}
use Rattle.alp_monitor.specs.Passes.{front, first_base}
use Rattle.alp_carrier.specs.Sights.{IsShown}
use Rattle.alp_carrier.specs.Takes.{sent_before}
use Rattle.alp_carrier.proofs.WayLemmas.{goes_nowhere, goes_past, goes_by_roll}
use Rattle.alp_carrier.proofs.carrying.take_next.Goals as goal

pub returns-in_default : goal.returns-in_default
returns-in_default g c =
    goes_nowhere g.S.Story.base g.S.Station.sight c.args.route.now c.args.way c.look_at-pass.result.pass c.requires.ready c.look_at-pass.ensures.later c.look_at-pass.ensures.turns
    (let all : length (sent_before g.S.Story.base g.S.Station.sight c.args.route.now.from.now c.look_at-pass.result.pass) ≤ c.args.way.next = search rules in all)

pub returns-then-envelope-route : goal.returns-then-envelope-route
returns-then-envelope-route g c =
    goes_past g.S.Story.base g.S.Station.sight c.args.route.now c.args.way c.look_at-pass.result.pass c.in-Some.envelope c.requires.ready c.look_at-pass.ensures.later c.look_at-pass.ensures.turns
    (let other : c.in-Some.envelope.to ≢ c.args.route.now.pair.to = search rules in other)
    (let shown : IsShown g.S.Station.sight (first_base g.S.Story.base c.args.route.now.from.now) (entries_in (front c.look_at-pass.result.pass)) c.args.way.next c.in-Some.envelope = search rules in shown)

pub returns : goal.returns
returns g c =
    goes_by_roll g.S.Story.base g.S.Station.sight c.args.route.now c.args.way _ c.bring_next.result c.look_at-pass.result.pass c.in-Some.envelope c.look_at-pass.result.seen c.requires.ready c.look_at-pass.ensures.later c.look_at-pass.ensures.turns refl
    (let same : c.in-Some.envelope.to ≡ c.args.route.now.pair.to = search rules in same) c.look_at-pass.ensures.seen
    (let shown : IsShown g.S.Station.sight (first_base g.S.Story.base c.args.route.now.from.now) (entries_in (front c.look_at-pass.result.pass)) c.args.way.next c.in-Some.envelope = search rules in shown) c.bring_next.ensures
