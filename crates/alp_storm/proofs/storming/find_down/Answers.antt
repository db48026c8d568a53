use Rattle.std.specs.Prelude.{true, false, Option, Some, None, drop}
use Rattle.std.proofs.Common.{rules, ◌≡◌, ◌<◌, ◌≤◌, length, sym, ap, ◌∙◌, subst, List}
use Rattle.alp_storm.specs.Storms.{IsDownFault}
use Rattle.alp_storm.specs.declared.fault.StormFault.TheVariants as fault
use Rattle.alp_storm.proofs.JobLemmas.{down_here, up_here, drop_end}
use Rattle.alp_storm.proofs.storming.find_down.Goals as goal

pub returns-then-is_down : goal.returns-then-is_down
returns-then-is_down g c =
    let low : c.loop-state.state-index < length c.args.states.now = search rules in
    c.loop-state.invariant _ (down_here g.S.Story.base g.S.Story.entries g.S.Host.log g.S.Station.sight c.args.states.now c.loop-state.state-index c.state-item.result low (sym c.state-item.is) _ (sym c.is_down.ensures ∙ c.if-is_down.true) (ap (λ n. Some (fault.DiskFault n)) c.server.ensures))

pub loop-state-preserved : goal.loop-state-preserved
loop-state-preserved g c = λ f h.
    let low : c.loop-state.state-index < length c.args.states.now = search rules in
    c.loop-state.invariant f (up_here g.S.Story.base g.S.Story.entries g.S.Host.log g.S.Station.sight c.args.states.now c.loop-state.state-index c.state-item.result low (sym c.state-item.is) f (sym c.is_down.ensures ∙ c.if-is_down.false) h)

pub returns : goal.returns
returns g c =
    let low : length c.args.states.now ≤ c.loop-state.state-index = search rules in
    c.loop-state.invariant None (subst (λ (l : List g.row.S.Denot). IsDownFault g.S.Story.base g.S.Story.entries g.S.Host.log g.S.Station.sight l None) (sym (drop_end c.args.states.now c.loop-state.state-index low)) tt)
