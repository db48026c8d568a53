use Rattle.std.proofs.Common.{rules, ◌≡◌, ◌<◌, ◌+◌, length, ap, ◌∙◌, sym, subst, refl, set, arith, Some, List}
use Rattle.std.specs.Prelude.{slice_get}
use Rattle.std.specs.List.{insert, remove}
use Rattle.alp_monitor.specs.Passes.{IsHeld}
use Rattle.alp_monitor.specs.declared.monitor.Monitor.{Monitor}
use Rattle.alp_monitor.specs.declared.monitor.Pass.{Pass}
use Rattle.alp_storm.specs.Rings.{IsTurned}
use Rattle.alp_storm.specs.Turns.{Took}
use Rattle.alp_storm.proofs.Lists.{get_of_or}
use Rattle.alp_storm.proofs.Sets.{put_back}
use Rattle.alp_storm.proofs.RingLemmas.{held_as}
use Rattle.alp_storm.proofs.WorkLemmas.{ring_took}
use Rattle.alp_storm.proofs.ring.turn_at.Goals.{After-index-monitors-at}
use Rattle.alp_storm.proofs.ring.turn_at.Goals as goal

at_monitor : (g : _) (c : goal.After-index-monitors-at g) → slice_get c.args.monitors.now c.args.at ≡ Some c.index-monitors-at.result
at_monitor g c = get_of_or c.args.monitors.now c.args.at c.index-monitors-at.result c.requires.at c.index-monitors-at.is

at_pass : (g : _) (c : goal.After-index-monitors-at g) → slice_get c.args.ring.now.items c.args.at ≡ Some c.remove-pass.result
at_pass g c = (let l = c.requires.ring.1.long in let m = c.requires.at in get_of_or c.args.ring.now.items c.args.at c.remove-pass.result (omega (arith, l, m)) c.remove-pass.ensures.value)

pub take_turn-pass-requires-clause-held : goal.take_turn-pass-requires-clause-held
take_turn-pass-requires-clause-held g c =
    let (k, ring) = c.requires.ring in
    held_as g.S.Story.base c.index-monitors-at.result k c.remove-pass.result (ring.held c.args.at c.index-monitors-at.result c.remove-pass.result (at_monitor g c) (at_pass g c))

pub returns-clause-took : goal.returns-clause-took
returns-clause-took g c =
    let at = (goal.at.returns-clause-took g c).After-index-monitors-at in
    let l = c.requires.ring.1.long in
    let m = c.requires.at in
    record {
      monitor = c.index-monitors-at.result;
      old = c.remove-pass.result;
      new = c.take_turn-pass.result.0;
      monitor_is = at_monitor g at;
      old_is = at_pass g at;
      now_is = c.put.ensures.items ∙ (ap (λ x. insert x c.args.at c.take_turn-pass.result.0) c.remove-pass.ensures.items ∙ put_back c.args.ring.now.items c.args.at c.take_turn-pass.result.0 (omega (arith, l, m)));
      went = c.take_turn-pass.ensures;
    }

pub returns-clause-ring : goal.returns-clause-ring
returns-clause-ring g c k ring =
    let at = (goal.at.returns-clause-ring g c).After-index-monitors-at in
    let l = c.requires.ring.1.long in
    let m = c.requires.at in
    ring_took g.S.Story.base g.S.Host.log c.args.monitors.now c.args.at c.args.event c.args.ring.now.items c.put.new.list.items k c.take_turn-pass.result.1 (record {
      monitor = c.index-monitors-at.result;
      old = c.remove-pass.result;
      new = c.take_turn-pass.result.0;
      monitor_is = at_monitor g at;
      old_is = at_pass g at;
      now_is = c.put.ensures.items ∙ (ap (λ x. insert x c.args.at c.take_turn-pass.result.0) c.remove-pass.ensures.items ∙ put_back c.args.ring.now.items c.args.at c.take_turn-pass.result.0 (omega (arith, l, m)));
      went = c.take_turn-pass.ensures;
    }) ring
