use Rattle.std.specs.Prelude.{slice_set}
use Rattle.std.proofs.Common.{ap, sym, ◌∙◌}
use Rattle.std.proofs.lemmas.List.Edits.{map_over_more}
use Rattle.alp_worker.specs.Lives.{staged_one, stage_after}
use Rattle.alp_worker.proofs.live_list.LiveList.go_on.Goals as goal

pub loop-live-preserved : goal.loop-live-preserved
loop-live-preserved c =
    ap (slice_set c.loop-live.live-items c.loop-live.live-index) (c.gone_on.ensures ∙ ap (staged_one c.args.join.now (stage_after c.args.step)) (sym c.live-item.is))
    ∙ map_over_more (staged_one c.args.join.now (stage_after c.args.step)) c.deref_mut-live-items.result.now c.loop-live.live-items c.loop-live.live-index c.live-item.result c.loop-live-test.true c.loop-live.invariant c.live-item.is
