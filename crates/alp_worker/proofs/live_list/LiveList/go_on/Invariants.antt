use Rattle.std.proofs.Common.{◌≡◌, ◌++◌, take, drop}
use Rattle.std.specs.Prelude.{map as list_map}
use Rattle.alp_worker.specs.Lives.{staged_one, stage_after}
use Rattle.alp_worker.proofs.live_list.LiveList.go_on.Given as goal

abbrev pub invariant-loop-live : goal.invariant-loop-live
invariant-loop-live l = l.live-items ≡ list_map (staged_one l.join (stage_after l.step)) (take l.live-index l.initial.live-items) ++ drop l.live-index l.initial.live-items
