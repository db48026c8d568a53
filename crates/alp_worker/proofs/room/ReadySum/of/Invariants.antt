use Rattle.std.proofs.Common.{◌≡◌, ◌+◌, ◌*◌, ◌^◌, ◌≤◌, drop}
use Rattle.std.specs.Prelude.{max}
use Rattle.alp_worker.specs.Rooms.{sum_of}
use Rattle.alp_worker.proofs.room.ReadySum.of.Given as goal

abbrev pub invariant-loop-part : goal.invariant-loop-part
invariant-loop-part l =
    (l.weights + (sum_of (drop l.part-index l.parts)).weights ≡ (sum_of l.parts).weights)
    × (max l.greatest (sum_of (drop l.part-index l.parts)).greatest ≡ (sum_of l.parts).greatest) × (l.weights ≤ l.part-index * 2 ^ 34) × (l.greatest ≤ 2 ^ 35)
