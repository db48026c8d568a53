use Rattle.std.specs.Prelude.{sum_by}
use Rattle.std.proofs.Common.{◌≡◌, ◌+◌, ◌*◌, ◌^◌, ◌≤◌, drop}
use Rattle.alp_regain.specs.Rooms.{places_in}
use Rattle.alp_regain.proofs.rooms.places_of.Given as goal

abbrev pub invariant-loop-part : goal.invariant-loop-part
invariant-loop-part l = record {
  all : l.places + sum_by places_in (drop l.part-index l.parts) ≡ sum_by places_in l.parts;
  few : l.places ≤ 2 ^ 32 * l.part-index;
}
