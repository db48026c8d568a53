use Rattle.std.specs.Prelude.{sum_by}
use Rattle.std.proofs.Common.{◌≡◌, ◌+◌, ◌*◌, ◌^◌, ◌≤◌, drop}
use Rattle.alp_regain.specs.Rooms.{owners_in}
use Rattle.alp_regain.proofs.rooms.owners_of.Given as goal

abbrev pub invariant-loop-part : goal.invariant-loop-part
invariant-loop-part l = record {
  all : l.owners + sum_by owners_in (drop l.part-index l.parts) ≡ sum_by owners_in l.parts;
  few : l.owners ≤ 2 ^ 32 * l.part-index;
}
