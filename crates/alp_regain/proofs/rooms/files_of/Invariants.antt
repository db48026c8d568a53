use Rattle.std.specs.Prelude.{sum_by}
use Rattle.std.proofs.Common.{◌≡◌, ◌+◌, ◌*◌, ◌^◌, ◌≤◌, drop}
use Rattle.alp_regain.specs.Rooms.{files_in}
use Rattle.alp_regain.proofs.rooms.files_of.Given as goal

abbrev pub invariant-loop-part : goal.invariant-loop-part
invariant-loop-part l = record {
  all : l.files + sum_by files_in (drop l.part-index l.parts) ≡ sum_by files_in l.parts;
  few : l.files ≤ 2 ^ 32 * l.part-index;
}
