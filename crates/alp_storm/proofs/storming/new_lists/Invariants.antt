use Rattle.std.proofs.Common.{◌≡◌, ◌≤◌}
use Rattle.std.specs.Vec.{vec_len, vec_capacity}
use Rattle.alp_storm.specs.Storms.{AreRooms}
use Rattle.alp_storm.proofs.storming.new_lists.Given as goal

abbrev pub invariant-loop : goal.invariant-loop
invariant-loop g l = AreRooms l.lists.items l.room × (vec_len l.lists ≡ l.counter) × (l.count ≤ vec_capacity l.lists)
