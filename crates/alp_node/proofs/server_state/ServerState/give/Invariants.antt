use Rattle.std.specs.FinMap as map
use Rattle.std.proofs.Common.{◌≡◌, ◌+◌, ◌≤◌, ◌++◌, length, vec_capacity}
use Rattle.std.specs.Prelude.{Some}
use Rattle.alp_base.specs.declared.ids.TransId.{TransId}
use Rattle.alp_calls.specs.Parts.{IsPart}
use Rattle.alp_node.specs.Releases.{woken_taken, grant_acts}
use Rattle.alp_node.specs.declared.lives.Live.{Live}
use Rattle.alp_node.proofs.server_state.ServerState.give.Given as goal

abbrev pub decreases-loop-woken : goal.decreases-loop-woken
decreases-loop-woken g l = length l.self.locks.woken

abbrev pub invariant-loop-woken : goal.invariant-loop-woken
invariant-loop-woken g l = record {
  after : woken_taken l.self ≡ woken_taken l.initial.self;
  acts : l.acts.items ++ grant_acts l.self.locks.woken ≡ l.initial.acts.items ++ grant_acts l.initial.self.locks.woken;
  capacity : vec_capacity l.acts ≡ vec_capacity l.initial.acts;
  room : length l.acts.items + length l.self.locks.woken ≤ vec_capacity l.acts;
  most : map.len l.self.lives ≤ 64;
  parts : (t : TransId) (x : Live) → map.get l.self.lives t ≡ Some x → IsPart x.part;
}
