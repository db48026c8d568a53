use Rattle.std.proofs.Common.{◌≡◌, ◌≤◌, take}
use Rattle.alp_locks.specs.Tables.{holding}
use Rattle.alp_node.specs.Shapes.{fresh_on}
use Rattle.alp_node.proofs.server_state.ServerState.fresh.Given as goal

abbrev pub invariant-loop-i : goal.invariant-loop-i
invariant-loop-i g l = record {
  count : l.count ≡ fresh_on (holding l.self.locks.held l.trans) (take l.i l.needs);
  few : l.count ≤ l.i;
}
