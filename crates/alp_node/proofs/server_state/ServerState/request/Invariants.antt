use Rattle.std.proofs.Common.{◌≡◌, ◌++◌, drop}
use Rattle.alp_files.specs.Locks.{asked_each, joined, wholes_of, request_of}
use Rattle.alp_locks.specs.Tables.{holding}
use Rattle.alp_node.proofs.server_state.ServerState.request.Given as goal

abbrev pub invariant-loop-resource : goal.invariant-loop-resource
invariant-loop-resource g l = l.asked.items ++ asked_each (joined (holding l.self.locks.held l.trans) (wholes_of l.needs)) (drop l.resource-index l.needs) ≡ request_of (holding l.self.locks.held l.trans) l.needs
