use Rattle.alp_files.specs.declared.call.Call.{Call}
use Rattle.alp_files.specs.declared.call.Call.TheVariants as call
use Rattle.alp_node.specs.Served.{IsTurnCall}
use Rattle.alp_node.specs.Shapes.{ReadsSome}
use Rattle.alp_node.proofs.server_state.ServerState.call_in_turn.Goals as goal

-- a call of a session reads something, and locks pages in modes of leaves
turn_some : (c : Call) → IsTurnCall c → ReadsSome c
turn_some (call.ReadPages t n r mode choice) h = h.2
turn_some (call.LockPages t n r mode choice) h = h.2
turn_some c h = tt

pub file_call-requires-clause-some : goal.file_call-requires-clause-some
file_call-requires-clause-some g c = turn_some c.args.call.now c.requires.asked
