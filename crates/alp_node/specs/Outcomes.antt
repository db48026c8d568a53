-- When a transaction was decided, by what is told of it.
use Rattle.std.specs.Prelude.{Option, None, Some, if◌then◌else◌}
use Rattle.alp_base.specs.declared.ids.Stamp.{Stamp}
use Rattle.alp_base.specs.declared.ids.TransId.{TransId}
use Rattle.alp_files.specs.declared.reply.Ended.{Ended}
use Rattle.alp_files.specs.declared.reply.Ended.TheVariants as ending
use Rattle.alp_coord.specs.Coordinators.{epoch_of, ending_at, fate_in, is_known}
use Rattle.alp_node.specs.declared.server_state.ServerState.{ServerState}

abbrev pub stamp_in : Ended → Option Stamp
stamp_in (ending.Committed stamp) = Some stamp
stamp_in e = None

abbrev pub stamp_if : Option Ended → Option Stamp
stamp_if None = None
stamp_if (Some e) = stamp_in e

-- where it was begun in this epoch
abbrev pub stamp_of : {V : Type 0} → ServerState V → TransId → Option Stamp
stamp_of k t = stamp_if (if is_known k.coordinator t then Some (ending_at (epoch_of k.coordinator) t (fate_in k.coordinator t)) else None)
