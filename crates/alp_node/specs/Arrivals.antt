-- What a server finds of a join that a message names.
use Rattle.std.specs.Prelude.{List, [], Option, None, Some, if◌then◌else◌}
use Rattle.alp_base.specs.declared.ids.JoinNo.{JoinNo}
use Rattle.alp_base.specs.declared.ids.TransId.{TransId}
use Rattle.alp_journal.specs.Ids.{same_trans}
use Rattle.alp_worker.specs.declared.live.LiveJoin.{LiveJoin}
use Rattle.alp_files.specs.declared.refusal.Why.TheVariants as why
use Rattle.alp_journal.specs.declared.act.Act.{Act}
use Rattle.alp_journal.specs.declared.message.Message.TheVariants as msg
use Rattle.alp_worker.specs.Joins.{is_drawn_in}
use Rattle.alp_node.specs.Says.{said_to}
use Rattle.alp_node.specs.declared.server_state.ServerState.{ServerState}

-- a join that is not here votes against the commit, where it was drawn here
abbrev pub unknown_acts : {V : Type 0} → ServerState V → TransId → JoinNo → List Act
unknown_acts k t j = if is_drawn_in k.joins j then said_to k t.server (msg.No t j why.UnknownJoin) else []

-- the live join, if it is the transaction's
abbrev pub join_of : TransId → Option LiveJoin → Option LiveJoin
join_of t None = None
join_of t (Some x) = if same_trans x.trans t then Some x else None
