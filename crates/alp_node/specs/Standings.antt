-- What a client has here of a transaction, and how a call of its part is refused at once.
use Rattle.std.specs.Prelude.{◌==◌, ℕ, Bool, true, false, if◌then◌else◌, Option, None, Some}
use Rattle.alp_base.specs.declared.ids.TransId.{TransId}
use Rattle.alp_files.specs.declared.refusal.Cause.{Cause}
use Rattle.alp_files.specs.declared.refusal.Refusal.{Refusal}
use Rattle.alp_files.specs.declared.refusal.Refusal.TheVariants as refusal
use Rattle.alp_journal.specs.Coordinator.{Fate, Running, Finishing}
use Rattle.alp_coord.specs.Coordinators.{fate_in}
use Rattle.alp_worker.specs.declared.live.LiveJoin.{LiveJoin}
use Rattle.alp_worker.specs.declared.live.Stage.{Stage}
use Rattle.alp_worker.specs.declared.live.Stage.TheVariants as stage
use Rattle.alp_worker.specs.Lives.{part_of}
use Rattle.alp_node.specs.Dead.{cause_in}
use Rattle.alp_node.specs.declared.served.Standing.{Standing}
use Rattle.alp_node.specs.declared.served.Standing.TheVariants as standing
use Rattle.alp_node.specs.declared.server_state.ServerState.{ServerState}

-- where it has no live part, by why that ended
abbrev pub ended_standing : Option Cause → Standing
ended_standing None = standing.Unknown
ended_standing (Some c) = standing.Ended c

-- of a transaction that began here, which is its client's alone
abbrev pub own_standing : ℕ → Option Cause → Fate → Standing
own_standing client dead (Running c js) = if c == client then standing.Work else standing.Unknown
own_standing client dead (Finishing c js vs) = if c == client then standing.Finishing else standing.Unknown
own_standing client dead f = ended_standing dead

abbrev pub stage_standing : Stage → Standing
stage_standing (stage.Joining who) = standing.Joining
stage_standing (stage.Active who) = standing.Work
stage_standing (stage.Ready ts) = standing.Finishing

-- of another server's, by the client's live join
abbrev pub joined_standing : Option Cause → Option LiveJoin → Standing
joined_standing dead None = ended_standing dead
joined_standing dead (Some j) = stage_standing j.stage

abbrev pub standing_of : {V : Type 0} → ServerState V → ℕ → TransId → Standing
standing_of k client t =
    if t.server == k.server then own_standing client (cause_in k.dead client t) (fate_in k.coordinator t) else joined_standing (cause_in k.dead client t) (part_of client t k.joins.lives)

-- a call of the part is refused so, where another one of it is busy or none is
abbrev pub refusal_at : Bool → Standing → Option Refusal
refusal_at busy standing.Unknown = Some refusal.UnknownTrans
refusal_at busy (standing.Ended c) = Some (refusal.Aborted c)
refusal_at busy standing.Joining = Some refusal.NotYet
refusal_at busy standing.Finishing = Some refusal.Finishing
refusal_at busy standing.Work = if busy then Some refusal.NotYet else None

-- the client has no live part
abbrev pub is_no_standing : Standing → Bool
is_no_standing standing.Unknown = true
is_no_standing (standing.Ended c) = true
is_no_standing s = false
