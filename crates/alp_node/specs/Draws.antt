-- A transaction that begins, and a join that is drawn.
use Rattle.std.specs.Prelude.{◌≡◌, ℕ, ◌+◌, List, [], ◌∷◌, ◌++◌, false, None, Some}
use Rattle.alp_base.specs.declared.ids.TransId.{TransId}
use Rattle.alp_files.specs.Act.{no_opens}
use Rattle.alp_files.specs.Needs.{no_intents}
use Rattle.alp_trans.specs.Counting.{no_counts}
use Rattle.alp_trans.specs.Parts.{own_of}
use Rattle.alp_trans.specs.declared.part.Part.{Part}
use Rattle.alp_journal.specs.Deeds.{Begins}
use Rattle.alp_coord.specs.Coordinators.{IsOf, IsAlong, Comes, Keeps, server_of, epoch_of, count_of, next_id}
use Rattle.alp_files.specs.declared.call.Call.TheVariants as call
use Rattle.alp_worker.specs.Joins.{with_drawn}
use Rattle.alp_node.specs.Dead.{without_client}
use Rattle.alp_node.specs.Releases.{with_trans}
use Rattle.alp_node.specs.Waits.{without_dead}
use Rattle.alp_node.specs.declared.server_state.ServerState.{ServerState}
use Rattle.alp_node.specs.declared.sessions.Turn.{Turn}
use Rattle.alp_node.specs.declared.waits.WaitingCall.{WaitingCall}

-- it has the next id, and is live with a part that did nothing, for its client
pub record HasDrawn {V : Type 0} (turn : Turn) (t : TransId) (old new : ServerState V) : Type 0 where
  pub part : Part
  pub own : own_of part ≡ no_opens
  pub intents : part.intents ≡ no_intents
  pub counts : part.counts ≡ no_counts
  pub id : t ≡ next_id old.coordinator
  pub kept : new ≡ record (with_trans old t (record { client = turn.client; who = Some turn.who; part = part; locks = 0; join = None })) { coordinator = new.coordinator }
  pub one : IsOf (server_of old.coordinator) (epoch_of old.coordinator) (count_of old.coordinator + 1) new.coordinator
  pub begun : (who : List ℕ) (seen : ℕ) → Comes (Begins t turn.client who seen) old.coordinator new.coordinator

-- it was taken back, and all is as before
pub record IsBackAgain {V : Type 0} (old new : ServerState V) : Type 0 where
  pub kept : new ≡ record old { coordinator = new.coordinator }
  pub along : IsAlong old.coordinator new.coordinator
  pub same : Keeps old.coordinator new.coordinator

-- ---- a join that is drawn

-- the call that waits to be let in
abbrev pub join_call : Turn → TransId → WaitingCall
join_call turn t = record { client = turn.client; number = turn.number; trans = t; call = call.Join t; counts = None; is_granted = false }

-- the client's dead parts go with their calls, and the join asks to be let in
abbrev pub with_joining : {V : Type 0} → ServerState V → Turn → TransId → ServerState V
with_joining k turn t = record k {
  joins = with_drawn k.joins t turn.client turn.who;
  waits = without_dead turn.client k.dead k.waits ++ join_call turn t ∷ [];
  dead = without_client turn.client k.dead;
}
