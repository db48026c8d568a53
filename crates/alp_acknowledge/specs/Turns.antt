-- A client and its server in step, and what the server told the client of a commit.
use Rattle.std.specs.Prelude.{◌≡◌, ℕ, ◌+◌, ◌≤◌, false, true, List, [], ◌∷◌, ◌++◌, Option, None, Some}
use Rattle.alp_base.specs.declared.ids.Stamp.{Stamp}
use Rattle.alp_base.specs.declared.ids.TransId.{TransId}
use Rattle.alp_files.specs.declared.call.Call.{Call}
use Rattle.alp_files.specs.declared.call.Call.TheVariants as call
use Rattle.alp_files.specs.declared.reply.Reply.{Reply}
use Rattle.alp_files.specs.declared.reply.Reply.TheVariants as reply
use Rattle.alp_journal.specs.declared.act.Act.{Act}
use Rattle.alp_journal.specs.declared.entry.Entry.{Entry}
use Rattle.alp_journal.specs.declared.event.Event.TheVariants as event
use Rattle.alp_node.specs.NodeStates.{NodeState}
use Rattle.alp_node.specs.Sessions.{no_sessions, session_at}
use Rattle.alp_journal.specs.Desk.{Session}
use Rattle.alp_acknowledge.specs.declared.caller.Caller.{Caller}

-- a server that did nothing yet: it has no entry and no session, and it is up
pub record IsFresh {V : Type 0} (n : NodeState V) : Type 0 where
  pub journal : n.journal ≡ []
  pub sessions : n.kept.sessions ≡ no_sessions
  pub up : n.kept.is_down ≡ false

-- the session has come to this call
abbrev pub HasComeTo : ℕ → Option Session → Type 0
HasComeTo last None = ⊥
HasComeTo last (Some w) = w.last ≡ last

-- The server is up, and the client's session there has the epoch and the last number that the client knows. No time that the
-- client was told is later than the server's clock.
pub record KnowsSession {V : Type 0} (here last seen : ℕ) (n : NodeState V) : Type 0 where
  pub up : n.kept.is_down ≡ false
  pub epoch : here ≡ n.kept.epoch
  pub session : HasComeTo last (session_at n.kept.sessions 1)
  pub told : seen ≤ n.kept.clock

abbrev pub InStep : {V : Type 0} → Caller V → Type 0
InStep c = KnowsSession c.epoch c.last c.told.ts c.node

-- The server made one more entry: of the client's next call, this one, with this reply.
pub record HasAsked {V : Type 0} (old new : Caller V) (c : Call) (r : Reply) : Type 0 where
  pub acts : List Act
  pub journal : new.node.journal ≡ old.node.journal ++ (record { event = event.Call 1 old.epoch (old.last + 1) c; reply = Some r; acts = acts }) ∷ []
  pub told : new.told ≡ old.told

-- The server made one more entry: of the client's next call, which commits this transaction, with this stamp. The client was
-- told it last.
pub record HasCommitted {V : Type 0} (old new : Caller V) (t : TransId) (stamp : Stamp) : Type 0 where
  pub acts : List Act
  pub journal : new.node.journal ≡ old.node.journal ++ (record { event = event.Call 1 old.epoch (old.last + 1) (call.Finish t true); reply = Some (reply.Committed stamp); acts = acts }) ∷ []
  pub told : new.told ≡ stamp

-- the last entry of the server answered a commit with this stamp, and the client was told it last
pub record IsLastTold {V : Type 0} (c : Caller V) (stamp : Stamp) : Type 0 where
  pub before : List Entry
  pub entry : Entry
  pub journal : c.node.journal ≡ before ++ entry ∷ []
  pub replied : entry.reply ≡ Some (reply.Committed stamp)
  pub told : c.told ≡ stamp
