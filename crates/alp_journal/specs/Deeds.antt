-- What comes about at a server, as the parts of its state see it. Each entry of a journal is a list of these.
use Rattle.std.specs.Prelude.{ℕ, List, Option}
use Rattle.alp_base.specs.declared.ids.JoinNo.{JoinNo}
use Rattle.alp_base.specs.declared.ids.TransId.{TransId}
use Rattle.alp_base.specs.declared.ids.Stamp.{Stamp}
use Rattle.alp_files.specs.declared.call.Call.{Call}
use Rattle.alp_files.specs.declared.refusal.Cause.{Cause}
use Rattle.alp_files.specs.History.{PerformedCall}

pub data Deed : Type 0 where
  -- a transaction begins here for a client, as this principal, who has seen this time
  Begins : TransId → (client : ℕ) → (who : List ℕ) → (seen : ℕ) → Deed
  -- a part of another server's transaction is made, is let in, ends before it voted, and ends by its coordinator's word
  Joins : JoinNo → TransId → (client : ℕ) → (who : List ℕ) → Deed
  Enters : JoinNo → TransId → (client : ℕ) → (who : List ℕ) → Deed
  Quits : JoinNo → TransId → (client : ℕ) → Option Cause → Deed
  Aborts : JoinNo → TransId → (client : ℕ) → Cause → Deed
  -- the locks of the call are granted; a call is performed; the locks of a part that ended are let go
  Grants : TransId → Call → Deed
  Performs : TransId → PerformedCall → Deed
  Releases : TransId → Deed
  -- a part votes for the commit with this time, and is applied
  Readies : JoinNo → TransId → (ts : ℕ) → Deed
  Applies : JoinNo → Stamp → Deed
  -- a transaction of this server: a part joins it, its client finishes it, a vote for it arrives, it is decided or ends
  -- in abort, a part has applied it, and it is forgotten
  Registers : TransId → JoinNo → Deed
  Finishes : TransId → Deed
  Hears : TransId → JoinNo → (ts : ℕ) → Deed
  Decides : Stamp → List JoinNo → Deed
  Ends : TransId → (client : ℕ) → Cause → Deed
  Acknowledges : TransId → JoinNo → Deed
  Forgets : TransId → Deed
  -- the server starts again, in this epoch and at this clock
  Restarts : (epoch clock : ℕ) → Deed
