-- What a server knows of its clients: their sessions, the calls that wait, and the parts that ended while their clients
-- have not been told.
use Rattle.std.specs.Prelude.{ℕ, Bool, true, false, not, ◌==◌, ◌&&◌, List, [], ◌∷◌, ◌++◌, filter, find, Option, None, Some, is_some, if◌then◌else◌, map as list_map}
use Rattle.std.specs.List.{list_any}
use Rattle.alp_base.specs.declared.ids.TransId.{TransId}
use Rattle.alp_files.specs.declared.call.Call.{Call}
use Rattle.alp_files.specs.declared.call.Call.TheVariants as call
use Rattle.alp_files.specs.declared.reply.Reply.{Reply}
use Rattle.alp_files.specs.declared.reply.Reply.TheVariants as reply
use Rattle.alp_files.specs.declared.refusal.Refusal.TheVariants as refusal
use Rattle.alp_files.specs.declared.refusal.Cause.{Cause}
use Rattle.alp_journal.specs.Ids.{same_trans}
use Rattle.alp_journal.specs.Deeds.{Deed, Quits, Aborts, Grants, Ends, Restarts}

-- a client's session: its principal, the number of its last call, and the reply that was given to it
pub record Session : Type 0 where
  pub who : List ℕ
  pub last : ℕ
  pub reply : Reply

-- a call that waits, or whose locks were granted and that is not collected
pub record Waiting : Type 0 where
  pub client : ℕ
  pub number : ℕ
  pub call : Call
  pub is_granted : Bool

-- `waits` is in the order of arrival
pub record Desk : Type 0 where
  pub sessions : ℕ → Option Session
  pub waits : List Waiting
  pub dead : ℕ → TransId → Option Cause

-- ---- calls

-- the transaction of a file call
abbrev pub file_trans : Call → Option TransId
file_trans (call.CreateFile t start choice) = Some t
file_trans (call.OpenFile t file access mode choice) = Some t
file_trans (call.CloseFile t n) = Some t
file_trans (call.DeleteFile t n choice) = Some t
file_trans (call.ReadPages t n r mode choice) = Some t
file_trans (call.WritePages t n r pages choice) = Some t
file_trans (call.LockPages t n r mode choice) = Some t
file_trans (call.SetSize t n size choice) = Some t
file_trans (call.ReadProps t n) = Some t
file_trans (call.WriteProps t n change choice) = Some t
file_trans (call.ReadOwner t name choice) = Some t
file_trans (call.MakeOwner t name quota create choice) = Some t
file_trans (call.SetQuota t name quota choice) = Some t
file_trans _ = None

-- the transaction whose part a call is of
abbrev pub part_trans : Call → Option TransId
part_trans (call.Join t) = Some t
part_trans (call.Finish t commit) = Some t
part_trans c = file_trans c

abbrev pub is_of : TransId → Option TransId → Bool
is_of t None = false
is_of t (Some u) = same_trans u t

-- the client's calls that wait are of this part
abbrev pub is_of_part : ℕ → TransId → Waiting → Bool
is_of_part client t w = w.client == client && is_of t (part_trans w.call)

-- a call on files of this transaction waits, whoever's it is
abbrev pub is_called : TransId → List Waiting → Bool
is_called t ws = list_any (λ (w : Waiting). is_of t (file_trans w.call)) ws

abbrev pub waiting_of : Desk → ℕ → TransId → Option Waiting
waiting_of s client t = find (is_of_part client t) s.waits

abbrev pub waiting_at : Desk → ℕ → ℕ → Option Waiting
waiting_at s client number = find (λ (w : Waiting). w.client == client && w.number == number) s.waits

abbrev pub without : (Waiting → Bool) → List Waiting → List Waiting
without p ws = filter (λ w. not (p w)) ws

-- ---- what comes about

abbrev pub with_dead : Desk → ℕ → TransId → Option Cause → Desk
with_dead s client t c = record s { dead = λ d u. if d == client && same_trans u t then c else s.dead d u }

abbrev pub without_waits : Desk → (Waiting → Bool) → Desk
without_waits s p = record s { waits = without p s.waits }

-- the locks of the part's file call were granted
abbrev pub grant_in : TransId → Waiting → Waiting
grant_in t w = if is_of t (file_trans w.call) then record w { is_granted = true } else w

-- a join that is refused leaves nothing behind; what ends for another cause is known until the client is told
abbrev pub quits : Desk → ℕ → TransId → Option Cause → Desk
quits s client t None = without_waits s (is_of_part client t)
quits s client t (Some c) = with_dead s client t (Some c)

abbrev pub desk_after : Desk → Deed → Desk
desk_after s (Grants t c) = record s { waits = list_map (grant_in t) s.waits }
desk_after s (Quits j t client c) = quits s client t c
desk_after s (Aborts j t client c) = quits s client t (Some c)
desk_after s (Ends t client c) = with_dead s client t (Some c)
desk_after s (Restarts epoch clock) = record { sessions = λ c. None; waits = []; dead = λ c t. None }
desk_after s _ = s

-- ---- what an answer leaves

abbrev pub is_not_yet : Reply → Bool
is_not_yet (reply.Refused refusal.NotYet) = true
is_not_yet _ = false

abbrev pub is_aborted : Reply → Bool
is_aborted (reply.Refused (refusal.Aborted c)) = true
is_aborted _ = false

-- a call of the client on a part where this holds
abbrev pub is_on : (TransId → Bool) → Option TransId → Bool
is_on p None = false
is_on p (Some t) = p t

abbrev pub is_call_on : (TransId → Bool) → ℕ → Waiting → Bool
is_call_on p client w = w.client == client && is_on p (part_trans w.call)

abbrev pub is_dead : Desk → ℕ → TransId → Bool
is_dead s client t = is_some (s.dead client t)

-- the client's dead parts go, and their calls with them
abbrev pub buried : Desk → ℕ → Desk
buried s client = record s {
  dead = λ d u. if d == client then None else s.dead d u;
  waits = without (is_call_on (is_dead s client) client) s.waits;
}

-- and so do its calls on parts that are not live, as the Finish of a transaction that was decided
abbrev pub cleared : Desk → (TransId → Bool) → ℕ → Desk
cleared s is_live client = without_waits (buried s client) (is_call_on (λ t. not (is_live t)) client)

-- the part that a Finish ends by its own answer is not known any more
abbrev pub finished : Desk → ℕ → TransId → Reply → Desk
finished s client t r = if is_aborted r then without_waits (with_dead s client t None) (is_of_part client t) else s

-- a call that is answered so begins to wait, unless another call of the part does, or it is itself a collect
abbrev pub begins_waiting : Desk → ℕ → ℕ → Call → Option TransId → Desk
begins_waiting s client number c None = s
begins_waiting s client number c (Some t) =
    if is_some (waiting_of s client t) then s
    else record s { waits = s.waits ++ (record { client = client; number = number; call = c; is_granted = false }) ∷ [] }

abbrev pub is_dead_call : Desk → ℕ → Option Waiting → Bool
is_dead_call s client None = false
is_dead_call s client (Some w) = is_on (is_dead s client) (part_trans w.call)

-- a call is collected with its answer; that of a dead part is known while the part is
abbrev pub collected : Desk → ℕ → ℕ → Desk
collected s client n =
    if is_dead_call s client (waiting_at s client n) then s
    else without_waits s (λ (w : Waiting). w.client == client && w.number == n)

abbrev pub is_unknown : Reply → Bool
is_unknown (reply.Refused refusal.UnknownTrans) = true
is_unknown _ = false

abbrev pub begins_if : Bool → Desk → ℕ → ℕ → Call → Desk
begins_if b s client number c = if b then begins_waiting s client number c (part_trans c) else s

-- a Begin or a Join removes the client's dead parts
abbrev pub waits_after : Desk → (TransId → Bool) → ℕ → ℕ → Call → Reply → Desk
waits_after s is_live client number (call.Begin seen) r = cleared s is_live client
waits_after s is_live client number (call.Join t) r = if is_unknown r then s else begins_if (is_not_yet r) (buried s client) client number (call.Join t)
waits_after s is_live client number (call.Finish t commit) r = finished (begins_if (is_not_yet r) s client number (call.Finish t commit)) client t r
waits_after s is_live client number (call.Collect n) r = if is_not_yet r then s else collected s client n
waits_after s is_live client number c r = begins_if (is_not_yet r) s client number c

abbrev pub with_session : Desk → ℕ → Option Session → Desk
with_session s client session = record s { sessions = λ c. if c == client then session else s.sessions c }
