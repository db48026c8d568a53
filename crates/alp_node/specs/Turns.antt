-- How sessions and the clock go on in a step, whatever the vault tells.
use Rattle.std.specs.Prelude.{◌≡◌, ℕ, ◌≤◌, Bool, true, false, List, Option, None, Some, IfSome, length}
use Rattle.alp_files.specs.Reading.{asked_pages, TellsPages}
use Rattle.alp_files.specs.declared.call.Call.{Call}
use Rattle.alp_files.specs.declared.call.Call.TheVariants as call
use Rattle.alp_files.specs.declared.refusal.Refusal.TheVariants as refusal
use Rattle.alp_files.specs.declared.reply.Ended.TheVariants as ended
use Rattle.alp_files.specs.declared.reply.Reply.{Reply}
use Rattle.alp_files.specs.declared.reply.Reply.TheVariants as reply
use Rattle.alp_journal.specs.declared.event.Event.{Event}
use Rattle.alp_journal.specs.declared.event.Event.TheVariants as event
use Rattle.alp_journal.specs.Desk.{Session}
use Rattle.alp_node.specs.Orders.{idle_reply}
use Rattle.alp_node.specs.Sessions.{session_at, with_session}
use Rattle.alp_node.specs.Waits.{call_at}
use Rattle.alp_node.specs.declared.server_state.ServerState.{ServerState}
use Rattle.alp_node.specs.declared.sessions.CallOrder.{CallOrder}
use Rattle.alp_node.specs.declared.sessions.CallOrder.TheVariants as order
use Rattle.alp_node.specs.declared.sessions.Sessions.{Sessions}
use Rattle.alp_node.specs.declared.waits.WaitingCall.{WaitingCall}

-- no time that the reply tells is later than this one
abbrev pub TellsUpTo : ℕ → Reply → Type 0
TellsUpTo clock (reply.Committed stamp) = stamp.ts ≤ clock
TellsUpTo clock (reply.Ended (ended.Committed stamp)) = stamp.ts ≤ clock
TellsUpTo clock r = Unit {0}

-- it does not say that the session is over, that the server is down or that its journal is full
abbrev pub IsInSession : Reply → Type 0
IsInSession (reply.Refused (refusal.StaleSession epoch)) = ⊥
IsInSession (reply.Refused refusal.Down) = ⊥
IsInSession (reply.Refused refusal.JournalFull) = ⊥
IsInSession r = Unit {0}

-- a session may keep it while the clock is no earlier than this
pub record IsKeepable (clock : ℕ) (r : Reply) : Type 0 where
  pub inside : IsInSession r
  pub times : TellsUpTo clock r

abbrev pub is_greeting : Call → Bool
is_greeting (call.Hello name) = true
is_greeting c = false

-- a greeting begins the client's session in the server's epoch, and changes nothing else
abbrev pub HasGreeted : {V : Type 0} → (old new : ServerState V) → (client : ℕ) → Call → Option Reply → Type 0
HasGreeted old new client (call.Hello name) r = (r ≡ Some (reply.Welcome old.epoch)) × (new ≡ record old { sessions = with_session old.sessions client (record { who = name; last = 1; reply = reply.Welcome old.epoch }) })
HasGreeted old new client c r = ⊥

-- the session has come to the call with this number, and keeps the reply, which is one to a call of it
abbrev pub IsCountedOn : ℕ → ℕ → Reply → Sessions → Sessions → Type 0
IsCountedOn client number r old new = IsInSession r × (w : Session) × (session_at old client ≡ Some w) × (new ≡ with_session old client (record w { last = number; reply = r }))

-- What becomes of the sessions by a call that is this among those of its client. Where it neither begins a session nor is the
-- next one it changes nothing at all.
abbrev pub HasCounted : {V : Type 0} → CallOrder → (old new : ServerState V) → (client number : ℕ) → Call → Option Reply → Type 0
HasCounted order.First old new client number c r = HasGreeted old new client c r
HasCounted order.Next old new client number c r = (y : Reply) × (r ≡ Some y) × IsCountedOn client number y old.sessions new.sessions
HasCounted o old new client number c r = (r ≡ idle_reply o old.epoch (session_at old.sessions client)) × (new ≡ old)

-- only a call touches a session
abbrev pub AreTurned : {V : Type 0} → Option CallOrder → (old new : ServerState V) → Event → Option Reply → Type 0
AreTurned None old new e r = new.sessions ≡ old.sessions
AreTurned (Some o) old new (event.Call client epoch number c) r = HasCounted o old new client number c r
AreTurned (Some o) old new e r = ⊥

-- where it tells pages, so many were asked, and as many as a run may have
abbrev pub TellsRun : Option ℕ → Reply → Type 0
TellsRun asked (reply.Pages pages) = TellsPages asked (reply.Pages pages) × (1 ≤ length pages) × (length pages ≤ 16)
TellsRun asked r = Unit {0}

-- how many pages a call asks for that waits, if one does
abbrev pub asked_waiting : Option WaitingCall → Option ℕ
asked_waiting None = None
asked_waiting (Some w) = asked_pages w.call

-- and a call that comes: a collect asks for those of the call that it collects
abbrev pub asked_in : List WaitingCall → ℕ → Call → Option ℕ
asked_in waits client (call.Collect n) = asked_waiting (call_at client n waits)
asked_in waits client c = asked_pages c

-- the next call of a session is told no pages but those that it asks for
abbrev pub IsToldItsPages : List WaitingCall → Option CallOrder → Event → Option Reply → Type 0
IsToldItsPages waits (Some order.Next) (event.Call client epoch number c) r = IfSome r (TellsRun (asked_in waits client c))
IsToldItsPages waits o e r = Unit {0}

-- The event, which is this among the calls of its client, was answered by a server that goes on: its clock does not fall back, and
-- is not behind what the reply tells. The next call of a session is told its pages; a repeat is told what was kept.
pub record HasTurned {V : Type 0} (o : Option CallOrder) (old new : ServerState V) (e : Event) (r : Option Reply) : Type 0 where
  pub later : old.clock ≤ new.clock
  pub times : IfSome r (TellsUpTo new.clock)
  pub sessions : AreTurned o old new e r
  pub pages : IsToldItsPages old.waits o e r
