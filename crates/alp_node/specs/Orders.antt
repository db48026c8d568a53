-- What a call is among the calls of its client: by its epoch and number, and by the session that stands.
use Rattle.std.specs.Prelude.{ℕ, ◌+◌, ◌==◌, ◌&&◌, Bool, true, false, Option, None, Some, if◌then◌else◌}
use Rattle.alp_files.specs.declared.call.Call.{Call}
use Rattle.alp_files.specs.declared.call.Call.TheVariants as call
use Rattle.alp_files.specs.declared.reply.Reply.{Reply}
use Rattle.alp_files.specs.declared.reply.Reply.TheVariants as reply
use Rattle.alp_files.specs.declared.refusal.Refusal.TheVariants as refusal
use Rattle.alp_journal.specs.declared.event.Event.{Event}
use Rattle.alp_journal.specs.declared.event.Event.TheVariants as event
use Rattle.alp_journal.specs.Answered.{is_read_fault}
use Rattle.alp_journal.specs.Desk.{Session}
use Rattle.alp_node.specs.Sessions.{session_at}
use Rattle.alp_node.specs.declared.server_state.ServerState.{ServerState}
use Rattle.alp_node.specs.declared.sessions.CallOrder.{CallOrder}
use Rattle.alp_node.specs.declared.sessions.CallOrder.TheVariants as order

-- a greeting begins a session with the first number, and while that is the last one it is a repeat
abbrev pub greeting_order : (epoch number : ℕ) → Option Session → CallOrder
greeting_order epoch number None = if epoch == 0 && number == 1 then order.First else order.Astray
greeting_order epoch number (Some w) = if epoch == 0 && number == 1 && w.last == 1 then order.Repeat else order.Astray

-- in the epoch `here` of the server any other call is one of the session, or of none that stands
abbrev pub session_order : (here epoch number : ℕ) → Option Session → CallOrder
session_order here epoch number None = order.Stale
session_order here epoch number (Some w) =
    if epoch == here then (if number == w.last then order.Repeat else (if number == w.last + 1 then order.Next else order.Astray)) else order.Stale

abbrev pub order_of : (here epoch number : ℕ) → Call → Option Session → CallOrder
order_of here epoch number (call.Hello name) w = greeting_order epoch number w
order_of here epoch number c w = session_order here epoch number w

-- as a server gets it, an event that is a call is one of these
abbrev pub order_in : {V : Type 0} → ServerState V → Event → Option CallOrder
order_in k (event.Call client epoch number c) = Some (order_of k.epoch epoch number c (session_at k.sessions client))
order_in k e = None

-- ---- what is answered

-- where nothing comes about: the reply that was kept, that no session stands in the epoch, or nothing
abbrev pub idle_reply : CallOrder → (here : ℕ) → Option Session → Option Reply
idle_reply order.Repeat here (Some w) = Some w.reply
idle_reply order.Stale here w = Some (reply.Refused (refusal.StaleSession here))
idle_reply o here w = None

-- a server that stays up answers each call but one that is astray, and no other event
abbrev pub is_answered : Option CallOrder → Bool
is_answered None = false
is_answered (Some order.Astray) = false
is_answered (Some o) = true

-- the reply shows that a read failed in this step: what a repeat is answered tells of an earlier one
abbrev pub is_fault_now : Option CallOrder → Option Reply → Bool
is_fault_now (Some order.Repeat) r = false
is_fault_now o r = is_read_fault r
