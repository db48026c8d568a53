-- The deeds of a client thread, and what its items say of the way on.
use Rattle.std.specs.Prelude.{ℕ, Bool, true, false, not, ◌&&◌, Option, None, Some}
use Rattle.alp_base.specs.declared.ids.TransId.{TransId}
use Rattle.alp_files.specs.declared.call.Call.{Call}
use Rattle.alp_files.specs.declared.call.Call.TheVariants as call
use Rattle.alp_files.specs.declared.reply.Reply.{Reply}
use Rattle.alp_files.specs.declared.reply.Reply.TheVariants as reply
use Rattle.alp_journal.specs.declared.log.Item.{Item}
use Rattle.alp_journal.specs.declared.log.Mark.{Mark}
use Rattle.alp_journal.specs.declared.log.Mark.TheVariants as mark
use Rattle.alp_journal.specs.declared.log.Sent.{Sent}
use Rattle.alp_journal.specs.declared.log.Sent.TheVariants as sent
use Rattle.alp_session.specs.Heard.{is_not_yet}

-- A thread sends something and is handed a reply or silence, or it gives a Tick at a server, or a Timeout of a transaction there.
pub data Deed : Type 0 where
  sends : (x : Item) → Deed
  gives_tick : (server : ℕ) → Deed
  gives_timeout : (server : ℕ) (t : TransId) → Deed

abbrev pub is_own : Mark → Bool
is_own mark.Own = true
is_own m = false

abbrev pub is_collecting : Call → Bool
is_collecting (call.Collect number) = true
is_collecting c = false

abbrev pub is_collect : Sent → Bool
is_collect (sent.Call client epoch number c) = is_collecting c
is_collect (sent.Bytes bytes) = false

abbrev pub is_to_wait : Option Reply → Bool
is_to_wait (Some r) = is_not_yet r
is_to_wait None = false

abbrev pub has_refused : Reply → Bool
has_refused (reply.Refused f) = true
has_refused r = false

abbrev pub is_refused : Option Reply → Bool
is_refused (Some r) = has_refused r
is_refused None = false

-- a collect of an own line that was answered that the call waits
abbrev pub waits_on : Item → Bool
waits_on x = (is_own x.mark && is_collect x.sent) && is_to_wait x.reply

-- a refusal, but not one to wait
abbrev pub is_refusal : Option Reply → Bool
is_refusal r = is_refused r && not (is_to_wait r)

abbrev pub is_refusing : Deed → Bool
is_refusing (sends x) = is_refusal x.reply
is_refusing (gives_tick server) = false
is_refusing (gives_timeout server t) = false
