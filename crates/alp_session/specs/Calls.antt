-- The call that a client's line is for, and the server that it goes to, by what the client knows and what words stand for.
use Rattle.std.specs.Prelude.{◌≡◌, ℕ, ◌≤◌, Bool, true, false, not, ◌&&◌, replicate, length, Option, None, Some, if◌then◌else◌}
use Rattle.alp_base.specs.declared.ids.TransId.{TransId}
use Rattle.alp_base.specs.Pages.{page_of}
use Rattle.alp_files.specs.declared.call.Call.{Call}
use Rattle.alp_files.specs.declared.call.Call.TheVariants as call
use Rattle.alp_lines.specs.declared.line.Line.{Line}
use Rattle.alp_lines.specs.declared.line.Line.TheVariants as line
use Rattle.alp_rpc.specs.Calls.{is_run_mode}
use Rattle.alp_session.specs.Maps.{WordMap}
use Rattle.alp_session.specs.Props.{new_props}
use Rattle.alp_session.specs.Clients.{file_of, open_at, is_joined, first_of}
use Rattle.alp_session.specs.declared.asking.Asking.{Asking}
use Rattle.alp_session.specs.declared.asking.Asking.TheVariants as asking
use Rattle.alp_session.specs.declared.client.Client.{Client}
use Rattle.alp_session.specs.declared.waiting.Next.{Next}
use Rattle.alp_session.specs.declared.waiting.Next.TheVariants as next
use Rattle.alp_session.specs.declared.waiting.Waiting.{Waiting}

-- a line on an owner that is there
abbrev pub owner_call : TransId → Line → Option Call
owner_call t (line.ReadOwner client server owner choice) = Some (call.ReadOwner t owner choice)
owner_call t (line.SetQuota client server owner quota choice) = Some (call.SetQuota t owner quota choice)
owner_call t _ = None

-- or one that makes an owner or a file
abbrev pub making_call : TransId → Line → Option Call
making_call t (line.MakeOwner client server owner quota create choice) = Some (call.MakeOwner t owner quota create choice)
making_call t (line.Create client server word owner size read modify choice) = Some (call.CreateFile t (new_props word owner size read modify) choice)
making_call t l = owner_call t l

-- or one on the properties of a file
abbrev pub props_call : WordMap → Client → TransId → Line → Option Call
props_call words c t (line.ReadProps client file) = Some (call.ReadProps t (open_at words c file))
props_call words c t (line.WriteProps client file change choice) = Some (call.WriteProps t (open_at words c file) change choice)
props_call words c t l = making_call t l

-- or one on all of a file
abbrev pub file_call : WordMap → Client → TransId → Line → Option Call
file_call words c t (line.CloseFile client file) = Some (call.CloseFile t (open_at words c file))
file_call words c t (line.DeleteFile client file choice) = Some (call.DeleteFile t (open_at words c file) choice)
file_call words c t (line.SetSize client file size choice) = Some (call.SetSize t (open_at words c file) size choice)
file_call words c t l = props_call words c t l

-- or one that reads, writes or locks pages
abbrev pub page_call : WordMap → Client → TransId → Line → Option Call
page_call words c t (line.WritePages client file run text choice) = Some (call.WritePages t (open_at words c file) run (replicate run.count (page_of text)) choice)
page_call words c t (line.ReadPages client file run mode choice) = Some (call.ReadPages t (open_at words c file) run mode choice)
page_call words c t (line.LockPages client file run mode choice) = Some (call.LockPages t (open_at words c file) run mode choice)
page_call words c t l = file_call words c t l

-- the call of a line in the client's transaction
abbrev pub call_in : WordMap → Client → TransId → Line → Option Call
call_in words c t (line.OpenFile client file access mode choice) = Some (call.OpenFile t (file_of words file) access mode choice)
call_in words c t (line.Commit client) = Some (call.Finish t true)
call_in words c t (line.Abort client) = Some (call.Finish t false)
call_in words c t l = page_call words c t l

abbrev pub call_with : WordMap → Client → Option TransId → Line → Option Call
call_with words c None l = None
call_with words c (Some t) l = call_in words c t l

-- the collect of the call that came to wait last, if one waits
abbrev pub collect_of : Option Waiting → Option Call
collect_of None = None
collect_of (Some w) = Some (call.Collect w.number)

-- what asks how a transaction ended, if there is one
abbrev pub outcome_of : Option TransId → Option Call
outcome_of None = None
outcome_of (Some t) = Some (call.Outcome t)

-- the call that a line of the client is for, if there is a transaction where it needs one
abbrev pub call_by : WordMap → Client → Line → Option Call
call_by words c (line.Begin client server) = Some (call.Begin c.told)
call_by words c (line.Outcome client) = outcome_of c.begun
call_by words c (line.Collect client) = collect_of (first_of c.waiting)
call_by words c l = call_with words c c.trans l

-- ---- where calls go

abbrev pub home_of : Option TransId → ℕ
home_of None = 0
home_of (Some t) = t.server

abbrev pub waits_in : Option Waiting → ℕ
waits_in None = 0
waits_in (Some w) = w.server

-- The server that a line's call goes to: the one that the line names, or that of its file; that of the transaction for a line that
-- ends it or asks how it ended; and that of the call which a collect is for. A line without a call has none, which is 0 here.
abbrev pub server_for : WordMap → Client → Line → ℕ
server_for words c (line.Begin client server) = server
server_for words c (line.Create client server word owner size read modify choice) = server
server_for words c (line.ReadOwner client server owner choice) = server
server_for words c (line.MakeOwner client server owner quota create choice) = server
server_for words c (line.SetQuota client server owner quota choice) = server
server_for words c (line.OpenFile client file access mode choice) = (file_of words file).server
server_for words c (line.CloseFile client file) = (file_of words file).server
server_for words c (line.DeleteFile client file choice) = (file_of words file).server
server_for words c (line.ReadPages client file run mode choice) = (file_of words file).server
server_for words c (line.WritePages client file run text choice) = (file_of words file).server
server_for words c (line.LockPages client file run mode choice) = (file_of words file).server
server_for words c (line.SetSize client file size choice) = (file_of words file).server
server_for words c (line.ReadProps client file) = (file_of words file).server
server_for words c (line.WriteProps client file change choice) = (file_of words file).server
server_for words c (line.Commit client) = home_of c.trans
server_for words c (line.Abort client) = home_of c.trans
server_for words c (line.Outcome client) = home_of c.begun
server_for words c (line.Collect client) = waits_in (first_of c.waiting)
server_for words c l = 0

-- ---- what a frame in a session asks

-- a call of a file or of an owner is one of a part of the transaction; a line that begins, ends, asks or collects needs none
abbrev pub needs_part : Line → Bool
needs_part (line.Begin client server) = false
needs_part (line.Commit client) = false
needs_part (line.Abort client) = false
needs_part (line.Outcome client) = false
needs_part (line.Collect client) = false
needs_part l = true

-- a line that collects, or that has come to its collect
abbrev pub is_collect : Line → Next → Bool
is_collect l next.Collect = true
is_collect (line.Collect client) n = true
is_collect l n = false

-- the call of the line itself; before it a `Join`, where it is one of a part and the client knows of no part there
abbrev pub asking_of : Option TransId → Option TransId → Line → Asking
asking_of joined None l = asking.Call
asking_of joined (Some t) l = if needs_part l && not (is_joined joined t) then asking.Join t else asking.Call

-- what a client asks for its line in a session that joined this transaction, if any
abbrev pub asking_for : Option TransId → Option TransId → Line → Next → Asking
asking_for joined t l n = if is_collect l n then asking.Collect else asking_of joined t l

-- the call that it sends for that
abbrev pub call_asked : Asking → Call → Call
call_asked (asking.Join t) asked = call.Join t
call_asked a asked = asked

-- What a line has to be for its call to have a frame: a run is not empty, a text fits a page, and pages are read and locked
-- in a mode that is no intention.
abbrev pub IsAskable : Line → Type 0
IsAskable (line.WritePages client file run text choice) = (1 ≤ run.count) × (length text ≤ 512)
IsAskable (line.ReadPages client file run mode choice) = (1 ≤ run.count) × (is_run_mode mode ≡ true)
IsAskable (line.LockPages client file run mode choice) = (1 ≤ run.count) × (is_run_mode mode ≡ true)
IsAskable _ = Unit {0}
