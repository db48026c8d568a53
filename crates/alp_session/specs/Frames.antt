-- The frames of a client: what it sends for a line, as bytes, and what the bytes that it is handed tell it.
use Rattle.std.specs.Prelude.{◌≡◌, ℕ, ◌+◌, ◌-◌, ◌≤◌, ◌^◌, min, List, Option, None, Some, IfSome}
use Rattle.std.specs.FinMap as map
use Rattle.std.specs.Option.{option_map}
use Rattle.alp_fields.specs.Forms.{whole}
use Rattle.alp_files.specs.declared.call.Call.{Call}
use Rattle.alp_files.specs.declared.call.Call.TheVariants as call
use Rattle.alp_files.specs.declared.reply.Reply.{Reply}
use Rattle.alp_journal.specs.declared.log.Item.{Item}
use Rattle.alp_journal.specs.declared.log.Mark.{Mark}
use Rattle.alp_journal.specs.declared.log.Mark.TheVariants as mark
use Rattle.alp_journal.specs.declared.log.Sent.{Sent}
use Rattle.alp_journal.specs.declared.log.Sent.TheVariants as sent
use Rattle.alp_lines.specs.declared.line.Line.{Line}
use Rattle.alp_lines.specs.declared.line.Line.TheVariants as line
use Rattle.alp_rpc.specs.Frames.{request, reply_frame}
use Rattle.alp_rpc.specs.declared.frame.Request.{Request}
use Rattle.alp_session.specs.Maps.{WordMap}
use Rattle.alp_session.specs.Calls.{call_by, server_for, asking_for, call_asked}
use Rattle.alp_session.specs.declared.client.Client.{Client}
use Rattle.alp_session.specs.declared.frames.Addressed.{Addressed}
use Rattle.alp_session.specs.declared.greeted.Greeted.{Greeted}
use Rattle.alp_session.specs.declared.waiting.Next.TheVariants as next

-- the number of the call behind that one; it has four bytes, and a script has too few lines for a client to come to the last
abbrev pub number_after : ℕ → ℕ
number_after last = min (last + 1) (2 ^ 32 - 1)

-- In a session the client asks for its line. Before its first call at a server it says `Hello`.
abbrev pub request_in : ℕ → Client → Line → Option Greeted → Call → Request
request_in k c l None asked = record { client = k; epoch = 0; number = 1; call = call.Hello c.name }
request_in k c l (Some g) asked = record { client = k; epoch = g.epoch; number = number_after g.last; call = call_asked (asking_for g.joined c.trans l next.Call) asked }

-- what the client with that number asks next, if its line is for a call
abbrev pub request_for : WordMap → ℕ → Client → Line → Option Request
request_for words k c l = option_map (request_in k c l (map.get c.sessions (server_for words c l))) (call_by words c l)

-- what it asks anew for a line that is not over: lines that send a frame again, or bytes as they are, ask nothing anew
abbrev pub request_of : WordMap → ℕ → Client → Line → Option Request
request_of words k c (line.Repeat client) = None
request_of words k c (line.Old client) = None
request_of words k c (line.Raw client server bytes) = None
request_of words k c l = request_for words k c l

-- the frame of a request that goes to this server
abbrev pub addressed : ℕ → Request → Addressed
addressed server r = record { server = server; bytes = request.spell r }

-- its frame: the spelling of that, one of the last two frames, or the bytes of the line; and where it goes
abbrev pub frame_of : WordMap → ℕ → Client → Line → Option Addressed
frame_of words k c (line.Repeat client) = c.frames.last
frame_of words k c (line.Old client) = c.frames.before
frame_of words k c (line.Raw client server bytes) = Some (record { server = server; bytes = bytes })
frame_of words k c l = option_map (addressed (server_for words c l)) (request_for words k c l)

-- the reply that a client is told: the one that the bytes spell, if they spell one; silence and other bytes tell none
abbrev pub told_by : Option (List ℕ) → Option Reply
told_by None = None
told_by (Some bytes) = option_map (λ f. f.reply) (whole reply_frame bytes)

-- ---- an item of a client's line

-- what the bytes of a frame say to whoever reads them: the call that they spell, or nothing but themselves
abbrev pub read_as : List ℕ → Option Request → Sent
read_as bytes None = sent.Bytes bytes
read_as bytes (Some r) = sent.Call r.client r.epoch r.number r.call

abbrev pub sent_by : List ℕ → Sent
sent_by bytes = read_as bytes (whole request bytes)

-- whether a line sends a frame of its own, one again, or bytes as they are
abbrev pub mark_of : Line → Mark
mark_of (line.Repeat client) = mark.Repeated
mark_of (line.Old client) = mark.Repeated
mark_of (line.Raw client server bytes) = mark.Raw
mark_of l = mark.Own

-- the item of a line that sent the frame
pub record IsOfFrame (l : Line) (frame : Addressed) (x : Item) : Type 0 where
  pub server : x.server ≡ frame.server
  pub mark : x.mark ≡ mark_of l
  pub sent : x.sent ≡ sent_by frame.bytes

-- ---- what is known of frames

-- these bytes spell a request of the client with that number
pub record IsRequestOf (k : ℕ) (bytes : List ℕ) : Type 0 where
  pub asked : Request
  pub client : asked.client ≡ k
  pub spelled : bytes ≡ request.spell asked
  pub fits : request.Fits asked

-- the frames that a client may send again are requests of its own
pub record KeepsRequests (k : ℕ) (c : Client) : Type 0 where
  pub last : IfSome c.frames.last (λ f. IsRequestOf k f.bytes)
  pub before : IfSome c.frames.before (λ f. IsRequestOf k f.bytes)

-- what a client has to know for its next call to have a frame: its number is one of the run's, and the stamp that it was told
-- last is one that clocks may show
pub record IsReady (k : ℕ) (c : Client) : Type 0 where
  pub from_one : 1 ≤ k
  pub to_last : k ≤ 16
  pub told : c.told.ts ≤ 2 ^ 62
