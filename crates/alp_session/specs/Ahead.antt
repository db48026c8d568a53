-- How many frames a line still sends, at most: so a line comes to its end.
use Rattle.std.specs.Prelude.{◌≡◌, ℕ, ◌+◌, ◌<◌, Bool, true, Option, None, Some, IsSome, cond}
use Rattle.std.specs.FinMap as map
use Rattle.alp_base.specs.declared.ids.TransId.{TransId}
use Rattle.alp_lines.specs.declared.line.Line.{Line}
use Rattle.alp_lines.specs.declared.line.Line.TheVariants as line
use Rattle.alp_session.specs.Maps.{WordMap}
use Rattle.alp_session.specs.Clients.{first_of}
use Rattle.alp_session.specs.Calls.{server_for, waits_in, needs_part, asking_for}
use Rattle.alp_session.specs.Frames.{frame_of}
use Rattle.alp_session.specs.Heard.{is_part, purpose_in}
use Rattle.alp_session.specs.declared.asking.Asking.{Asking}
use Rattle.alp_session.specs.declared.asking.Asking.TheVariants as asking
use Rattle.alp_session.specs.declared.client.Client.{Client}
use Rattle.alp_session.specs.declared.frames.Addressed.{Addressed}
use Rattle.alp_session.specs.declared.greeted.Greeted.{Greeted}
use Rattle.alp_session.specs.declared.waiting.Next.{Next}
use Rattle.alp_session.specs.declared.waiting.Next.TheVariants as next
use Rattle.alp_session.specs.declared.waiting.Purpose.{Purpose}

-- a greeting, where there is no session
abbrev pub greeting_ahead : Option Greeted → ℕ
greeting_ahead None = 1
greeting_ahead (Some g) = 0

abbrev pub joined_at : Option Greeted → Option TransId
joined_at None = None
joined_at (Some g) = g.joined

-- behind that a `Join` and its collect, and the call and its collect
abbrev pub asked_ahead : Asking → ℕ
asked_ahead (asking.Join t) = 4
asked_ahead asking.Call = 2
asked_ahead asking.Collect = 1

abbrev pub call_ahead : Client → Line → Option Greeted → ℕ
call_ahead c l g = greeting_ahead g + asked_ahead (asking_for (joined_at g) c.trans l next.Call)

-- the collect of a `Join` has the call and its collect behind it
abbrev pub collect_ahead : Option Greeted → Purpose → ℕ
collect_ahead g p = greeting_ahead g + cond (is_part p) 3 1

abbrev pub ahead : WordMap → Client → Line → Next → ℕ
ahead words c l next.Call = call_ahead c l (map.get c.sessions (server_for words c l))
ahead words c l next.Collect = collect_ahead (map.get c.sessions (waits_in (first_of c.waiting))) (purpose_in (first_of c.waiting))
ahead words c l n = 0

-- a line that has come to the collect of a `Join` is one of a call at that server, in the transaction of the client
abbrev pub IsOnItsWay : WordMap → Client → Line → Next → Type 0
IsOnItsWay words c l next.Collect =
    is_part (purpose_in (first_of c.waiting)) ≡ true → (waits_in (first_of c.waiting) ≡ server_for words c l) × IsSome c.trans × (needs_part l ≡ true)
IsOnItsWay words c l n = Unit {0}

-- the frame that a client sends next for a line
abbrev pub frame_next : WordMap → ℕ → Client → Line → Next → Option Addressed
frame_next words k c l next.Call = frame_of words k c l
frame_next words k c l next.Collect = frame_of words k c (line.Collect k)
frame_next words k c l n = None

-- what a client does next for its line is less than that many frames
abbrev pub Fewer : WordMap → Line → ℕ → Client × Next → Type 0
Fewer words l m h = IsOnItsWay words h.0 l h.1 × (ahead words h.0 l h.1 < m)
