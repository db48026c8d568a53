-- The clients of a script: what words stand for is known to all of them, and all else to one.
use Rattle.std.specs.Prelude.{◌≡◌, ℕ, List, [], ◌∷◌, get_or, slice_set, replicate, Option, None, Some}
use Rattle.std.specs.FinMap as map
use Rattle.alp_files.specs.declared.reply.Reply.{Reply}
use Rattle.alp_journal.specs.declared.log.Item.{Item}
use Rattle.alp_lines.specs.declared.line.Line.{Line}
use Rattle.alp_lines.specs.declared.line.Line.TheVariants as line
use Rattle.alp_session.specs.Maps.{WordMap}
use Rattle.alp_session.specs.Clients.{new_client, first_settings, first_of}
use Rattle.alp_session.specs.Frames.{request_of, frame_of, IsOfFrame}
use Rattle.alp_session.specs.Heard.{heard, words_heard, begins, words_at, due_in}
use Rattle.alp_session.specs.Crowd.{Crowd}
use Rattle.alp_session.specs.declared.client.Client.{Client}
use Rattle.alp_session.specs.declared.frames.Addressed.{Addressed}
use Rattle.alp_session.specs.declared.waiting.Next.{Next}
use Rattle.alp_session.specs.declared.waiting.Next.TheVariants as next
use Rattle.alp_rpc.specs.declared.frame.Request.{Request}
use Rattle.alp_base.specs.declared.ids.TransId.{TransId}

-- what is known before the first line
abbrev pub new_crowd : Crowd
new_crowd = record { words = map.empty; places = replicate 17 new_client; settings = first_settings }

abbrev pub client_at : Crowd → ℕ → Client
client_at c k = get_or c.places k new_client

-- the client of that number knows this, and what words stand for is that
abbrev pub with_client : Crowd → WordMap → ℕ → Client → Crowd
with_client c words k d = record c { words = words; places = slice_set c.places k d }

-- A client that is lent stands at its number among clients that know nothing, with the words and the settings of all.
abbrev pub lent_crowd : Crowd → ℕ → Crowd
lent_crowd c k = with_client (record new_crowd { settings = c.settings }) c.words k (client_at c k)

-- among those that stay one that knows nothing stands in its place
abbrev pub left_crowd : Crowd → ℕ → Crowd
left_crowd c k = with_client c c.words k new_client

-- it is taken back from the others among whom it was lent
abbrev pub taken_back : Crowd → ℕ → (lent : Crowd) → Crowd
taken_back c k lent = with_client c c.words k (client_at lent k)

-- what the client asks anew for a line that is not over
abbrev pub request_next : Crowd → ℕ → Line → Next → Option Request
request_next c k l next.Call = request_of c.words k (client_at c k) l
request_next c k l next.Collect = request_of c.words k (client_at c k) (line.Collect k)
request_next c k l n = None

-- the frame that the client sends next for a line and where it goes, or nothing where the line is over
abbrev pub asks : Crowd → ℕ → Line → Next → Option Addressed
asks c k l next.Call = frame_of c.words k (client_at c k) l
asks c k l next.Collect = frame_of c.words k (client_at c k) (line.Collect k)
asks c k l n = None

-- what is known after the client sent a frame for a line and was told a reply or nothing, and what it does next for the line
abbrev pub hears : Crowd → ℕ → Line → Next → Addressed → Option Reply → Crowd × Next
hears c k l n frame r =
    let d : Client = client_at c k in
    let h : Client × Next = heard c.words c.settings d l n frame r in
    (with_client c (words_heard c.words d l n frame.server r) k h.0, h.1)

-- the client comes to a line
abbrev pub at_line : Crowd → ℕ → Line → Crowd
at_line c k l = with_client c (words_at c.words l) k (begins (client_at c k) l)

-- what a declaration says of its client, and what other lines set for all of them
abbrev pub declares : Crowd → Line → Crowd
declares c (line.Client client name) = with_client c c.words client (record (client_at c client) { name = name })
declares c (line.Patience count) = record c { settings = record c.settings { patience = count } }
declares c (line.Auto on) = record c { settings = record c.settings { collects = on } }
declares c l = c

-- the server at which the client's transaction times out, and the transaction, where this is what a client does next
abbrev pub times_out : Crowd → ℕ → Next → Option (ℕ × TransId)
times_out c k next.TimeOut = due_in (first_of (client_at c k).waiting) (client_at c k).trans
times_out c k n = None

-- These items are those of a line of the client, behind them this transaction times out at this server, if one does, and that is known
-- then. Before an item of a collect, which is one at `next.Collect`, messages are carried, of which a client knows nothing.
abbrev pub Sends : Crowd → ℕ → Line → Next → List Item → Option (ℕ × TransId) → Crowd → Type 0
Sends c k l n [] t d = (asks c k l n ≡ None) × (t ≡ times_out c k n) × (d ≡ c)
Sends c k l n (x ∷ xs) t d =
    (frame : Addressed) × (asks c k l n ≡ Some frame) × IsOfFrame l frame x × Sends (hears c k l n frame x.reply).0 k l (hears c k l n frame x.reply).1 xs t d
