-- What a client makes of the reply that it is told.
use Rattle.std.specs.Prelude.{ℕ, ◌+◌, ◌-◌, ◌^◌, min, nat_le, ◌==◌, Bool, true, false, List, [], ◌∷◌, Option, None, Some, if◌then◌else◌}
use Rattle.std.specs.List.{list_any}
use Rattle.std.specs.FinMap as map
use Rattle.alp_base.specs.declared.ids.FileId.{FileId}
use Rattle.alp_base.specs.declared.ids.TransId.{TransId}
use Rattle.alp_files.specs.declared.reply.Reply.{Reply}
use Rattle.alp_files.specs.declared.reply.Reply.TheVariants as reply
use Rattle.alp_files.specs.declared.reply.Ended.{Ended}
use Rattle.alp_files.specs.declared.reply.Ended.TheVariants as ended
use Rattle.alp_files.specs.declared.refusal.Refusal.{Refusal}
use Rattle.alp_files.specs.declared.refusal.Refusal.TheVariants as refusal
use Rattle.alp_lines.specs.declared.line.Line.{Line}
use Rattle.alp_lines.specs.declared.line.Line.TheVariants as line
use Rattle.alp_session.specs.Maps.{WordMap, SessionMap}
use Rattle.alp_session.specs.Props.{later}
use Rattle.alp_session.specs.Clients.{no_file, is_awaited, file_of, first_of}
use Rattle.alp_session.specs.Calls.{asking_for}
use Rattle.alp_session.specs.Frames.{number_after}
use Rattle.alp_session.specs.declared.client.Client.{Client}
use Rattle.alp_session.specs.declared.asking.Asking.{Asking}
use Rattle.alp_session.specs.declared.asking.Asking.TheVariants as asking
use Rattle.alp_session.specs.declared.asking.Sending.{Sending}
use Rattle.alp_session.specs.declared.frames.Addressed.{Addressed}
use Rattle.alp_session.specs.declared.greeted.Greeted.{Greeted}
use Rattle.alp_session.specs.declared.meaning.Meaning.{Meaning}
use Rattle.alp_session.specs.declared.meaning.Meaning.TheVariants as meaning
use Rattle.alp_session.specs.declared.waiting.Purpose.{Purpose}
use Rattle.alp_session.specs.declared.waiting.Purpose.TheVariants as purpose
use Rattle.alp_session.specs.declared.waiting.Next.{Next}
use Rattle.alp_session.specs.declared.waiting.Next.TheVariants as next
use Rattle.alp_session.specs.declared.waiting.Settings.{Settings}
use Rattle.alp_session.specs.declared.waiting.Waiting.{Waiting}

-- a commit or an abort that is answered so has no transaction behind it, and so no calls that wait
abbrev pub left : Client → Line → Client
left c (line.Commit client) = record c { trans = None; waiting = [] }
left c (line.Abort client) = record c { trans = None; waiting = [] }
left c l = c

-- A stale session is no session, and the client greets anew before its next call there. What it knew of a part of its transaction at
-- the server goes with it.
abbrev pub forgets : Client → ℕ → Client
forgets c server = record c { sessions = map.remove c.sessions server }

abbrev pub told_refusal : Client → ℕ → Line → Refusal → Client
told_refusal c server l (refusal.StaleSession epoch) = forgets c server
told_refusal c server l refusal.UnknownTrans = left c l
told_refusal c server l (refusal.Aborted cause) = left c l
told_refusal c server l _ = c

-- the open number of a created file is kept
abbrev pub created : Client → Line → FileId → ℕ → Client
created c (line.Create client server word owner size read modify choice) f n = record c { opens = map.insert c.opens f n }
created c l f n = c

-- and so is that of a file opened, which is the one that the word of the line stands for
abbrev pub opened : WordMap → Client → Line → ℕ → Client
opened words c (line.OpenFile client file access mode choice) n = record c { opens = map.insert c.opens (file_of words file) n }
opened words c l n = c

-- how a transaction ended, which is told with its stamp where it was committed
abbrev pub told_end : Client → Ended → Client
told_end c (ended.Committed s) = record c { told = later c.told s }
told_end c e = c

-- the client knows of a part of the transaction at the server
abbrev pub joined_in : SessionMap → ℕ → TransId → Option Greeted → SessionMap
joined_in sessions server t None = sessions
joined_in sessions server t (Some g) = map.insert sessions server (record g { joined = Some t })

abbrev pub knows_part : Client → ℕ → TransId → Client
knows_part c server t = record c { sessions = joined_in c.sessions server t (map.get c.sessions server) }

-- a `begin` that is answered so has begun a transaction, whose first part is there; another line that is answered so, which comes of a
-- frame that a raw line sent before it, has not
abbrev pub started : Client → ℕ → Line → TransId → Client
started c server (line.Begin client at) t = record (knows_part c server t) { trans = Some t; begun = Some t }
started c server l t = c

abbrev pub learned_reply : WordMap → Client → ℕ → Line → Reply → Client
learned_reply words c server l (reply.Begun t) = started c server l t
learned_reply words c server l (reply.Created f n) = created c l f n
learned_reply words c server l (reply.Opened n) = opened words c l n
learned_reply words c server l (reply.Committed s) = record (left c l) { told = later c.told s }
learned_reply words c server l (reply.Ended e) = told_end c e
learned_reply words c server l (reply.Refused r) = told_refusal c server l r
learned_reply words c server l _ = c

-- A greeting begins a session, in which the client goes on with what it came for; anything else ends the line.
abbrev pub greeted : Client → ℕ → Next → Option Reply → Client × Next
greeted c server n (Some (reply.Welcome epoch)) = (record c { sessions = map.insert c.sessions server (record { epoch = epoch; last = 1; joined = None }) }, n)
greeted c server n _ = (c, next.Over)

-- Of some replies only the stamps are taken in, and that the session is stale: of those to a frame that was sent again, and to a
-- `Join` that is not joined by them.
abbrev pub told_only : Client → ℕ → Reply → Client
told_only c server (reply.Committed s) = record c { told = later c.told s }
told_only c server (reply.Ended e) = told_end c e
told_only c server (reply.Refused (refusal.StaleSession epoch)) = forgets c server
told_only c server _ = c

-- ---- calls that wait

-- what the answer to the call of a line is good for
abbrev pub purpose_of : WordMap → Line → Purpose
purpose_of words (line.Create client server word owner size read modify choice) = purpose.Word word
purpose_of words (line.OpenFile client file access mode choice) = purpose.Open (file_of words file)
purpose_of words l = purpose.Nothing

abbrev pub collects_by_itself : Bool → Next
collects_by_itself true = next.Collect
collects_by_itself false = next.Over

-- a call of the client waits at the server
abbrev pub is_waiting_at : List Waiting → ℕ → Bool
is_waiting_at ws server = list_any (λ w. w.server == server) ws

abbrev pub waiting_for : Sending → Purpose → Waiting
waiting_for q p = record { server = q.server; number = q.number; purpose = p; asked = 0 }

-- the call is to wait: it becomes the client's waiting call at the server where it has none there, and is the last that became so
abbrev pub awaiting : Client → Sending → Purpose → Client × Next
awaiting c q p = if is_waiting_at c.waiting q.server then (c, next.Over) else (record c { waiting = waiting_for q p ∷ c.waiting }, collects_by_itself q.settings.collects)

-- one collect more was answered that the call waits
abbrev pub asked_again : Waiting → Waiting
asked_again w = record w { asked = min (w.asked + 1) (2 ^ 32 - 1) }

-- that of the call that came to wait last
abbrev pub one_more : List Waiting → List Waiting
one_more [] = []
one_more (w ∷ ws) = asked_again w ∷ ws

-- and how many those are then
abbrev pub times_asked : List Waiting → Option ℕ
times_asked [] = None
times_asked (w ∷ ws) = Some (asked_again w).asked

-- the transaction of the client whose call waits times out at the server where it does
abbrev pub due_in : Option Waiting → Option TransId → Option (ℕ × TransId)
due_in (Some w) (Some t) = Some (w.server, t)
due_in _ _ = None

-- what a client does behind so many collects of one call
abbrev pub patient : Settings → ℕ → Next
patient s asked = if nat_le s.patience asked then next.TimeOut else next.Over

-- a call is answered that it waits
abbrev pub is_not_yet : Reply → Bool
is_not_yet (reply.Refused refusal.NotYet) = true
is_not_yet r = false

-- The answer to a `Join` of this transaction: the client knows of a part there and goes on with its call, or the `Join` waits; any
-- other answer ends the line.
abbrev pub joined_reply : Client → Sending → TransId → Reply → Client × Next
joined_reply c q t reply.Joined = (knows_part c q.server t, next.Call)
joined_reply c q t (reply.Refused refusal.NotYet) = awaiting c q purpose.Part
joined_reply c q t r = (told_only c q.server r, next.Over)

-- a `Join` waited
abbrev pub is_part : Purpose → Bool
is_part purpose.Part = true
is_part p = false

abbrev pub part_known : Client → ℕ → Option TransId → Client
part_known c server None = c
part_known c server (Some t) = knows_part c server t

-- what the reply of a `Join` tells that waited
abbrev pub joined_late : Client → ℕ → Reply → Client
joined_late c server reply.Joined = part_known c server c.trans
joined_late c server r = told_only c server r

-- a file that was to be opened is open
abbrev pub opened_late : Client → Purpose → ℕ → Client
opened_late c (purpose.Open f) n = record c { opens = map.insert c.opens f n }
opened_late c p n = c

-- what the reply of another call that waited tells, which is collected in this line
abbrev pub late_reply : Client → ℕ → Purpose → Line → Reply → Client
late_reply c server p l (reply.Created f n) = record c { opens = map.insert c.opens f n }
late_reply c server p l (reply.Opened n) = opened_late c p n
late_reply c server p l (reply.Committed s) = record (left c l) { told = later c.told s }
late_reply c server p l (reply.Ended e) = told_end c e
late_reply c server p l (reply.Refused r) = told_refusal c server l r
late_reply c server p l _ = c

abbrev pub collected_reply : Client → ℕ → Purpose → Line → Reply → Client
collected_reply c server p l r = if is_part p then joined_late c server r else late_reply c server p l r

abbrev pub purpose_in : Option Waiting → Purpose
purpose_in None = purpose.Nothing
purpose_in (Some w) = w.purpose

-- the calls that wait beside the last that came to wait
abbrev pub others : List Waiting → List Waiting
others [] = []
others (w ∷ ws) = ws

abbrev pub without_last : Client → Client
without_last c = record c { waiting = others c.waiting }

-- behind a `Join` that was collected in its line the line goes on
abbrev pub goes_on : Purpose → Reply → Next → Next
goes_on purpose.Part reply.Joined next.Collect = next.Call
goes_on p r n = next.Over

abbrev pub patient_behind : Settings → Option ℕ → Next
patient_behind s None = next.Over
patient_behind s (Some asked) = patient s asked

-- the call waits on
abbrev pub waits_on : Settings → Client → Client × Next
waits_on s c = (record c { waiting = one_more c.waiting }, patient_behind s (times_asked c.waiting))

-- the answer to a collect: the call waits on, or it waits no more
abbrev pub collected : Client → Sending → Line → Reply → Client × Next
collected c q l (reply.Refused refusal.NotYet) = waits_on q.settings c
collected c q l r = (without_last (collected_reply c q.server (purpose_in (first_of c.waiting)) l r), goes_on (purpose_in (first_of c.waiting)) r q.next)

-- the answer to the call of a line
abbrev pub called : WordMap → Client → Sending → Line → Reply → Client × Next
called words c q l (reply.Refused refusal.NotYet) = awaiting c q (purpose_of words l)
called words c q l r = (learned_reply words c q.server l r, next.Over)

-- the answer to what was asked in a session, where there is one
abbrev pub answered : WordMap → Client → Sending → Line → Asking → Option Reply → Client × Next
answered words c q l a None = (c, next.Over)
answered words c q l asking.Collect (Some r) = collected c q l r
answered words c q l (asking.Join t) (Some r) = joined_reply c q t r
answered words c q l asking.Call (Some r) = called words c q l r

-- the session at the server, where it stands still, has come to this number
abbrev pub counted_in : SessionMap → ℕ → ℕ → Option Greeted → SessionMap
counted_in sessions server number None = sessions
counted_in sessions server number (Some g) = map.insert sessions server (record g { last = number })

abbrev pub counted : Client → ℕ → ℕ → Client
counted c server number = record c { sessions = counted_in c.sessions server number (map.get c.sessions server) }

-- where a frame of a session was sent, and under which number
abbrev pub sending_in : ℕ → Greeted → Next → Settings → Sending
sending_in server g n s = record { server = server; number = number_after g.last; next = n; settings = s }

-- what the client knows after the reply to what it sent in a session that joined that transaction, if any, and what it does next
abbrev pub heard_in : WordMap → Client → Sending → Option TransId → Line → Option Reply → Client × Next
heard_in words c q joined l r =
    let h : Client × Next = answered words c q l (asking_for joined c.trans l q.next) r in
    (counted h.0 q.server q.number, h.1)

-- what it knows after the reply to the frame of its own line
abbrev pub heard_own : WordMap → Settings → Client → ℕ → Option Greeted → Line → Next → Option Reply → Client × Next
heard_own words s c server None l n r = greeted c server n r
heard_own words s c server (Some g) l n r = heard_in words c (sending_in server g n s) g.joined l r

abbrev pub heard_again : Client → ℕ → Option Reply → Client
heard_again c server None = c
heard_again c server (Some r) = told_only c server r

-- the frame of an own line is the last one from here on
abbrev pub keeps : Client → Addressed → Client
keeps c frame = record c { frames = record { last = Some frame; before = c.frames.last } }

-- What the client knows after it sent the frame for a line and was told a reply or nothing, and what it does next. What the bytes
-- of a raw line are answered changes nothing of it.
abbrev pub heard : WordMap → Settings → Client → Line → Next → Addressed → Option Reply → Client × Next
heard words s c (line.Repeat client) n frame r = (heard_again c frame.server r, next.Over)
heard words s c (line.Old client) n frame r = (heard_again c frame.server r, next.Over)
heard words s c (line.Raw client server bytes) n frame r = (c, next.Over)
heard words s c l n frame r =
    (keeps (heard_own words s c frame.server (map.get c.sessions frame.server) l n r).0 frame, (heard_own words s c frame.server (map.get c.sessions frame.server) l n r).1)

-- a `begin` leaves the transaction before, and its calls that wait
abbrev pub begins : Client → Line → Client
begins c (line.Begin client server) = record c { trans = None; opens = map.empty; waiting = [] }
begins c l = c

-- ---- what words stand for

-- the word of a line that creates a file stands for this
abbrev pub bound : WordMap → Line → Meaning → WordMap
bound words (line.Create client server word owner size read modify choice) m = map.insert words word m
bound words l m = words

-- what the call of the line creates is awaited, where it becomes the client's waiting call at the server
abbrev pub words_awaiting : WordMap → Line → Bool → Option TransId → ℕ → WordMap
words_awaiting words l false (Some t) server = bound words l (meaning.Awaited t server)
words_awaiting words l waiting t server = words

abbrev pub words_called : WordMap → Client → ℕ → Line → Reply → WordMap
words_called words c server l (reply.Created f n) = bound words l (meaning.File f)
words_called words c server l (reply.Refused refusal.NotYet) = words_awaiting words l (is_waiting_at c.waiting server) c.trans server
words_called words c server l _ = words

-- a word that awaits the file which a call that waited there created stands for it; one that was bound again does not
abbrev pub words_late : WordMap → Option TransId → ℕ → Purpose → FileId → WordMap
words_late words t server (purpose.Word w) f = if is_awaited (map.get words w) t server then map.insert words w (meaning.File f) else words
words_late words t server p f = words

abbrev pub words_late_told : WordMap → Option TransId → ℕ → Purpose → Reply → WordMap
words_late_told words t server p (reply.Created f n) = words_late words t server p f
words_late_told words t server p r = words

abbrev pub words_answered : WordMap → Client → ℕ → Line → Asking → Option Reply → WordMap
words_answered words c server l a None = words
words_answered words c server l asking.Collect (Some r) = words_late_told words c.trans server (purpose_in (first_of c.waiting)) r
words_answered words c server l (asking.Join t) (Some r) = words
words_answered words c server l asking.Call (Some r) = words_called words c server l r

-- no word is bound before a session began, by a frame that is sent again, or by a raw line
abbrev pub words_in_session : WordMap → Client → ℕ → Option Greeted → Line → Next → Option Reply → WordMap
words_in_session words c server None l n r = words
words_in_session words c server (Some g) l n r = words_answered words c server l (asking_for g.joined c.trans l n) r

abbrev pub words_heard : WordMap → Client → Line → Next → ℕ → Option Reply → WordMap
words_heard words c (line.Repeat client) n server r = words
words_heard words c (line.Old client) n server r = words
words_heard words c (line.Raw client at bytes) n server r = words
words_heard words c l n server r = words_in_session words c server (map.get c.sessions server) l n r

-- a `create` binds its word at the line, to no file of its server
abbrev pub words_at : WordMap → Line → WordMap
words_at words (line.Create client server word owner size read modify choice) = map.insert words word (meaning.File (no_file server))
words_at words l = words
