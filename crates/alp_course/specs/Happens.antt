-- What happens at a server of a run, and the entries that come of it.
use Rattle.std.specs.Prelude.{◌≡◌, ℕ, ◌+◌, ◌<◌, Bool, true, false, IsTrue, List, [], ◌∷◌, ◌++◌, Option, None, Some, if◌then◌else◌}
use Rattle.std.specs.Option.{option_map}
use Rattle.alp_base.specs.declared.ids.JoinNo.{JoinNo}
use Rattle.alp_base.specs.declared.ids.Stamp.{Stamp}
use Rattle.alp_base.specs.declared.ids.TransId.{TransId}
use Rattle.alp_files.specs.declared.call.Call.{Call}
use Rattle.alp_files.specs.declared.refusal.Refusal.TheVariants.{BadFrame, Down}
use Rattle.alp_files.specs.declared.reply.Reply.{Reply}
use Rattle.alp_files.specs.declared.reply.Reply.TheVariants.{Refused}
use Rattle.alp_journal.specs.Answered.{entries_limit}
use Rattle.alp_journal.specs.Moves.{next, stops}
use Rattle.alp_journal.specs.Opening.{Start}
use Rattle.alp_journal.specs.State.{State, opened}
use Rattle.alp_journal.specs.declared.act.Act.TheVariants as act
use Rattle.alp_journal.specs.declared.entry.Entry.{Entry}
use Rattle.alp_journal.specs.declared.event.Event.{Event}
use Rattle.alp_journal.specs.declared.event.Event.TheVariants as event
use Rattle.alp_journal.specs.declared.log.Item.{Item}
use Rattle.alp_journal.specs.declared.log.Sent.{Sent}
use Rattle.alp_journal.specs.declared.log.Sent.TheVariants as sent
use Rattle.alp_rpc.specs.Frames.{reply_frame}
use Rattle.alp_session.specs.Frames.{told_by}
use Rattle.alp_course.specs.Opens.{IsLeastOpen}

-- What happens at a server: a client sends it something; a transaction times out; a tick, or a force; a line lets its disk pass so
-- many more changing calls; it falls, and starts again; a settling begins, and finds it down or up; it finds the least transaction
-- that has an open part there, or none.
pub data Happening : Type 0 where
  sent_it : (client : ℕ) (item : Item) → Happening
  timed_out : (trans : TransId) → Happening
  ticked : Happening
  forced : Happening
  stop_set : (calls : ℕ) → Happening
  restarted : (pick : ℕ) → Happening
  lifts : (is_down : Bool) → Happening
  finds : (least : Option TransId) → Happening

-- ---- where a run stands

-- The server's number and its epoch, whether it is down, whether its disk may be stopped, how many entries it made, and what they say.
-- A disk may be stopped behind a line that says so, until the server starts again or a settling begins.
pub record Stand : Type 0 where
  pub server : ℕ
  pub epoch : ℕ
  pub is_down : Bool
  pub is_fused : Bool
  pub place : ℕ
  pub state : State

-- before the first line
abbrev pub first_stand : Start → Stand
first_stand o = record { server = o.server; epoch = o.epoch; is_down = false; is_fused = false; place = 0; state = opened o }

-- behind one entry more
abbrev pub stand_after : Stand → Entry → Stand
stand_after w e = record w { is_down = stops e; place = w.place + 1; state = next w.state e }

-- and where that is the entry of a restart
abbrev pub stand_again : Stand → Entry → Stand
stand_again w e = record w { epoch = w.epoch + 1; is_down = false; is_fused = false; place = w.place + 1; state = next w.state e }

-- behind a line that lets so many more calls pass: one that is down has none
abbrev pub stand_set : Stand → Stand
stand_set w = record w { is_fused = if w.is_down then w.is_fused else true }

-- ---- one event

-- One entry, at a place that a journal has, of this event; and it stopped only where the disk might be stopped.
pub record IsEntryOf (w : Stand) (x : Event) (es : List Entry) (after : Stand) : Type 0 where
  pub entry : Entry
  pub one : es ≡ entry ∷ []
  pub event : entry.event ≡ x
  pub room : w.place < entries_limit
  pub halts : stops entry ≡ true → w.is_fused ≡ true
  pub behind : after ≡ stand_after w entry

-- nothing came of it
abbrev pub IsNone : Stand → List Entry → Stand → Type 0
IsNone w es after = (es ≡ []) × (after ≡ w)

-- an event that is no call: a server that is down does not come to it
abbrev pub ComesTo : Stand → Bool → Event → List Entry → Stand → Type 0
ComesTo w true x es after = IsNone w es after
ComesTo w false x es after = IsEntryOf w x es after

-- ---- what a client sends

-- the bytes that a server in that epoch hands out where it answers so, and none where it is silent
abbrev pub handed_for : (here client number : ℕ) → Option Reply → Option (List ℕ)
handed_for here client number r = option_map (λ y. reply_frame.spell (record { client = client; epoch = here; number = number; reply = y })) r

-- The entry of a call that a frame spelled. The bytes that the server hands out for the entry's reply tell just what the client was
-- handed. Nothing but client, number and reply makes them (`handed_for`): a call that is sent again and has the same reply is handed
-- the very bytes of before.
pub record IsTaken (w : Stand) (x : Item) (client epoch number : ℕ) (c : Call) (es : List Entry) (after : Stand) : Type 0 where
  pub made : IsEntryOf w (event.Call client epoch number c) es after
  pub place : x.place ≡ Some w.place
  pub reply : made.entry.reply ≡ x.reply
  pub told : told_by (handed_for w.epoch client number made.entry.reply) ≡ x.reply

-- without an entry a client is told this, in a frame
pub record IsPutOff (w : Stand) (x : Item) (client number : ℕ) (r : Reply) (es : List Entry) (after : Stand) : Type 0 where
  pub none : IsNone w es after
  pub place : x.place ≡ None
  pub reply : x.reply ≡ Some r
  pub told : told_by (handed_for w.epoch client number x.reply) ≡ x.reply

-- bytes that spell no request are refused, up or down; a call to a server that is down is told so
abbrev pub Takes : Stand → ℕ → Item → Bool → Sent → List Entry → Stand → Type 0
Takes w k x b (sent.Bytes bytes) es after = IsPutOff w x k 1 (Refused BadFrame) es after
Takes w k x true (sent.Call client epoch number c) es after = IsPutOff w x client number (Refused Down) es after
Takes w k x false (sent.Call client epoch number c) es after = IsTaken w x client epoch number c es after

-- ---- all that may happen

-- the entry of the restart, in the next epoch, with the joins that go on as ready parts and the stamps of the decisions that go on
pub record IsRestart (w : Stand) (es : List Entry) (after : Stand) : Type 0 where
  pub entry : Entry
  pub clock : ℕ
  pub parts : List JoinNo
  pub stamps : List Stamp
  pub one : es ≡ entry ∷ []
  pub is : entry ≡ record { event = event.Restart; reply = None; acts = act.Regained (w.epoch + 1) clock parts stamps ∷ [] }
  pub behind : after ≡ stand_again w entry

-- What happened made these entries. What a settling finds open is said where the server's vault tells what it holds.
abbrev pub Happens : Bool → Stand → Happening → List Entry → Stand → Type 0
Happens tells w (sent_it k x) es after = (x.server ≡ w.server) × Takes w k x w.is_down x.sent es after
Happens tells w (timed_out t) es after = ComesTo w w.is_down (event.Timeout t) es after
Happens tells w ticked es after = ComesTo w w.is_down event.Tick es after
Happens tells w forced es after = ComesTo w w.is_down event.Force es after
Happens tells w (stop_set calls) es after = (es ≡ []) × (after ≡ stand_set w)
Happens tells w (restarted pick) es after = IsRestart w es after
Happens tells w (lifts is_down) es after = (is_down ≡ w.is_down) × (es ≡ []) × (after ≡ record w { is_fused = false })
Happens tells w (finds least) es after = (IsTrue tells → IsLeastOpen w.state least) × IsNone w es after

-- all that happened, one after the other, made these entries
abbrev pub AreRecorded : Bool → Stand → List Happening → List Entry → Stand → Type 0
AreRecorded tells w [] es after = IsNone w es after
AreRecorded tells w (h ∷ hs) es after =
    (own : List Entry) × (others : List Entry) × (mid : Stand) × (es ≡ own ++ others) × Happens tells w h own mid × AreRecorded tells mid hs others after
