-- What a worker does.
use Rattle.std.specs.Prelude.{◌≡◌, ◌⊎◌, ℕ, ◌+◌, ◌<◌, ◌≤◌, ◌==◌, Bool, true, false, List, [], ◌∷◌, ◌++◌, length, take, Option, None, Some, option_map, slice_get, if◌then◌else◌}
use Rattle.std.specs.List.{AllByRecursion}
use Rattle.alp_fields.specs.Forms.{whole}
use Rattle.alp_files.specs.declared.call.Call.{Call}
use Rattle.alp_files.specs.declared.reply.Reply.{Reply}
use Rattle.alp_rpc.specs.Frames.{request, reply_frame}
use Rattle.alp_journal.specs.declared.event.Event.{Event}
use Rattle.alp_journal.specs.declared.event.Event.TheVariants as event
use Rattle.alp_journal.specs.declared.log.Item.{Item}
use Rattle.alp_journal.specs.declared.log.Sent.{Sent}
use Rattle.alp_journal.specs.declared.log.Sent.TheVariants as sent
use Rattle.alp_lines.specs.declared.line.Line.{Line}
use Rattle.alp_session.specs.Crowd.{Crowd}
use Rattle.alp_session.specs.Crowds.{client_at, request_next}
use Rattle.alp_session.specs.Frames.{IsReady, told_by, mark_of, sent_by}
use Rattle.alp_session.specs.declared.frames.Addressed.{Addressed}
use Rattle.alp_jobs.specs.Deeds.{Deed, sends, gives_tick, gives_timeout}
use Rattle.alp_jobs.specs.Does.{asked_at, tick_due}
use Rattle.alp_jobs.specs.Lines.{KeepsLines, StaysOurs}
use Rattle.alp_jobs.specs.Jobs.{DoesRest, Does, frame_due, timeout_due, after_frame, after_unheard}
use Rattle.alp_jobs.specs.States.{JobState}
use Rattle.alp_monitor.specs.Passes.{turns, front, first_base}
use Rattle.alp_monitor.specs.declared.monitor.Monitor.{Monitor}
use Rattle.alp_monitor.specs.declared.monitor.Pass.{Pass}
use Rattle.alp_carrier.specs.Takes.{IsLater}
use Rattle.alp_storm.specs.Logs.{Log, shows_fault}
use Rattle.alp_storm.specs.Rings.{IsRing, IsTurned, StandsAt}
use Rattle.alp_storm.specs.Turns.{WasMade, IsIdle, IsBroken, HasTaken, EndsTurn}
use Rattle.alp_storm.specs.declared.fault.StormFault.{StormFault}
use Rattle.alp_storm.specs.declared.fault.StormFault.TheVariants as fault
use Rattle.alp_storm.specs.declared.host.Answer.{Answer}

-- ---- deeds

-- the server of a deed
abbrev pub server_of : Deed → ℕ
server_of (sends x) = x.server
server_of (gives_tick server) = server
server_of (gives_timeout server t) = server

-- the deeds at the server of this number, in order
abbrev pub deeds_at : ℕ → List Deed → List Deed
deeds_at n [] = []
deeds_at n (d ∷ ds) = if server_of d == n then d ∷ deeds_at n ds else deeds_at n ds

-- what was sent and handed
abbrev pub item_of : Deed → List Item
item_of (sends x) = x ∷ []
item_of (gives_tick server) = []
item_of (gives_timeout server t) = []

abbrev pub items_of : List Deed → List Item
items_of [] = []
items_of (d ∷ ds) = item_of d ++ items_of ds

-- the bytes that a server in that epoch hands out where it answers so, and none where it is silent
abbrev pub handed_by : (epoch client number : ℕ) → Option Reply → Option (List ℕ)
handed_by epoch client number r = option_map (λ y. reply_frame.spell (record { client = client; epoch = epoch; number = number; reply = y })) r

-- what was sent is that event, and the bytes that the server hands out for the reply tell just that
abbrev pub IsCallOf : ℕ → Sent → Option Reply → Event → Type 0
IsCallOf here (sent.Call client epoch number call) r e = (e ≡ event.Call client epoch number call) × (told_by (handed_by here client number r) ≡ r)
IsCallOf here (sent.Bytes bytes) r e = ⊥

-- the event that a deed makes at its server
abbrev pub IsEventOf : ℕ → Deed → Event → Type 0
IsEventOf here (sends x) e = IsCallOf here x.sent x.reply e
IsEventOf here (gives_tick server) e = e ≡ event.Tick
IsEventOf here (gives_timeout server t) e = e ≡ event.Timeout t

-- it has the item's reply, and the item its place
abbrev pub IsItemOf : Deed → Option Reply → ℕ → Type 0
IsItemOf (sends x) r place = (x.reply ≡ r) × (x.place ≡ Some place) × (x.line ≡ 0)
IsItemOf (gives_tick server) r place = Unit {0}
IsItemOf (gives_timeout server t) r place = Unit {0}

-- ---- what a job has due

-- its frame goes to that server, and spells that call
pub record HasCallDue (j : JobState) (server client epoch number : ℕ) (asked : Call) : Type 0 where
  pub frame : Addressed
  pub due : frame_due j ≡ Some frame
  pub there : frame.server ≡ server
  pub spelled : sent_by frame.bytes ≡ sent.Call client epoch number asked

-- the event that its next deed makes at the server of this number
abbrev pub HasDue : JobState → (server : ℕ) → Event → Type 0
HasDue j server (event.Call client epoch number asked) = HasCallDue j server client epoch number asked
HasDue j server (event.Timeout t) = timeout_due j ≡ Some (server, t)
HasDue j server event.Tick = tick_due j.stage ≡ Some server
HasDue j server e = ⊥

-- its next deed goes to that server
pub record HasDueThere (j : JobState) (server : ℕ) : Type 0 where
  pub asked : Event
  pub due : HasDue j server asked

-- its frame spells no request, and is none that its client asks anew
pub record HasBadFrame (j : JobState) : Type 0 where
  pub frame : Addressed
  pub due : frame_due j ≡ Some frame
  pub unread : whole request frame.bytes ≡ None
  pub unasked : request_next j.crowd j.number j.line (asked_at j.stage) ≡ None

-- the item of a line that sent the frame
abbrev pub item_for : Line → Addressed → Sent → Answer → Item
item_for l frame said a = record { line = 0; server = frame.server; mark = mark_of l; sent = said; reply = a.reply; place = Some a.place }

module _ {B E : Type 0} (log : Log B E) (b : B) (history : List (ℕ × E)) where
  -- the turn, which stands at its place of the history, is this deed's
  pub record IsTurnOf (d : Deed) (t : ℕ × E) : Type 0 where
    pub what : Event
    pub what_is : IsEventOf (log.epoch b) d what
    pub was : WasMade log b history what t
    pub item : IsItemOf d (log.entry t.1).reply (log.since b + t.0)
    pub calm : shows_fault (log.entry t.1) ≡ false

  -- the turns are the deeds', one for one
  abbrev pub AreTurnsOf : List Deed → List (ℕ × E) → Type 0
  AreTurnsOf [] [] = Unit {0}
  AreTurnsOf (d ∷ ds) (t ∷ ts) = IsTurnOf d t × AreTurnsOf ds ts
  AreTurnsOf [] (t ∷ ts) = ⊥
  AreTurnsOf (d ∷ ds) [] = ⊥

module _ {S B E : Type 0} (base_of : S → B) (log : Log B E) where
  -- the further turns of a pass at one monitor are the deeds at its server
  pub record Takes (m : Monitor S B E) (ds : List Deed) (before now : Pass S B E) : Type 0 where
    pub later : IsLater base_of m before now
    pub more : List (ℕ × E)
    pub turns_are : turns now ≡ turns before ++ more
    pub deeds_are : AreTurnsOf log (first_base base_of m) (front now) ds more

  -- so they are at each
  abbrev pub TakeAll : List (Monitor S B E) → List Deed → List (Pass S B E) → List (Pass S B E) → Type 0
  TakeAll ms ds before now = (i : ℕ) (m : Monitor S B E) (p q : Pass S B E) → slice_get ms i ≡ Some m → slice_get before i ≡ Some p → slice_get now i ≡ Some q → Takes m (deeds_at (i + 1) ds) p q

  -- A worker came so far: from this job to that, by these deeds. They are the turns of its passes, server by server, at these servers alone,
  -- and what it was handed is its items. The lines that are left are some of its lines, and speak of the same servers.
  pub record HasWorked (ms : List (Monitor S B E)) (k : ℕ) (job : JobState) (ring : List (Pass S B E)) (now : JobState) (ring_now : List (Pass S B E)) : Type 0 where
    pub ring_is : IsRing base_of ms k ring_now
    pub ready : IsReady now.number (client_at now.crowd now.number)
    pub number_is : now.number ≡ job.number
    pub deeds : List Deed
    pub did : (ds : List Deed) (d : Crowd) → DoesRest now ds d → DoesRest job (deeds ++ ds) d
    pub took : TakeAll ms deeds ring ring_now
    pub within : AllByRecursion (λ (d : Deed). (1 ≤ server_of d) × (server_of d ≤ length ms)) deeds
    pub items_are : now.items ≡ job.items ++ items_of deeds
    pub lines : KeepsLines job now
    pub ours : StaysOurs job deeds now

  -- it took its turn at the server of this number, and was answered
  pub record HasTurned (ms : List (Monitor S B E)) (server : ℕ) (e : Event) (before now : List (Pass S B E)) (a : Answer) : Type 0 where
    pub place : ℕ
    pub stands : StandsAt (length ms) server place
    pub turned : IsTurned base_of ms place (λ m p q. HasTaken base_of log m e p q a) before now

  -- the turn of the event that its job had due ended so
  pub record EndsDue (ms : List (Monitor S B E)) (f : StormFault) (job : JobState) (before now : List (Pass S B E)) : Type 0 where
    pub place : ℕ
    pub asked : Event
    pub due : HasDue job (place + 1) asked
    pub ended : IsTurned base_of ms place (λ m p q. EndsTurn base_of log m asked p q f) before now

  -- its frame had its turn and was answered, and its client did not hear the reply. The item tells it all the same.
  pub record GoesUnheard (ms : List (Monitor S B E)) (job now : JobState) (before ring : List (Pass S B E)) : Type 0 where
    pub frame : Addressed
    pub due : frame_due job ≡ Some frame
    pub client : ℕ
    pub epoch : ℕ
    pub number : ℕ
    pub asked : Call
    pub spelled : sent_by frame.bytes ≡ sent.Call client epoch number asked
    pub answer : Answer
    pub turned : HasTurned ms frame.server (event.Call client epoch number asked) before ring answer
    pub now_is : now ≡ after_unheard job (item_for job.line frame (sent.Call client epoch number asked) answer)

  -- where memory was refused: before a turn or without one, in the turn that was due, or behind it
  pub data WantsMemory (ms : List (Monitor S B E)) (job now : JobState) (before ring : List (Pass S B E)) : Type 0 where
    before_turn : now ≡ job → ring ≡ before → WantsMemory ms job now before ring
    in_turn : now ≡ job → EndsDue ms fault.OutOfMemory job before ring → WantsMemory ms job now before ring
    behind_turn : GoesUnheard ms job now before ring → WantsMemory ms job now before ring

  -- Why a worker does not come to the end of its job, from where it stood. A number that is no server's has its cause in what was due, and so
  -- have a frame that spells no request, a device that failed, a server that is down, and a journal that is full.
  abbrev pub EndsWork : List (Monitor S B E) → StormFault → JobState → List (Pass S B E) → JobState → List (Pass S B E) → Type 0
  EndsWork ms (fault.NoServer server) job before now ring = (now ≡ job) × (ring ≡ before) × ((server ≡ 0) ⊎ (length ms < server)) × HasDueThere job server
  EndsWork ms fault.BadFrame job before now ring = (now ≡ job) × (ring ≡ before) × HasBadFrame job
  EndsWork ms fault.OutOfMemory job before now ring = WantsMemory ms job now before ring
  EndsWork ms f job before now ring = (now ≡ job) × EndsDue ms f job before ring

  -- a worker that came so far, and no further for this cause
  pub record HasStopped (ms : List (Monitor S B E)) (k : ℕ) (f : StormFault) (job : JobState) (ring : List (Pass S B E)) (now : JobState) (ring_now : List (Pass S B E)) : Type 0 where
    pub mid : JobState
    pub before : List (Pass S B E)
    pub worked : HasWorked ms k job ring mid before
    pub ring_is : IsRing base_of ms k ring_now
    pub why : EndsWork ms f mid before now ring_now

  -- a worker that came back: to the end of its job, or not
  abbrev pub IsBack : List (Monitor S B E) → ℕ → Option StormFault → JobState → List (Pass S B E) → JobState → List (Pass S B E) → Type 0
  IsBack ms k None job ring now ring_now = HasWorked ms k job ring now ring_now × DoesRest now [] now.crowd
  IsBack ms k (Some f) job ring now ring_now = HasStopped ms k f job ring now ring_now

-- why a frame is not read
abbrev pub IsUnread : List ℕ → StormFault → Type 0
IsUnread bytes fault.OutOfMemory = Unit {0}
IsUnread bytes fault.BadFrame = whole request bytes ≡ None
IsUnread bytes f = ⊥

-- ---- what a client hears

-- the client heard the reply, which the bytes of the server tell
pub record Hears (job : JobState) (frame : Addressed) (x : Item) (client number : ℕ) (a : Answer) (now : JobState) : Type 0 where
  pub now_is : now ≡ after_frame job frame x
  pub does : Does job (sends x) now
  pub told : told_by (handed_by a.epoch client number a.reply) ≡ a.reply

-- ---- steps, wherever a worker came from

module _ {S B E : Type 0} (base_of : S → B) (log : Log B E) (ms : List (Monitor S B E)) (k : ℕ) where
  abbrev pub WorksOn : JobState → List (Pass S B E) → JobState → List (Pass S B E) → Type 0
  WorksOn job ring now ring_now = (old : JobState) (first : List (Pass S B E)) → HasWorked base_of log ms k old first job ring → HasWorked base_of log ms k old first now ring_now

  abbrev pub StopsIn : StormFault → JobState → List (Pass S B E) → JobState → List (Pass S B E) → Type 0
  StopsIn f job ring now ring_now = (old : JobState) (first : List (Pass S B E)) → HasWorked base_of log ms k old first job ring → HasStopped base_of log ms k f old first now ring_now
