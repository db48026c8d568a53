-- A run that ended before its script did: what was to come, and why it did not.
use Rattle.std.specs.Prelude.{◌≡◌, ◌<◌, ◌≤◌, ℕ, false, Option, None, Some, IsSome, Result, Ok, Err}
use Rattle.alp_base.specs.declared.faults.VaultFault.TheVariants as vault_fault
use Rattle.alp_fields.specs.Forms.{whole}
use Rattle.alp_journal.specs.Answered.{entries_limit}
use Rattle.alp_journal.specs.declared.event.Event.{Event}
use Rattle.alp_journal.specs.declared.event.Event.TheVariants as event
use Rattle.alp_journal.specs.declared.message.Message.{Message}
use Rattle.alp_node.specs.declared.start.StartFault.TheVariants as start_fault
use Rattle.alp_posts.specs.Posts.{post_at}
use Rattle.alp_rpc.specs.Frames.{request}
use Rattle.alp_rpc.specs.declared.frame.Request.{Request}
use Rattle.alp_course.specs.Courses.{Course, at, brings, repeats, AreTwo, seat_at, next_message, last_rank}
use Rattle.alp_course.specs.Happens.{Happening, timed_out, ticked, forced, restarted}
use Rattle.alp_course.specs.Plays.{Due, to_send, to_come}
use Rattle.alp_cluster.specs.declared.fault.RunFault.{RunFault}
use Rattle.alp_cluster.specs.declared.fault.RunFault.TheVariants as fault

-- ---- why a run goes no further

-- it makes an entry at a server that is up
abbrev pub MakesEntry : Happening → Type 0
MakesEntry (timed_out t) = Unit {0}
MakesEntry ticked = Unit {0}
MakesEntry forced = Unit {0}
MakesEntry h = ⊥

-- the server at which something is to come
abbrev pub server_due : Due → ℕ
server_due (to_send client frame) = frame.server
server_due (to_come (at n h)) = n
server_due (to_come (brings from to)) = to
server_due (to_come (repeats from to)) = to
server_due due = 0

-- it makes an entry there where that is up: a request of a client, an event, or a message of another server that is there
abbrev pub IsStepDue : Course → Due → Type 0
IsStepDue r (to_send client frame) = IsSome (whole request frame.bytes)
IsStepDue r (to_come (at n h)) = MakesEntry h
IsStepDue r (to_come (brings from to)) = AreTwo r from to × IsSome (next_message r from to)
IsStepDue r (to_come (repeats from to)) = AreTwo r from to × IsSome (post_at r.posts from to).last
IsStepDue r due = ⊥

-- by this event that happens
abbrev pub IsOfEvent : Happening → Event → Type 0
IsOfEvent (timed_out t) e = e ≡ event.Timeout t
IsOfEvent ticked e = e ≡ event.Tick
IsOfEvent forced e = e ≡ event.Force
IsOfEvent h e = ⊥

-- the event of that step: the call that the request asks, what happens, or the message
abbrev pub IsEventDue : Course → Due → Event → Type 0
IsEventDue r (to_send client frame) e = (asked : Request) × (whole request frame.bytes ≡ Some asked) × (e ≡ event.Call asked.client asked.epoch asked.number asked.call)
IsEventDue r (to_come (at n h)) e = IsOfEvent h e
IsEventDue r (to_come (brings from to)) e = (m : Message) × (next_message r from to ≡ Some m) × (e ≡ event.Arrive from m)
IsEventDue r (to_come (repeats from to)) e = (x : Message × ℕ) × ((post_at r.posts from to).last ≡ Some x) × (e ≡ event.Arrive from x.0)
IsEventDue r due e = ⊥

-- what is taken last saw this rank
abbrev pub seen_in : Option (Message × ℕ) → ℕ
seen_in None = 0
seen_in (Some x) = x.1

-- the rank that it saw: of a message that of its sender
abbrev pub seen_due : Course → Due → ℕ
seen_due r (to_come (brings from to)) = last_rank (seat_at r from).ranks
seen_due r (to_come (repeats from to)) = seen_in (post_at r.posts from to).last
seen_due r due = 0

abbrev pub IsRestartDue : Due → Type 0
IsRestartDue (to_come (at n (restarted pick))) = Unit {0}
IsRestartDue due = ⊥

-- the journal of a server that is up has no room for the entry of what was to come
pub record IsFullFor (r : Course) (due : Due) : Type 0 where
  pub step : IsStepDue r due
  pub up : (seat_at r (server_due due)).stand.is_down ≡ false
  pub full : entries_limit ≤ (seat_at r (server_due due)).stand.place

-- this server was to take a step: it is up, and its journal has room for the entry
pub record IsStepAt (server : ℕ) (r : Course) (due : Due) : Type 0 where
  pub step : IsStepDue r due
  pub there : server_due due ≡ server
  pub up : (seat_at r server).stand.is_down ≡ false
  pub room : (seat_at r server).stand.place < entries_limit

-- this server was to start again
pub record IsRestartAt (server : ℕ) (due : Due) : Type 0 where
  pub restart : IsRestartDue due
  pub there : server_due due ≡ server

-- it was, and had come to the last epoch
pub record HasNoEpochFor (server : ℕ) (r : Course) (due : Due) : Type 0 where
  pub again : IsRestartAt server due
  pub last : (seat_at r server).stand.epoch ≡ 4294967295

-- Why a run ended where it stands so and that was to come: a journal is full for it; the device of a server was to fail in the step; a server
-- was to start again, and did not. Where memory was wanting nothing is said of what was to come.
abbrev pub IsEndFor : RunFault → Course → Due → Type 0
IsEndFor fault.JournalFull r due = IsFullFor r due
IsEndFor (fault.DiskFault server) r due = IsStepAt server r due
IsEndFor (fault.Start server start_fault.EpochEnd) r due = HasNoEpochFor server r due
IsEndFor (fault.Start server f) r due = IsRestartAt server due
IsEndFor fault.OutOfMemory r due = Unit {0}

-- the device of this server is the one that failed, where that is the fault
abbrev pub IsFailing : RunFault → ℕ → Type 0
IsFailing (fault.DiskFault server) n = server ≡ n
IsFailing (fault.Start server (start_fault.Vault vault_fault.OutOfMemory)) n = ⊥
IsFailing (fault.Start server (start_fault.Vault f)) n = server ≡ n
IsFailing f n = ⊥

-- of the fault that ended a call
abbrev pub OnEndBy : RunFault → (RunFault → Type 0) → Type 0
OnEndBy (fault.DiskFault server) P = P (fault.DiskFault server)
OnEndBy fault.OutOfMemory P = P fault.OutOfMemory
OnEndBy fault.JournalFull P = P fault.JournalFull
OnEndBy (fault.Start server f) P = P (fault.Start server f)

abbrev pub OnEnd : {T : Type 0} → Result T RunFault → (RunFault → Type 0) → Type 0
OnEnd (Ok x) P = Unit {0}
OnEnd (Err f) P = OnEndBy f P
