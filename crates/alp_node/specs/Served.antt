-- The events that a server answers.
use Rattle.std.specs.Prelude.{◌≡◌, ◌^◌, ◌≤◌, Some}
use Rattle.std.specs.FinMap as map
use Rattle.alp_base.specs.declared.ids.TransId.{TransId}
use Rattle.alp_files.specs.Changes.{edits_of}
use Rattle.alp_files.specs.Edits.{edits_map}
use Rattle.alp_files.specs.Sound.{AreSound}
use Rattle.alp_trans.specs.Parts.{change_of}
use Rattle.alp_vault.specs.Contents.{Contents}
use Rattle.alp_node.specs.declared.lives.Live.{Live}
use Rattle.alp_files.specs.declared.call.Call.{Call}
use Rattle.alp_files.specs.declared.call.Call.TheVariants as call
use Rattle.alp_files.specs.Locks.{IsFormed}
use Rattle.alp_journal.specs.declared.event.Event.{Event}
use Rattle.alp_journal.specs.declared.event.Event.TheVariants as event
use Rattle.alp_node.specs.declared.server_state.ServerState.{ServerState}
use Rattle.alp_node.specs.Calls.{IsServedCall}
use Rattle.alp_journal.specs.Timely.{IsTimelyMessage}
use Rattle.alp_node.specs.Shapes.{ReadsSome}

-- What a server asks of an event. Each line says what it leaves out.

-- a call that may be asked
abbrev pub IsAskable : Call → Type 0
-- a greeting, by any name and at any time: nothing is left out
IsAskable (call.Hello name) = Unit {0}
-- a begin whose client saw a time of at most 2^62: later times are no times, no frame spells one, and so this stays
IsAskable (call.Begin seen) = seen.ts ≤ 2 ^ 62
-- a commit or an abort, of whatever transaction: nothing is left out
IsAskable (call.Finish t commit) = Unit {0}
-- a collect of whatever number: nothing is left out
IsAskable (call.Collect number) = Unit {0}
-- the question how a transaction stands, whichever it is: nothing is left out
IsAskable (call.Outcome t) = Unit {0}
-- a join of whatever transaction: nothing is left out
IsAskable (call.Join t) = Unit {0}
-- A file call of the grammar of frames, which stays, and with either choice. A run that is read is not empty. A file is opened in any mode,
-- and its pages are locked to be read, to be read and perhaps written, or to be written.
IsAskable c = IsServedCall c × IsFormed c × ReadsSome c

-- a call of a session that stands
abbrev pub IsTurnCall : Call → Type 0
-- a greeting begins a session and is no call of one
IsTurnCall (call.Hello name) = ⊥
-- each other call that may be asked
IsTurnCall c = IsAskable c

-- the named premise of a step
abbrev pub IsServed : Event → Type 0
-- A call of a client with a number from 1 to 16, which stays: those are the clients of a run. It has any epoch
-- and any number. Left out is what `IsAskable` leaves out.
IsServed (event.Call client epoch number c) = (1 ≤ client) × (client ≤ 16) × IsAskable c
-- a timeout, of whatever transaction: nothing is left out
IsServed (event.Timeout t) = Unit {0}
-- a tick, and a force: nothing is left out
IsServed event.Tick = Unit {0}
IsServed event.Force = Unit {0}
-- any message, from whomever, which tells no time later than the last there is: later times are no times
IsServed (event.Arrive from m) = IsTimelyMessage m
-- a restart is no event of a server that is up
IsServed event.Restart = ⊥

-- what each live part intends leaves well-formed files
abbrev pub AreLivesSound : {V : Type 0} → Contents → ServerState V → Type 0
AreLivesSound held k = (t : TransId) (l : Live) → map.get k.lives t ≡ Some l → AreSound (edits_map (edits_of (change_of l.part.intents)) held.cells)
