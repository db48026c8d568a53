-- A worker's turn at a monitor.
use Rattle.std.specs.Prelude.{◌≡◌, ◌⊎◌, ℕ, ◌+◌, ◌<◌, ◌≤◌, Bool, true, false, List, [], ◌∷◌, ◌++◌, length, take, IfSome, Result, Ok, Err}
use Rattle.alp_rpc.specs.Replies as replies
use Rattle.alp_journal.specs.Answered.{entries_limit}
use Rattle.alp_journal.specs.declared.event.Event.{Event}
use Rattle.alp_monitor.specs.History.{entries_in}
use Rattle.alp_monitor.specs.Passes.{turns, front, first_base}
use Rattle.alp_monitor.specs.declared.monitor.Monitor.{Monitor}
use Rattle.alp_monitor.specs.declared.monitor.Pass.{Pass}
use Rattle.alp_carrier.specs.Takes.{IsLater}
use Rattle.alp_storm.specs.Logs.{Log, IsMadeOf, shows_fault, has_failed}
use Rattle.alp_storm.specs.declared.fault.StormFault.{StormFault}
use Rattle.alp_storm.specs.declared.fault.StormFault.TheVariants as fault
use Rattle.alp_storm.specs.declared.host.Answer.{Answer}

module _ {B E : Type 0} (log : Log B E) (b : B) (history : List (ℕ × E)) where
  -- the turn, which stands at its place of the history, is an entry of this event
  pub record WasMade (e : Event) (t : ℕ × E) : Type 0 where
    pub within : t.0 < length history
    pub made : IsMadeOf log b (take t.0 (entries_in history)) e t.1

  -- and it has this answer
  pub record WasAnswered (e : Event) (t : ℕ × E) (a : Answer) : Type 0 where
    pub was : WasMade e t
    pub reply_is : (log.entry t.1).reply ≡ a.reply
    pub calm : shows_fault (log.entry t.1) ≡ false
    pub place_is : a.place ≡ log.since b + t.0
    pub epoch_is : a.epoch ≡ log.epoch b
    pub sendable : IfSome a.reply replies.IsSendable

module _ {S B E : Type 0} (base_of : S → B) (log : Log B E) (m : Monitor S B E) where
  -- a pass after a turn in which it made no entry
  pub record IsIdle (before now : Pass S B E) : Type 0 where
    pub later : IsLater base_of m before now
    pub none : turns now ≡ turns before

  -- and after one in which the device failed
  pub record IsBroken (e : Event) (before now : Pass S B E) : Type 0 where
    pub later : IsLater base_of m before now
    pub turn : ℕ × E
    pub one : turns now ≡ turns before ++ turn ∷ []
    pub was : WasMade log (first_base base_of m) (front now) e turn
    pub shows : shows_fault (log.entry turn.1) ≡ true

  -- and after one that was answered
  pub record HasTaken (e : Event) (before now : Pass S B E) (a : Answer) : Type 0 where
    pub later : IsLater base_of m before now
    pub turn : ℕ × E
    pub one : turns now ≡ turns before ++ turn ∷ []
    pub was : WasAnswered log (first_base base_of m) (front now) e turn a

  -- Why it was not answered: the device failed in the turn or in an entry that the pass has seen; the journal is full; or memory was refused.
  abbrev pub EndsTurn : Event → Pass S B E → Pass S B E → StormFault → Type 0
  EndsTurn e before now (fault.DiskFault server) = (server ≡ log.server (first_base base_of m)) × (IsBroken e before now ⊎ (IsIdle before now × (has_failed log (first_base base_of m) (entries_in (front now)) ≡ true)))
  EndsTurn e before now (fault.JournalFull server) = (server ≡ log.server (first_base base_of m)) × IsIdle before now × (entries_limit ≤ log.since (first_base base_of m) + length (front now))
  EndsTurn e before now fault.OutOfMemory = IsIdle before now
  EndsTurn e before now f = ⊥

  abbrev pub Took : Event → Pass S B E → Pass S B E → Result Answer StormFault → Type 0
  Took e before now (Ok a) = HasTaken e before now a
  Took e before now (Err f) = EndsTurn e before now f
