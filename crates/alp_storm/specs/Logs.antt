-- What workers see of a server, and what a step of it does.
use Rattle.std.specs.Prelude.{◌≡◌, ◌⊎◌, ℕ, ◌+◌, ◌<◌, ◌≤◌, ◌^◌, ◌||◌, Bool, true, false, List, [], ◌∷◌, ◌++◌, length, Option, IfSome}
use Rattle.std.specs.List.{list_any}
use Rattle.alp_rpc.specs.Frames.{request, IsSendable}
use Rattle.alp_rpc.specs.Replies as replies
use Rattle.alp_rpc.specs.declared.frame.Request.{Request}
use Rattle.alp_journal.specs.Answered.{is_read_fault, entries_limit}
use Rattle.alp_journal.specs.Moves.{stops}
use Rattle.alp_journal.specs.declared.act.Act.{Act}
use Rattle.alp_journal.specs.declared.act.Act.TheVariants as act
use Rattle.alp_journal.specs.declared.entry.Entry.{Entry}
use Rattle.alp_journal.specs.declared.event.Event.{Event}
use Rattle.alp_journal.specs.declared.event.Event.TheVariants as event
use Rattle.alp_storm.specs.declared.fault.StormFault.{StormFault}
use Rattle.alp_storm.specs.declared.fault.StormFault.TheVariants as fault
use Rattle.alp_storm.specs.declared.host.Answer.{Answer}

-- What workers see of a server. Its base and the list of its entries say all of it.
pub record Log (B E : Type 0) : Type 0 where
  -- the entry of its journal, and the rank of that
  pub entry : E → Entry
  pub rank : E → ℕ
  -- the rank of the last entry
  pub last : B → List E → ℕ
  -- how many entries stood in its journal before the first of these
  pub since : B → ℕ
  pub server : B → ℕ
  pub epoch : B → ℕ

-- the device failed in the entry: the server is down by it, or the reply tells that a read failed
abbrev pub is_failure : Act → Bool
is_failure act.Failed = true
is_failure a = false

abbrev pub shows_fault : Entry → Bool
shows_fault e = is_read_fault e.reply || list_any is_failure e.acts

-- the request of a call
abbrev pub IsSpelled : Request → Type 0
IsSpelled r = request.Fits r × IsSendable r

-- what a worker asks of a server: a call that a frame may spell, a Timeout or a Tick
abbrev pub IsWorkers : Event → Type 0
IsWorkers (event.Call client epoch number call) = IsSpelled (record { client = client; epoch = epoch; number = number; call = call })
IsWorkers (event.Timeout t) = Unit {0}
IsWorkers event.Tick = Unit {0}
IsWorkers e = ⊥

module _ {B E : Type 0} (log : Log B E) (b : B) where
  -- the device failed in one of these
  abbrev pub has_failed : List E → Bool
  has_failed es = list_any (λ x. shows_fault (log.entry x)) es

  -- The entry that a worker makes of an event, after these entries. None of them stopped the server, and its journal had room for one more.
  pub record IsMadeOf (before : List E) (e : Event) (x : E) : Type 0 where
    pub event_is : (log.entry x).event ≡ e
    pub rank_is : log.rank x ≡ log.last b before + 1
    pub room : log.since b + length before < entries_limit
    pub up : list_any (λ y. stops (log.entry y)) before ≡ false

  -- one entry more, which has this answer
  pub record HasAnswered (before now : List E) (e : Event) (a : Answer) : Type 0 where
    pub entry : E
    pub made : IsMadeOf before e entry
    pub now_is : now ≡ before ++ entry ∷ []
    pub few : length before < 2 ^ 62
    pub reply_is : (log.entry entry).reply ≡ a.reply
    pub calm : shows_fault (log.entry entry) ≡ false
    pub place_is : a.place ≡ log.since b + length before
    pub epoch_is : a.epoch ≡ log.epoch b
    pub sendable : IfSome a.reply replies.IsSendable

  -- one entry more, which shows that the device failed in it
  pub record HasFailed (before now : List E) (e : Event) : Type 0 where
    pub entry : E
    pub made : IsMadeOf before e entry
    pub now_is : now ≡ before ++ entry ∷ []
    pub few : length before < 2 ^ 62
    pub shows : shows_fault (log.entry entry) ≡ true

  -- Why a step was not answered. Its device failed in it, or before and the server is down; its journal is full; or memory was refused.
  abbrev pub EndsStep : List E → List E → Event → StormFault → Type 0
  EndsStep before now e (fault.DiskFault server) = (server ≡ log.server b) × (HasFailed before now e ⊎ ((now ≡ before) × (has_failed before ≡ true)))
  EndsStep before now e (fault.JournalFull server) = (server ≡ log.server b) × (now ≡ before) × (entries_limit ≤ log.since b + length before)
  EndsStep before now e fault.OutOfMemory = now ≡ before
  EndsStep before now e f = ⊥
