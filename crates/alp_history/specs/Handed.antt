-- What is given of the items of clients, and what they may rely on of what they were told.
use Rattle.std.specs.Prelude.{◌≡◌, ℕ, ◌<◌, ◌≤◌, true, ◌⊎◌, List, [], ◌∷◌, ◌++◌, Option, None, Some, slice_get}
use Rattle.std.specs.List.{AllByRecursion}
use Rattle.std.specs.declared.cmp.Ordering.TheVariants.{Less}
use Rattle.alp_base.specs.declared.ids.TransId.{TransId}
use Rattle.alp_base.specs.declared.ids.Stamp.{Stamp}
use Rattle.alp_files.specs.declared.call.Call.{Call}
use Rattle.alp_files.specs.declared.call.Call.TheVariants as call
use Rattle.alp_files.specs.declared.reply.Reply.{Reply}
use Rattle.alp_files.specs.declared.reply.Reply.TheVariants as reply
use Rattle.alp_files.specs.declared.refusal.Refusal.TheVariants as refusal
use Rattle.alp_journal.specs.declared.event.Event.TheVariants as event
use Rattle.alp_journal.specs.declared.entry.Entry.{Entry}
use Rattle.alp_journal.specs.Ids.{stamp_cmp}
use Rattle.alp_journal.specs.Moves.{is_new}
use Rattle.alp_history.specs.Items.{Mark, Own, Repeated, Raw, Sent, Item, IsRaw, IsOwn, stamps_told}
use Rattle.alp_history.specs.Log.{Log, Decision, journal_of, opening_of, state_at, decided, IsIn}

-- ---- what is given of items: that they are as their clients' machine and the servers leave them

-- the entry at this place is of the call that was sent, and its reply was handed
pub record IsOfEntry (log : Log) (x : Item) (i : ℕ) : Type 0 where
  pub entry : Entry
  pub sent : Sent
  pub stands : slice_get (journal_of log x.server) i ≡ Some entry
  pub said : x.sent ≡ Some sent
  pub called : entry.event ≡ event.Call sent.client sent.epoch sent.number sent.call
  pub handed : x.reply ≡ entry.reply

-- without an entry a client is told that its bytes are no frame, or that the server is down
abbrev pub IsOfNone : Option Reply → Type 0
IsOfNone r = (r ≡ Some (reply.Refused refusal.BadFrame)) ⊎ (r ≡ Some (reply.Refused refusal.Down))

abbrev pub IsOfPlace : Log → Item → Option ℕ → Type 0
IsOfPlace log x None = IsOfNone x.reply
IsOfPlace log x (Some i) = IsOfEntry log x i

-- each greeting has the number 1 of the epoch 0, also the next one after a restart
abbrev pub IsNoGreeting : Call → Type 0
IsNoGreeting (call.Hello name) = ⊥
IsNoGreeting c = Unit {0}

-- the same number of the same client and epoch at the same server, at an earlier entry, in a call that is no greeting
pub record IsBefore (x y : Item) : Type 0 where
  pub later : Sent
  pub earlier : Sent
  pub there : ℕ
  pub here : ℕ
  pub later_sent : x.sent ≡ Some later
  pub earlier_sent : y.sent ≡ Some earlier
  pub later_place : x.place ≡ Some here
  pub earlier_place : y.place ≡ Some there
  pub server : y.server ≡ x.server
  pub client : earlier.client ≡ later.client
  pub epoch : earlier.epoch ≡ later.epoch
  pub number : earlier.number ≡ later.number
  pub order : there < here
  pub no_greeting : IsNoGreeting earlier.call

-- a raw line, of whichever client, sent this number first: it counted as a new call there, and its reply was kept for it
pub record IsOfRaw (log : Log) (x : Item) : Type 0 where
  pub owner : ℕ
  pub first : Item
  pub among : IsIn first (log.handed owner)
  pub raw : IsRaw first.mark
  pub before : IsBefore x first
  pub counted : is_new (state_at log first.server before.there) before.earlier.client before.earlier.epoch before.earlier.number ≡ true
  pub kept : x.reply ≡ first.reply

-- a Begin of the client's own line has seen all that the client was told before
abbrev pub HasSeenBy : List Stamp → Call → Type 0
HasSeenBy before (call.Begin seen) = AllByRecursion (λ (s : Stamp). s.ts ≤ seen.ts) before
HasSeenBy before c = Unit {0}

abbrev pub HasSeenIn : List Stamp → Option Sent → Type 0
HasSeenIn before None = Unit {0}
HasSeenIn before (Some s) = HasSeenBy before s.call

abbrev pub HasSeen : List Stamp → Mark → Option Sent → Type 0
HasSeen before Own s = HasSeenIn before s
HasSeen before Repeated s = Unit {0}
HasSeen before Raw s = Unit {0}

abbrev pub HaveSeen : List Stamp → List Item → Type 0
HaveSeen before [] = Unit {0}
HaveSeen before (x ∷ xs) = HasSeen before x.mark x.sent × HaveSeen (before ++ stamps_told x) xs

-- an Outcome that is no raw line's names a transaction of this run
abbrev pub IsOfRunBy : Log → Call → Type 0
IsOfRunBy log (call.Outcome t) = (opening_of log t.server).epoch ≤ t.epoch
IsOfRunBy log c = Unit {0}

abbrev pub IsOfRunIn : Log → Option Sent → Type 0
IsOfRunIn log None = Unit {0}
IsOfRunIn log (Some s) = IsOfRunBy log s.call

abbrev pub IsOfRun : Log → Mark → Option Sent → Type 0
IsOfRun log Own s = IsOfRunIn log s
IsOfRun log Repeated s = IsOfRunIn log s
IsOfRun log Raw s = Unit {0}

-- whichever client a line names: that none but a raw line names another one is not asked
pub record AreOfClients (log : Log) : Type 0 where
  pub replies : (client : ℕ) (x : Item) → IsIn x (log.handed client) → IsOfPlace log x x.place
  -- each call that stands in a journal is one of them
  pub whole : (client n i epoch number : ℕ) (c : Call) (e : Entry) → slice_get (journal_of log n) i ≡ Some e → e.event ≡ event.Call client epoch number c
      → (owner : ℕ) × (x : Item) × IsIn x (log.handed owner) × (x.server ≡ n) × (x.place ≡ Some i)
  -- only a raw line may have sent the number of a client's own line before
  pub fresh : (client owner : ℕ) (x y : Item) → IsIn x (log.handed client) → IsIn y (log.handed owner) → IsOwn x.mark → IsBefore x y → IsRaw y.mark
  pub seen : (client : ℕ) → HaveSeen [] (log.handed client)
  pub outcomes : (client : ℕ) (x : Item) → IsIn x (log.handed client) → IsOfRun log x.mark x.sent

-- ---- what follows

abbrev pub IsDecidedStamp : Log → Stamp → Type 0
IsDecidedStamp log s = (d : Decision) × IsIn d (decided log) × (d.0 ≡ s)

-- the decision, if it is this transaction's, has a stamp above these
abbrev pub IsAbove : List Stamp → TransId → Decision → Type 0
IsAbove before t d = d.0.trans ≡ t → AllByRecursion (λ s. stamp_cmp s d.0 ≡ Less) before

-- a transaction that the client's own line began, and no raw line, has a stamp, if it gets one, above all these
abbrev pub BeginsAbove : Log → List Stamp → Item → Mark → Option Reply → Type 0
BeginsAbove log before x Own (Some (reply.Begun t)) = IsOfRaw log x ⊎ ((d : Decision) → IsIn d (decided log) → IsAbove before t d)
BeginsAbove log before x m r = Unit {0}

abbrev pub BeginAbove : Log → List Stamp → List Item → Type 0
BeginAbove log before [] = Unit {0}
BeginAbove log before (x ∷ xs) = BeginsAbove log before x x.mark x.reply × BeginAbove log (before ++ stamps_told x) xs

pub record ArePromisesKept (log : Log) : Type 0 where
  -- each stamp told is of a decided transaction, but in replies that were kept for a number which a raw line sent first
  pub told : (client : ℕ) (x : Item) (s : Stamp) → IsIn x (log.handed client) → IsIn s (stamps_told x) → IsOfRaw log x ⊎ IsDecidedStamp log s
  -- what a client begins comes after all that it was told before
  pub begun : (client : ℕ) → BeginAbove log [] (log.handed client)
