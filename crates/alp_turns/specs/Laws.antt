-- What a release comes to: the table's walk over its queue, and the journal's over its waiting list.
use Rattle.std.specs.Prelude.{◌≡◌, List, [], Some, IsSome, map as list_map}
use Rattle.std.specs.List.{AllByRecursion}
use Rattle.alp_base.specs.declared.ids.TransId.{TransId}
use Rattle.alp_files.specs.declared.call.Call.{Call}
use Rattle.alp_locks.specs.Tables.{Holders, Table, IsAgreeing}
use Rattle.alp_locks.specs.Releases.{walked}
use Rattle.alp_journal.specs.Holder.{Holder}
use Rattle.alp_journal.specs.Desk.{Waiting}
use Rattle.alp_journal.specs.Account.{holder_granted, waits_granted, granted_calls, call_on}
use Rattle.alp_journal.specs.Answered.{in_turn, IsWalk}
use Rattle.alp_turns.specs.Queues.{AreHeldAlike, AreCallsApart, queue_of}

-- the transactions of these grants
abbrev pub trans_in : List (TransId × Call) → List TransId
trans_in gs = list_map (λ g. g.0) gs

-- Just whom the journal grants the table wakes, in that order, each for the call that waits on it, and each lives. Then each part that lives holds what the table says, and the
-- queue is that of the calls that wait still.
pub record GivesOnAlike (h : Holder) (ws : List Waiting) (after : Table) : Type 0 where
  pub given : List (TransId × Call)
  pub walk : IsWalk h (in_turn h ws) (trans_in given)
  pub calls : granted_calls ws (trans_in given) ≡ given
  pub called : AllByRecursion (λ (g : TransId × Call). call_on ws g.0 ≡ Some g.1) given
  pub living : AllByRecursion (λ (t : TransId). IsSome (h.lives t)) (trans_in given)
  pub woken : after.woken ≡ trans_in given
  pub alike : AreHeldAlike (holder_granted h given) after.held
  pub queue : after.waiting ≡ queue_of (holder_granted h given) after.held (waits_granted ws given)

-- a table whose locks agree walks its queue as the journal walks its list
abbrev pub WalksAlike : Type 0
WalksAlike = (h : Holder) (parts : Holders) (ws : List Waiting) → AreHeldAlike h parts → IsAgreeing parts → AreCallsApart ws
    → GivesOnAlike h ws (walked (record { held = parts; waiting = []; woken = [] }) (queue_of h parts ws))
