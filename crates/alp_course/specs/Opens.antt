-- What is open at a server, and whether all is at rest there.
use Rattle.std.specs.Prelude.{◌≡◌, ◌⊎◌, ◌↔◌, ℕ, Bool, true, false, List, Option, Some, slice_get}
use Rattle.std.specs.List.{Contains}
use Rattle.std.specs.List.Sorted.{IsStrictlySortedBy}
use Rattle.alp_base.specs.Orders.{trans_cmp}
use Rattle.alp_base.specs.declared.ids.JoinNo.{JoinNo}
use Rattle.alp_base.specs.declared.ids.TransId.{TransId}
use Rattle.alp_journal.specs.Coordinator.{Fate, Running}
use Rattle.alp_journal.specs.Participant.{open_in}
use Rattle.alp_journal.specs.State.{State}
use Rattle.alp_history.specs.Theorems.{IsSettled}

-- a transaction of this server that runs, and that nobody asked to finish
abbrev pub is_unasked : Fate → Bool
is_unasked (Running client js) = true
is_unasked f = false

-- the join is of this transaction, and did not vote
pub record IsUnvoted (s : State) (t : TransId) (j : JoinNo) : Type 0 where
  pub client : ℕ
  pub part : open_in (s.phases j) ≡ Some (t, client)

-- The transaction has an open part there: it is the server's own and is not finishing, or it has a part there that did not vote.
abbrev pub HasOpenPart : State → TransId → Type 0
HasOpenPart s t = (is_unasked (s.fates t) ≡ true) ⊎ ((j : JoinNo) × IsUnvoted s t j)

-- these are the transactions that have open parts, least id first
pub record AreOpen (s : State) (ts : List TransId) : Type 0 where
  pub rise : IsStrictlySortedBy trans_cmp ts
  pub parts : (t : TransId) → Contains ts t ↔ HasOpenPart s t

-- the first of those, if there is one
pub record IsLeastOpen (s : State) (x : Option TransId) : Type 0 where
  pub all : List TransId
  pub are : AreOpen s all
  pub first : x ≡ slice_get all 0

-- it tells whether no part lives there, none is ready, and no decision stands
abbrev pub IsRestOf : Bool → State → Type 0
IsRestOf rests s = (rests ≡ true) ↔ IsSettled s
