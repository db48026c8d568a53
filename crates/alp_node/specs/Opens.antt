-- What is open at a server, and whether all is at rest there.
use Rattle.std.specs.Prelude.{◌≡◌, ◌⊎◌, ◌↔◌, ℕ, Bool, true, false, List, Option, None, Some, slice_get, if◌then◌else◌}
use Rattle.std.specs.List.{Contains}
use Rattle.std.specs.List.Sorted.{IsStrictlySortedBy}
use Rattle.std.specs.Ordering.{is_lt}
use Rattle.alp_base.specs.Orders.{trans_cmp}
use Rattle.alp_base.specs.declared.ids.JoinNo.{JoinNo}
use Rattle.alp_base.specs.declared.ids.Stamp.{Stamp}
use Rattle.alp_base.specs.declared.ids.TransId.{TransId}
use Rattle.alp_journal.specs.Coordinator.{Fate, Running}
use Rattle.alp_journal.specs.Laws.{is_standing}
use Rattle.alp_journal.specs.Participant.{is_ready, open_in}
use Rattle.alp_journal.specs.State.{State}

-- a transaction of this server that runs, and that nobody asked to finish
abbrev pub is_unasked : Fate → Bool
is_unasked (Running client js) = true
is_unasked f = false

-- the join is of this transaction, and did not vote
pub record IsUnvoted (s : State) (t : TransId) (j : JoinNo) : Type 0 where
  pub client : ℕ
  pub part : open_in (s.phases j) ≡ Some (t, client)

-- The transaction has an open part there: it is the server's own and is not finishing, or it has a part there that did not vote.
abbrev pub HasOpenPart : State → TransId → Type 0
HasOpenPart s t = (is_unasked (s.fates t) ≡ true) ⊎ ((j : JoinNo) × IsUnvoted s t j)

-- these are the transactions that have open parts, least id first
pub record AreOpen (s : State) (ts : List TransId) : Type 0 where
  pub rise : IsStrictlySortedBy trans_cmp ts
  pub parts : (t : TransId) → Contains ts t ↔ HasOpenPart s t

-- the first of those, if there is one
pub record IsLeastOpen (s : State) (x : Option TransId) : Type 0 where
  pub all : List TransId
  pub are : AreOpen s all
  pub first : x ≡ slice_get all 0

-- no part lives, none is ready, and no decision stands
pub record IsAtRest (s : State) : Type 0 where
  pub parts : (t : TransId) → s.holder.lives t ≡ None
  pub ready : (j : JoinNo) → is_ready (s.phases j) ≡ false
  pub decisions : (x : Stamp) → is_standing x (s.fates x.trans) ≡ false

abbrev pub IsRestOf : Bool → State → Type 0
IsRestOf rests s = (rests ≡ true) ↔ IsAtRest s

-- the lesser of two, or the one that there is
abbrev pub lesser_if : Option TransId → Option TransId → Option TransId
lesser_if (Some a) (Some b) = Some (if is_lt (trans_cmp b a) then b else a)
lesser_if (Some a) None = Some a
lesser_if None b = b
