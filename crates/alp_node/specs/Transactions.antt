-- The transactions that began at a server: what it keeps of each is what its journal says.
use Rattle.std.specs.Prelude.{◌≡◌, ℕ, ◌≤◌, List, Some}
use Rattle.alp_base.specs.declared.ids.JoinNo.{JoinNo}
use Rattle.alp_base.specs.declared.ids.Stamp.{Stamp}
use Rattle.alp_base.specs.declared.ids.TransId.{TransId}
use Rattle.alp_journal.specs.Account.{Account}
use Rattle.alp_journal.specs.Coordinator.{Fate, decision_in}
use Rattle.alp_coord.specs.declared.coordinator.Coordinator.{Coordinator}
use Rattle.alp_coord.specs.Coordinators.{IsOf, fate_in}
use Rattle.alp_coord.specs.Likeness.{IsFateOf}

-- it is that of a server in an epoch, in which so many began, and it keeps of each transaction what is said of it
pub record IsCoordinatorBy (server epoch count : ℕ) (told : TransId → Fate) (c : Coordinator) : Type 0 where
  pub run : IsOf server epoch count c
  pub fates : (t : TransId) → IsFateOf epoch t (fate_in c t) (told t)

-- as the journal says it
abbrev pub IsCoordinatorOf : Account → Coordinator → Type 0
IsCoordinatorOf a c = IsCoordinatorBy a.holder.server a.ids.epoch a.ids.transactions a.fates c

-- none was decided later
abbrev pub AreDecidedBy : ℕ → Coordinator → Type 0
AreDecidedBy clock c = (t : TransId) (stamp : Stamp) (js : List JoinNo) → decision_in (fate_in c t) ≡ Some (stamp, js) → stamp.ts ≤ clock
