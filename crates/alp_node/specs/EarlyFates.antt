-- What is known of a server's own transactions that are not decided, whatever its vault tells.
use Rattle.std.specs.Prelude.{◌≢◌, ◌≤◌, ◌^◌, ℕ, List, []}
use Rattle.alp_base.specs.declared.ids.JoinNo.{JoinNo}
use Rattle.alp_base.specs.declared.ids.TransId.{TransId}
use Rattle.alp_journal.specs.Account.{AreJoins}
use Rattle.alp_journal.specs.Coordinator.{Fate, Running, Finishing, Vote}
use Rattle.alp_journal.specs.Laws.{latest_vote}
use Rattle.alp_coord.specs.declared.coordinator.Coordinator.{Coordinator}
use Rattle.alp_coord.specs.Coordinators.{fate_in}

-- It has joins, of other servers of the run and one of each, and no vote is later than a time may be: so its decision has a note.
pub record IsToDecide (servers here : ℕ) (js : List JoinNo) (vs : List Vote) : Type 0 where
  pub joins : AreJoins servers here js
  pub some : js ≢ []
  pub low : latest_vote 0 vs ≤ 2 ^ 62

abbrev pub IsEarlyFate : (servers here : ℕ) → Fate → Type 0
IsEarlyFate servers here (Running client js) = AreJoins servers here js
IsEarlyFate servers here (Finishing client js vs) = IsToDecide servers here js vs
IsEarlyFate servers here f = Unit {0}

-- so is each
abbrev pub AreEarly : (servers here : ℕ) → Coordinator → Type 0
AreEarly servers here c = (t : TransId) → IsEarlyFate servers here (fate_in c t)
