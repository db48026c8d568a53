-- What a coordinator keeps of a transaction is what its journal says of it, but for the order in which votes came in, how
-- often a join said that it is done, and what no answer depends on.
use Rattle.std.specs.Prelude.{◌≡◌, ℕ, Bool, true, false, ◌==◌, List, [], ◌∷◌}
use Rattle.alp_base.specs.declared.ids.JoinNo.{JoinNo}
use Rattle.alp_base.specs.declared.ids.TransId.{TransId}
use Rattle.alp_base.specs.declared.ids.Stamp.{Stamp}
use Rattle.alp_journal.specs.Along.{Where}
use Rattle.alp_journal.specs.Ids.{has_join}
use Rattle.alp_journal.specs.Coordinator.{Fate, Undrawn, Running, Finishing, Committed, Forgotten, Ended, Vote, voted}
use Rattle.alp_journal.specs.Laws.{latest_vote}

-- the same joins have voted, and the same is the latest of their votes
pub record AreLikeVotes (vs ws : List Vote) : Type 0 where
  pub who : (j : JoinNo) → voted j vs ≡ voted j ws
  pub latest : (n : ℕ) → latest_vote n vs ≡ latest_vote n ws

-- the same joins have applied it
pub record AreLikeDones (ds es : List JoinNo) : Type 0 where
  pub who : (j : JoinNo) → has_join j ds ≡ has_join j es

pub data IsLike : Fate → Fate → Type 0 where
  same : (f : Fate) → IsLike f f
  finishing : (client : ℕ) (js : List JoinNo) (vs ws : List Vote) → AreLikeVotes vs ws → IsLike (Finishing client js vs) (Finishing client js ws)
  committed : (stamp : Stamp) (js ds es : List JoinNo) → AreLikeDones ds es → IsLike (Committed stamp js ds) (Committed stamp js es)

-- neither running nor a decision of which a join has not said that it is done
abbrev pub is_over : Fate → Bool
is_over (Running client js) = false
is_over (Finishing client js vs) = false
is_over (Committed stamp (j ∷ js) ds) = false
is_over f = true

-- of an older epoch: a decision that stands, or nothing
pub data IsLikeOld : Fate → Fate → Type 0 where
  standing : (stamp : Stamp) (j : JoinNo) (js ds es : List JoinNo) → AreLikeDones ds es → IsLikeOld (Committed stamp (j ∷ js) ds) (Committed stamp (j ∷ js) es)
  nothing : (f : Fate) → is_over f ≡ true → IsLikeOld Undrawn f

-- what is known of a transaction in that epoch, and what a journal says of it
abbrev pub IsFateOf : (epoch : ℕ) → TransId → (known fate : Fate) → Type 0
IsFateOf epoch t known fate = Where (t.epoch == epoch) (IsLike known fate) (IsLikeOld known fate)
