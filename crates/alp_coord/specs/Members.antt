-- Who takes part in a transaction on other servers, and what each has said of it.
use Rattle.std.specs.Prelude.{ℕ, Bool, true, false, ◌&&◌, ◌||◌, max, List, [], ◌∷◌, ◌++◌, Option, None, Some, is_some, if◌then◌else◌, map as list_map}
use Rattle.std.specs.List.{list_any, list_all}
use Rattle.alp_base.specs.declared.ids.JoinNo.{JoinNo}
use Rattle.alp_journal.specs.Ids.{same_join}
use Rattle.alp_journal.specs.Coordinator.{Vote}
use Rattle.alp_coord.specs.declared.members.Member.{Member}

abbrev pub joins : List Member → List JoinNo
joins ms = list_map (λ (m : Member). m.join) ms

abbrev pub are_none : List Member → Bool
are_none [] = true
are_none (m ∷ ms) = false

-- ---- what is said, as a journal tells it

abbrev pub vote_in : JoinNo → Option ℕ → List Vote
vote_in j None = []
vote_in j (Some ts) = (j, ts) ∷ []

-- while the transaction is finishing: the votes
abbrev pub votes : List Member → List Vote
votes [] = []
votes (m ∷ ms) = vote_in m.join m.said ++ votes ms

abbrev pub done_in : JoinNo → Option ℕ → List JoinNo
done_in j None = []
done_in j (Some ts) = j ∷ []

-- once it is decided: those that have applied it
abbrev pub dones : List Member → List JoinNo
dones [] = []
dones (m ∷ ms) = done_in m.join m.said ++ dones ms

-- ---- what is asked of them

abbrev pub takes_part : JoinNo → List Member → Bool
takes_part j ms = list_any (λ (m : Member). same_join m.join j) ms

abbrev pub has_said : JoinNo → List Member → Bool
has_said j ms = list_any (λ (m : Member). is_some m.said && same_join m.join j) ms

-- each has said something, if that join is taken to have done so
abbrev pub have_all_said_with : JoinNo → List Member → Bool
have_all_said_with j ms = list_all (λ (m : Member). same_join j m.join || has_said m.join ms) ms

abbrev pub have_all_said : List Member → Bool
have_all_said ms = list_all (λ (m : Member). has_said m.join ms) ms

-- the greatest of what they have said and of that
abbrev pub later : ℕ → Option ℕ → ℕ
later n None = n
later n (Some ts) = max n ts

abbrev pub latest_of : ℕ → List Member → ℕ
latest_of n [] = n
latest_of n (m ∷ ms) = latest_of (later n m.said) ms

-- ---- what they come to say

abbrev pub silent : JoinNo → Member
silent j = record { join = j; said = None }

-- the first of that join says this
abbrev pub saying : JoinNo → ℕ → List Member → List Member
saying j ts [] = []
saying j ts (m ∷ ms) = if same_join m.join j then record m { said = Some ts } ∷ ms else m ∷ saying j ts ms

-- what it said first counts
abbrev pub having_said : JoinNo → ℕ → List Member → List Member
having_said j ts ms = if has_said j ms then ms else saying j ts ms

-- they have said nothing so far
abbrev pub hushed : List Member → List Member
hushed ms = list_map (λ (m : Member). silent m.join) ms
