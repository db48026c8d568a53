-- What becomes of a transaction at the server that began it.
use Rattle.std.specs.Prelude.{ℕ, Bool, true, false, List, [], ◌∷◌, ◌++◌, Option, None, Some, if◌then◌else◌}
use Rattle.std.specs.List.{list_any, list_all}
use Rattle.alp_base.specs.declared.ids.JoinNo.{JoinNo}
use Rattle.alp_base.specs.declared.ids.TransId.{TransId}
use Rattle.alp_base.specs.declared.ids.Stamp.{Stamp}
use Rattle.alp_files.specs.declared.refusal.Cause.{Cause}
use Rattle.alp_files.specs.declared.refusal.Cause.TheVariants as cause
use Rattle.alp_journal.specs.Ids.{same_trans, same_join, has_join, has_server}
use Rattle.alp_journal.specs.Opening.{DecisionNote}
use Rattle.alp_journal.specs.Deeds.{Deed, Begins, Registers, Finishes, Hears, Decides, Ends, Acknowledges, Forgets, Restarts}

-- a vote that arrived, with its time
abbrev pub Vote : Type 0
Vote = JoinNo × ℕ

-- Not drawn in this run; running, for a client and with its joins; finishing, with the votes so far; committed, with its
-- joins and those that have applied it; forgotten; ended in abort.
pub data Fate : Type 0 where
  Undrawn : Fate
  Running : (client : ℕ) → List JoinNo → Fate
  Finishing : (client : ℕ) → List JoinNo → List Vote → Fate
  Committed : Stamp → List JoinNo → List JoinNo → Fate
  Forgotten : Stamp → List JoinNo → Fate
  Ended : Cause → Fate

-- ---- the moves, each from where it may come; elsewhere nothing moves

abbrev pub begun : ℕ → Fate → Fate
begun client Undrawn = Running client []
begun client f = f

-- one join of a server alone
abbrev pub registered : JoinNo → Fate → Fate
registered j (Running client js) = if has_server j.server js then Running client js else Running client (js ++ j ∷ [])
registered j f = f

abbrev pub finishing : Fate → Fate
finishing (Running client js) = Finishing client js []
finishing f = f

abbrev pub voted : JoinNo → List Vote → Bool
voted j vs = list_any (λ (v : Vote). same_join v.0 j) vs

-- the first vote of a join counts
abbrev pub with_vote : JoinNo → ℕ → List Vote → List Vote
with_vote j ts vs = if voted j vs then vs else vs ++ (j, ts) ∷ []

abbrev pub heard : JoinNo → ℕ → Fate → Fate
heard j ts (Finishing client js vs) = Finishing client js (with_vote j ts vs)
heard j ts f = f

abbrev pub decided : Stamp → List JoinNo → Fate → Fate
decided stamp ks (Finishing client js vs) = Committed stamp ks []
decided stamp ks f = f

abbrev pub ended : Cause → Fate → Fate
ended c (Running client js) = Ended c
ended c (Finishing client js vs) = Ended c
ended c f = f

abbrev pub acknowledged : JoinNo → Fate → Fate
acknowledged j (Committed stamp js ds) = Committed stamp js (j ∷ ds)
acknowledged j f = f

-- each of these is among those
abbrev pub has_all : List JoinNo → List JoinNo → Bool
has_all ds js = list_all (λ j. has_join j ds) js

abbrev pub forgotten : Fate → Fate
forgotten (Committed stamp js ds) = if has_all ds js then Forgotten stamp js else Committed stamp js ds
forgotten f = f

-- what was not decided is lost, and who has applied a decision is to be asked again
abbrev pub restarted : ℕ → Fate → Fate
restarted epoch (Running client js) = Ended (cause.Lost epoch)
restarted epoch (Finishing client js vs) = Ended (cause.Lost epoch)
restarted epoch (Committed stamp js ds) = Committed stamp js []
restarted epoch f = f

abbrev pub fate_after : Deed → TransId → Fate → Fate
fate_after (Begins u client who seen) t f = if same_trans u t then begun client f else f
fate_after (Registers u j) t f = if same_trans u t then registered j f else f
fate_after (Finishes u) t f = if same_trans u t then finishing f else f
fate_after (Hears u j ts) t f = if same_trans u t then heard j ts f else f
fate_after (Decides stamp js) t f = if same_trans stamp.trans t then decided stamp js f else f
fate_after (Ends u client c) t f = if same_trans u t then ended c f else f
fate_after (Acknowledges u j) t f = if same_trans u t then acknowledged j f else f
fate_after (Forgets u) t f = if same_trans u t then forgotten f else f
fate_after (Restarts epoch clock) t f = restarted epoch f
fate_after _ t f = f

-- ---- what is asked of it

abbrev pub is_running : Fate → Bool
is_running (Running client js) = true
is_running (Finishing client js vs) = true
is_running _ = false

-- the client of a transaction that still runs
abbrev pub client_of : Fate → Option ℕ
client_of (Running client js) = Some client
client_of (Finishing client js vs) = Some client
client_of _ = None

-- the joins that it has so far
abbrev pub joins_of : Fate → List JoinNo
joins_of (Running client js) = js
joins_of (Finishing client js vs) = js
joins_of (Committed stamp js ds) = js
joins_of (Forgotten stamp js) = js
joins_of _ = []

-- the decision, with its joins
abbrev pub decision_in : Fate → Option (Stamp × List JoinNo)
decision_in (Committed stamp js ds) = Some (stamp, js)
decision_in (Forgotten stamp js) = Some (stamp, js)
decision_in _ = None

abbrev pub votes_in : Fate → List Vote
votes_in (Finishing client js vs) = vs
votes_in _ = []

-- each join has voted
abbrev pub has_votes : Fate → Bool
has_votes (Finishing client js vs) = list_all (λ j. voted j vs) js
has_votes _ = false

-- the fate that the decision notes of an opening say
abbrev pub fate_noted : List DecisionNote → TransId → Fate
fate_noted [] t = Undrawn
fate_noted (n ∷ ns) t = if same_trans n.stamp.trans t then Committed n.stamp n.joins [] else fate_noted ns t
