-- Joins that are live, as the server keeps them, and what the journal's phases say of them.
use Rattle.std.specs.Prelude.{◌≡◌, ◌≤◌, ℕ, Bool, true, false, not, ◌==◌, ◌&&◌, List, [], ◌∷◌, find, filter, length, Option, None, Some, if◌then◌else◌, map as list_map}
use Rattle.alp_base.specs.declared.ids.JoinNo.{JoinNo}
use Rattle.alp_base.specs.declared.ids.TransId.{TransId}
use Rattle.alp_journal.specs.Ids.{same_trans, same_join}
use Rattle.alp_journal.specs.Participant.{Phase, Joining, Active, Ready}
use Rattle.alp_worker.specs.declared.live.LiveJoin.{LiveJoin}
use Rattle.alp_worker.specs.declared.live.Stage.{Stage}
use Rattle.alp_worker.specs.declared.live.Stage.TheVariants as stage
use Rattle.alp_worker.specs.declared.live.Step.{Step}
use Rattle.alp_worker.specs.declared.live.Step.TheVariants as step

-- ---- phases

-- the phase of a live join
abbrev pub phase_in : TransId → (client : ℕ) → Stage → Phase
phase_in t client (stage.Joining who) = Joining t client who
phase_in t client (stage.Active who) = Active t client who
phase_in t client (stage.Ready ts) = Ready t client ts

abbrev pub phase_of : LiveJoin → Phase
phase_of l = phase_in l.trans l.client l.stage

-- What is kept of a join in this phase. Of one that is not live nothing is kept: whether it was never made, was applied or ended
-- in another way is asked of nowhere, but whether it was drawn, which its number tells.
abbrev pub live_at : JoinNo → Phase → Option LiveJoin
live_at j (Joining t client who) = Some (record { join = j; trans = t; client = client; stage = stage.Joining who })
live_at j (Active t client who) = Some (record { join = j; trans = t; client = client; stage = stage.Active who })
live_at j (Ready t client ts) = Some (record { join = j; trans = t; client = client; stage = stage.Ready ts })
live_at j p = None

-- ---- one among them

abbrev pub is_at : JoinNo → LiveJoin → Bool
is_at j l = same_join j l.join

abbrev pub join_at : List LiveJoin → JoinNo → Option LiveJoin
join_at ls j = find (is_at j) ls

abbrev pub is_part : ℕ → TransId → LiveJoin → Bool
is_part client t l = same_trans l.trans t && l.client == client

abbrev pub part_of : ℕ → TransId → List LiveJoin → Option LiveJoin
part_of client t ls = find (is_part client t) ls

abbrev pub number_in : Option LiveJoin → Option JoinNo
number_in None = None
number_in (Some l) = Some l.join

-- it has not voted
abbrev pub is_open : Stage → Bool
is_open (stage.Joining who) = true
is_open (stage.Active who) = true
is_open (stage.Ready ts) = false

-- it has, and is of this transaction
abbrev pub is_ready_in : TransId → LiveJoin → Bool
is_ready_in t l = same_trans t l.trans && not (is_open l.stage)

-- each is there once
abbrev pub AreOnce : List LiveJoin → Type 0
AreOnce [] = Unit {0}
AreOnce (l ∷ ls) = (join_at ls l.join ≡ None) × AreOnce ls

-- a client has at most one part of a transaction
abbrev pub AreSingle : List LiveJoin → Type 0
AreSingle ls = (client : ℕ) (t : TransId) → length (filter (is_part client t) ls) ≤ 1

-- ---- what becomes of one

abbrev pub stage_after : Step → Stage → Stage
stage_after step.Enter (stage.Joining who) = stage.Active who
stage_after (step.Vote ts) (stage.Active who) = stage.Ready ts
stage_after x s = s

abbrev pub staged_one : JoinNo → (Stage → Stage) → LiveJoin → LiveJoin
staged_one j f l = if is_at j l then record l { stage = f l.stage } else l

abbrev pub staged : JoinNo → (Stage → Stage) → List LiveJoin → List LiveJoin
staged j f ls = list_map (staged_one j f) ls

-- it ends, if this is so of it
abbrev pub without : JoinNo → (LiveJoin → Bool) → List LiveJoin → List LiveJoin
without j p ls = filter (λ l. not (is_at j l && p l)) ls

abbrev pub quitted : JoinNo → List LiveJoin → List LiveJoin
quitted j ls = without j (λ (l : LiveJoin). is_open l.stage) ls

abbrev pub aborted_of : JoinNo → TransId → List LiveJoin → List LiveJoin
aborted_of j t ls = without j (λ (l : LiveJoin). same_trans t l.trans) ls

abbrev pub applied_of : JoinNo → TransId → List LiveJoin → List LiveJoin
applied_of j t ls = without j (is_ready_in t) ls
