-- The joins that a server keeps, and what the state of its journal says of them.
use Rattle.std.specs.Prelude.{◌≡◌, ℕ, ◌+◌, ◌<◌, Bool, true, false, List, [], ◌∷◌, ◌++◌, is_some}
use Rattle.std.specs.List.{AllByRecursion}
use Rattle.alp_base.specs.declared.ids.JoinNo.{JoinNo}
use Rattle.alp_base.specs.declared.ids.TransId.{TransId}
use Rattle.alp_journal.specs.Deeds as deed
use Rattle.alp_journal.specs.Deeds.{Deed}
use Rattle.alp_journal.specs.Ids.{has_join, is_drawn}
use Rattle.alp_journal.specs.Laws.{are_joins_apart}
use Rattle.alp_journal.specs.Participant.{Phase, Unseen, live_in}
use Rattle.alp_journal.specs.State.{State}
use Rattle.alp_worker.specs.Lives.{live_at, join_at, AreOnce, AreSingle, stage_after, staged, quitted, aborted_of, applied_of}
use Rattle.alp_worker.specs.declared.joins.Joins.{Joins}
use Rattle.alp_worker.specs.declared.live.LiveJoin.{LiveJoin}
use Rattle.alp_worker.specs.declared.live.Stage.TheVariants as stage
use Rattle.alp_worker.specs.declared.live.Step.TheVariants as step

-- ---- what becomes of them

abbrev pub no_joins : (server epoch : ℕ) → Joins
no_joins server epoch = record { server = server; epoch = epoch; drawn = 0; lives = [] }

-- the number that is drawn next
abbrev pub next_of : Joins → JoinNo
next_of k = record { server = k.server; epoch = k.epoch; counter = k.drawn + 1 }

abbrev pub joining : JoinNo → TransId → (client : ℕ) → List ℕ → LiveJoin
joining j t client who = record { join = j; trans = t; client = client; stage = stage.Joining who }

abbrev pub with_drawn : Joins → TransId → (client : ℕ) → List ℕ → Joins
with_drawn k t client who = record k { drawn = k.drawn + 1; lives = k.lives ++ joining (next_of k) t client who ∷ [] }

abbrev pub with_entered : Joins → JoinNo → Joins
with_entered k j = record k { lives = staged j (stage_after step.Enter) k.lives }

abbrev pub with_readied : Joins → JoinNo → (ts : ℕ) → Joins
with_readied k j ts = record k { lives = staged j (stage_after (step.Vote ts)) k.lives }

abbrev pub with_quit : Joins → JoinNo → Joins
with_quit k j = record k { lives = quitted j k.lives }

abbrev pub with_aborted : Joins → JoinNo → TransId → Joins
with_aborted k j t = record k { lives = aborted_of j t k.lives }

abbrev pub with_applied : Joins → JoinNo → TransId → Joins
with_applied k j t = record k { lives = applied_of j t k.lives }

-- whatever comes about, but a draw and a restart
abbrev pub is_move : Deed → Bool
is_move (deed.Joins j t client who) = false
is_move (deed.Restarts epoch clock) = false
is_move d = true

abbrev pub joins_after : Deed → Joins → Joins
joins_after (deed.Enters j t client who) k = with_entered k j
joins_after (deed.Readies j t ts) k = with_readied k j ts
joins_after (deed.Applies j stamp) k = with_applied k j stamp.trans
joins_after (deed.Quits j t client c) k = with_quit k j
joins_after (deed.Aborts j t client c) k = with_aborted k j t
joins_after d k = k

-- ---- what the journal says

abbrev pub is_drawn_in : Joins → JoinNo → Bool
is_drawn_in k j = is_drawn k.server k.epoch k.drawn j.server j.epoch j.counter

-- What is kept is what a state says whose server has this number, epoch and count, where the joins have these phases and these
-- are all that it knows of: each join that is live, in its phase, and no other. Each is known once, each that is known was drawn,
-- and one that was not drawn was not seen. A client has one live part of a transaction at most.
pub record AreJoins (here epoch drawn : ℕ) (phases : JoinNo → Phase) (joined : List JoinNo) (k : Joins) : Type 0 where
  pub server : k.server ≡ here
  pub current : k.epoch ≡ epoch
  pub count : k.drawn ≡ drawn
  pub raised : 0 < epoch
  pub live : (j : JoinNo) → join_at k.lives j ≡ live_at j (phases j)
  pub once : AreOnce k.lives
  pub single : AreSingle k.lives
  pub known : (j : JoinNo) → is_some (live_in (phases j)) ≡ true → has_join j joined ≡ true
  pub apart : are_joins_apart joined ≡ true
  pub numbered : AllByRecursion (λ (j : JoinNo). is_drawn here epoch drawn j.server j.epoch j.counter ≡ true) joined
  pub unseen : (j : JoinNo) → is_drawn here epoch drawn j.server j.epoch j.counter ≡ false → phases j ≡ Unseen

abbrev pub AreJoinsOf : State → Joins → Type 0
AreJoinsOf s k = AreJoins s.holder.server s.ids.epoch s.ids.joins s.phases s.joined k
