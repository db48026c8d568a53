-- Ready parts as notes tell of them.
use Rattle.std.specs.Prelude.{◌≡◌, ℕ, ◌<◌, true, List, [], ◌∷◌, ◌++◌, is_some, if◌then◌else◌, map as list_map}
use Rattle.std.specs.List.{AllByRecursion}
use Rattle.alp_base.specs.declared.ids.JoinNo.{JoinNo}
use Rattle.alp_journal.specs.Ids.{same_join, is_drawn}
use Rattle.alp_journal.specs.Laws.{are_joins_apart}
use Rattle.alp_journal.specs.Opening.{ReadyNote}
use Rattle.alp_journal.specs.Participant.{Phase, Unseen, Ready, restarted}
use Rattle.alp_worker.specs.Lives.{live_at, join_at, AreSingle}
use Rattle.alp_worker.specs.declared.joins.Joins.{Joins}
use Rattle.alp_worker.specs.declared.live.LiveJoin.{LiveJoin}
use Rattle.alp_worker.specs.declared.live.Stage.TheVariants as stage
use Rattle.alp_worker.specs.declared.regain.ReadyPart.{ReadyPart}

-- what is kept in memory of a note
abbrev pub part_noted : ReadyNote → ReadyPart
part_noted n = record { join = n.join; trans = n.trans; client = n.client; ts = n.ts }

abbrev pub live_noted : ReadyPart → LiveJoin
live_noted p = record { join = p.join; trans = p.trans; client = p.client; stage = stage.Ready p.ts }

-- of two parts of one number the first counts
abbrev pub with_part : List LiveJoin → ReadyPart → List LiveJoin
with_part ls p = if is_some (join_at ls p.join) then ls else ls ++ live_noted p ∷ []

abbrev pub with_parts : List LiveJoin → List ReadyPart → List LiveJoin
with_parts ls [] = ls
with_parts ls (p ∷ ps) = with_parts (with_part ls p) ps

abbrev pub joins_regained : (server epoch : ℕ) → List ReadyPart → Joins
joins_regained server epoch ps = record { server = server; epoch = epoch; drawn = 0; lives = with_parts [] ps }

-- the phase that they say
abbrev pub phase_regained : List ReadyPart → JoinNo → Phase
phase_regained [] j = Unseen
phase_regained (p ∷ ps) j = if same_join p.join j then Ready p.trans p.client p.ts else phase_regained ps j

-- the joins of the parts were drawn by this server in older epochs, each is named once, and no client has two of a transaction
pub record AreNoted (server epoch : ℕ) (ps : List ReadyPart) : Type 0 where
  pub raised : 0 < epoch
  pub numbered : AllByRecursion (λ (p : ReadyPart). is_drawn server epoch 0 p.join.server p.join.epoch p.join.counter ≡ true) ps
  pub once : are_joins_apart (list_map (λ (p : ReadyPart). p.join) ps) ≡ true
  pub single : AreSingle (list_map live_noted ps)

-- the parts are just what is ready
abbrev pub DoNotesStand : List ReadyPart → (JoinNo → Phase) → Type 0
DoNotesStand ps phases = (j : JoinNo) → live_at j (phase_regained ps j) ≡ live_at j (restarted (phases j))
