-- a settled log ends in the cells that its servers hold
use Rattle.std.specs.Prelude.{false, flat_map}
use Rattle.std.proofs.Common.{◌≡◌, List, [], ◌∷◌, ◌++◌, refl, ap, ◌∙◌}
use Rattle.alp_base.specs.declared.ids.JoinNo.{JoinNo}
use Rattle.alp_base.specs.declared.ids.Stamp.{Stamp}
use Rattle.alp_journal.specs.Participant.{Phase, Unseen, Joining, Active, Ready, Applied, Over, is_ready}
use Rattle.alp_journal.specs.State.{State}
use Rattle.alp_history.specs.Log.{final, held, is_decided_in, ready_note}
use Rattle.alp_history.specs.Theorems.{IsWhole, Settling}
use Rattle.alp_history.proofs.Wholes.{are-whole}

no-note : (s : State) (j : JoinNo) (p : Phase) → is_ready p ≡ false → ready_note s j p ≡ []
no-note s j Unseen h = refl
no-note s j (Joining t client who) h = refl
no-note s j (Active t client who) h = refl
no-note s j (Ready t client ts) h = cc
no-note s j (Applied t x) h = refl
no-note s j Over h = refl

none-ready : (s : State) (js : List JoinNo) → ((j : JoinNo) → is_ready (s.phases j) ≡ false) → flat_map (λ j. ready_note s j (s.phases j)) js ≡ []
none-ready s [] h = refl
none-ready s (j ∷ js) h = ap (λ ns. ns ++ flat_map (λ k. ready_note s k (s.phases k)) js) (no-note s j (s.phases j) (h j)) ∙ none-ready s js h

applied-then : (x : Stamp) (p : Phase) → IsWhole x p → is_ready p ≡ false → p ≡ Applied x.trans x
applied-then x (Ready t client ts) w h = cc
applied-then x (Applied t y) w h = (λ i. Applied (w.0 i) (w.1 i))
applied-then x Unseen w h = absurd w
applied-then x (Joining t client who) w h = absurd w
applied-then x (Active t client who) w h = absurd w
applied-then x Over w h = absurd w

pub settling : Settling
settling log proper rest = record {
  files = λ n. ap (λ notes. held (is_decided_in log) notes (final log n).holder.cells) (none-ready (final log n) (final log n).joined (rest n).ready);
  applied = λ x js j among has. applied-then x ((final log j.server).phases j) ((are-whole log proper).parts x js j among has) ((rest j.server).ready j);
}
