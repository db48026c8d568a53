-- Joins and Finishes that wait: they ask for no lock
use Rattle.std.specs.Prelude.{cond, Bool, true, false, not, ◌&&◌, ◌==◌, filter, Option, None, Some, is_none}
use Rattle.std.specs.List.{AllByRecursion}
use Rattle.std.proofs.Common.{◌≡◌, ℕ, List, [], ◌∷◌, ◌++◌, refl, sym, ◌∙◌, ap, subst}
use Rattle.alp_base.specs.declared.ids.TransId.{TransId}
use Rattle.alp_locks.specs.Tables.{Holders}
use Rattle.alp_turns.specs.Queues.{request_at, queue_of}
use Rattle.alp_turns.proofs.MoveLemmas.{GoesIdle, queue_without}
use Rattle.alp_journal.specs.Desk.{Waiting, file_trans, without}
use Rattle.alp_journal.specs.Holder.{Holder}
use Rattle.alp_node.specs.Waits.{waiting, waiting_calls}
use Rattle.alp_node.specs.declared.waits.WaitingCall.{WaitingCall}

-- the journal tells the last call last
pub told_last : (ws : List WaitingCall) (w : WaitingCall) → waiting_calls (ws ++ w ∷ []) ≡ waiting_calls ws ++ waiting w ∷ []
told_last [] w = refl
told_last (v ∷ vs) w = ap (λ (ys : List Waiting). waiting v ∷ ys) (told_last vs w)

-- it is no call on files
abbrev is_other : Waiting → Bool
is_other w = is_none (file_trans w.call)

module _ (h : Holder) (parts : Holders) where
  other_idle : (w : Waiting) → GoesIdle h parts is_other w
  other_idle w is = go (file_trans w.call) is
    where
      go : (x : Option TransId) → is_none x ≡ true → request_at h parts w x ≡ []
      go None e = refl
      go (Some t) e = let wrong : false ≡ true = e in cc

  all_idle : (ws : List Waiting) → AllByRecursion (GoesIdle h parts is_other) ws
  all_idle [] = tt
  all_idle (w ∷ ws) = (other_idle w, all_idle ws)

  last_goes : (ws : List Waiting) (w : Waiting) → is_other w ≡ true → without is_other (ws ++ w ∷ []) ≡ without is_other ws
  last_goes [] w is = ap (λ (b : Bool). cond {A = List Waiting} (not b) (w ∷ []) []) is
  last_goes (v ∷ vs) w is = ap (λ (ys : List Waiting). cond {A = List Waiting} (not (is_other v)) (v ∷ ys) ys) (last_goes vs w is)

  -- the table's queue stays as one waits besides
  pub queue_other : (ws : List Waiting) (w : Waiting) → file_trans w.call ≡ None → queue_of h parts (ws ++ w ∷ []) ≡ queue_of h parts ws
  queue_other ws w none =
      sym (queue_without h parts is_other (ws ++ w ∷ []) (all_idle (ws ++ w ∷ []))) ∙ ap (queue_of h parts) (last_goes ws w (ap (λ (x : Option TransId). is_none x) none)) ∙ queue_without h parts is_other ws (all_idle ws)
