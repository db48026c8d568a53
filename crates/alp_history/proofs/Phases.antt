-- what holds of a join at the server that drew it, whatever comes about
use Rattle.std.specs.Prelude.{Bool, true, false, cond, None}
use Rattle.std.proofs.Common.{◌≡◌, ℕ, List, refl, sym, ap, subst, ◌∙◌}
use Rattle.alp_base.specs.declared.ids.JoinNo.{JoinNo}
use Rattle.alp_base.specs.declared.ids.TransId.{TransId}
use Rattle.alp_base.specs.declared.ids.Stamp.{Stamp}
use Rattle.alp_journal.specs.Ids.{same_trans, same_join}
use Rattle.alp_journal.specs.Deeds.{Deed, Begins, Joins, Enters, Quits, Aborts, Grants, Performs, Releases, Readies, Applies, Registers, Finishes, Hears, Decides, Ends, Acknowledges, Forgets, Restarts}
use Rattle.alp_journal.specs.Participant.{Phase, Unseen, Joining, Active, Ready, Applied, Over, drawn, entered, readied, applied, quit, aborted, restarted, phase_after, live_in}
use Rattle.alp_journal.proofs.IdLemmas.{same_trans-true, same_join-true}

-- each deed leaves a phase or moves it once
pub phase-cases : (P : Phase → Type 0) (d : Deed) (j : JoinNo) (p : Phase) → P p
    → ((t : TransId) (client : ℕ) (who : List ℕ) → d ≡ Joins j t client who → P (drawn t client who p)) → P (entered p) → ((ts : ℕ) → P (readied ts p))
    → ((x : Stamp) → d ≡ Applies j x → P (applied x p)) → P (quit p) → ((t : TransId) (client : ℕ) (c : _) → d ≡ Aborts j t client c → P (aborted t p)) → P (restarted p)
    → P (phase_after d j p)
phase-cases P d j p same dr en re ap_ qu ab rs = go d refl
  where
    one : (k : JoinNo) (g : Phase) (b : Bool) → same_join k j ≡ b → (k ≡ j → P g) → P (cond b g p)
    one k g true e h = h (same_join-true k j e)
    one k g false e h = same

    go : (c : Deed) → d ≡ c → P (phase_after c j p)
    go (Joins k t client who) e = one k (drawn t client who p) (same_join k j) refl (λ i. dr t client who (e ∙ ap (λ x. Joins x t client who) i))
    go (Enters k t client who) e = one k (entered p) (same_join k j) refl (λ i. en)
    go (Readies k t ts) e = one k (readied ts p) (same_join k j) refl (λ i. re ts)
    go (Applies k x) e = one k (applied x p) (same_join k j) refl (λ i. ap_ x (e ∙ ap (λ y. Applies y x) i))
    go (Quits k t client c) e = one k (quit p) (same_join k j) refl (λ i. qu)
    go (Aborts k t client c) e = one k (aborted t p) (same_join k j) refl (λ i. ab t client c (e ∙ ap (λ y. Aborts y t client c) i))
    go (Restarts epoch clock) e = rs
    go (Begins u client who seen) e = same
    go (Registers u k) e = same
    go (Finishes u) e = same
    go (Hears u k ts) e = same
    go (Decides x js) e = same
    go (Ends u client c) e = same
    go (Acknowledges u k) e = same
    go (Forgets u) e = same
    go (Grants u c) e = same
    go (Performs u x) e = same
    go (Releases u) e = same

-- ---- a join that is not live, and is not drawn anew, stays so

abbrev pub IsJoining : JoinNo → Deed → Type 0
IsJoining j d = (t : TransId) × (client : ℕ) × (who : List ℕ) × (d ≡ Joins j t client who)

pub dead-stays : (d : Deed) (j : JoinNo) (p : Phase) → (IsJoining j d → ⊥) → live_in p ≡ None → live_in (phase_after d j p) ≡ None
dead-stays d j Unseen n h = phase-cases (λ p. live_in p ≡ None) d j Unseen h (λ t c w e. absurd (n (t, c, w, e))) h (λ ts. h) (λ x e. h) h (λ t client c e. h) h
dead-stays d j (Applied u y) n h = phase-cases (λ p. live_in p ≡ None) d j (Applied u y) h (λ t c w e. h) h (λ ts. h) (λ x e. h) h (λ t client c e. h) h
dead-stays d j Over n h = phase-cases (λ p. live_in p ≡ None) d j Over h (λ t c w e. h) h (λ ts. h) (λ x e. h) h (λ t client c e. h) h
dead-stays d j (Joining t c w) n h = cc
dead-stays d j (Active t c w) n h = cc
dead-stays d j (Ready t c ts) n h = cc

-- one that was never seen stays so
pub unseen-stays : (d : Deed) (j : JoinNo) (p : Phase) → (IsJoining j d → ⊥) → p ≡ Unseen → phase_after d j p ≡ Unseen
unseen-stays d j p n h =
    subst (λ q. phase_after d j q ≡ Unseen) (sym h) (phase-cases (λ p. p ≡ Unseen) d j Unseen refl (λ t c w e. absurd (n (t, c, w, e))) refl (λ ts. refl) (λ x e. refl) refl (λ t client c e. refl) refl)

-- ---- whose a join is

abbrev pub IsSeen : Phase → Bool
IsSeen Unseen = false
IsSeen _ = true

pub home-stays : (here : ℕ) (d : Deed) (j : JoinNo) (p : Phase) → (IsJoining j d → j.server ≡ here) → (IsSeen p ≡ true → j.server ≡ here) → IsSeen (phase_after d j p) ≡ true → j.server ≡ here
home-stays here d j Unseen n h =
    phase-cases (λ p. IsSeen p ≡ true → j.server ≡ here) d j Unseen h (λ t c w e k. n (t, c, w, e)) h (λ ts. h) (λ x e. h) h (λ t client c e. h) h
home-stays here d j (Joining u k l) n h = λ e. h refl
home-stays here d j (Active u k l) n h = λ e. h refl
home-stays here d j (Ready u k ts) n h = λ e. h refl
home-stays here d j (Applied u y) n h = λ e. h refl
home-stays here d j Over n h = λ e. h refl

-- ---- how a ready join may end, and why one was applied

module _ (AbortCame : TransId → JoinNo → Type 0) (CommitCame : Stamp → JoinNo → Type 0) where
  -- of this transaction it is ready, or applied, or its coordinator said that it is aborted
  abbrev pub IsBound : TransId → JoinNo → Phase → Type 0
  IsBound t j (Ready u client ts) = u ≡ t
  IsBound t j (Applied u x) = u ≡ t
  IsBound t j Over = AbortCame t j
  IsBound t j Unseen = ⊥
  IsBound t j (Joining u client who) = ⊥
  IsBound t j (Active u client who) = ⊥

  -- it was applied at its coordinator's word
  abbrev pub IsTold : JoinNo → Phase → Type 0
  IsTold j (Applied u x) = (u ≡ x.trans) × CommitCame x j
  IsTold j Unseen = Unit {0}
  IsTold j (Joining u client who) = Unit {0}
  IsTold j (Active u client who) = Unit {0}
  IsTold j (Ready u client ts) = Unit {0}
  IsTold j Over = Unit {0}

  -- what a deed brings with it
  abbrev pub Carries : Deed → Type 0
  Carries (Applies j x) = CommitCame x j
  Carries (Aborts j t client c) = AbortCame t j
  Carries d = Unit {0}

  pub bound-stays : (t : TransId) (d : Deed) (j : JoinNo) (p : Phase) → Carries d → IsBound t j p → IsBound t j (phase_after d j p)
  bound-stays t d j (Ready u client ts) k h =
      phase-cases (IsBound t j) d j (Ready u client ts) h (λ v c w e. h) h (λ n. h) (λ x e. go x (same_trans x.trans u)) h
      (λ v c w e. stop v (subst Carries e k) (same_trans v u) refl) h
    where
      go : (x : Stamp) (b : Bool) → IsBound t j (cond b (Applied u x) (Ready u client ts))
      go x true = h
      go x false = h

      stop : (v : TransId) → AbortCame v j → (b : Bool) → same_trans v u ≡ b → IsBound t j (cond b Over (Ready u client ts))
      stop v a true e = subst (λ y. AbortCame y j) (same_trans-true v u e ∙ h) a
      stop v a false e = h
  bound-stays t d j (Applied u x) k h = phase-cases (IsBound t j) d j (Applied u x) h (λ v c w e. h) h (λ n. h) (λ x e. h) h (λ v c w e. h) h
  bound-stays t d j Over k h = phase-cases (IsBound t j) d j Over h (λ v c w e. h) h (λ n. h) (λ x e. h) h (λ v c w e. h) h
  bound-stays t d j Unseen k h = absurd h
  bound-stays t d j (Joining u c w) k h = absurd h
  bound-stays t d j (Active u c w) k h = absurd h

  pub told-stays : (d : Deed) (j : JoinNo) (p : Phase) → Carries d → IsTold j p → IsTold j (phase_after d j p)
  told-stays d j (Ready u client ts) k h =
      phase-cases (IsTold j) d j (Ready u client ts) h (λ v c w e. h) h (λ n. h) (λ x e. go x (subst Carries e k) (same_trans x.trans u) refl) h (λ v c w e. stop (same_trans v u)) h
    where
      go : (x : Stamp) → CommitCame x j → (b : Bool) → same_trans x.trans u ≡ b → IsTold j (cond b (Applied u x) (Ready u client ts))
      go x c true e = (sym (same_trans-true x.trans u e), c)
      go x c false e = h

      stop : (b : Bool) → IsTold j (cond b Over (Ready u client ts))
      stop true = tt
      stop false = h
  told-stays d j (Applied u x) k h = phase-cases (IsTold j) d j (Applied u x) h (λ v c w e. h) h (λ n. h) (λ x e. h) h (λ v c w e. h) h
  told-stays d j Over k h = phase-cases (IsTold j) d j Over h (λ v c w e. h) h (λ n. h) (λ x e. h) h (λ v c w e. h) h
  told-stays d j Unseen k h = phase-cases (IsTold j) d j Unseen h (λ v c w e. h) h (λ n. h) (λ x e. h) h (λ v c w e. h) h
  told-stays d j (Joining u c w) k h = phase-cases (IsTold j) d j (Joining u c w) h (λ v c w e. h) h (λ n. h) (λ x e. h) h (λ v client c2 e. stop (same_trans v u)) h
    where
      stop : (b : Bool) → IsTold j (cond b Over (Joining u c w))
      stop true = tt
      stop false = h
  told-stays d j (Active u c w) k h = phase-cases (IsTold j) d j (Active u c w) h (λ v c w e. h) h (λ n. h) (λ x e. h) h (λ v client c2 e. stop (same_trans v u)) h
    where
      stop : (b : Bool) → IsTold j (cond b Over (Active u c w))
      stop true = tt
      stop false = h
