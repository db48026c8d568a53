-- what the votes say of a decision: its time is no less than each vote, and its joins are of different servers
use Rattle.std.specs.Prelude.{Bool, true, false, cond, max, ◌||◌, ◌==◌}
use Rattle.std.proofs.Common.{◌≡◌, ℕ, ◌≤◌, List, [], ◌∷◌, ◌++◌, refl, sym, ap, subst, ◌∙◌, inl, inr, ◌⊎◌, arith, eq-eqb}
use Rattle.std.proofs.lemmas.List.Folds.{list_any-append}
use Rattle.alp_base.specs.declared.ids.JoinNo.{JoinNo}
use Rattle.alp_base.specs.declared.ids.TransId.{TransId}
use Rattle.alp_base.specs.declared.ids.Stamp.{Stamp}
use Rattle.alp_journal.specs.Ids.{same_trans, same_join, has_join, has_server}
use Rattle.alp_journal.specs.Deeds.{Deed, Begins, Joins, Enters, Quits, Aborts, Grants, Performs, Releases, Readies, Applies, Registers, Finishes, Hears, Decides, Ends, Acknowledges, Forgets, Restarts}
use Rattle.alp_journal.specs.Coordinator.{Fate, Vote, Undrawn, Running, Finishing, Committed, Forgotten, Ended, begun, registered, finishing, voted, with_vote, heard, decided, ended, acknowledged, has_all, forgotten, restarted, fate_after}
use Rattle.alp_journal.specs.Laws.{latest_vote}
use Rattle.alp_history.specs.Log.{IsIn}
use Rattle.alp_journal.proofs.IdLemmas.{same_trans-true, same_join-true, or-true}
use Rattle.alp_journal.proofs.HeldLemmas.{latest-after}

-- ---- joins of different servers

abbrev pub IsSpread : List JoinNo → Type 0
IsSpread js = (j k : JoinNo) → has_join j js ≡ true → has_join k js ≡ true → j.server ≡ k.server → j ≡ k

pub joined-server : (j : JoinNo) (js : List JoinNo) → has_join j js ≡ true → has_server j.server js ≡ true
joined-server j [] h = cc
joined-server j (k ∷ js) h = elim (or-true (same_join k j) (has_join j js) h) [
  | inl same ↦ ap (λ (b : Bool). b || has_server j.server js) (eq-eqb k.server j.server (ap (λ x. x.server) (same_join-true k j same)))
  | inr more ↦ ap (λ (b : Bool). k.server == j.server || b) (joined-server j js more) ∙ or-right (k.server == j.server)
]
  where
    or-right : (b : Bool) → (b || true) ≡ true
    or-right true = refl
    or-right false = refl

spread-one : (j : JoinNo) (js : List JoinNo) → has_server j.server js ≡ false → IsSpread js → IsSpread (js ++ j ∷ [])
spread-one j js new h a b ha hb same = elim (in-both a ha) [
  | inl oa ↦ elim (in-both b hb) [
    | inl ob ↦ h a b oa ob same
    | inr nb ↦ absurd (old a oa (same ∙ ap (λ x. x.server) (sym nb)))
  ]
  | inr na ↦ elim (in-both b hb) [
    | inl ob ↦ absurd (old b ob (sym same ∙ ap (λ x. x.server) (sym na)))
    | inr nb ↦ sym na ∙ nb
  ]
]
  where
    in-both : (a : JoinNo) → has_join a (js ++ j ∷ []) ≡ true → (has_join a js ≡ true) ⊎ (j ≡ a)
    in-both a h = elim (or-true (has_join a js) (same_join j a || false) (sym (list_any-append (λ k. same_join k a) js (j ∷ [])) ∙ h)) [
      | inl o ↦ inl o
      | inr n ↦ elim (or-true (same_join j a) false n) [ inl s ↦ inr (same_join-true j a s) | inr wrong ↦ (let no : false ≡ true = wrong in cc) ]
    ]

    old : (a : JoinNo) → has_join a js ≡ true → a.server ≡ j.server → ⊥
    old a o e = let wrong : true ≡ false = sym (joined-server a js o) ∙ ap (λ n. has_server n js) e ∙ new in cc

-- ---- votes

pub vote-in : (j : JoinNo) (vs : List Vote) → voted j vs ≡ true → (ts : ℕ) × IsIn (j, ts) vs
vote-in j [] h = cc
vote-in j (v ∷ vs) h = elim (or-true (same_join v.0 j) (voted j vs) h) [
  | inl same ↦ (v.1, inl (ap (λ k. (k, v.1)) (sym (same_join-true v.0 j same))))
  | inr more ↦ (let r = vote-in j vs more in (r.0, inr r.1))
]

pub latest-vote : (n : ℕ) (vs : List Vote) (j : JoinNo) (ts : ℕ) → IsIn (j, ts) vs → ts ≤ latest_vote n vs
latest-vote n [] j ts i = absurd i
latest-vote n (v ∷ vs) j ts i = elim i [
  | inl e ↦ (let a : ts ≡ v.1 = ap (λ (x : Vote). x.1) e in let h : max n v.1 ≤ latest_vote (max n v.1) vs = latest-after (max n v.1) vs in omega (arith, a, h))
  | inr m ↦ latest-vote (max n v.1) vs j ts m
]

in-append : {A : Type 0} (x : A) (xs ys : List A) → IsIn x (xs ++ ys) → IsIn x xs ⊎ IsIn x ys
in-append x [] ys i = inr i
in-append x (y ∷ xs) ys i = elim i [ inl e ↦ inl (inl e) | inr m ↦ elim (in-append x xs ys m) [ inl a ↦ inl (inr a) | inr b ↦ inr b ] ]

-- ---- what holds of a transaction

module _ (Said : TransId → JoinNo → ℕ → Type 0) (Noted : Stamp → JoinNo → Type 0) where
  -- a decision's join voted for no later time, or an earlier run decided
  abbrev pub IsAgreed : Stamp → JoinNo → Type 0
  IsAgreed x j = Noted x j ⊎ ((ts : ℕ) × Said x.trans j ts × (ts ≤ x.ts))

  abbrev pub IsTimed : TransId → Fate → Type 0
  IsTimed t Undrawn = Unit {0}
  IsTimed t (Running c js) = IsSpread js
  IsTimed t (Finishing c js vs) = IsSpread js × ((j : JoinNo) (ts : ℕ) → IsIn (j, ts) vs → Said t j ts)
  IsTimed t (Committed x js ds) = IsSpread js × ((j : JoinNo) → has_join j js ≡ true → IsAgreed x j)
  IsTimed t (Forgotten x js) = IsSpread js × ((j : JoinNo) → has_join j js ≡ true → IsAgreed x j)
  IsTimed t (Ended c) = Unit {0}

  abbrev pub Votes : Deed → Type 0
  Votes (Hears t j ts) = Said t j ts
  Votes (Decides x js) = IsSpread js × ((j : JoinNo) → has_join j js ≡ true → IsAgreed x j)
  Votes d = Unit {0}

  heard-timed : (j : JoinNo) (ts : ℕ) (t : TransId) (vs : List Vote) → Said t j ts → ((k : JoinNo) (n : ℕ) → IsIn (k, n) vs → Said t k n) → (k : JoinNo) (n : ℕ) → IsIn (k, n) (with_vote j ts vs) → Said t k n
  heard-timed j ts t vs s h k n i = go (voted j vs) i
    where
      go : (b : Bool) → IsIn (k, n) (cond b vs (vs ++ (j, ts) ∷ [])) → Said t k n
      go true i = h k n i
      go false i = elim (in-append (k, n) vs ((j, ts) ∷ []) i) [
        | inl old ↦ h k n old
        | inr new ↦ elim new [ inl e ↦ subst (λ (v : Vote). Said t v.0 v.1) (sym e) s | inr none ↦ absurd none ]
      ]

  timed-move : (d : Deed) (t : TransId) (f : Fate) → Votes d → IsTimed t f → IsTimed t (fate_after d t f)
  timed-move d t f v h = go d v
    where
      one : (u : TransId) (g : Fate) (b : Bool) → same_trans u t ≡ b → (u ≡ t → IsTimed t g) → IsTimed t (cond b g f)
      one u g true e k = k (same_trans-true u t e)
      one u g false e k = h

      begun-timed : (client : ℕ) (f : Fate) → IsTimed t f → IsTimed t (begun client f)
      begun-timed client Undrawn h = λ j k a b e. (let wrong : false ≡ true = a in cc)
      begun-timed client (Running c js) h = h
      begun-timed client (Finishing c js vs) h = h
      begun-timed client (Committed x js ds) h = h
      begun-timed client (Forgotten x js) h = h
      begun-timed client (Ended c) h = h

      registered-timed : (j : JoinNo) (f : Fate) → IsTimed t f → IsTimed t (registered j f)
      registered-timed j Undrawn h = h
      registered-timed j (Running c js) h = if_new (has_server j.server js) refl
        where
          if_new : (b : Bool) → has_server j.server js ≡ b → IsTimed t (cond b (Running c js) (Running c (js ++ j ∷ [])))
          if_new true e = h
          if_new false e = spread-one j js e h
      registered-timed j (Finishing c js vs) h = h
      registered-timed j (Committed x js ds) h = h
      registered-timed j (Forgotten x js) h = h
      registered-timed j (Ended c) h = h

      finishing-timed : (f : Fate) → IsTimed t f → IsTimed t (finishing f)
      finishing-timed Undrawn h = h
      finishing-timed (Running c js) h = (h, λ j ts i. absurd i)
      finishing-timed (Finishing c js vs) h = h
      finishing-timed (Committed x js ds) h = h
      finishing-timed (Forgotten x js) h = h
      finishing-timed (Ended c) h = h

      heard-fate : (j : JoinNo) (ts : ℕ) (f : Fate) → Said t j ts → IsTimed t f → IsTimed t (heard j ts f)
      heard-fate j ts Undrawn s h = h
      heard-fate j ts (Running c js) s h = h
      heard-fate j ts (Finishing c js vs) s h = (h.0, heard-timed j ts t vs s h.1)
      heard-fate j ts (Committed x js ds) s h = h
      heard-fate j ts (Forgotten x js) s h = h
      heard-fate j ts (Ended c) s h = h

      decided-timed : (x : Stamp) (js : List JoinNo) (f : Fate) → IsSpread js × ((j : JoinNo) → has_join j js ≡ true → IsAgreed x j) → IsTimed t f → IsTimed t (decided x js f)
      decided-timed x js Undrawn v h = h
      decided-timed x js (Running c ks) v h = h
      decided-timed x js (Finishing c ks vs) v h = v
      decided-timed x js (Committed y ks ds) v h = h
      decided-timed x js (Forgotten y ks) v h = h
      decided-timed x js (Ended c) v h = h

      ended-timed : (c : _) (f : Fate) → IsTimed t f → IsTimed t (ended c f)
      ended-timed e Undrawn h = h
      ended-timed e (Running c js) h = tt
      ended-timed e (Finishing c js vs) h = tt
      ended-timed e (Committed x js ds) h = h
      ended-timed e (Forgotten x js) h = h
      ended-timed e (Ended c) h = h

      acked-timed : (j : JoinNo) (f : Fate) → IsTimed t f → IsTimed t (acknowledged j f)
      acked-timed j Undrawn h = h
      acked-timed j (Running c js) h = h
      acked-timed j (Finishing c js vs) h = h
      acked-timed j (Committed x js ds) h = h
      acked-timed j (Forgotten x js) h = h
      acked-timed j (Ended c) h = h

      forgot-timed : (f : Fate) → IsTimed t f → IsTimed t (forgotten f)
      forgot-timed Undrawn h = h
      forgot-timed (Running c js) h = h
      forgot-timed (Finishing c js vs) h = h
      forgot-timed (Committed x js ds) h = both (has_all ds js)
        where
          both : (b : Bool) → IsTimed t (cond b (Forgotten x js) (Committed x js ds))
          both true = h
          both false = h
      forgot-timed (Forgotten x js) h = h
      forgot-timed (Ended c) h = h

      again-timed : (n : ℕ) (f : Fate) → IsTimed t f → IsTimed t (restarted n f)
      again-timed n Undrawn h = h
      again-timed n (Running c js) h = tt
      again-timed n (Finishing c js vs) h = tt
      again-timed n (Committed x js ds) h = h
      again-timed n (Forgotten x js) h = h
      again-timed n (Ended c) h = h

      go : (d : Deed) → Votes d → IsTimed t (fate_after d t f)
      go (Begins u client who seen) v = one u (begun client f) (same_trans u t) refl (λ e. begun-timed client f h)
      go (Registers u j) v = one u (registered j f) (same_trans u t) refl (λ e. registered-timed j f h)
      go (Finishes u) v = one u (finishing f) (same_trans u t) refl (λ e. finishing-timed f h)
      go (Hears u j ts) v = one u (heard j ts f) (same_trans u t) refl (λ e. heard-fate j ts f (subst (λ y. Said y j ts) e v) h)
      go (Decides x js) v = one x.trans (decided x js f) (same_trans x.trans t) refl (λ e. decided-timed x js f v h)
      go (Ends u client c) v = one u (ended c f) (same_trans u t) refl (λ e. ended-timed c f h)
      go (Acknowledges u j) v = one u (acknowledged j f) (same_trans u t) refl (λ e. acked-timed j f h)
      go (Forgets u) v = one u (forgotten f) (same_trans u t) refl (λ e. forgot-timed f h)
      go (Restarts epoch clock) v = again-timed epoch f h
      go (Joins j u client who) v = h
      go (Enters j u client who) v = h
      go (Quits j u client c) v = h
      go (Aborts j u client c) v = h
      go (Grants u c) v = h
      go (Performs u x) v = h
      go (Releases u) v = h
      go (Readies j u ts) v = h
      go (Applies j x) v = h

  pub timed-after : (d : Deed) (t : TransId) (f : Fate) → Votes d → IsTimed t f → IsTimed t (fate_after d t f)
  timed-after = timed-move
