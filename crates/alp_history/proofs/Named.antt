-- a server knows of no transaction and of no join but those that its journal names
use Rattle.std.specs.Prelude.{Bool, true, false, cond, ◌&&◌, ◌||◌, is_none, Option, None, Some}
use Rattle.std.specs.List.{list_any, list_all}
use Rattle.std.proofs.Common.{◌≡◌, List, [], ◌∷◌, refl, sym, ap, subst, ◌∙◌, ◌⊎◌, inl, inr}
use Rattle.std.proofs.lemmas.Bool.{and_parts}
use Rattle.alp_base.specs.declared.ids.JoinNo.{JoinNo}
use Rattle.alp_base.specs.declared.ids.TransId.{TransId}
use Rattle.alp_journal.specs.declared.entry.Entry.{Entry}
use Rattle.alp_journal.specs.Along.{state_after}
use Rattle.alp_journal.specs.Ids.{same_trans, same_join, has_join}
use Rattle.alp_journal.specs.Deeds.{Deed, Begins, Joins, Enters, Quits, Aborts, Grants, Performs, Releases, Readies, Applies, Registers, Finishes, Hears, Decides, Ends, Acknowledges, Forgets, Restarts}
use Rattle.alp_journal.specs.Coordinator.{Fate, Undrawn, fate_after, begun, registered, finishing, heard, decided, ended, acknowledged, forgotten}
use Rattle.alp_journal.specs.Participant.{Phase, Unseen, phase_after, drawn, entered, readied, applied, quit, aborted}
use Rattle.alp_journal.specs.Holder.{Life, holder_after, grants, performs, readies, commits, lapsed, if_ready, new_life, held_for, after_done, answer_in, emptied}
use Rattle.alp_journal.specs.State.{State, state_deed}
use Rattle.alp_journal.specs.Moves.{stops, tried, told, halted, next}
use Rattle.alp_journal.specs.Laws.{DoLivesAgree}
use Rattle.alp_journal.proofs.IdLemmas.{same_trans-true, same_join-true, same_trans-itself, or-true}

abbrev pub has_trans : TransId → List TransId → Bool
has_trans t ts = list_any (λ u. same_trans u t) ts

module _ (ts : List TransId) (js : List JoinNo) where
  -- nothing is known of others
  pub record Only (s : State) : Type 0 where
    pub lives : (u : TransId) → has_trans u ts ≡ false → s.holder.lives u ≡ None
    pub fates : (u : TransId) → has_trans u ts ≡ false → s.fates u ≡ Undrawn
    pub phases : (j : JoinNo) → has_join j js ≡ false → s.phases j ≡ Unseen

  -- the transactions and the joins that a deed is of are among these
  abbrev pub is_named : Deed → Bool
  is_named (Begins t client who seen) = has_trans t ts
  is_named (Joins j t client who) = has_join j js
  is_named (Enters j t client who) = has_join j js && has_trans t ts
  is_named (Quits j t client c) = has_join j js
  is_named (Aborts j t client c) = has_join j js
  is_named (Grants t c) = has_trans t ts
  is_named (Performs t d) = has_trans t ts
  is_named (Releases t) = has_trans t ts
  is_named (Readies j t n) = has_join j js && has_trans t ts
  is_named (Applies j x) = has_join j js && has_trans x.trans ts
  is_named (Registers t j) = has_trans t ts
  is_named (Finishes t) = has_trans t ts
  is_named (Hears t j n) = has_trans t ts
  is_named (Decides x ks) = has_trans x.trans ts
  is_named (Ends t client c) = has_trans t ts
  is_named (Acknowledges t j) = has_trans t ts
  is_named (Forgets t) = has_trans t ts
  is_named (Restarts epoch clock) = true

  -- what is not named is another one
  pub apart : (t u : TransId) → has_trans t ts ≡ true → has_trans u ts ≡ false → same_trans t u ≡ false
  apart t u h k = go (same_trans t u) refl
    where
      go : (b : Bool) → same_trans t u ≡ b → b ≡ false
      go false e = refl
      go true e = let wrong : true ≡ false = sym h ∙ subst (λ x. has_trans x ts ≡ false) (sym (same_trans-true t u e)) k in cc

  -- either way round
  apart_from : (t u : TransId) → has_trans t ts ≡ true → has_trans u ts ≡ false → same_trans u t ≡ false
  apart_from t u h k = go (same_trans u t) refl
    where
      go : (b : Bool) → same_trans u t ≡ b → b ≡ false
      go false e = refl
      go true e = let wrong : true ≡ false = sym h ∙ subst (λ x. has_trans x ts ≡ false) (same_trans-true u t e) k in cc

  pub apart_join : (j k : JoinNo) → has_join j js ≡ true → has_join k js ≡ false → same_join j k ≡ false
  apart_join j k h l = go (same_join j k) refl
    where
      go : (b : Bool) → same_join j k ≡ b → b ≡ false
      go false e = refl
      go true e = let wrong : true ≡ false = sym h ∙ subst (λ x. has_join x js ≡ false) (sym (same_join-true j k e)) l in cc

  module _ (s : State) (h : Only s) where
    -- a life set for a named one
    set_for : (t : TransId) (l : Option Life) → has_trans t ts ≡ true → (u : TransId) → has_trans u ts ≡ false → cond (same_trans u t) l (s.holder.lives u) ≡ None
    set_for t l n u k = ap (λ b. cond b l (s.holder.lives u)) (apart_from t u n k) ∙ h.lives u k

    fate_for : (t : TransId) (f : Fate) → has_trans t ts ≡ true → (u : TransId) → has_trans u ts ≡ false → cond (same_trans t u) f (s.fates u) ≡ Undrawn
    fate_for t f n u k = ap (λ b. cond b f (s.fates u)) (apart t u n k) ∙ h.fates u k

    phase_for : (j : JoinNo) (p : Phase) → has_join j js ≡ true → (i : JoinNo) → has_join i js ≡ false → cond (same_join j i) p (s.phases i) ≡ Unseen
    phase_for j p n i k = ap (λ b. cond b p (s.phases i)) (apart_join j i n k) ∙ h.phases i k

    lives_after : (d : Deed) → is_named d ≡ true → (u : TransId) → has_trans u ts ≡ false → (holder_after s.holder d).lives u ≡ None
    lives_after (Begins t client who seen) n u k = set_for t (Some (new_life None client who)) n u k
    lives_after (Joins j t client who) n u k = h.lives u k
    lives_after (Enters j t client who) n u k = set_for t (Some (new_life (Some j) client who)) (and_parts (has_join j js) (has_trans t ts) n).1 u k
    lives_after (Quits j t client c) n u k = h.lives u k
    lives_after (Aborts j t client c) n u k = go (same_trans u t) (s.holder.lives u) (h.lives u k)
      where
        go : (b : Bool) (l : Option Life) → l ≡ None → cond b (lapsed j l) l ≡ None
        go true None e = refl
        go true (Some l) e = cc
        go false l e = e
    lives_after (Grants t c) n u k = go (s.holder.lives t)
      where
        go : (l : Option Life) → (grants s.holder t c l).lives u ≡ None
        go None = h.lives u k
        go (Some l) = set_for t (Some (record l { held = held_for s.holder l c })) n u k
    lives_after (Performs t d) n u k = go (s.holder.lives t)
      where
        go : (l : Option Life) → (performs s.holder t d l).lives u ≡ None
        go None = h.lives u k
        go (Some l) = set_for t (Some (after_done l d (answer_in s.holder l d))) n u k
    lives_after (Releases t) n u k = set_for t None n u k
    lives_after (Readies j t i) n u k = go (s.holder.lives t)
      where
        go : (l : Option Life) → (readies s.holder t i l).lives u ≡ None
        go None = h.lives u k
        go (Some l) = set_for t (Some (record l { vote = Some i })) (and_parts (has_join j js) (has_trans t ts) n).1 u k
    lives_after (Applies j x) n u k = go (s.holder.lives x.trans)
      where
        go : (l : Option Life) → (commits s.holder x l).lives u ≡ None
        go None = h.lives u k
        go (Some l) = set_for x.trans (Some (emptied l)) (and_parts (has_join j js) (has_trans x.trans ts) n).1 u k
    lives_after (Registers t j) n u k = h.lives u k
    lives_after (Finishes t) n u k = h.lives u k
    lives_after (Hears t j i) n u k = h.lives u k
    lives_after (Decides x ks) n u k = go (s.holder.lives x.trans)
      where
        go : (l : Option Life) → (commits s.holder x l).lives u ≡ None
        go None = h.lives u k
        go (Some l) = set_for x.trans (Some (emptied l)) n u k
    lives_after (Ends t client c) n u k = h.lives u k
    lives_after (Acknowledges t j) n u k = h.lives u k
    lives_after (Forgets t) n u k = h.lives u k
    lives_after (Restarts epoch clock) n u k = ap if_ready (h.lives u k)

    fates_after : (d : Deed) → is_named d ≡ true → (u : TransId) → has_trans u ts ≡ false → fate_after d u (s.fates u) ≡ Undrawn
    fates_after (Begins t client who seen) n u k = fate_for t (begun client (s.fates u)) n u k
    fates_after (Joins j t client who) n u k = h.fates u k
    fates_after (Enters j t client who) n u k = h.fates u k
    fates_after (Quits j t client c) n u k = h.fates u k
    fates_after (Aborts j t client c) n u k = h.fates u k
    fates_after (Grants t c) n u k = h.fates u k
    fates_after (Performs t d) n u k = h.fates u k
    fates_after (Releases t) n u k = h.fates u k
    fates_after (Readies j t i) n u k = h.fates u k
    fates_after (Applies j x) n u k = h.fates u k
    fates_after (Registers t j) n u k = fate_for t (registered j (s.fates u)) n u k
    fates_after (Finishes t) n u k = fate_for t (finishing (s.fates u)) n u k
    fates_after (Hears t j i) n u k = fate_for t (heard j i (s.fates u)) n u k
    fates_after (Decides x ks) n u k = fate_for x.trans (decided x ks (s.fates u)) n u k
    fates_after (Ends t client c) n u k = fate_for t (ended c (s.fates u)) n u k
    fates_after (Acknowledges t j) n u k = fate_for t (acknowledged j (s.fates u)) n u k
    fates_after (Forgets t) n u k = fate_for t (forgotten (s.fates u)) n u k
    fates_after (Restarts epoch clock) n u k = ap (fate_after (Restarts epoch clock) u) (h.fates u k)

    phases_after : (d : Deed) → is_named d ≡ true → (i : JoinNo) → has_join i js ≡ false → phase_after d i (s.phases i) ≡ Unseen
    phases_after (Begins t client who seen) n i k = h.phases i k
    phases_after (Joins j t client who) n i k = phase_for j (drawn t client who (s.phases i)) n i k
    phases_after (Enters j t client who) n i k = phase_for j (entered (s.phases i)) (and_parts (has_join j js) (has_trans t ts) n).0 i k
    phases_after (Quits j t client c) n i k = phase_for j (quit (s.phases i)) n i k
    phases_after (Aborts j t client c) n i k = phase_for j (aborted t (s.phases i)) n i k
    phases_after (Grants t c) n i k = h.phases i k
    phases_after (Performs t d) n i k = h.phases i k
    phases_after (Releases t) n i k = h.phases i k
    phases_after (Readies j t m) n i k = phase_for j (readied m (s.phases i)) (and_parts (has_join j js) (has_trans t ts) n).0 i k
    phases_after (Applies j x) n i k = phase_for j (applied x (s.phases i)) (and_parts (has_join j js) (has_trans x.trans ts) n).0 i k
    phases_after (Registers t j) n i k = h.phases i k
    phases_after (Finishes t) n i k = h.phases i k
    phases_after (Hears t j m) n i k = h.phases i k
    phases_after (Decides x ks) n i k = h.phases i k
    phases_after (Ends t client c) n i k = h.phases i k
    phases_after (Acknowledges t j) n i k = h.phases i k
    phases_after (Forgets t) n i k = h.phases i k
    phases_after (Restarts epoch clock) n i k = ap (phase_after (Restarts epoch clock) i) (h.phases i k)

    pub only_deed : (d : Deed) → is_named d ≡ true → Only (state_deed s d)
    only_deed d n = record { lives = lives_after d n; fates = fates_after d n; phases = phases_after d n }

  only_deeds : (ds : List Deed) (s : State) → list_all is_named ds ≡ true → Only s → Only (state_after state_deed s ds)
  only_deeds [] s n h = h
  only_deeds (d ∷ ds) s n h =
      let parts = and_parts (is_named d) (list_all is_named ds) n in
      only_deeds ds (state_deed s d) parts.1 (only_deed s h d parts.0)

  pub only_next : (s : State) (e : Entry) → list_all is_named (tried s e) ≡ true → Only s → Only (next s e)
  only_next s e n h = go (stops e)
    where
      after : Only (state_after state_deed s (tried s e))
      after = only_deeds (tried s e) s n h

      go : (b : Bool) → Only (cond b (halted s e) (told s e))
      go true = record { lives = h.lives; fates = h.fates; phases = h.phases }
      go false = record { lives = after.lives; fates = after.fates; phases = after.phases }

  abbrev pub are_named : State → List Entry → Bool
  are_named s [] = true
  are_named s (e ∷ es) = list_all is_named (tried s e) && are_named (next s e) es

  pub only_after : (es : List Entry) (s : State) → are_named s es ≡ true → Only s → Only (state_after next s es)
  only_after [] s n h = h
  only_after (e ∷ es) s n h =
      let parts = and_parts (list_all is_named (tried s e)) (are_named (next s e) es) n in
      only_after es (next s e) parts.1 (only_next s e parts.0 h)

  -- ---- locks agree where one part alone lives

  -- no named one but this lives
  abbrev pub is_alone : TransId → State → Bool
  is_alone t s = list_all (λ u. same_trans t u || is_none (s.holder.lives u)) ts

  alone_at : (t : TransId) (s : State) (us : List TransId) → list_all (λ u. same_trans t u || is_none (s.holder.lives u)) us ≡ true → (u : TransId) (l : Life)
      → has_trans u us ≡ true → s.holder.lives u ≡ Some l → t ≡ u
  alone_at t s [] n u l k e = cc
  alone_at t s (v ∷ vs) n u l k e = elim (or-true (same_trans v u) (has_trans u vs) k) [
    | inl this ↦ elim (or-true (same_trans t v) (is_none (s.holder.lives v)) (and_parts (same_trans t v || is_none (s.holder.lives v)) _ n).0) [
      | inl same ↦ same_trans-true t v same ∙ same_trans-true v u this
      | inr none ↦ (
          let here : s.holder.lives v ≡ Some l = ap s.holder.lives (same_trans-true v u this) ∙ e in
          let wrong : true ≡ false = sym none ∙ ap is_none here in
          cc
          )
    ]
    | inr more ↦ alone_at t s vs (and_parts (same_trans t v || is_none (s.holder.lives v)) _ n).1 u l more e
  ]

  pub lives_named : (s : State) → Only s → (u : TransId) (l : Life) → s.holder.lives u ≡ Some l → has_trans u ts ≡ true
  lives_named s h u l e = go (has_trans u ts) refl
    where
      go : (b : Bool) → has_trans u ts ≡ b → b ≡ true
      go true k = refl
      go false k = let wrong : None ≡ Some l = sym (h.lives u k) ∙ e in cc

  pub alone : (t : TransId) (s : State) → Only s → is_alone t s ≡ true → DoLivesAgree s.holder.lives
  alone t s h n u v k l ku lv other =
      let a : t ≡ u = alone_at t s ts n u k (lives_named s h u k ku) ku in
      let b : t ≡ v = alone_at t s ts n v l (lives_named s h v l lv) lv in
      let wrong : true ≡ false = sym (same_trans-itself t) ∙ (λ i. same_trans (a i) (b i)) ∙ other in
      absurd (let no : ⊥ = cc in no)

  -- no other part lives
  pub alone_other : (t : TransId) (s : State) → Only s → is_alone t s ≡ true → (u : TransId) (k : Life) → s.holder.lives u ≡ Some k → same_trans u t ≡ false → ⊥
  alone_other t s h n u k ku other =
      let same : t ≡ u = alone_at t s ts n u k (lives_named s h u k ku) ku in
      let wrong : true ≡ false = sym (same_trans-itself t) ∙ ap (λ x. same_trans x t) same ∙ other in
      cc

  -- ---- two parts that live

  abbrev pub among_two : TransId → TransId → State → Bool
  among_two t u s = list_all (λ v. same_trans t v || (same_trans u v || is_none (s.holder.lives v))) ts

  two_at : (t u : TransId) (s : State) (vs : List TransId) → list_all (λ v. same_trans t v || (same_trans u v || is_none (s.holder.lives v))) vs ≡ true → (v : TransId) (l : Life)
      → has_trans v vs ≡ true → s.holder.lives v ≡ Some l → (t ≡ v) ⊎ (u ≡ v)
  two_at t u s [] n v l k e = cc
  two_at t u s (w ∷ ws) n v l k e = elim (or-true (same_trans w v) (has_trans v ws) k) [
    | inl this ↦ go (same_trans-true w v this) (or-true (same_trans t w) _ (and_parts (same_trans t w || (same_trans u w || is_none (s.holder.lives w))) _ n).0)
    | inr more ↦ two_at t u s ws (and_parts (same_trans t w || (same_trans u w || is_none (s.holder.lives w))) _ n).1 v l more e
  ]
    where
      last : w ≡ v → (same_trans u w ≡ true) ⊎ (is_none (s.holder.lives w) ≡ true) → (t ≡ v) ⊎ (u ≡ v)
      last this x = elim x [
        | inl same ↦ inr (same_trans-true u w same ∙ this)
        | inr none ↦ (
            let here : s.holder.lives w ≡ Some l = ap s.holder.lives this ∙ e in
            let wrong : true ≡ false = sym none ∙ ap is_none here in
            cc
            )
      ]

      go : w ≡ v → (same_trans t w ≡ true) ⊎ ((same_trans u w || is_none (s.holder.lives w)) ≡ true) → (t ≡ v) ⊎ (u ≡ v)
      go this x = elim x [ inl same ↦ inl (same_trans-true t w same ∙ this) | inr rest ↦ last this (or-true (same_trans u w) (is_none (s.holder.lives w)) rest) ]

  pub one_of_two : (t u : TransId) (s : State) → Only s → among_two t u s ≡ true → (v : TransId) (l : Life) → s.holder.lives v ≡ Some l → (t ≡ v) ⊎ (u ≡ v)
  one_of_two t u s h n v l e = two_at t u s ts n v l (lives_named s h v l e) e
