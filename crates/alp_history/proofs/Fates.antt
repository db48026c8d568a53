-- what holds of a transaction at its coordinator, whatever comes about
use Rattle.std.specs.Prelude.{Bool, true, false, cond, ◌||◌, Some}
use Rattle.std.proofs.Common.{◌≡◌, ℕ, List, [], ◌∷◌, ◌++◌, refl, sym, ap, subst, ◌∙◌, inl, inr}
use Rattle.std.proofs.lemmas.List.Folds.{list_any-append}
use Rattle.alp_base.specs.declared.ids.JoinNo.{JoinNo}
use Rattle.alp_base.specs.declared.ids.TransId.{TransId}
use Rattle.alp_base.specs.declared.ids.Stamp.{Stamp}
use Rattle.alp_journal.specs.Ids.{same_trans, same_join, has_join, has_server}
use Rattle.alp_journal.specs.Deeds.{Deed, Begins, Joins, Enters, Quits, Aborts, Grants, Performs, Releases, Readies, Applies, Registers, Finishes, Hears, Decides, Ends, Acknowledges, Forgets, Restarts}
use Rattle.alp_journal.specs.Coordinator.{Fate, Vote, Undrawn, Running, Finishing, Committed, Forgotten, Ended, begun, registered, finishing, voted, with_vote, heard, decided, ended, acknowledged, has_all, forgotten, restarted, fate_after, decision_in}
use Rattle.alp_journal.proofs.IdLemmas.{same_trans-true, same_join-true, or-true, all-each}

-- ---- what stays

-- each deed leaves a fate or moves it once
pub fate-cases : (P : Fate → Type 0) (d : Deed) (t : TransId) (f : Fate) → P f
    → ((client : ℕ) → P (begun client f)) → ((j : JoinNo) → P (registered j f)) → P (finishing f) → ((j : JoinNo) (ts : ℕ) → P (heard j ts f))
    → ((x : Stamp) (js : List JoinNo) → x.trans ≡ t → d ≡ Decides x js → P (decided x js f)) → ((c : _) → P (ended c f)) → ((j : JoinNo) → P (acknowledged j f)) → P (forgotten f) → ((n : ℕ) → P (restarted n f))
    → P (fate_after d t f)
fate-cases P d t f same b r fi h de en ac fo re = go d refl
  where
    one : (c : Bool) (g : Fate) → P g → P (cond c g f)
    one true g p = p
    one false g p = same

    go : (c : Deed) → d ≡ c → P (fate_after c t f)
    go (Begins u client who seen) e = one (same_trans u t) (begun client f) (b client)
    go (Registers u j) e = one (same_trans u t) (registered j f) (r j)
    go (Finishes u) e = one (same_trans u t) (finishing f) fi
    go (Hears u j ts) e = one (same_trans u t) (heard j ts f) (h j ts)
    go (Decides x js) e = its (same_trans x.trans t) (same_trans-true x.trans t) (λ i. de x js i e)
      where
        its : (c : Bool) → (c ≡ true → x.trans ≡ t) → (x.trans ≡ t → P (decided x js f)) → P (cond c (decided x js f) f)
        its true i k = k (i refl)
        its false i k = same
    go (Ends u client c) e = one (same_trans u t) (ended c f) (en c)
    go (Acknowledges u j) e = one (same_trans u t) (acknowledged j f) (ac j)
    go (Forgets u) e = one (same_trans u t) (forgotten f) fo
    go (Restarts epoch clock) e = re epoch
    go (Joins j u client who) e = same
    go (Enters j u client who) e = same
    go (Quits j u client c) e = same
    go (Aborts j u client c) e = same
    go (Grants u c) e = same
    go (Performs u x) e = same
    go (Releases u) e = same
    go (Readies j u ts) e = same
    go (Applies j x) e = same

-- a decision stands, forgotten or not
abbrev pub Decision : Type 0
Decision = Stamp × List JoinNo

pub decision-stays : (x : Decision) (d : Deed) (t : TransId) (f : Fate) → decision_in f ≡ Some x → decision_in (fate_after d t f) ≡ Some x
decision-stays x d t Undrawn h = cc
decision-stays x d t (Running c js) h = cc
decision-stays x d t (Finishing c js vs) h = cc
decision-stays x d t (Ended c) h = cc
decision-stays x d t (Forgotten y js) h =
    fate-cases (λ f. decision_in f ≡ Some x) d t (Forgotten y js) h (λ c. h) (λ j. h) h (λ j ts. h) (λ y js i e. h) (λ c. h) (λ j. h) h (λ n. h)
decision-stays x d t (Committed y js ds) h =
    fate-cases (λ f. decision_in f ≡ Some x) d t (Committed y js ds) h (λ c. h) (λ j. h) h (λ j ts. h) (λ y js i e. h) (λ c. h) (λ j. h) (go (has_all ds js)) (λ n. h)
  where
    go : (b : Bool) → decision_in (cond b (Forgotten y js) (Committed y js ds)) ≡ Some x
    go true = h
    go false = h

-- an abort stands
abbrev pub IsOver : Fate → Type 0
IsOver (Ended c) = Unit {0}
IsOver Undrawn = ⊥
IsOver (Running c js) = ⊥
IsOver (Finishing c js vs) = ⊥
IsOver (Committed x js ds) = ⊥
IsOver (Forgotten x js) = ⊥

pub over-stays : (d : Deed) (t : TransId) (f : Fate) → IsOver f → IsOver (fate_after d t f)
over-stays d t (Ended c) h = fate-cases IsOver d t (Ended c) h (λ c. h) (λ j. h) h (λ j ts. h) (λ y js i e. h) (λ c. h) (λ j. h) h (λ n. h)
over-stays d t Undrawn h = absurd h
over-stays d t (Running c js) h = absurd h
over-stays d t (Finishing c js vs) h = absurd h
over-stays d t (Committed x js ds) h = absurd h
over-stays d t (Forgotten x js) h = absurd h

-- ---- what the joins of a decision rest on

module _ (here : ℕ) (Promise : TransId → JoinNo → Type 0) (Acked : TransId → JoinNo → Type 0) where
  -- A vote and a decision rest on a promise of each join, and what is done on a word of the join. What is known is of
  -- this server.
  abbrev pub IsBacked : TransId → Fate → Type 0
  IsBacked t Undrawn = Unit {0}
  IsBacked t (Running c js) = t.server ≡ here
  IsBacked t (Finishing c js vs) = (t.server ≡ here) × ((j : JoinNo) → voted j vs ≡ true → Promise t j)
  IsBacked t (Committed x js ds) = (t.server ≡ here) × ((j : JoinNo) → has_join j js ≡ true → Promise t j) × ((j : JoinNo) → has_join j ds ≡ true → Acked t j)
  IsBacked t (Forgotten x js) = (t.server ≡ here) × ((j : JoinNo) → has_join j js ≡ true → Promise t j) × ((j : JoinNo) → has_join j js ≡ true → Acked t j)
  IsBacked t (Ended c) = t.server ≡ here

  -- what a deed brings with it
  abbrev pub Brings : Deed → Type 0
  Brings (Begins t client who seen) = t.server ≡ here
  Brings (Hears t j ts) = Promise t j
  Brings (Decides x js) = (j : JoinNo) → has_join j js ≡ true → Promise x.trans j
  Brings (Acknowledges t j) = Acked t j
  Brings d = Unit {0}

  moved : (u t : TransId) (f g : Fate) → IsBacked t f → (u ≡ t → IsBacked t g) → (b : Bool) → same_trans u t ≡ b → IsBacked t (cond b g f)
  moved u t f g h k true e = k (same_trans-true u t e)
  moved u t f g h k false e = h

  begun-backed : (client : ℕ) (t : TransId) (f : Fate) → t.server ≡ here → IsBacked t f → IsBacked t (begun client f)
  begun-backed client t Undrawn e h = e
  begun-backed client t (Running c js) e h = h
  begun-backed client t (Finishing c js vs) e h = h
  begun-backed client t (Committed x js ds) e h = h
  begun-backed client t (Forgotten x js) e h = h
  begun-backed client t (Ended c) e h = h

  registered-backed : (j : JoinNo) (t : TransId) (f : Fate) → IsBacked t f → IsBacked t (registered j f)
  registered-backed j t Undrawn h = h
  registered-backed j t (Running c js) h = go (has_server j.server js)
    where
      go : (b : Bool) → IsBacked t (cond b (Running c js) (Running c (js ++ j ∷ [])))
      go true = h
      go false = h
  registered-backed j t (Finishing c js vs) h = h
  registered-backed j t (Committed x js ds) h = h
  registered-backed j t (Forgotten x js) h = h
  registered-backed j t (Ended c) h = h

  finishing-backed : (t : TransId) (f : Fate) → IsBacked t f → IsBacked t (finishing f)
  finishing-backed t Undrawn h = h
  finishing-backed t (Running c js) h = (h, λ j e. (let wrong : false ≡ true = e in cc))
  finishing-backed t (Finishing c js vs) h = h
  finishing-backed t (Committed x js ds) h = h
  finishing-backed t (Forgotten x js) h = h
  finishing-backed t (Ended c) h = h

  vote-backed : (j : JoinNo) (ts : ℕ) (t : TransId) (vs : List Vote) → Promise t j → ((k : JoinNo) → voted k vs ≡ true → Promise t k) → (k : JoinNo) → voted k (with_vote j ts vs) ≡ true → Promise t k
  vote-backed j ts t vs p h k e = go (voted j vs) e
    where
      go : (b : Bool) → voted k (cond b vs (vs ++ (j, ts) ∷ [])) ≡ true → Promise t k
      go true e = h k e
      go false e = elim (or-true (voted k vs) (same_join j k || false) (sym (list_any-append (λ (v : Vote). same_join v.0 k) vs ((j, ts) ∷ [])) ∙ e)) [
        | inl old ↦ h k old
        | inr new ↦ elim (or-true (same_join j k) false new) [ inl same ↦ subst (Promise t) (same_join-true j k same) p | inr wrong ↦ (let no : false ≡ true = wrong in cc) ]
      ]

  heard-backed : (j : JoinNo) (ts : ℕ) (t : TransId) (f : Fate) → Promise t j → IsBacked t f → IsBacked t (heard j ts f)
  heard-backed j ts t Undrawn p h = h
  heard-backed j ts t (Running c js) p h = h
  heard-backed j ts t (Finishing c js vs) p h = (h.0, vote-backed j ts t vs p h.1)
  heard-backed j ts t (Committed x js ds) p h = h
  heard-backed j ts t (Forgotten x js) p h = h
  heard-backed j ts t (Ended c) p h = h

  decided-backed : (y : Stamp) (ks : List JoinNo) (t : TransId) (f : Fate) → ((j : JoinNo) → has_join j ks ≡ true → Promise t j) → IsBacked t f → IsBacked t (decided y ks f)
  decided-backed y ks t Undrawn p h = h
  decided-backed y ks t (Running c js) p h = h
  decided-backed y ks t (Finishing c js vs) p h = (h.0, p, λ j e. (let wrong : false ≡ true = e in cc))
  decided-backed y ks t (Committed x js ds) p h = h
  decided-backed y ks t (Forgotten x js) p h = h
  decided-backed y ks t (Ended c) p h = h

  ended-backed : (c : _) (t : TransId) (f : Fate) → IsBacked t f → IsBacked t (ended c f)
  ended-backed e t Undrawn h = h
  ended-backed e t (Running c js) h = h
  ended-backed e t (Finishing c js vs) h = h.0
  ended-backed e t (Committed x js ds) h = h
  ended-backed e t (Forgotten x js) h = h
  ended-backed e t (Ended c) h = h

  acknowledged-backed : (j : JoinNo) (t : TransId) (f : Fate) → Acked t j → IsBacked t f → IsBacked t (acknowledged j f)
  acknowledged-backed j t Undrawn p h = h
  acknowledged-backed j t (Running c js) p h = h
  acknowledged-backed j t (Finishing c js vs) p h = h
  acknowledged-backed j t (Committed x js ds) p h =
      (h.0, h.1, λ k e. elim (or-true (same_join j k) (has_join k ds) e) [ inl same ↦ subst (Acked t) (same_join-true j k same) p | inr old ↦ h.2 k old ])
  acknowledged-backed j t (Forgotten x js) p h = h
  acknowledged-backed j t (Ended c) p h = h

  forgotten-backed : (t : TransId) (f : Fate) → IsBacked t f → IsBacked t (forgotten f)
  forgotten-backed t Undrawn h = h
  forgotten-backed t (Running c js) h = h
  forgotten-backed t (Finishing c js vs) h = h
  forgotten-backed t (Committed x js ds) h = go (has_all ds js) refl
    where
      go : (b : Bool) → has_all ds js ≡ b → IsBacked t (cond b (Forgotten x js) (Committed x js ds))
      go true e = (h.0, h.1, λ k i. h.2 k (all-each (λ j. has_join j ds) js k e i))
      go false e = h
  forgotten-backed t (Forgotten x js) h = h
  forgotten-backed t (Ended c) h = h

  restarted-backed : (n : ℕ) (t : TransId) (f : Fate) → IsBacked t f → IsBacked t (restarted n f)
  restarted-backed n t Undrawn h = h
  restarted-backed n t (Running c js) h = h
  restarted-backed n t (Finishing c js vs) h = h.0
  restarted-backed n t (Committed x js ds) h = (h.0, h.1, λ j e. (let wrong : false ≡ true = e in cc))
  restarted-backed n t (Forgotten x js) h = h
  restarted-backed n t (Ended c) h = h

  pub backed-after : (d : Deed) (t : TransId) (f : Fate) → Brings d → IsBacked t f → IsBacked t (fate_after d t f)
  backed-after (Begins u client who seen) t f b h = moved u t f (begun client f) h (λ e. begun-backed client t f (ap (λ x. x.server) (sym e) ∙ b) h) (same_trans u t) refl
  backed-after (Registers u j) t f b h = moved u t f (registered j f) h (λ e. registered-backed j t f h) (same_trans u t) refl
  backed-after (Finishes u) t f b h = moved u t f (finishing f) h (λ e. finishing-backed t f h) (same_trans u t) refl
  backed-after (Hears u j ts) t f b h = moved u t f (heard j ts f) h (λ e. heard-backed j ts t f (subst (λ x. Promise x j) e b) h) (same_trans u t) refl
  backed-after (Decides x js) t f b h = moved x.trans t f (decided x js f) h (λ e. decided-backed x js t f (λ j i. subst (λ y. Promise y j) e (b j i)) h) (same_trans x.trans t) refl
  backed-after (Ends u client c) t f b h = moved u t f (ended c f) h (λ e. ended-backed c t f h) (same_trans u t) refl
  backed-after (Acknowledges u j) t f b h = moved u t f (acknowledged j f) h (λ e. acknowledged-backed j t f (subst (λ x. Acked x j) e b) h) (same_trans u t) refl
  backed-after (Forgets u) t f b h = moved u t f (forgotten f) h (λ e. forgotten-backed t f h) (same_trans u t) refl
  backed-after (Restarts epoch clock) t f b h = restarted-backed epoch t f h
  backed-after (Joins j u client who) t f b h = h
  backed-after (Enters j u client who) t f b h = h
  backed-after (Quits j u client c) t f b h = h
  backed-after (Aborts j u client c) t f b h = h
  backed-after (Grants u c) t f b h = h
  backed-after (Performs u x) t f b h = h
  backed-after (Releases u) t f b h = h
  backed-after (Readies j u ts) t f b h = h
  backed-after (Applies j x) t f b h = h
