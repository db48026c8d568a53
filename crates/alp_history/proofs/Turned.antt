-- what earlier runs had made ready and decided, and how it comes to be applied
use Rattle.std.specs.Prelude.{Bool, true, false, cond, not, ◌&&◌, ◌||◌, ◌==◌, Option, None, Some, unwrap_or, find, filter, flat_map}
use Rattle.std.specs.List.{list_any, AllByRecursion}
use Rattle.std.proofs.Common.{◌≡◌, ℕ, ◌+◌, ◌<◌, ◌≤◌, List, [], ◌∷◌, ◌++◌, refl, sym, ap, subst, ◌∙◌, arith, inl, inr, ◌⊎◌}
use Rattle.alp_base.specs.declared.ids.JoinNo.{JoinNo}
use Rattle.alp_base.specs.declared.ids.TransId.{TransId}
use Rattle.alp_base.specs.declared.ids.Stamp.{Stamp}
use Rattle.alp_files.specs.Cells.{Cells}
use Rattle.alp_files.specs.Edits.{edits_map}
use Rattle.alp_journal.specs.declared.event.Event.{Event}
use Rattle.alp_journal.specs.Along.{state_after}
use Rattle.alp_journal.specs.Ids.{same_trans, same_join, has_join, has_server}
use Rattle.alp_journal.specs.Opening.{ReadyNote, DecisionNote}
use Rattle.alp_journal.specs.Deeds.{Deed, Begins, Joins, Enters, Quits, Aborts, Grants, Performs, Releases, Readies, Applies, Registers, Finishes, Hears, Decides, Ends, Acknowledges, Forgets, Restarts}
use Rattle.alp_journal.specs.Coordinator.{Fate, Undrawn, Running, Finishing, Committed, Forgotten, Ended, finishing, heard, ended, acknowledged, has_all, forgotten, fate_after, fate_noted, decision_in, is_running}
use Rattle.alp_journal.specs.Participant.{Phase, Unseen, Joining, Active, Ready, Applied, Over, phase_after, is_ready}
use Rattle.alp_journal.specs.Participant as part
use Rattle.alp_journal.specs.Holder.{Life, early_life}
use Rattle.alp_journal.specs.State.{State, ids_after, state_deed}
use Rattle.alp_history.specs.Log.{ServerLog, Log, nobody, of, opening_of, state_at, final, IsIn, noted, is_noted, held, start_of, IsSoundDecision}
use Rattle.alp_history.specs.Theorems.{IsProper, HasCommitted}
use Rattle.alp_history.proofs.Places.{some-same}
use Rattle.alp_journal.proofs.IdLemmas.{same_trans-true, same_join-true, same_trans-itself, or-true}
use Rattle.alp_history.proofs.Fates.{Decision, fate-cases}
use Rattle.alp_history.proofs.Phases.{phase-cases, Carries}
use Rattle.alp_journal.proofs.Origins.{IsEventFrom}
use Rattle.alp_history.proofs.Entries.{is_open}
use Rattle.alp_history.proofs.Logs.{stands-from}
use Rattle.alp_journal.proofs.OneServer.{behind, behind-early, behind-own, Turns}
use Rattle.alp_history.proofs.Agreed.{size, all-of, at-end, decided-from, AbortCame, CommitCame, abort-late, WasCommitted, commit-came, committed-parts}
use Rattle.alp_history.proofs.Starts.{IsFit, held-same, held-first, held-behind, one-of-trans}
use Rattle.alp_history.proofs.Linked.{IsYoung, HasPart, IsLinkedUp, Does, same_join-self}
use Rattle.alp_history.proofs.Rights.{IsRightDeed}

-- ---- decisions come by Decides alone

pub decision-back : (d : Deed) (t : TransId) (f : Fate) (y : Decision) → decision_in (fate_after d t f) ≡ Some y → (decision_in f ≡ Some y) ⊎ ((x : Stamp) × (js : List JoinNo) × (d ≡ Decides x js) × (x.trans ≡ t))
decision-back d t f y h = go f h
  where
    none : {A : Type 0} → None ≡ Some y → A
    none e = cc

    go : (f : Fate) → decision_in (fate_after d t f) ≡ Some y → (decision_in f ≡ Some y) ⊎ ((x : Stamp) × (js : List JoinNo) × (d ≡ Decides x js) × (x.trans ≡ t))
    go Undrawn e = inl (fate-cases (λ g. decision_in g ≡ Some y → None ≡ Some y) d t Undrawn none (λ c. none) (λ j. none) none (λ j ts. none) (λ x js i h. none) (λ c. none) (λ j. none) none (λ n. none) e)
    go (Running c js) e = inl (fate-cases (λ g. decision_in g ≡ Some y → None ≡ Some y) d t (Running c js) none (λ c. none) (λ j. more j (has_server j.server js)) none (λ j ts. none) (λ x js i h. none) (λ c. none) (λ j. none) none (λ n. none) e)
      where
        more : (j : JoinNo) (b : Bool) → decision_in (cond b (Running c js) (Running c (js ++ j ∷ []))) ≡ Some y → None ≡ Some y
        more j true e = e
        more j false e = e
    go (Ended c) e = inl (fate-cases (λ g. decision_in g ≡ Some y → None ≡ Some y) d t (Ended c) none (λ c. none) (λ j. none) none (λ j ts. none) (λ x js i h. none) (λ c. none) (λ j. none) none (λ n. none) e)
    go (Committed x js ds) e =
        inl (fate-cases (λ g. decision_in g ≡ Some y → Some (x, js) ≡ Some y) d t (Committed x js ds) (λ e. e) (λ c e. e) (λ j e. e) (λ e. e) (λ j ts e. e) (λ x js i h e. e) (λ c e. e) (λ j e. e) (either (has_all ds js)) (λ n e. e) e)
      where
        either : (b : Bool) → decision_in (cond b (Forgotten x js) (Committed x js ds)) ≡ Some y → Some (x, js) ≡ Some y
        either true e = e
        either false e = e
    go (Forgotten x js) e =
        inl (fate-cases (λ g. decision_in g ≡ Some y → Some (x, js) ≡ Some y) d t (Forgotten x js) (λ e. e) (λ c e. e) (λ j e. e) (λ e. e) (λ j ts e. e) (λ x js i h e. e) (λ c e. e) (λ j e. e) (λ e. e) (λ n e. e) e)
    go (Finishing c js vs) e = one d refl e
      where
        undecided : (b : Bool) (g : Fate) → decision_in g ≡ None → decision_in (cond b g (Finishing c js vs)) ≡ Some y → None ≡ Some y
        undecided true g n e = sym n ∙ e
        undecided false g n e = e

        chosen : (x : Stamp) (ks : List JoinNo) → d ≡ Decides x ks → (b : Bool) → same_trans x.trans t ≡ b → decision_in (cond b (Committed x ks []) (Finishing c js vs)) ≡ Some y
            → (None ≡ Some y) ⊎ ((x : Stamp) × (js : List JoinNo) × (d ≡ Decides x js) × (x.trans ≡ t))
        chosen x ks is true same e = inr (x, ks, is, same_trans-true x.trans t same)
        chosen x ks is false same e = inl e

        one : (a : Deed) → d ≡ a → decision_in (fate_after a t (Finishing c js vs)) ≡ Some y → (None ≡ Some y) ⊎ ((x : Stamp) × (js : List JoinNo) × (d ≡ Decides x js) × (x.trans ≡ t))
        one (Decides x ks) is e = chosen x ks is (same_trans x.trans t) refl e
        one (Begins u k w m) is e = inl (undecided (same_trans u t) (Finishing c js vs) refl e)
        one (Registers u j) is e = inl (undecided (same_trans u t) (Finishing c js vs) refl e)
        one (Finishes u) is e = inl (undecided (same_trans u t) (Finishing c js vs) refl e)
        one (Hears u j ts) is e = inl (undecided (same_trans u t) (heard j ts (Finishing c js vs)) refl e)
        one (Ends u k w) is e = inl (undecided (same_trans u t) (Ended w) refl e)
        one (Acknowledges u j) is e = inl (undecided (same_trans u t) (Finishing c js vs) refl e)
        one (Forgets u) is e = inl (undecided (same_trans u t) (Finishing c js vs) refl e)
        one (Restarts epoch clock) is e = inl e
        one (Joins j u k w) is e = inl e
        one (Enters j u k w) is e = inl e
        one (Quits j u k w) is e = inl e
        one (Aborts j u k w) is e = inl e
        one (Grants u k) is e = inl e
        one (Performs u x) is e = inl e
        one (Releases u) is e = inl e
        one (Readies j u ts) is e = inl e
        one (Applies j x) is e = inl e

-- ---- what leads to a decision is not lost

abbrev pub leads_on : Deed → Bool
leads_on (Finishes t) = true
leads_on (Hears t j ts) = true
leads_on d = false

-- a test of deeds that a restart may find: those that lead to a decision are always found
abbrev pub IsTest : (Deed → Bool) → Type 0
IsTest p = ((d : Deed) → p d ≡ true → is_open d ≡ true) × ((d : Deed) → leads_on d ≡ true → p d ≡ true)

run-back : (s : State) (e : Event) (d : Deed) (t : TransId) (f : Fate) → IsEventFrom s e d → is_running (fate_after d t f) ≡ true → (is_running f ≡ true) × (leads_on d ≡ false → fate_after d t f ≡ f)
run-back s e d t f from h = go d from h
  where
    abbrev-free : (b : Bool) (g : Fate) → (is_running g ≡ true → (is_running f ≡ true) × (g ≡ f)) → is_running (cond b g f) ≡ true → (is_running f ≡ true) × (cond b g f ≡ f)
    abbrev-free true g k e = k e
    abbrev-free false g k e = (e, refl)

    leading : (b : Bool) (g : Fate) → (is_running g ≡ true → is_running f ≡ true) → is_running (cond b g f) ≡ true → (is_running f ≡ true) × (true ≡ false → cond b g f ≡ f)
    leading true g k e = (k e, λ w. cc)
    leading false g k e = (e, λ w. cc)

    finishing-run : (f : Fate) → is_running (finishing f) ≡ true → is_running f ≡ true
    finishing-run (Running c js) e = e
    finishing-run (Finishing c js vs) e = e
    finishing-run Undrawn e = e
    finishing-run (Committed x js ds) e = e
    finishing-run (Forgotten x js) e = e
    finishing-run (Ended c) e = e

    heard-run : (j : JoinNo) (ts : ℕ) (f : Fate) → is_running (heard j ts f) ≡ true → is_running f ≡ true
    heard-run j ts (Running c js) e = e
    heard-run j ts (Finishing c js vs) e = e
    heard-run j ts Undrawn e = e
    heard-run j ts (Committed x js ds) e = e
    heard-run j ts (Forgotten x js) e = e
    heard-run j ts (Ended c) e = e

    ended-run : (c : _) (f : Fate) → is_running (ended c f) ≡ true → (is_running f ≡ true) × (ended c f ≡ f)
    ended-run k (Running c js) e = (let wrong : false ≡ true = e in cc)
    ended-run k (Finishing c js vs) e = (let wrong : false ≡ true = e in cc)
    ended-run k Undrawn e = (e, refl)
    ended-run k (Committed x js ds) e = (e, refl)
    ended-run k (Forgotten x js) e = (e, refl)
    ended-run k (Ended c) e = (e, refl)

    acked-run : (j : JoinNo) (f : Fate) → is_running (acknowledged j f) ≡ true → (is_running f ≡ true) × (acknowledged j f ≡ f)
    acked-run j (Running c js) e = (e, refl)
    acked-run j (Finishing c js vs) e = (e, refl)
    acked-run j Undrawn e = (e, refl)
    acked-run j (Committed x js ds) e = (let wrong : false ≡ true = e in cc)
    acked-run j (Forgotten x js) e = (e, refl)
    acked-run j (Ended c) e = (e, refl)

    forgot-run : (f : Fate) → is_running (forgotten f) ≡ true → (is_running f ≡ true) × (forgotten f ≡ f)
    forgot-run (Running c js) e = (e, refl)
    forgot-run (Finishing c js vs) e = (e, refl)
    forgot-run Undrawn e = (e, refl)
    forgot-run (Committed x js ds) e = never (has_all ds js) e
      where
        never : (b : Bool) → is_running (cond b (Forgotten x js) (Committed x js ds)) ≡ true → (false ≡ true) × (cond b (Forgotten x js) (Committed x js ds) ≡ Committed x js ds)
        never true e = (let wrong : false ≡ true = e in cc)
        never false e = (e, refl)
    forgot-run (Forgotten x js) e = (e, refl)
    forgot-run (Ended c) e = (e, refl)

    calm : (d : Deed) → (is_running f ≡ true) × (fate_after d t f ≡ f) → (is_running f ≡ true) × (leads_on d ≡ false → fate_after d t f ≡ f)
    calm d x = (x.0, λ w. x.1)

    go : (d : Deed) → IsEventFrom s e d → is_running (fate_after d t f) ≡ true → (is_running f ≡ true) × (leads_on d ≡ false → fate_after d t f ≡ f)
    go (Finishes u) fr h = leading (same_trans u t) (finishing f) (finishing-run f) h
    go (Hears u j ts) fr h = leading (same_trans u t) (heard j ts f) (heard-run j ts f) h
    go (Ends u c k) fr h = calm (Ends u c k) (abbrev-free (same_trans u t) (ended k f) (ended-run k f) h)
    go (Acknowledges u j) fr h = calm (Acknowledges u j) (abbrev-free (same_trans u t) (acknowledged j f) (acked-run j f) h)
    go (Forgets u) fr h = calm (Forgets u) (abbrev-free (same_trans u t) (forgotten f) (forgot-run f) h)
    go (Joins j u k w) fr h = (h, λ w. refl)
    go (Enters j u k w) fr h = (h, λ w. refl)
    go (Quits j u k w) fr h = (h, λ w. refl)
    go (Aborts j u k w) fr h = (h, λ w. refl)
    go (Begins u k w m) fr h = absurd fr
    go (Registers u j) fr h = absurd fr
    go (Decides x ks) fr h = absurd fr
    go (Restarts epoch clock) fr h = absurd fr
    go (Grants u k) fr h = absurd fr
    go (Performs u x) fr h = absurd fr
    go (Releases u) fr h = absurd fr
    go (Readies j u ts) fr h = absurd fr
    go (Applies j x) fr h = absurd fr

-- a transaction that still runs stands the same, whatever else is lost
pub runs-the-same : (s : State) (e : Event) (p : Deed → Bool) → IsTest p → (t : TransId) (ds : List Deed) → AllByRecursion (IsEventFrom s e) ds → (m k : State) → (is_running (m.fates t) ≡ true → m.fates t ≡ k.fates t)
    → is_running ((state_after state_deed m ds).fates t) ≡ true → (is_running (m.fates t) ≡ true) × ((state_after state_deed m ds).fates t ≡ (state_after state_deed k (filter p ds)).fates t)
runs-the-same s e p o t [] from m k same h = (h, same h)
runs-the-same s e p o t (d ∷ ds) from m k same h = go (p d) refl (λ x y. runs-the-same s e p o t ds from.1 (state_deed m d) x y h)
  where
    back : (is_running (fate_after d t (m.fates t)) ≡ true) → (is_running (m.fates t) ≡ true) × (leads_on d ≡ false → fate_after d t (m.fates t) ≡ m.fates t)
    back r = run-back s e d t (m.fates t) from.0 r

    go : (b : Bool) → p d ≡ b → ((x : State) → (is_running (fate_after d t (m.fates t)) ≡ true → fate_after d t (m.fates t) ≡ x.fates t) → (is_running (fate_after d t (m.fates t)) ≡ true) × ((state_after state_deed (state_deed m d) ds).fates t ≡ (state_after state_deed x (filter p ds)).fates t))
        → (is_running (m.fates t) ≡ true) × ((state_after state_deed (state_deed m d) ds).fates t ≡ (state_after state_deed k (cond b (d ∷ filter p ds) (filter p ds))).fates t)
    go true is rest = (let r = rest (state_deed k d) (λ x. ap (fate_after d t) (same (back x).0)) in ((back r.0).0, r.1))
    go false is rest =
        let calm : leads_on d ≡ false = not-led (leads_on d) refl in
        let r = rest k (λ x. (back x).1 calm ∙ same (back x).0) in ((back r.0).0, r.1)
      where
        not-led : (b : Bool) → leads_on d ≡ b → leads_on d ≡ false
        not-led true w = let wrong : false ≡ true = sym is ∙ o.1 d w in cc
        not-led false w = w

-- ---- lists

pub any-in : {A : Type 0} (p : A → Bool) (x : A) (xs : List A) → IsIn x xs → p x ≡ true → list_any p xs ≡ true
any-in p x [] i e = absurd i
any-in p x (y ∷ ys) (inl is) e = ap (λ (b : Bool). b || list_any p ys) (ap p (sym is) ∙ e)
any-in p x (y ∷ ys) (inr i) e = ap (λ (b : Bool). p y || b) (any-in p x ys i e) ∙ or-right (p y)
  where
    or-right : (b : Bool) → (b || true) ≡ true
    or-right true = refl
    or-right false = refl

pub any-one : {A : Type 0} (p : A → Bool) (xs : List A) → list_any p xs ≡ true → (x : A) × IsIn x xs × (p x ≡ true)
any-one p [] h = (let wrong : false ≡ true = h in cc)
any-one p (x ∷ xs) h = elim (or-true (p x) (list_any p xs) h) [ inl e ↦ (x, inl refl, e) | inr r ↦ (let y = any-one p xs r in (y.0, inr y.1, y.2)) ]

pub in-flat : {A B : Type 0} (f : A → List B) (x : A) (y : B) (xs : List A) → IsIn x xs → IsIn y (f x) → IsIn y (flat_map f xs)
in-flat f x y [] i k = absurd i
in-flat f x y (z ∷ zs) (inl e) k = left (f z) (subst (λ w. IsIn y (f w)) e k)
  where
    left : (ys : List _) → IsIn y ys → IsIn y (ys ++ flat_map f zs)
    left [] a = absurd a
    left (w ∷ ws) a = elim a [ inl q ↦ inl q | inr q ↦ inr (left ws q) ]
in-flat f x y (z ∷ zs) (inr i) k = right (f z) (in-flat f x y zs i k)
  where
    right : (ys : List _) → IsIn y (flat_map f zs) → IsIn y (ys ++ flat_map f zs)
    right [] a = a
    right (w ∷ ws) a = inr (right ws a)

pub flat-in : {A B : Type 0} (f : A → List B) (y : B) (xs : List A) → IsIn y (flat_map f xs) → (x : A) × IsIn x xs × IsIn y (f x)
flat-in f y [] i = absurd i
flat-in f y (x ∷ xs) i = split (λ k. flat-in f y xs k) (f x) i (λ k. k)
  where
    split : (IsIn y (flat_map f xs) → (z : _) × IsIn z xs × IsIn y (f z)) → (ys : List _) → IsIn y (ys ++ flat_map f xs) → (IsIn y ys → IsIn y (f x)) → (z : _) × IsIn z (x ∷ xs) × IsIn y (f z)
    split more [] a g = (let r = more a in (r.0, inr r.1, r.2))
    split more (w ∷ ws) a g = elim a [ inl q ↦ (x, inl refl, g (inl q)) | inr q ↦ split more ws q (λ k. g (inr k)) ]

pub join-turn : (a b : JoinNo) → same_join a b ≡ false → same_join b a ≡ false
join-turn a b e = go (same_join b a) refl
  where
    go : (c : Bool) → same_join b a ≡ c → c ≡ false
    go true f = let wrong : true ≡ false = sym (same_join-self a) ∙ ap (same_join a) (sym (same_join-true b a f)) ∙ e in cc
    go false f = refl

pub trans-turn : (a b : TransId) → same_trans a b ≡ false → same_trans b a ≡ false
trans-turn a b e = go (same_trans b a) refl
  where
    go : (c : Bool) → same_trans b a ≡ c → c ≡ false
    go true f = let wrong : true ≡ false = sym (same_trans-itself a) ∙ ap (same_trans a) (sym (same_trans-true b a f)) ∙ e in cc
    go false f = refl

module _ (log : Log) (proper : IsProper log) where
  -- ---- the decision notes of all openings

  pub server-in : (w : ℕ) → IsIn (of log w) log.servers ⊎ (of log w ≡ nobody w)
  server-in w = go log.servers
    where
      go : (xs : List ServerLog) → IsIn (unwrap_or (find (λ (x : ServerLog). x.opening.server == w) xs) (nobody w)) xs ⊎ (unwrap_or (find (λ (x : ServerLog). x.opening.server == w) xs) (nobody w) ≡ nobody w)
      go [] = inr refl
      go (x ∷ xs) = one (x.opening.server == w) (go xs)
        where
          one : (b : Bool) → IsIn (unwrap_or (find (λ (x : ServerLog). x.opening.server == w) xs) (nobody w)) xs ⊎ (unwrap_or (find (λ (x : ServerLog). x.opening.server == w) xs) (nobody w) ≡ nobody w)
              → IsIn (unwrap_or (cond {A = Option ServerLog} b (Some x) (find (λ (x : ServerLog). x.opening.server == w) xs)) (nobody w)) (x ∷ xs)
              ⊎ (unwrap_or (cond {A = Option ServerLog} b (Some x) (find (λ (x : ServerLog). x.opening.server == w) xs)) (nobody w) ≡ nobody w)
          one true r = inl (inl refl)
          one false r = elim r [ inl i ↦ inl (inr i) | inr e ↦ inr e ]

  abbrev pub IsNotedAt : JoinNo → Type 0
  IsNotedAt j = (w : ℕ) × (d : DecisionNote) × IsIn d (opening_of log w).decisions × (has_join j d.joins ≡ true)

  pub noted-note : (j : JoinNo) → is_noted log j ≡ true → IsNotedAt j
  noted-note j h =
      let x = any-one (λ (d : DecisionNote). has_join j d.joins) (noted log) h in
      let s = flat-in (λ (x : ServerLog). x.opening.decisions) x.0 log.servers x.1 in
      let same : of log (s.0).opening.server ≡ s.0 = proper.different s.0 s.1 in
      ((s.0).opening.server, x.0, subst (λ (y : ServerLog). IsIn x.0 y.opening.decisions) (sym same) s.2, x.2)

  pub in-noted : (w : ℕ) (d : DecisionNote) → IsIn d (opening_of log w).decisions → IsIn d (noted log)
  in-noted w d i = elim (server-in w) [
    | inl s ↦ in-flat (λ (x : ServerLog). x.opening.decisions) (of log w) d log.servers s i
    | inr none ↦ absurd (subst (λ (x : ServerLog). IsIn d x.opening.decisions) none i)
  ]

  pub note-noted : (w : ℕ) (d : DecisionNote) (j : JoinNo) → IsIn d (opening_of log w).decisions → has_join j d.joins ≡ true → is_noted log j ≡ true
  note-noted w d j i e = any-in (λ (d : DecisionNote). has_join j d.joins) d (noted log) (in-noted w d i) e

  -- what is noted is committed at its server
  pub noted-committed : (w : ℕ) (d : DecisionNote) → IsIn d (opening_of log w).decisions → HasCommitted log w d.stamp d.joins
  noted-committed w d i =
      at-end log proper w (λ s. decision_in (s.fates d.stamp.trans) ≡ Some (d.stamp, d.joins))
      (decided-from log proper w d.stamp.trans (d.stamp, d.joins) 0 (size log proper w) (omega arith) (all-of log proper w) (ap decision_in (go (opening_of log w).decisions (λ x k. k) i)))
    where
      go : (ds : List DecisionNote) → ((x : DecisionNote) → IsIn x ds → IsIn x (opening_of log w).decisions) → IsIn d ds → fate_noted ds d.stamp.trans ≡ Committed d.stamp d.joins []
      go [] f k = absurd k
      go (x ∷ xs) f k = one (λ r. go xs (λ y q. f y (inr q)) r) (same_trans x.stamp.trans d.stamp.trans) refl
        where
          one : (IsIn d xs → fate_noted xs d.stamp.trans ≡ Committed d.stamp d.joins []) → (b : Bool) → same_trans x.stamp.trans d.stamp.trans ≡ b → cond b (Committed x.stamp x.joins []) (fate_noted xs d.stamp.trans) ≡ Committed d.stamp d.joins []
          one more true e = ap (λ (y : DecisionNote). Committed y.stamp y.joins []) ((proper.sound w).one_each x d (f x (inl refl)) i (same_trans-true x.stamp.trans d.stamp.trans e))
          one more false e = elim k [
            | inl same ↦ (let wrong : true ≡ false = sym (same_trans-itself x.stamp.trans) ∙ ap (λ (y : DecisionNote). same_trans x.stamp.trans y.stamp.trans) (sym same) ∙ e in cc)
            | inr r ↦ more r
          ]

  -- ---- a decision is of this run, or noted

  abbrev pub IsAged : ℕ → TransId → Fate → Type 0
  IsAged n t f = (y : Decision) → decision_in f ≡ Some y → ((d : DecisionNote) × IsIn d (opening_of log n).decisions × (d.stamp ≡ y.0) × (d.joins ≡ y.1)) ⊎ ((opening_of log n).epoch ≤ t.epoch)

  abbrev pub AreAged : ℕ → State → Type 0
  AreAged n s = ((opening_of log n).epoch ≤ s.ids.epoch) × ((t : TransId) → IsAged n t (s.fates t))

  abbrev Ages : ℕ → Deed → Type 0
  Ages n (Decides x js) = (opening_of log n).epoch ≤ x.trans.epoch
  Ages n (Restarts epoch clock) = (opening_of log n).epoch ≤ epoch
  Ages n d = Unit {0}

  ages-right : (n : ℕ) (e : Event) (m : State) (d : Deed) → AreAged n m → IsRightDeed e m d → Ages n d
  ages-right n e m (Decides x js) q law = let a : (opening_of log n).epoch ≤ m.ids.epoch = q.0 in let b : x.trans.epoch ≡ m.ids.epoch = law.decision.now in omega (arith, a, b)
  ages-right n e m (Restarts epoch clock) q law = let a : (opening_of log n).epoch ≤ m.ids.epoch = q.0 in let b : epoch ≡ m.ids.epoch + 1 = law.counts in omega (arith, a, b)
  ages-right n e m d q law = tt

  ages-keep : (n : ℕ) (s : State) (d : Deed) → Ages n d → AreAged n s → AreAged n (state_deed s d)
  ages-keep n s d a q = (epochs d a, λ t y e. elim (decision-back d t (s.fates t) y e) [ inl old ↦ q.1 t y old | inr new ↦ inr (subst (λ (u : TransId). (opening_of log n).epoch ≤ u.epoch) new.3 (subst (Ages n) new.2 a)) ])
    where
      epochs : (d : Deed) → Ages n d → (opening_of log n).epoch ≤ (ids_after s.ids d).epoch
      epochs (Restarts epoch clock) a = a
      epochs (Begins t c w k) a = q.0
      epochs (Joins j t c w) a = q.0
      epochs (Performs t x) a = q.0
      epochs d a = q.0

  noted-aged : (n : ℕ) (ds : List DecisionNote) → ((d : DecisionNote) → IsIn d ds → IsIn d (opening_of log n).decisions) → (t : TransId) → IsAged n t (fate_noted ds t)
  noted-aged n [] f t y e = (let wrong : None ≡ Some y = e in cc)
  noted-aged n (d ∷ ds) f t y e = go (λ k. noted-aged n ds (λ x i. f x (inr i)) t y k) (same_trans d.stamp.trans t) e
    where
      go : (decision_in (fate_noted ds t) ≡ Some y → ((d : DecisionNote) × IsIn d (opening_of log n).decisions × (d.stamp ≡ y.0) × (d.joins ≡ y.1)) ⊎ ((opening_of log n).epoch ≤ t.epoch)) → (b : Bool) → decision_in (cond b (Committed d.stamp d.joins []) (fate_noted ds t)) ≡ Some y → ((d : DecisionNote) × IsIn d (opening_of log n).decisions × (d.stamp ≡ y.0) × (d.joins ≡ y.1)) ⊎ ((opening_of log n).epoch ≤ t.epoch)
      go more true e = (let same = some-same (d.stamp, d.joins) y e in inl (d, f d (inl refl), ap (λ (z : Decision). z.0) same, ap (λ (z : Decision). z.1) same))
      go more false e = more e

  pub aged-at : (n i : ℕ) → i ≤ size log proper n → AreAged n (state_at log n i)
  aged-at n i le =
      (stands-from log proper.lawful proper.linked (Ages n) (AreAged n) (ages-keep n) (λ s desk down pending q. q) n 0 i
      (λ k e a b at m d q law from. ages-right n e.event m d q law) (λ k e epoch clock q l. (let a : (opening_of log n).epoch ≤ (state_at log n k).ids.epoch = q.0 in omega (arith, a, l)))
      ((omega arith, noted-aged n (opening_of log n).decisions (λ d x. x)), tt) i (omega arith) (omega arith) le).0

  pub aged-end : (n : ℕ) (t : TransId) → IsAged n t ((final log n).fates t)
  aged-end n t = at-end log proper n (λ s. IsAged n t (s.fates t)) ((aged-at n (size log proper n) (all-of log proper n)).1 t)

  -- ---- ready notes

  -- what was decided before is not aborted
  noted-safe : (n : ℕ) (j : JoinNo) (t : TransId) (r : ReadyNote) → is_noted log j ≡ true → IsIn r (opening_of log n).ready → r.join ≡ j → r.trans ≡ t → AbortCame log proper n t j → ⊥
  noted-safe n j t r h i join trans came =
      let x = noted-note j h in
      let sound : IsSoundDecision log x.0 x.1 = (proper.sound x.0).decisions x.1 x.2 in
      let its : r.trans ≡ (x.1).stamp.trans = sound.its n r i (ap (λ k. has_join k (x.1).joins) join ∙ x.3) in
      let is : (x.1).stamp.trans ≡ t = sym its ∙ trans in
      abort-late log proper x.0 n t j ((x.1).stamp, (x.1).joins) (ap (λ (u : TransId). u.server) (sym is) ∙ sound.here) (ap (λ (k : JoinNo). k.server) (sym join) ∙ ((proper.sound n).ready r i).here)
      (subst (λ u. decision_in ((final log x.0).fates u) ≡ Some ((x.1).stamp, (x.1).joins)) is (noted-committed x.0 x.1 x.2)) x.3 came

  -- what is applied of an earlier run was decided before
  pub early-noted : (n : ℕ) (x : Stamp) (k : JoinNo) (r : ReadyNote) → IsIn r (opening_of log n).ready → r.trans ≡ x.trans → WasCommitted log proper x k → is_noted log k ≡ true
  early-noted n x k r i trans c = elim (aged-end c.0 x.trans (x, c.1) c.2) [
    | inl d ↦ note-noted c.0 d.0 k d.1 (ap (has_join k) d.3 ∙ c.3)
    | inr young ↦ absurd
        (let own : x.trans.server ≡ c.0 = (committed-parts log proper c.0 x.trans (x, c.1) c.2).0 in
        let old : r.trans.epoch < (opening_of log r.trans.server).epoch = ((proper.sound n).ready r i).drawn in
        let there : x.trans.epoch < (opening_of log c.0).epoch = subst (λ w. x.trans.epoch < (opening_of log w).epoch) own (subst (λ (u : TransId). u.epoch < (opening_of log u.server).epoch) trans old) in
        omega (arith, young, there))
  ]

  fit : (n : ℕ) (r : ReadyNote) → IsIn r (opening_of log n).ready → IsFit r
  fit n r i = (let s = (proper.sound n).ready r i in record { intended = s.intended; covered = s.covered })

  -- ---- the files that the history begins with

  -- They are those of the opening, with the changes of what was decided before and is applied by now; and with those of what was
  -- decided before and is still ready they are those of the start.
  abbrev pub is_left : (JoinNo → Phase) → JoinNo → Bool
  is_left phases j = is_noted log j && is_ready (phases j)

  abbrev pub is_spent : (JoinNo → Bool) → JoinNo → Bool
  is_spent left j = is_noted log j && not (left j)

  abbrev pub Began : ℕ → (JoinNo → Bool) → Cells → Type 0
  Began n left b = (held (is_spent left) (opening_of log n).ready (opening_of log n).cells ≡ b) × (held left (opening_of log n).ready b ≡ start_of log n)

  pub began-same : (n : ℕ) (p q : JoinNo → Bool) → ((r : ReadyNote) → IsIn r (opening_of log n).ready → p r.join ≡ q r.join) → (b : Cells) → Began n p b → Began n q b
  began-same n p q f b h = (
    held-same (is_spent q) (is_spent p) (opening_of log n).ready (λ r i. ap (λ c. is_noted log r.join && not c) (sym (f r i))) (opening_of log n).cells ∙ h.0,
    held-same q p (opening_of log n).ready (λ r i. sym (f r i)) b ∙ h.1,
  )

  -- one that is decided comes first
  pub began-first : (n : ℕ) (p q : JoinNo → Bool) (r : ReadyNote) → IsIn r (opening_of log n).ready → is_noted log r.join ≡ true → p r.join ≡ true → q r.join ≡ false
      → ((x : ReadyNote) → IsIn x (opening_of log n).ready → same_join r.join x.join ≡ false → p x.join ≡ q x.join) → (b : Cells) → Began n p b → Began n q (edits_map r.edits b)
  began-first n p q r i noted now then_ rest b h = (
    held-first r (fit n r i) (is_spent q) (is_spent p) ((λ k. noted k && not (then_ k))) before (opening_of log n).ready (proper.sound n).distinct (λ x k. (fit n x k, (proper.sound n).agree r x i k))
        (λ x k away. ap (λ c. is_noted log x.join && not c) (sym (rest x k away))) (λ x k. join-turn x.join r.join) (λ x k. trans-turn x.trans r.trans) i (opening_of log n).cells
        ∙ held-behind r (fit n r i) (is_spent p) (opening_of log n).ready (λ x k e. (fit n x k, (proper.sound n).agree r x i k (unlike x k e (same_trans r.trans x.trans) refl))) (opening_of log n).cells
        ∙ ap (edits_map r.edits) h.0,
    sym (held-first r (fit n r i) p q now then_ (opening_of log n).ready (proper.sound n).distinct (λ x k. (fit n x k, (proper.sound n).agree r x i k)) rest (λ x k. join-turn x.join r.join) (λ x k. trans-turn x.trans r.trans) i b) ∙ h.1,
  )
    where
      before : is_spent p r.join ≡ false
      before = (λ k. noted k && not (now k))

      unlike : (x : ReadyNote) → IsIn x (opening_of log n).ready → is_spent p x.join ≡ true → (b : Bool) → same_trans r.trans x.trans ≡ b → same_trans r.trans x.trans ≡ false
      unlike x k e true f =
          let is : r ≡ x = one-of-trans (opening_of log n).ready (proper.sound n).distinct r x i k f in
          let wrong : false ≡ true = sym before ∙ ap (λ (z : ReadyNote). is_spent p z.join) is ∙ e in cc
      unlike x k e false f = f

  module _ (n : ℕ) (m : State) (h : IsLinkedUp log proper n m) where
    pub old-join : (r : ReadyNote) → IsIn r (opening_of log n).ready → IsYoung log proper n r.join → ⊥
    old-join r i y = let a : r.join.epoch < (opening_of log n).epoch = ((proper.sound n).ready r i).older in omega (arith, a, y)

    ready-same : (d : Deed) → ((j : JoinNo) (x : Stamp) → d ≡ Applies j x → ⊥) → Carries (AbortCame log proper n) (CommitCame log proper n) d → (r : ReadyNote) → IsIn r (opening_of log n).ready → is_noted log r.join ≡ true
        → is_ready (m.phases r.join) ≡ is_ready (phase_after d r.join (m.phases r.join))
    ready-same d other carries r i is = go (m.phases r.join) refl (h.parts r.join)
      where
        j : JoinNo
        j = r.join

        go : (p : Phase) → m.phases r.join ≡ p → HasPart log proper n m.holder.lives r.join p → is_ready p ≡ is_ready (phase_after d r.join p)
        go Unseen e a = phase-cases (λ q. false ≡ is_ready q) d r.join Unseen refl (λ t c w e. refl) refl (λ ts. refl) (λ x e. refl) refl (λ t c k e. refl) refl
        go (Applied t x) e a = phase-cases (λ q. false ≡ is_ready q) d r.join (Applied t x) refl (λ t c w e. refl) refl (λ ts. refl) (λ x e. refl) refl (λ t c k e. refl) refl
        go Over e a = phase-cases (λ q. false ≡ is_ready q) d r.join Over refl (λ t c w e. refl) refl (λ ts. refl) (λ x e. refl) refl (λ t c k e. refl) refl
        go (Joining t c w) e a = absurd (old-join r i a)
        go (Active t c w) e a = absurd (old-join r i a.4)
        go (Ready t c ts) e a =
            phase-cases (λ q. true ≡ is_ready q) d r.join (Ready t c ts) refl (λ t c w e. refl) refl (λ ts. refl) (λ x e. absurd (other r.join x e)) refl (λ u k v e. stopped u k v e (same_trans u t) refl) refl
          where
            stopped : (u : TransId) (k : ℕ) (v : _) → d ≡ Aborts r.join u k v → (b : Bool) → same_trans u t ≡ b → true ≡ is_ready (cond b Over (Ready t c ts))
            stopped u k v e false s = refl
            stopped u k v e true s = elim a.3 [
              | inl q ↦ absurd (noted-safe n r.join u q.0 is q.1 q.2 (q.3 ∙ sym (same_trans-true u t s)) (subst (Carries (AbortCame log proper n) (CommitCame log proper n)) e carries))
              | inr y ↦ absurd (old-join r i y.1)
            ]

    calm-turn : (d : Deed) → ((j : JoinNo) (x : Stamp) → d ≡ Applies j x → ⊥) → Carries (AbortCame log proper n) (CommitCame log proper n) d → (b : Cells) → Began n (is_left m.phases) b → Began n (is_left (state_deed m d).phases) b
    calm-turn d other carries b q = began-same n (is_left m.phases) (is_left (state_deed m d).phases) (λ r i. go r i (is_noted log r.join) refl) b q
      where
        go : (r : ReadyNote) → IsIn r (opening_of log n).ready → (c : Bool) → is_noted log r.join ≡ c → (c && is_ready (m.phases r.join)) ≡ (c && is_ready (phase_after d r.join (m.phases r.join)))
        go r i true e = ready-same d other carries r i e
        go r i false e = refl

    apply-turn : (k : JoinNo) (x : Stamp) → Does log proper n m (Applies k x) → CommitCame log proper n x k → (l : Life) → m.holder.lives x.trans ≡ Some l → (b : Cells) → Began n (is_left m.phases) b
        → Began n (is_left (state_deed m (Applies k x)).phases) (behind l b)
    apply-turn k x does came l is b q =
        let mine = subst (HasPart log proper n m.holder.lives k) does.2 (h.parts k) in
        let same : mine.0 ≡ l = some-same mine.0 l (sym mine.1 ∙ is) in
        elim mine.3 [
          | inl r ↦
              let life : l ≡ early_life r.0 = sym same ∙ r.4 in
              let note : is_noted log k ≡ true = early-noted n x k r.0 r.1 r.3 (commit-came log proper n x k came) in
              subst (Began n (is_left (state_deed m (Applies k x)).phases)) (sym (behind-early l b (ap (λ (z : Life). z.is_early) life) ∙ ap (λ (z : Life). edits_map z.edits b) life))
              (began-first n (is_left m.phases) (is_left (state_deed m (Applies k x)).phases) r.0 r.1 (ap (is_noted log) r.2 ∙ note)
              (subst (λ j. is_left m.phases j ≡ true) (sym r.2) (ap (λ c. c && is_ready (m.phases k)) note ∙ ap is_ready does.2))
              (subst (λ j. is_left (state_deed m (Applies k x)).phases j ≡ false) (sym r.2) (ap (λ p. is_noted log k && is_ready p) applied ∙ and-false (is_noted log k)))
              (λ y i e. ap (λ p. is_noted log y.join && is_ready p) (sym (others y.join (ap (λ j. same_join j y.join) (sym r.2) ∙ e)))) b q)
          | inr y ↦
              subst (Began n (is_left (state_deed m (Applies k x)).phases)) (sym (behind-own l b (ap (λ (z : Life). z.is_early) (sym same) ∙ y.0)))
              (began-same n (is_left m.phases) (is_left (state_deed m (Applies k x)).phases) (λ r i. ap (λ p. is_noted log r.join && is_ready p) (sym (others r.join (unlike r i y.1 (same_join k r.join) refl)))) b q)
        ]
      where
        and-false : (c : Bool) → (c && false) ≡ false
        and-false true = refl
        and-false false = refl

        applied : phase_after (Applies k x) k (m.phases k) ≡ Applied x.trans x
        applied =
            ap (λ (c : Bool). cond c (part.applied x (m.phases k)) (m.phases k)) (same_join-self k) ∙ ap (part.applied x) does.2
            ∙ ap (λ (c : Bool). cond c (Applied x.trans x) (Ready x.trans does.0 does.1)) (same_trans-itself x.trans)

        others : (j : JoinNo) → same_join k j ≡ false → phase_after (Applies k x) j (m.phases j) ≡ m.phases j
        others j e = ap (λ (c : Bool). cond c (part.applied x (m.phases j)) (m.phases j)) e

        unlike : (r : ReadyNote) → IsIn r (opening_of log n).ready → IsYoung log proper n k → (c : Bool) → same_join k r.join ≡ c → same_join k r.join ≡ false
        unlike r i y true e = absurd (old-join r i (subst (IsYoung log proper n) (same_join-true k r.join e) y))
        unlike r i y false e = e

    -- each deed turns what is known of the beginning
    pub turns : (d : Deed) → Does log proper n m d → Carries (AbortCame log proper n) (CommitCame log proper n) d → Turns (Began n (is_left m.phases)) (Began n (is_left (state_deed m d).phases)) m.holder d
    turns (Applies k x) does carries = (
      λ none b q. (let mine = subst (HasPart log proper n m.holder.lives k) does.2 (h.parts k) in let wrong : None ≡ Some mine.0 = sym none ∙ mine.1 in cc),
      λ l is b q. apply-turn k x does carries l is b q,
    )
    turns (Begins t c w k) does carries = calm-turn (Begins t c w k) (λ i z e. (let wrong : Begins t c w k ≡ Applies i z = e in cc)) carries
    turns (Joins j t c w) does carries = calm-turn (Joins j t c w) (λ i z e. (let wrong : Joins j t c w ≡ Applies i z = e in cc)) carries
    turns (Enters j t c w) does carries = calm-turn (Enters j t c w) (λ i z e. (let wrong : Enters j t c w ≡ Applies i z = e in cc)) carries
    turns (Quits j t c w) does carries = calm-turn (Quits j t c w) (λ i z e. (let wrong : Quits j t c w ≡ Applies i z = e in cc)) carries
    turns (Aborts j t c w) does carries = calm-turn (Aborts j t c w) (λ i z e. (let wrong : Aborts j t c w ≡ Applies i z = e in cc)) carries
    turns (Grants t c) does carries = calm-turn (Grants t c) (λ i z e. (let wrong : Grants t c ≡ Applies i z = e in cc)) carries
    turns (Performs t y) does carries = calm-turn (Performs t y) (λ i z e. (let wrong : Performs t y ≡ Applies i z = e in cc)) carries
    turns (Releases t) does carries = calm-turn (Releases t) (λ i z e. (let wrong : Releases t ≡ Applies i z = e in cc)) carries
    turns (Readies j t ts) does carries = calm-turn (Readies j t ts) (λ i z e. (let wrong : Readies j t ts ≡ Applies i z = e in cc)) carries
    turns (Registers t j) does carries = calm-turn (Registers t j) (λ i z e. (let wrong : Registers t j ≡ Applies i z = e in cc)) carries
    turns (Finishes t) does carries = calm-turn (Finishes t) (λ i z e. (let wrong : Finishes t ≡ Applies i z = e in cc)) carries
    turns (Hears t j ts) does carries = calm-turn (Hears t j ts) (λ i z e. (let wrong : Hears t j ts ≡ Applies i z = e in cc)) carries
    turns (Decides y js) does carries = calm-turn (Decides y js) (λ i z e. (let wrong : Decides y js ≡ Applies i z = e in cc)) carries
    turns (Ends t c w) does carries = calm-turn (Ends t c w) (λ i z e. (let wrong : Ends t c w ≡ Applies i z = e in cc)) carries
    turns (Acknowledges t j) does carries = calm-turn (Acknowledges t j) (λ i z e. (let wrong : Acknowledges t j ≡ Applies i z = e in cc)) carries
    turns (Forgets t) does carries = calm-turn (Forgets t) (λ i z e. (let wrong : Forgets t ≡ Applies i z = e in cc)) carries
    turns (Restarts a c) does carries = calm-turn (Restarts a c) (λ i z e. (let wrong : Restarts a c ≡ Applies i z = e in cc)) carries
