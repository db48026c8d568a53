-- a transaction that is decided has a stamp above all that its client had seen
use Rattle.std.specs.Prelude.{Bool, true, false, cond, Option, None, Some}
use Rattle.std.specs.List.{AllByRecursion}
use Rattle.std.proofs.Common.{◌≡◌, ℕ, ◌+◌, ◌<◌, ◌≤◌, List, [], ◌∷◌, ◌++◌, refl, sym, ap, subst, ◌∙◌, arith}
use Rattle.alp_base.specs.declared.ids.JoinNo.{JoinNo}
use Rattle.alp_base.specs.declared.ids.TransId.{TransId}
use Rattle.alp_base.specs.declared.ids.Stamp.{Stamp}
use Rattle.alp_journal.specs.declared.event.Event.{Event}
use Rattle.alp_journal.specs.Ids.{same_trans, has_server}
use Rattle.alp_journal.specs.Deeds.{Deed, Begins, Joins, Enters, Quits, Aborts, Grants, Performs, Releases, Readies, Applies, Registers, Finishes, Hears, Decides, Ends, Acknowledges, Forgets, Restarts}
use Rattle.alp_journal.specs.Coordinator.{Fate, Undrawn, Running, Finishing, Committed, Forgotten, Ended, begun, registered, finishing, heard, decided, ended, acknowledged, forgotten, restarted, fate_after, has_all}
use Rattle.alp_journal.specs.Holder.{Holder, Life, holder_after, grants, performs, readies, commits}
use Rattle.alp_journal.specs.State.{State, state_deed}
use Rattle.alp_journal.specs.Laws.{latest_vote}
use Rattle.alp_history.specs.Log.{Log, state_at}
use Rattle.alp_history.specs.Theorems.{IsProper}
use Rattle.alp_journal.proofs.IdLemmas.{same_trans-true}
use Rattle.alp_history.proofs.Entries.{is_open}
use Rattle.alp_history.proofs.Logs.{stands-from}
use Rattle.alp_journal.proofs.HeldLemmas.{latest-after}
use Rattle.alp_history.proofs.Agreed.{size}
use Rattle.alp_history.proofs.Rights.{IsRightDeed}

-- the clock does not fall, but at a restart
abbrev pub IsRestart : Deed → Bool
IsRestart (Restarts a b) = true
IsRestart d = false

pub clock-grows : (d : Deed) (h : Holder) → IsRestart d ≡ false → h.clock ≤ (holder_after h d).clock
clock-grows (Begins t c w n) h r = omega arith
clock-grows (Grants t c) h r = go (h.lives t)
  where
    go : (l : Option Life) → h.clock ≤ (grants h t c l).clock
    go None = omega arith
    go (Some l) = omega arith
clock-grows (Performs t x) h r = go (h.lives t)
  where
    go : (l : Option Life) → h.clock ≤ (performs h t x l).clock
    go None = omega arith
    go (Some l) = omega arith
clock-grows (Readies j t ts) h r = go (h.lives t)
  where
    go : (l : Option Life) → h.clock ≤ (readies h t ts l).clock
    go None = omega arith
    go (Some l) = omega arith
clock-grows (Applies j x) h r = go (h.lives x.trans)
  where
    go : (l : Option Life) → h.clock ≤ (commits h x l).clock
    go None = omega arith
    go (Some l) = omega arith
clock-grows (Decides x js) h r = go (h.lives x.trans)
  where
    go : (l : Option Life) → h.clock ≤ (commits h x l).clock
    go None = omega arith
    go (Some l) = omega arith
clock-grows (Restarts a b) h r = cc
clock-grows (Enters j t c w) h r = omega arith
clock-grows (Joins j t c w) h r = omega arith
clock-grows (Quits j t c w) h r = omega arith
clock-grows (Aborts j t c w) h r = omega arith
clock-grows (Releases t) h r = omega arith
clock-grows (Registers t j) h r = omega arith
clock-grows (Finishes t) h r = omega arith
clock-grows (Hears t j ts) h r = omega arith
clock-grows (Ends t c w) h r = omega arith
clock-grows (Acknowledges t j) h r = omega arith
clock-grows (Forgets t) h r = omega arith

-- while it runs the clock is at least what its client saw; when it is committed its stamp is above
abbrev pub IsAfter : ℕ → ℕ → Fate → Type 0
IsAfter seen clock Undrawn = ⊥
IsAfter seen clock (Running c js) = seen ≤ clock
IsAfter seen clock (Finishing c js vs) = seen ≤ clock
IsAfter seen clock (Committed x js ds) = seen < x.ts
IsAfter seen clock (Forgotten x js) = seen < x.ts
IsAfter seen clock (Ended c) = Unit {0}

-- a decision of the transaction is above
abbrev pub Above : ℕ → TransId → Deed → Type 0
Above seen t (Decides x js) = x.trans ≡ t → seen < x.ts
Above seen t d = Unit {0}

later : (seen a b : ℕ) (f : Fate) → a ≤ b → IsAfter seen a f → IsAfter seen b f
later seen a b Undrawn le h = h
later seen a b (Running c js) le h = omega (arith, le, h)
later seen a b (Finishing c js vs) le h = omega (arith, le, h)
later seen a b (Committed x js ds) le h = h
later seen a b (Forgotten x js) le h = h
later seen a b (Ended c) le h = h

module _ (seen : ℕ) (t : TransId) where
  fate-later : (d : Deed) (clock : ℕ) (f : Fate) → Above seen t d → IsRestart d ≡ false → IsAfter seen clock f → IsAfter seen clock (fate_after d t f)
  fate-later d clock f up r h = go d up r f h
    where
      one : (u : TransId) (g f : Fate) → IsAfter seen clock f → (u ≡ t → IsAfter seen clock g) → (b : Bool) → same_trans u t ≡ b → IsAfter seen clock (cond b g f)
      one u g f h k true e = k (same_trans-true u t e)
      one u g f h k false e = h

      b1 : (c : ℕ) (f : Fate) → IsAfter seen clock f → IsAfter seen clock (begun c f)
      b1 c Undrawn h = absurd h
      b1 c (Running k js) h = h
      b1 c (Finishing k js vs) h = h
      b1 c (Committed x js ds) h = h
      b1 c (Forgotten x js) h = h
      b1 c (Ended k) h = h

      r1 : (j : JoinNo) (f : Fate) → IsAfter seen clock f → IsAfter seen clock (registered j f)
      r1 j Undrawn h = absurd h
      r1 j (Running k js) h = both (has_server j.server js)
        where
          both : (b : Bool) → IsAfter seen clock (cond b (Running k js) (Running k (js ++ j ∷ [])))
          both true = h
          both false = h
      r1 j (Finishing k js vs) h = h
      r1 j (Committed x js ds) h = h
      r1 j (Forgotten x js) h = h
      r1 j (Ended k) h = h

      f1 : (f : Fate) → IsAfter seen clock f → IsAfter seen clock (finishing f)
      f1 Undrawn h = absurd h
      f1 (Running k js) h = h
      f1 (Finishing k js vs) h = h
      f1 (Committed x js ds) h = h
      f1 (Forgotten x js) h = h
      f1 (Ended k) h = h

      h1 : (j : JoinNo) (ts : ℕ) (f : Fate) → IsAfter seen clock f → IsAfter seen clock (heard j ts f)
      h1 j ts Undrawn h = absurd h
      h1 j ts (Running k js) h = h
      h1 j ts (Finishing k js vs) h = h
      h1 j ts (Committed x js ds) h = h
      h1 j ts (Forgotten x js) h = h
      h1 j ts (Ended k) h = h

      d1 : (x : Stamp) (js : List JoinNo) (f : Fate) → seen < x.ts → IsAfter seen clock f → IsAfter seen clock (decided x js f)
      d1 x js Undrawn u h = absurd h
      d1 x js (Running k ks) u h = h
      d1 x js (Finishing k ks vs) u h = u
      d1 x js (Committed y ks ds) u h = h
      d1 x js (Forgotten y ks) u h = h
      d1 x js (Ended k) u h = h

      e1 : (c : _) (f : Fate) → IsAfter seen clock f → IsAfter seen clock (ended c f)
      e1 c Undrawn h = absurd h
      e1 c (Running k ks) h = tt
      e1 c (Finishing k ks vs) h = tt
      e1 c (Committed y ks ds) h = h
      e1 c (Forgotten y ks) h = h
      e1 c (Ended k) h = h

      a1 : (j : JoinNo) (f : Fate) → IsAfter seen clock f → IsAfter seen clock (acknowledged j f)
      a1 j Undrawn h = absurd h
      a1 j (Running k ks) h = h
      a1 j (Finishing k ks vs) h = h
      a1 j (Committed y ks ds) h = h
      a1 j (Forgotten y ks) h = h
      a1 j (Ended k) h = h

      o1 : (f : Fate) → IsAfter seen clock f → IsAfter seen clock (forgotten f)
      o1 Undrawn h = absurd h
      o1 (Running k ks) h = h
      o1 (Finishing k ks vs) h = h
      o1 (Committed y ks ds) h = both (has_all ds ks)
        where
          both : (b : Bool) → IsAfter seen clock (cond b (Forgotten y ks) (Committed y ks ds))
          both true = h
          both false = h
      o1 (Forgotten y ks) h = h
      o1 (Ended k) h = h

      go : (d : Deed) → Above seen t d → IsRestart d ≡ false → (f : Fate) → IsAfter seen clock f → IsAfter seen clock (fate_after d t f)
      go (Begins u c w n) up r f h = one u (begun c f) f h (λ e. b1 c f h) (same_trans u t) refl
      go (Registers u j) up r f h = one u (registered j f) f h (λ e. r1 j f h) (same_trans u t) refl
      go (Finishes u) up r f h = one u (finishing f) f h (λ e. f1 f h) (same_trans u t) refl
      go (Hears u j ts) up r f h = one u (heard j ts f) f h (λ e. h1 j ts f h) (same_trans u t) refl
      go (Decides x js) up r f h = one x.trans (decided x js f) f h (λ e. d1 x js f (up e) h) (same_trans x.trans t) refl
      go (Ends u c k) up r f h = one u (ended k f) f h (λ e. e1 k f h) (same_trans u t) refl
      go (Acknowledges u j) up r f h = one u (acknowledged j f) f h (λ e. a1 j f h) (same_trans u t) refl
      go (Forgets u) up r f h = one u (forgotten f) f h (λ e. o1 f h) (same_trans u t) refl
      go (Restarts a b) up r f h = cc
      go (Joins j u c w) up r f h = h
      go (Enters j u c w) up r f h = h
      go (Quits j u c w) up r f h = h
      go (Aborts j u c w) up r f h = h
      go (Grants u c) up r f h = h
      go (Performs u x) up r f h = h
      go (Releases u) up r f h = h
      go (Readies j u ts) up r f h = h
      go (Applies j x) up r f h = h

  again : (n a b : ℕ) (f : Fate) → IsAfter seen a f → IsAfter seen b (restarted n f)
  again n a b Undrawn h = h
  again n a b (Running k ks) h = tt
  again n a b (Finishing k ks vs) h = tt
  again n a b (Committed y ks ds) h = h
  again n a b (Forgotten y ks) h = h
  again n a b (Ended k) h = h

  abbrev pub IsAfterIn : State → Type 0
  IsAfterIn s = IsAfter seen s.holder.clock (s.fates t)

  pub after-keep : (s : State) (d : Deed) → Above seen t d → IsAfterIn s → IsAfterIn (state_deed s d)
  after-keep s d up h = go (IsRestart d) refl d refl
    where
      go : (b : Bool) → IsRestart d ≡ b → (c : Deed) → d ≡ c → IsAfterIn (state_deed s d)
      go false e c is = later seen s.holder.clock (holder_after s.holder d).clock (fate_after d t (s.fates t)) (clock-grows d s.holder e) (fate-later d s.holder.clock (s.fates t) up e h)
      go true e (Restarts n k) is = subst (λ x. IsAfterIn (state_deed s x)) (sym is) (again n s.holder.clock k (s.fates t) h)
      go true e (Begins u c w n) is = let no : IsRestart (Begins u c w n) ≡ true = sym (ap IsRestart is) ∙ e in let wrong : false ≡ true = no in cc
      go true e (Joins j u c w) is = let wrong : false ≡ true = sym (ap IsRestart is) ∙ e in cc
      go true e (Enters j u c w) is = let wrong : false ≡ true = sym (ap IsRestart is) ∙ e in cc
      go true e (Quits j u c w) is = let wrong : false ≡ true = sym (ap IsRestart is) ∙ e in cc
      go true e (Aborts j u c w) is = let wrong : false ≡ true = sym (ap IsRestart is) ∙ e in cc
      go true e (Grants u c) is = let wrong : false ≡ true = sym (ap IsRestart is) ∙ e in cc
      go true e (Performs u x) is = let wrong : false ≡ true = sym (ap IsRestart is) ∙ e in cc
      go true e (Releases u) is = let wrong : false ≡ true = sym (ap IsRestart is) ∙ e in cc
      go true e (Readies j u ts) is = let wrong : false ≡ true = sym (ap IsRestart is) ∙ e in cc
      go true e (Applies j x) is = let wrong : false ≡ true = sym (ap IsRestart is) ∙ e in cc
      go true e (Registers u j) is = let wrong : false ≡ true = sym (ap IsRestart is) ∙ e in cc
      go true e (Finishes u) is = let wrong : false ≡ true = sym (ap IsRestart is) ∙ e in cc
      go true e (Hears u j ts) is = let wrong : false ≡ true = sym (ap IsRestart is) ∙ e in cc
      go true e (Decides x js) is = let wrong : false ≡ true = sym (ap IsRestart is) ∙ e in cc
      go true e (Ends u c k) is = let wrong : false ≡ true = sym (ap IsRestart is) ∙ e in cc
      go true e (Acknowledges u j) is = let wrong : false ≡ true = sym (ap IsRestart is) ∙ e in cc
      go true e (Forgets u) is = let wrong : false ≡ true = sym (ap IsRestart is) ∙ e in cc

  pub after-right : (e : Event) (m : State) (d : Deed) → IsAfterIn m → IsRightDeed e m d → Above seen t d
  after-right e m (Decides x js) h law = λ is.
      let v = law.decision in
      let at : m.fates t ≡ Finishing (v.client) js (v.votes) = ap m.fates (sym is) ∙ v.finishing in
      let low : seen ≤ m.holder.clock = subst (IsAfter seen m.holder.clock) at h in
      let up : m.holder.clock + 1 ≤ latest_vote (m.holder.clock + 1) (v.votes) = latest-after (m.holder.clock + 1) (v.votes) in
      let time : x.ts ≡ latest_vote (m.holder.clock + 1) (v.votes) = v.time in
      omega (arith, low, up, time)
  after-right e m d h law = tt

module _ (log : Log) (proper : IsProper log) (seen : ℕ) (t : TransId) where
  -- from a place on where it runs, and nothing of it is pending
  pub after-from : (n i k : ℕ) → i ≤ k → k ≤ size log proper n → (state_at log n i).pending ≡ [] → IsAfterIn seen t (state_at log n i) → IsAfterIn seen t (state_at log n k)
  after-from n i k le end none h =
      (stands-from log proper.lawful proper.linked (Above seen t) (IsAfterIn seen t) (after-keep seen t) (λ s desk down pending q. q) n i k
      (λ k e a b at m d q law from. after-right seen t e.event m d q law) (λ k e epoch clock q l. tt)
      (h, subst (λ ds. AllByRecursion (λ d. is_open d ≡ true → Above seen t d) ds) (sym none) tt) k le (omega arith) end).0
