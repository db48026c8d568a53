-- while a transaction holds what it held, and once it has ended, how another one stands to it
use Rattle.std.specs.Prelude.{Bool, true, false, cond, ◌==◌, is_some, Option, None, Some}
use Rattle.std.proofs.Common.{◌≡◌, ℕ, ◌<◌, ◌≤◌, List, [], ◌∷◌, ◌++◌, refl, sym, ap, subst, ◌∙◌, arith, inl, inr, ◌⊎◌, eq-eqb}
use Rattle.std.proofs.lemmas.Bool.{eqb-true}
use Rattle.alp_base.specs.declared.ids.JoinNo.{JoinNo}
use Rattle.alp_base.specs.declared.ids.TransId.{TransId}
use Rattle.alp_base.specs.declared.ids.Stamp.{Stamp}
use Rattle.alp_files.specs.Holdings.{Holding, DoAgree}
use Rattle.alp_files.specs.Locks.{needs_of, request_of, needs_made}
use Rattle.alp_files.specs.Act.{id_in}
use Rattle.alp_journal.specs.Ids.{same_trans, has_server}
use Rattle.alp_journal.specs.Deeds.{Deed, Begins, Enters, Releases, Readies, Applies, Decides, Restarts}
use Rattle.alp_journal.specs.Coordinator.{Fate, Undrawn, Running, Finishing, Committed, Forgotten, Ended, has_all, is_running, fate_after, decision_in}
use Rattle.alp_journal.specs.Participant.{Phase, Unseen, Joining, Active, Ready, Applied, Over, phase_after}
use Rattle.alp_journal.specs.Holder.{Holder, Life, view_in, new_life, held_for, after_done, answer_in, if_ready, holder_after}
use Rattle.alp_journal.specs.State.{State, state_deed}
use Rattle.alp_journal.specs.Laws.{IsHolding, IsOpenPart}
use Rattle.alp_journal.specs.Holding.{MayDo}
use Rattle.alp_history.specs.Log.{Log}
use Rattle.alp_history.specs.Theorems.{IsProper}
use Rattle.alp_history.proofs.Places.{some-same}
use Rattle.alp_journal.proofs.IdLemmas.{same_trans-true, same_trans-itself}
use Rattle.alp_history.proofs.Fates.{fate-cases, decision-stays, IsOver, over-stays}
use Rattle.alp_history.proofs.Linked.{IsLinkedUp}
use Rattle.alp_history.proofs.Turned.{is_left, Began}
use Rattle.alp_journal.proofs.OneServer.{IsHeld}
use Rattle.alp_journal.specs.Moves.{next_trans}
use Rattle.alp_history.proofs.BegunOrder.{beyond-next}
use Rattle.alp_history.proofs.HeldAlong.{Knows, IsSameCore}
use Rattle.alp_history.proofs.LifeMoves.{Covers, covers-joined, agrees-none, left_of, life-cases, ready-was, kept-grows, phase-moves, applied-keeps, over-keeps}
use Rattle.alp_history.proofs.LockOrder.{LetIn, IsRight, OwnLink, JoinLink, Linked, linked-next, linked-core}

-- ---- later than a time

-- while it runs the kept clock is at least this; its vote and its decision are above
abbrev pub LateFate : ℕ → ℕ → Fate → Type 0
LateFate v kept Undrawn = ⊥
LateFate v kept (Running c js) = v ≤ kept
LateFate v kept (Finishing c js vs) = v ≤ kept
LateFate v kept (Committed x js ds) = v < x.ts
LateFate v kept (Forgotten x js) = v < x.ts
LateFate v kept (Ended c) = Unit {0}

abbrev pub LatePhase : TransId → ℕ → ℕ → Phase → Type 0
LatePhase b v kept Unseen = ⊥
LatePhase b v kept (Joining t c w) = ⊥
LatePhase b v kept (Active t c w) = (t ≡ b) × (v ≤ kept)
LatePhase b v kept (Ready t c ts) = (t ≡ b) × (v < ts)
LatePhase b v kept (Applied t x) = (t ≡ b) × (v < x.ts)
LatePhase b v kept Over = Unit {0}

module _ (log : Log) (proper : IsProper log) where
  module _ (b : TransId) where
    abbrev pub IsLate : ℕ → ℕ → State → Type 0
    IsLate v n s = LateFate v s.holder.kept (s.fates b) ⊎ ((j : JoinNo) × LetIn log proper n b j × LatePhase b v s.holder.kept (s.phases j))

    module _ (v n : ℕ) (m : State) (d : Deed) (held : IsHeld (Began log proper n (is_left log proper m.phases)) m.holder) (may : MayDo m.holder d) (knows : Knows log proper n m d) where
      now : ℕ
      now = (holder_after m.holder d).kept

      grows : m.holder.kept ≤ (holder_after m.holder d).kept
      grows = kept-grows m.holder d (held.order) may

      up : v ≤ m.holder.kept → v ≤ (holder_after m.holder d).kept
      up h = let g : m.holder.kept ≤ (holder_after m.holder d).kept = grows in omega (arith, g, h)

      decides-late : (x : Stamp) (js : List JoinNo) → d ≡ Decides x js → v ≤ m.holder.kept → v < x.ts
      decides-late x js e h =
          let q = subst (MayDo m.holder) e may in
          let above : m.holder.clock < x.ts = q.0 in
          let low : m.holder.kept ≤ m.holder.clock = held.order in omega (arith, above, low, h)

      late-fate : (f : Fate) → LateFate v m.holder.kept f → LateFate v (holder_after m.holder d).kept (fate_after d b f)
      late-fate Undrawn h = absurd h
      late-fate (Running c js) h =
          fate-cases (LateFate v (holder_after m.holder d).kept) d b (Running c js) (up h) (λ k. up h) (λ j. both j (has_server j.server js)) (up h) (λ j ts. up h) (λ x ks i e. up h) (λ k. tt) (λ j. up h) (up h) (λ k. tt)
        where
          both : (j : JoinNo) (t : Bool) → LateFate v (holder_after m.holder d).kept (cond t (Running c js) (Running c (js ++ j ∷ [])))
          both j true = up h
          both j false = up h
      late-fate (Finishing c js vs) h =
          fate-cases (LateFate v (holder_after m.holder d).kept) d b (Finishing c js vs) (up h) (λ k. up h) (λ j. up h) (up h) (λ j ts. up h) (λ x ks i e. decides-late x ks e h) (λ k. tt) (λ j. up h) (up h) (λ k. tt)
      late-fate (Committed x js ds) h =
          fate-cases (LateFate v (holder_after m.holder d).kept) d b (Committed x js ds) h (λ k. h) (λ j. h) h (λ j ts. h) (λ y ks i e. h) (λ k. h) (λ j. h) (both (has_all ds js)) (λ k. h)
        where
          both : (t : Bool) → LateFate v (holder_after m.holder d).kept (cond t (Forgotten x js) (Committed x js ds))
          both true = h
          both false = h
      late-fate (Forgotten x js) h =
          fate-cases (LateFate v (holder_after m.holder d).kept) d b (Forgotten x js) h (λ k. h) (λ j. h) h (λ j ts. h) (λ y ks i e. h) (λ k. h) (λ j. h) h (λ k. h)
      late-fate (Ended c) h =
          fate-cases (LateFate v (holder_after m.holder d).kept) d b (Ended c) tt (λ k. tt) (λ j. tt) tt (λ j ts. tt) (λ y ks i e. tt) (λ k. tt) (λ j. tt) tt (λ k. tt)

      late-phase : (j : JoinNo) (p : Phase) → m.phases j ≡ p → LatePhase b v m.holder.kept p → LatePhase b v (holder_after m.holder d).kept (phase_after d j p)
      late-phase j Unseen is h = absurd h
      late-phase j (Joining u k q) is h = absurd h
      late-phase j (Active u k q) is h =
          phase-moves (LatePhase b v (holder_after m.holder d).kept) d j (Active u k q) (h.0, up h.1) (λ t c w e. (h.0, up h.1)) (λ t c w e. (h.0, up h.1))
          (λ t ts e. (h.0, voting t ts e)) (λ x e. (h.0, up h.1)) tt (λ t. stop (same_trans t u)) (λ x y e. tt)
        where
          voting : (t : TransId) (ts : ℕ) → d ≡ Readies j t ts → v < ts
          voting t ts e =
              let z = subst (MayDo m.holder) e may in
              let above : m.holder.clock < ts = z.0 in
              let low : m.holder.kept ≤ m.holder.clock = held.order in
              let mine : v ≤ m.holder.kept = h.1 in omega (arith, above, low, mine)

          stop : (t : Bool) → LatePhase b v (holder_after m.holder d).kept (cond t Over (Active u k q))
          stop true = tt
          stop false = (h.0, up h.1)
      late-phase j (Ready u k ts) is h =
          phase-moves (LatePhase b v (holder_after m.holder d).kept) d j (Ready u k ts) h (λ t c w e. h) (λ t c w e. h) (λ t n e. h)
          (λ x e. go x e (same_trans x.trans u)) h (λ t. stop (same_trans t u)) (λ x y e. h)
        where
          go : (x : Stamp) → d ≡ Applies j x → (t : Bool) → LatePhase b v (holder_after m.holder d).kept (cond t (Applied u x) (Ready u k ts))
          go x e true =
              let q = subst (Knows log proper n m) e knows in
              let same : Ready u k ts ≡ Ready x.trans q.0 q.1 = sym is ∙ q.2 in
              let its : ts ≡ q.1 = cc in
              let low : q.1 ≤ x.ts = q.4 in
              let mine : v < ts = h.1 in (h.0, omega (arith, its, low, mine))
          go x e false = h

          stop : (t : Bool) → LatePhase b v (holder_after m.holder d).kept (cond t Over (Ready u k ts))
          stop true = tt
          stop false = h
      late-phase j (Applied u x) is h = subst (LatePhase b v (holder_after m.holder d).kept) (sym (applied-keeps u x d j (Applied u x) refl)) h
      late-phase j Over is h = subst (LatePhase b v (holder_after m.holder d).kept) (sym (over-keeps d j Over refl)) tt

      pub late-next : IsLate v n m → IsLate v n (state_deed m d)
      late-next h = elim h [ inl f ↦ inl (late-fate (m.fates b) f) | inr x ↦ inr (x.0, x.1, late-phase x.0 (m.phases x.0) refl x.2) ]

    -- a part that runs is late where this time was kept
    pub late-open : (v n : ℕ) (m : State) → ((j : JoinNo) → IsRight log proper n j (m.phases j)) → v ≤ m.holder.kept → IsOpenPart m b → IsLate v n m
    late-open v n m right low o = elim o [
      | inl r ↦ inl (runs (m.fates b) r)
      | inr x ↦ inr (x.0, subst (IsRight log proper n x.0) x.3 (right x.0), subst (LatePhase b v m.holder.kept) (sym x.3) (refl, low))
    ]
      where
        runs : (f : Fate) → is_running f ≡ true → LateFate v m.holder.kept f
        runs (Running c js) r = low
        runs (Finishing c js vs) r = low
        runs Undrawn r = cc
        runs (Committed x js ds) r = cc
        runs (Forgotten x js) r = cc
        runs (Ended c) r = cc

  -- ---- the one that ends first, and another one

  module _ (a b : TransId) (apart : same_trans b a ≡ false) (locks : Holding) where
    -- it holds what it held then
    abbrev pub IsStill : State → Type 0
    IsStill s = (l : Life) × (s.holder.lives a ≡ Some l) × Covers l.held locks

    -- what the other one holds agrees with that
    abbrev pub IsAway : State → Type 0
    IsAway s = (l : Life) → s.holder.lives b ≡ Some l → DoAgree locks l.held

    abbrev pub IsStamp : Stamp → State → Type 0
    IsStamp x s = ((js : List JoinNo) × (decision_in (s.fates a) ≡ Some (x, js))) ⊎ ((j : JoinNo) × (s.phases j ≡ Applied a x))

    -- it was committed at a stamp that is kept, and the other one holds nothing against it, or is later
    abbrev pub IsPast : ℕ → State → Type 0
    IsPast n s = (x : Stamp) × (x.ts ≤ s.holder.kept) × IsStamp x s × (IsAway s ⊎ IsLate b x.ts n s)

    -- it was aborted
    abbrev pub IsLost : ℕ → State → Type 0
    IsLost n s = IsOver (s.fates a) ⊎ ((j : JoinNo) × LetIn log proper n a j × (s.phases j ≡ Over))

    abbrev pub Race : ℕ → State → Type 0
    Race n s = Linked log proper a n s × (IsStill s ⊎ IsPast n s ⊎ IsLost n s)

    module _ (n : ℕ) (m : State) (d : Deed) (held : IsHeld (Began log proper n (is_left log proper m.phases)) m.holder) (here : m.holder.server ≡ n) (may : MayDo m.holder d) (knows : Knows log proper n m d) (after : IsLinkedUp log proper n (state_deed m d)) (linked : Linked log proper a n m) where
      abbrev Goes : Type 0
      Goes = IsStill (state_deed m d) ⊎ IsPast n (state_deed m d) ⊎ IsLost n (state_deed m d)

      grown : m.holder.kept ≤ (holder_after m.holder d).kept
      grown = kept-grows m.holder d (held.order) may

      abbrev Gone : Type 0
      Gone = IsPast n (state_deed m d) ⊎ IsLost n (state_deed m d)

      -- ---- it ends here

      module _ (l : Life) (lives : m.holder.lives a ≡ Some l) (away : IsAway (state_deed m d))
          (running : (f : Fate) → m.fates a ≡ f → is_running f ≡ true → IsOver (fate_after d a f))
          (active : (j : JoinNo) (c : ℕ) (w : List ℕ) → m.phases j ≡ Active a c w → phase_after d j (m.phases j) ≡ Over)
          (ready : (j : JoinNo) (c ts : ℕ) → m.phases j ≡ Ready a c ts → is_some l.vote ≡ true → ⊥) where
        past : (x : Stamp) → x.ts ≤ m.holder.kept → IsStamp x (state_deed m d) → Gone
        past x low is = inl (x, (let g : m.holder.kept ≤ (holder_after m.holder d).kept = grown in omega (arith, g, low)), is, inl away)

        own-ends : (f : Fate) → m.fates a ≡ f → OwnLink log proper m.holder.kept f → Gone
        own-ends Undrawn is h = absurd h
        own-ends (Running c js) is h = inr (inl (subst (λ f. IsOver (fate_after d a f)) (sym is) (running (Running c js) is refl)))
        own-ends (Finishing c js vs) is h = inr (inl (subst (λ f. IsOver (fate_after d a f)) (sym is) (running (Finishing c js vs) is refl)))
        own-ends (Committed x js ds) is h = past x h (inl (js, decision-stays (x, js) d a (m.fates a) (ap decision_in is)))
        own-ends (Forgotten x js) is h = past x h (inl (js, decision-stays (x, js) d a (m.fates a) (ap decision_in is)))
        own-ends (Ended c) is h = inr (inl (subst (λ f. IsOver (fate_after d a f)) (sym is) (over-stays d a (Ended c) tt)))

        join-ends : (j : JoinNo) → LetIn log proper n a j → (p : Phase) → m.phases j ≡ p → JoinLink log proper a m.holder.kept l.vote p → Gone
        join-ends j came Unseen is h = absurd h
        join-ends j came (Joining t c w) is h = absurd h
        join-ends j came (Active t c w) is h = inr (inr (j, came, active j c w (is ∙ ap (λ z. Active z c w) h)))
        join-ends j came (Ready t c ts) is h = absurd (ready j c ts (is ∙ ap (λ z. Ready z c ts) h.0) h.1)
        join-ends j came (Applied t x) is h = past x h.1 (inr (j, applied-keeps a x d j (m.phases j) (is ∙ ap (λ z. Applied z x) h.0)))
        join-ends j came Over is h = inr (inr (j, came, over-keeps d j (m.phases j) is))

        ends : Gone
        ends = go (a.server == n) refl
          where
            go : (t : Bool) → (a.server == n) ≡ t → Gone
            go true e = own-ends (m.fates a) refl ((linked.own) (eqb-true a.server n e) l lives)
            go false e =
                let q = (linked.other) (λ i. (let wrong : true ≡ false = sym (eq-eqb a.server n i) ∙ e in cc)) l lives in
                join-ends q.0 q.1 (m.phases q.0) refl q.2

      -- what the other one holds agrees with what it holds
      agrees : (l k : Life) → m.holder.lives a ≡ Some l → Covers l.held locks → m.holder.lives b ≡ Some k → DoAgree locks k.held
      agrees l k e cov i = cov k.held ((held.agree) a b l k e i (turned apart))
        where
          turned : same_trans b a ≡ false → same_trans a b ≡ false
          turned x = go (same_trans a b) refl
            where
              go : (t : Bool) → same_trans a b ≡ t → same_trans a b ≡ false
              go true e = let is : a ≡ b = same_trans-true a b e in let wrong : true ≡ false = sym (same_trans-itself b) ∙ ap (same_trans b) (sym is) ∙ x in cc
              go false e = e

      -- ---- while it holds

      begins-not : (h : IsStill m) (c k : ℕ) (w : List ℕ) → d ≡ Begins a c w k → ⊥
      begins-not h c k w e =
          let is : a ≡ next_trans m = subst (Knows log proper n m) e knows in
          let none : m.fates a ≡ Undrawn = (linked.fresh) a (beyond-next a m is) in
          let own : a.server ≡ n = ap (λ x. x.server) is ∙ here in
          subst (OwnLink log proper m.holder.kept) none ((linked.own) own h.0 h.1)

      enters-not : (h : IsStill m) (j : JoinNo) (c : ℕ) (w : List ℕ) → d ≡ Enters j a c w → ⊥
      enters-not h j c w e = (let q = subst (Knows log proper n m) e knows in let wrong : None ≡ Some h.0 = sym q.2 ∙ h.1 in cc)

      released : (h : IsStill m) → d ≡ Releases a → Gone
      released h e =
          ends h.0 h.1 (λ k i. agrees h.0 k h.1 h.2 (left k (subst (λ z. (holder_after m.holder z).lives b ≡ Some k) e i)))
          (λ f is r. (let q = subst (Knows log proper n m) e knows in let wrong : true ≡ false = sym r ∙ ap is_running (sym is) ∙ q.0 in cc))
          (λ j c w is. (let q = subst (Knows log proper n m) e knows in absurd (q.1 j (subst (IsHolding a) (sym is) refl))))
          (λ j c ts is v. (let q = subst (Knows log proper n m) e knows in absurd (q.1 j (subst (IsHolding a) (sym is) refl))))
        where
          left : (k : Life) → (holder_after m.holder (Releases a)).lives b ≡ Some k → m.holder.lives b ≡ Some k
          left k i = go (same_trans b a) apart i
            where
              go : (t : Bool) → t ≡ false → cond t None (m.holder.lives b) ≡ Some k → m.holder.lives b ≡ Some k
              go true x y = cc
              go false x y = y

      restarted : (h : IsStill m) (p q : ℕ) → d ≡ Restarts p q → ((k : Life) × (if_ready (m.holder.lives a) ≡ Some k) × Covers k.held locks) ⊎ Gone
      restarted h p q e = subst (λ (o : Option Life). ((k : Life) × (if_ready o ≡ Some k) × Covers k.held locks) ⊎ Gone) (sym h.1) (go (is_some (h.0).vote) refl)
        where
          over : (f : Fate) → is_running f ≡ true → IsOver (fate_after (Restarts p q) a f)
          over (Running c js) r = tt
          over (Finishing c js vs) r = tt
          over Undrawn r = cc
          over (Committed x js ds) r = cc
          over (Forgotten x js) r = cc
          over (Ended c) r = cc

          go : (t : Bool) → is_some (h.0).vote ≡ t → ((k : Life) × (cond t (Some h.0) None ≡ Some k) × Covers k.held locks) ⊎ Gone
          go true v = inl (h.0, refl, h.2)
          go false v =
              inr (ends h.0 h.1 (λ k i. agrees h.0 k h.1 h.2 (ready-was (m.holder.lives b) k (subst (λ z. (holder_after m.holder z).lives b ≡ Some k) e i)).0)
              (λ f is r. subst (λ z. IsOver (fate_after z a f)) (sym e) (over f r))
              (λ j c w is. subst (λ z. phase_after z j (m.phases j) ≡ Over) (sym e) (subst (λ y. phase_after (Restarts p q) j y ≡ Over) (sym is) refl))
              (λ j c ts is w. (let wrong : true ≡ false = sym w ∙ v in cc)))

      still-next : IsStill m → Goes
      still-next h =
          life-cases (λ o. ((k : Life) × (o ≡ Some k) × Covers k.held locks) ⊎ IsPast n (state_deed m d) ⊎ IsLost n (state_deed m d)) m.holder d a
          (λ q. inl h)
          (λ c k w e. absurd (begins-not h c k w e))
          (λ j c w e. absurd (enters-not h j c w e))
          (λ c l e q. inl (record l { held = held_for m.holder l c }, refl, covers-joined l.held locks (request_of l.held (needs_of (view_in m.holder l) l.own c)) (mine l q)))
          (λ x l e q. inl (after_done l x (answer_in m.holder l x), refl, covers-joined l.held locks (needs_made (id_in x.reply)) (mine l q)))
          (λ e. inr (released h e))
          (λ j ts l e q. inl (record l { vote = Some ts }, refl, mine l q))
          (λ x l t c q. inl (left_of l, refl, mine l q))
          (λ p q e. restarted h p q e)
          (λ j c w l e q p. inl (left_of l, refl, mine l q))
        where
          mine : (l : Life) → m.holder.lives a ≡ Some l → Covers l.held locks
          mine l q = subst (λ (z : Life). Covers z.held locks) (some-same h.0 l (sym h.1 ∙ q)) h.2

      -- ---- once it has ended

      away-next : (v : ℕ) → v ≤ m.holder.kept → IsAway m → IsAway (state_deed m d) ⊎ IsLate b v n (state_deed m d)
      away-next v low h =
          life-cases (λ o. ((k : Life) → o ≡ Some k → DoAgree locks k.held) ⊎ IsLate b v n (state_deed m d)) m.holder d b
          (λ q. inl h)
          (λ c k w e. inl (λ l i. new None c w l i))
          (λ j c w e. inl (λ l i. new (Some j) c w l i))
          (λ c l e q. inr (late (subst (Knows log proper n m) e knows)))
          (λ x l e q. inr (late (subst (Knows log proper n m) e knows)))
          (λ e. inl (λ l i. (let wrong : None ≡ Some l = i in cc)))
          (λ j ts l e q. inl (λ k i. subst (λ (z : Life). DoAgree locks z.held) (some-same (record l { vote = Some ts }) k i) (h l q)))
          (λ x l t c q. inl (λ k i. subst (λ (z : Life). DoAgree locks z.held) (some-same (left_of l) k i) (h l q)))
          (λ p q e. inl (λ l i. h l (ready-was (m.holder.lives b) l i).0))
          (λ j c w l e q p. inl (λ k i. subst (λ (z : Life). DoAgree locks z.held) (some-same (left_of l) k i) (h l q)))
        where
          new : (o : Option JoinNo) (c : ℕ) (w : List ℕ) (l : Life) → Some (new_life o c w) ≡ Some l → DoAgree locks l.held
          new o c w l i = subst (λ (z : Life). DoAgree locks z.held) (some-same (new_life o c w) l i) (agrees-none locks)

          late : IsOpenPart m b → IsLate b v n (state_deed m d)
          late o = late-next b v n m d held may knows (late-open b v n m (linked.right) low o)

      past-next : IsPast n m → IsPast n (state_deed m d)
      past-next h = (
        h.0,
        (let g : m.holder.kept ≤ (holder_after m.holder d).kept = grown in let low : (h.0).ts ≤ m.holder.kept = h.1 in omega (arith, g, low)),
        elim h.2 [ inl x ↦ inl (x.0, decision-stays (h.0, x.0) d a (m.fates a) x.1) | inr x ↦ inr (x.0, applied-keeps a h.0 d x.0 (m.phases x.0) x.1) ],
        elim h.3 [ inl x ↦ away-next (h.0).ts h.1 x | inr x ↦ inr (late-next b (h.0).ts n m d held may knows x) ],
      )

      pub lost-next : IsLost n m → IsLost n (state_deed m d)
      lost-next h = elim h [ inl x ↦ inl (over-stays d a (m.fates a) x) | inr x ↦ inr (x.0, x.1, over-keeps d x.0 (m.phases x.0) x.2) ]

      pub race-next : IsStill m ⊎ IsPast n m ⊎ IsLost n m → Race n (state_deed m d)
      race-next h = (
        linked-next log proper a n m d held here may knows after linked,
        elim h [ inl x ↦ still-next x | inr y ↦ elim y [ inl x ↦ inr (inl (past-next x)) | inr x ↦ inr (inr (lost-next x)) ] ],
      )

    -- ---- states alike

    abbrev pub Rest : ℕ → State → Type 0
    Rest n s = IsStill s ⊎ IsPast n s ⊎ IsLost n s

    rest-core : (n : ℕ) (s m : State) → IsSameCore s m → Rest n s → Rest n m
    rest-core n s m c r =
        subst (λ (f : TransId → Fate). Rest n (record s { holder = m.holder; phases = m.phases; fates = f })) c.3
        (subst (λ (p : JoinNo → Phase). Rest n (record s { holder = m.holder; phases = p })) c.2
        (subst (λ (h : Holder). Rest n (record s { holder = h })) c.1 r))

    pub race-core : (n : ℕ) (s m : State) → IsSameCore s m → Race n s → Race n m
    race-core n s m c r = (linked-core log proper a n s m c r.0, rest-core n s m c r.1)

  pub late-core : (b : TransId) (v n : ℕ) (s m : State) → IsSameCore s m → IsLate b v n s → IsLate b v n m
  late-core b v n s m c r =
      subst (λ (f : TransId → Fate). IsLate b v n (record s { holder = m.holder; phases = m.phases; fates = f })) c.3
      (subst (λ (p : JoinNo → Phase). IsLate b v n (record s { holder = m.holder; phases = p })) c.2
      (subst (λ (h : Holder). IsLate b v n (record s { holder = h })) c.1 r))
