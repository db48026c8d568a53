-- of two decided transactions whose modes on a leaf disagree, the one whose mode ends first has the smaller stamp
use Rattle.std.specs.Prelude.{Bool, true, false, cond, Option, None, Some, IsTrue}
use Rattle.std.specs.declared.cmp.Ordering.TheVariants.{Less}
use Rattle.std.proofs.Common.{◌≡◌, ℕ, suc, ◌<◌, ◌≤◌, List, [], ◌∷◌, refl, sym, ap, subst, ◌∙◌, arith, inl, inr, ◌⊎◌}
use Rattle.alp_base.specs.declared.ids.JoinNo.{JoinNo}
use Rattle.alp_base.specs.declared.ids.TransId.{TransId}
use Rattle.alp_base.specs.declared.ids.Stamp.{Stamp}
use Rattle.alp_base.specs.declared.key.Key.{Key}
use Rattle.alp_modes.specs.declared.Mode.{Mode}
use Rattle.alp_modes.specs.Modes.{agree}
use Rattle.alp_files.specs.Holdings.{Holding, DoAgree, IsIntended, mode_on, agree_held}
use Rattle.alp_files.proofs.HoldingLemmas.{agreement-of-leaves}
use Rattle.alp_journal.specs.Ids.{same_trans, same_join, has_join, stamp_cmp}
use Rattle.alp_journal.specs.Opening.{ReadyNote}
use Rattle.alp_journal.specs.Deeds.{Deed}
use Rattle.alp_journal.specs.Coordinator.{Fate, Undrawn, Running, Finishing, Committed, Forgotten, Ended, decision_in}
use Rattle.alp_journal.specs.Participant.{Phase, Unseen, Joining, Active, Ready, Applied, Over, phase_noted}
use Rattle.alp_journal.specs.Holder.{Holder, Life}
use Rattle.alp_journal.specs.State.{State, state_deed}
use Rattle.alp_journal.specs.Holding.{MayDo}
use Rattle.alp_history.specs.Log.{Log, journal_of, opening_of, state_at, final, IsIn}
use Rattle.alp_history.specs.Theorems.{IsProper, IsDecided, IsKept, mode_in, mode_at, EndsAt, GoesByLocks, GoesByTurns, Order}
use Rattle.alp_history.proofs.Places.{in-list, some-same}
use Rattle.alp_journal.proofs.IdLemmas.{same_trans-true, same_trans-itself, same_join-true}
use Rattle.alp_history.proofs.Fates.{Decision, IsOver, IsBacked}
use Rattle.alp_history.proofs.Phases.{IsSeen, IsTold}
use Rattle.alp_journal.proofs.HistoryOrder.{stamp_cmp-earlier}
use Rattle.alp_history.proofs.Linked.{IsLinkedUp}
use Rattle.alp_history.proofs.Turned.{is_left, Began}
use Rattle.alp_journal.proofs.OneServer.{IsHeld, life-intended}
use Rattle.alp_history.proofs.Logs.{stands-from}
use Rattle.alp_history.proofs.Agreed.{size, at-end, all-of, home-at, backed-at, over-from, over-none, decided-from, committed-parts, told-at, AbortCame, CommitCame, commit-came, agreed, Nothing, nothing, Promise, Acked}
use Rattle.alp_history.proofs.Votes.{IsTimed}
use Rattle.alp_history.proofs.Stamped.{IsSameVote, vote-from, SaidAt, NotedIn, timed-at, decided-timed}
use Rattle.alp_history.proofs.BegunOrder.{fresh-at, begins_order}
use Rattle.alp_history.proofs.HeldAlong.{IsSameCore, Knows, Along_, Resolves}
use Rattle.alp_history.proofs.EachServer.{Place, note-of, place-at, place-from}
use Rattle.alp_history.proofs.LifeMoves.{over-keeps}
use Rattle.alp_history.proofs.LockOrder.{LetIn, IsRight, Linked, linked-next, linked-core}
use Rattle.alp_history.proofs.LockRace.{LateFate, LatePhase, IsLate, late-next, late-core, Race, race-next, race-core}
use Rattle.alp_history.proofs.LetIn.{let-in, IsCalmAt, calm-at}

-- what each deed keeps
abbrev pub IsStep : (log : Log) → IsProper log → (ℕ → State → Type 0) → Type 0
IsStep log proper X =
    (n : ℕ) (m : State) (d : Deed) → IsHeld (Began log proper n (is_left log proper m.phases)) m.holder → m.holder.server ≡ n → ((j : JoinNo) → IsSeen (m.phases j) ≡ true → j.server ≡ n) → MayDo m.holder d → Knows log proper n m d → IsLinkedUp log proper n (state_deed m d) → X n m → X n (state_deed m d)

mode-life : (k : Key) (m : Mode) (o : Option Life) → mode_in k o ≡ Some m → (l : Life) × (o ≡ Some l) × (mode_on l.held k ≡ Some m)
mode-life k m None h = cc
mode-life k m (Some l) h = (l, refl, h)

module _ (log : Log) (proper : IsProper log) where
  -- ---- what a part that lives stands for, at each place

  module _ (x : Stamp) (d : IsDecided log x) where
    abbrev pub L : ℕ → State → Type 0
    L n s = Linked log proper x.trans n s

    -- no part of a transaction of this run lives at an opening
    pub opened-none : (n : ℕ) (l : Life) → (state_at log n 0).holder.lives x.trans ≡ Some l → ⊥
    opened-none n l is =
        let r = note-of (opening_of log n).ready x.trans l is in
        let old : (r.0).trans.epoch < (opening_of log (r.0).trans.server).epoch = ((proper.sound n).ready r.0 r.1).drawn in
        let older : x.trans.epoch < (opening_of log x.trans.server).epoch = subst (λ (t : TransId). t.epoch < (opening_of log t.server).epoch) r.2 old in
        let now : (opening_of log x.trans.server).epoch ≤ x.trans.epoch = d.2 in omega (arith, older, now)

    opened-right : (n : ℕ) (j : JoinNo) (rs : List ReadyNote) → ((r : ReadyNote) → IsIn r rs → IsIn r (opening_of log n).ready) → IsRight log proper n j (phase_noted rs j)
    opened-right n j [] f = tt
    opened-right n j (r ∷ rs) f = go (same_join r.join j) refl (opened-right n j rs (λ q i. f q (inr i)))
      where
        go : (b : Bool) → same_join r.join j ≡ b → IsRight log proper n j (phase_noted rs j) → IsRight log proper n j (cond b (Ready r.trans r.client r.ts) (phase_noted rs j))
        go true e h = inr (r, f r (inl refl), refl, same_join-true r.join j e)
        go false e h = h

    opened-linked : (n : ℕ) → L n (state_at log n 0)
    opened-linked n = record {
      fresh = fresh-at log proper n 0 (omega arith);
      right = λ j. opened-right n j (opening_of log n).ready (λ r i. i);
      own = λ is l e. absurd (opened-none n l e);
      other = λ away l e. absurd (opened-none n l e);
    }

    pub linked-step : IsStep log proper L
    linked-step n m c held here seen may knows after q = linked-next log proper x.trans n m c held here may knows after q

    abbrev linked-place : ℕ → State → Type 0
    linked-place n s = Place log proper L (λ k s m c q. linked-core log proper x.trans k s m c q) linked-step n s

    pub linked-at : (n i : ℕ) → i ≤ size log proper n → linked-place n (state_at log n i)
    linked-at n i le = place-at log proper L (λ k s m c q. linked-core log proper x.trans k s m c q) linked-step n i le (opened-linked n)

  -- ---- another thing kept from a place on at which nothing is pending

  module _ (X : ℕ → State → Type 0) (xc : (n : ℕ) (s m : State) → IsSameCore s m → X n s → X n m) (xs : IsStep log proper X)
      (Y : ℕ → State → Type 0) (yc : (n : ℕ) (s m : State) → IsSameCore s m → Y n s → Y n m) (ys : IsStep log proper Y) where
    pub start : (n : ℕ) (s : State) → s.pending ≡ [] → Along_ log proper X xc xs n s → Y n s → Place log proper Y yc ys n s
    start n s none w y =
        let a : Along_ log proper Y yc ys n s = record { held = w.held; linked = w.linked; here = w.here; seen = w.seen; applied = w.applied; told = w.told; made = w.made; beside = y } in
        (a, subst (λ ds. Resolves log proper Y yc ys n s ds) (sym none) (λ p o. a))

  -- ---- at the end of the log

  same-decision : (x : Stamp) (d : IsDecided log x) (n : ℕ) (y : Stamp) (js : List JoinNo) → decision_in ((final log n).fates x.trans) ≡ Some (y, js) → y ≡ x
  same-decision x d n y js h =
      let home : x.trans.server ≡ n = (committed-parts log proper n x.trans (y, js) h).0 in
      let too : decision_in ((final log n).fates x.trans) ≡ Some (x, d.0) = subst (λ m. decision_in ((final log m).fates x.trans) ≡ Some (x, d.0)) home d.1 in
      ap (λ (z : Decision). z.0) (some-same (y, js) (x, d.0) (sym h ∙ too))

  over-backed : (here : ℕ) (P A : TransId → JoinNo → Type 0) (t : TransId) (f : Fate) → IsOver f → IsBacked here P A t f → t.server ≡ here
  over-backed here P A t (Ended c) o b = b
  over-backed here P A t Undrawn o b = absurd o
  over-backed here P A t (Running c js) o b = absurd o
  over-backed here P A t (Finishing c js vs) o b = absurd o
  over-backed here P A t (Committed x js ds) o b = absurd o
  over-backed here P A t (Forgotten x js) o b = absurd o

  -- a decided transaction is not lost
  pub not-over : (x : Stamp) (d : IsDecided log x) (n i : ℕ) → i ≤ size log proper n → IsOver ((state_at log n i).fates x.trans) → ⊥
  not-over x d n i le o =
      let home : x.trans.server ≡ n = over-backed n (Promise log proper n) (Acked log proper n i) x.trans ((state_at log n i).fates x.trans) o ((backed-at log proper n i i (omega arith) le).1 x.trans) in
      let end : IsOver ((final log n).fates x.trans) = at-end log proper n (λ s. IsOver (s.fates x.trans)) (over-from log proper n x.trans i (size log proper n) le (all-of log proper n) o) in
      let stands : decision_in ((final log n).fates x.trans) ≡ Some (x, d.0) = subst (λ m. decision_in ((final log m).fates x.trans) ≡ Some (x, d.0)) home d.1 in
      over-none log proper ((final log n).fates x.trans) (x, d.0) end stands

  over-end : (n : ℕ) (j : JoinNo) (i : ℕ) → i ≤ size log proper n → (state_at log n i).phases j ≡ Over → (final log n).phases j ≡ Over
  over-end n j i le h =
      at-end log proper n (λ s. s.phases j ≡ Over)
      ((stands-from log proper.lawful proper.linked Nothing (λ s. s.phases j ≡ Over) (λ s d r q. over-keeps d j (s.phases j) q) (λ s desk down pending q. q) n i (size log proper n)
      (λ k e a b at m d q law from. tt) (λ k e epoch clock q l. tt) (h, nothing (state_at log n i).pending) (size log proper n) le (omega arith) (all-of log proper n)).0)

  kept-at : (x : Stamp) (d : IsDecided log x) (n : ℕ) (j : JoinNo) → j.server ≡ n → LetIn log proper n x.trans j → IsKept x ((final log n).phases j)
  kept-at x d n j here came = subst (λ m. IsKept x ((final log m).phases j)) here ((agreed log proper).kept x.trans.server x d.0 j d.1 (let-in log proper x d n j came))

  seen-end : (n : ℕ) (j : JoinNo) (i : ℕ) → i ≤ size log proper n → (p : Phase) → (state_at log n i).phases j ≡ p → IsSeen p ≡ true → j.server ≡ n
  seen-end n j i le p is h = (home-at log proper n i le).1 j (ap IsSeen is ∙ h)

  pub not-lost : (x : Stamp) (d : IsDecided log x) (n i : ℕ) → i ≤ size log proper n → (j : JoinNo) → LetIn log proper n x.trans j → (state_at log n i).phases j ≡ Over → ⊥
  not-lost x d n i le j came is =
      subst (IsKept x) (over-end n j i le is) (kept-at x d n j (seen-end n j i le Over is refl) came)

  -- the stamp that a part of it was committed at is its own
  pub its-stamp : (x : Stamp) (d : IsDecided log x) (n i : ℕ) → i ≤ size log proper n → (y : Stamp) → ((js : List JoinNo) × (decision_in ((state_at log n i).fates x.trans) ≡ Some (y, js))) ⊎ ((j : JoinNo) × ((state_at log n i).phases j ≡ Applied x.trans y)) → y ≡ x
  its-stamp x d n i le y h = elim h [
    | inl q ↦
        same-decision x d n y q.0 (at-end log proper n (λ s. decision_in (s.fates x.trans) ≡ Some (y, q.0)) (decided-from log proper n x.trans (y, q.0) i (size log proper n) le (all-of log proper n) q.1))
    | inr q ↦
        let told = subst (IsTold (AbortCame log proper n) (CommitCame log proper n) q.0) q.1 ((told-at log proper n i le).0 q.0) in
        let was = commit-came log proper n y q.0 told.1 in
        same-decision x d was.0 y was.1 (subst (λ u. decision_in ((final log was.0).fates u) ≡ Some (y, was.1)) (sym told.0) was.2)
  ]

  -- ---- what is later at the end has a later stamp

  late-own : (v kept : ℕ) (x : Stamp) (d : IsDecided log x) (n : ℕ) (f : Fate) → (final log n).fates x.trans ≡ f → IsBacked n (Promise log proper n) (Acked log proper n (size log proper n)) x.trans f → LateFate v kept f → v < x.ts
  late-own v kept x d n f is back h = go f is h (home f back h)
    where
      home : (f : Fate) → IsBacked n (Promise log proper n) (Acked log proper n (size log proper n)) x.trans f → LateFate v kept f → x.trans.server ≡ n
      home Undrawn b h = absurd h
      home (Running c js) b h = b
      home (Finishing c js vs) b h = b.0
      home (Committed y js ds) b h = b.0
      home (Forgotten y js) b h = b.0
      home (Ended c) b h = b

      stands : x.trans.server ≡ n → (f : Fate) → (final log n).fates x.trans ≡ f → decision_in f ≡ Some (x, d.0)
      stands own f is = ap decision_in (sym is) ∙ subst (λ m. decision_in ((final log m).fates x.trans) ≡ Some (x, d.0)) own d.1

      go : (f : Fate) → (final log n).fates x.trans ≡ f → LateFate v kept f → x.trans.server ≡ n → v < x.ts
      go Undrawn is h own = absurd h
      go (Running c js) is h own = let wrong : None ≡ Some (x, d.0) = stands own (Running c js) is in cc
      go (Finishing c js vs) is h own = let wrong : None ≡ Some (x, d.0) = stands own (Finishing c js vs) is in cc
      go (Committed y js ds) is h own = subst (λ (z : Stamp). v < z.ts) (ap (λ (z : Decision). z.0) (some-same (y, js) (x, d.0) (stands own (Committed y js ds) is))) h
      go (Forgotten y js) is h own = subst (λ (z : Stamp). v < z.ts) (ap (λ (z : Decision). z.0) (some-same (y, js) (x, d.0) (stands own (Forgotten y js) is))) h
      go (Ended c) is h own = let wrong : None ≡ Some (x, d.0) = stands own (Ended c) is in cc

  -- a join of its voted for no later time
  voted-low : (x : Stamp) (d : IsDecided log x) (j : JoinNo) → has_join j d.0 ≡ true → (ts : ℕ) × SaidAt log proper x.trans.server (size log proper x.trans.server) x.trans j ts × (ts ≤ x.ts)
  voted-low x d j has =
      let n : ℕ = x.trans.server in
      let timed = at-end log proper n (λ s. IsTimed (SaidAt log proper n (size log proper n)) (NotedIn log proper n) x.trans (s.fates x.trans)) (timed-at log proper n (size log proper n) (size log proper n) (all-of log proper n) (all-of log proper n) x.trans) in
      let both = decided-timed log proper n (size log proper n) x.trans ((final log n).fates x.trans) (x, d.0) d.1 timed in
      elim (both.1 j has) [
        | inl q ↦
            let old : (q.0).stamp.trans.epoch < (opening_of log x.trans.server).epoch = ((proper.sound x.trans.server).decisions q.0 q.1).older in
            let older : x.trans.epoch < (opening_of log x.trans.server).epoch = subst (λ (z : Stamp). z.trans.epoch < (opening_of log x.trans.server).epoch) q.2 old in
            let now : (opening_of log x.trans.server).epoch ≤ x.trans.epoch = d.2 in absurd (omega (arith, older, now))
        | inr q ↦ q
      ]

  late-join : (v kept : ℕ) (x : Stamp) (d : IsDecided log x) (n : ℕ) (j : JoinNo) → LetIn log proper n x.trans j → (p : Phase) → (final log n).phases j ≡ p → LatePhase x.trans v kept p → j.server ≡ n → IsKept x p → v < x.ts
  late-join v kept x d n j came Unseen is h here k = absurd h
  late-join v kept x d n j came (Joining t c w) is h here k = absurd h
  late-join v kept x d n j came (Active t c w) is h here k = absurd k
  late-join v kept x d n j came Over is h here k = absurd k
  late-join v kept x d n j came (Applied t y) is h here k = subst (λ (z : Stamp). v < z.ts) k.1 h.1
  late-join v kept x d n j came (Ready t c ts) is h here k =
      let q = voted-low x d j (let-in log proper x d n j came) in
      let s = q.1 in
      let le : suc s.0 ≤ size log proper j.server = in-list (journal_of log j.server) s.0 s.2 s.5 in
      let first : IsSameVote x.trans q.0 ((state_at log j.server (suc s.0)).phases j) = subst (IsSameVote x.trans q.0) (sym s.6) (refl, refl) in
      let end : IsSameVote x.trans q.0 ((final log j.server).phases j) =
      at-end log proper j.server (λ s. IsSameVote x.trans q.0 (s.phases j)) (vote-from log proper j.server j x.trans q.0 (suc s.0) (size log proper j.server) le (all-of log proper j.server) first) in
      let same = subst (IsSameVote x.trans q.0) is (subst (λ m. IsSameVote x.trans q.0 ((final log m).phases j)) here end) in
      let e : ts ≡ q.0 = same.1 in
      let low : q.0 ≤ x.ts = q.2 in
      let mine : v < ts = h.1 in omega (arith, e, low, mine)

  pub late-end : (v : ℕ) (x : Stamp) (d : IsDecided log x) (n : ℕ) → IsLate log proper x.trans v n (final log n) → v < x.ts
  late-end v x d n h = elim h [
    | inl f ↦
        late-own v (final log n).holder.kept x d n ((final log n).fates x.trans) refl
        (at-end log proper n (λ s. IsBacked n (Promise log proper n) (Acked log proper n (size log proper n)) x.trans (s.fates x.trans)) ((backed-at log proper n (size log proper n) (size log proper n) (all-of log proper n) (all-of log proper n)).1 x.trans)) f
    | inr q ↦
        let here : q.0.server ≡ n = seen-late q.0 ((final log n).phases q.0) refl q.2 in
        late-join v (final log n).holder.kept x d n q.0 q.1 ((final log n).phases q.0) refl q.2 here (kept-at x d n q.0 here q.1)
  ]
    where
      home : (j : JoinNo) → IsSeen ((final log n).phases j) ≡ true → j.server ≡ n
      home j = at-end log proper n (λ s. IsSeen (s.phases j) ≡ true → j.server ≡ n) ((home-at log proper n (size log proper n) (all-of log proper n)).1 j)

      seen-late : (j : JoinNo) (p : Phase) → (final log n).phases j ≡ p → LatePhase x.trans v (final log n).holder.kept p → j.server ≡ n
      seen-late j Unseen is h = absurd h
      seen-late j (Joining t c w) is h = absurd h
      seen-late j (Active t c w) is h = home j (ap IsSeen is)
      seen-late j (Ready t c ts) is h = home j (ap IsSeen is)
      seen-late j (Applied t y) is h = home j (ap IsSeen is)
      seen-late j Over is h = home j (ap IsSeen is)

  -- ---- two transactions at a leaf

  module _ (n i l : ℕ) (k : Key) (a b : Stamp) (m o : Mode) (da : IsDecided log a) (db : IsDecided log b) (apart : same_trans b.trans a.trans ≡ false) (ha : mode_at log n i a.trans k ≡ Some m) (hb : mode_at log n l b.trans k ≡ Some o) (against : agree m o ≡ false) (first : i < l) (l-le : l ≤ size log proper n) where
    i-le : i ≤ size log proper n
    i-le = omega (arith, first, l-le)

    la : (x : Life) × ((state_at log n i).holder.lives a.trans ≡ Some x) × (mode_on x.held k ≡ Some m)
    la = mode-life k m ((state_at log n i).holder.lives a.trans) ha

    lb : (x : Life) × ((state_at log n l).holder.lives b.trans ≡ Some x) × (mode_on x.held k ≡ Some o)
    lb = mode-life k o ((state_at log n l).holder.lives b.trans) hb

    abbrev locks : Holding
    locks = (la.0).held

    -- what the one held and what the other one holds disagree
    clash : DoAgree locks (lb.0).held → ⊥
    clash h =
        let ha = (linked-at a da n i i-le).0.held in
        let hb = (linked-at a da n l l-le).0.held in
        let ia : IsIntended locks = life-intended _ _ _ _ _ la.0 (ha.live a.trans la.0 la.1) in
        let ib : IsIntended (lb.0).held = life-intended _ _ _ _ _ lb.0 (hb.live b.trans lb.0 lb.1) in
        let both : IsTrue (agree_held (mode_on locks k) (mode_on (lb.0).held k)) = agreement-of-leaves locks (lb.0).held h ia ib k in
        let is : IsTrue (agree m o) = subst (λ x. IsTrue (agree_held (Some m) x)) lb.2 (subst (λ x. IsTrue (agree_held x (mode_on (lb.0).held k))) la.2 both) in
        let wrong : true ≡ false = sym is ∙ against in cc

    abbrev R : ℕ → State → Type 0
    R = Race log proper a.trans b.trans apart locks

    race-step : IsStep log proper R
    race-step c s d held here seen may knows after q = race-next log proper a.trans b.trans apart locks c s d held here may knows after q.0 q.1

    pa : IsCalmAt log proper n i
    pa = calm-at log proper n i i-le

    pb : IsCalmAt log proper n l
    pb = calm-at log proper n l l-le

    pa-le : pa.place ≤ size log proper n
    pa-le = let h : pa.place ≤ i = pa.before in let g : i ≤ size log proper n = i-le in omega (arith, h, g)

    pb-le : pb.place ≤ size log proper n
    pb-le = let h : pb.place ≤ l = pb.before in let g : l ≤ size log proper n = l-le in omega (arith, h, g)

    order : pa.place ≤ pb.place
    order = let x : pa.place ≤ i = pa.before in let y : l ≤ suc pb.place = pb.near in omega (arith, x, y, first)

    race-then : R n (state_at log n pb.place)
    race-then =
        ((place-from log proper R (λ c s d e q. race-core log proper a.trans b.trans apart locks c s d e q) race-step n pa.place pb.place order pb-le
        (start (L a da) (λ c s d e q. linked-core log proper a.trans c s d e q) (linked-step a da) R (λ c s d e q. race-core log proper a.trans b.trans apart locks c s d e q) race-step n (state_at log n pa.place) pa.none (linked-at a da n pa.place pa-le).0
        ((linked-at a da n pa.place pa-le).0.beside, inl (la.0, ap {B = Option Life} (λ (h : Holder). h.lives a.trans) (pa.same).1 ∙ la.1, λ c h. h)))).0).beside

    -- the other one's part lives there as it does at its end
    there : (state_at log n pb.place).holder.lives b.trans ≡ Some lb.0
    there = ap {B = Option Life} (λ (h : Holder). h.lives b.trans) (pb.same).1 ∙ lb.1

    late-then : IsLate log proper b.trans a.ts n (state_at log n pb.place)
    late-then = elim race-then.1 [
      | inl still ↦ absurd (clash (still.2 (lb.0).held ((linked-at a da n pb.place pb-le).0.held.agree a.trans b.trans still.0 lb.0 still.1 there turned)))
      | inr gone ↦ elim gone [
        | inl past ↦ (let is : past.0 ≡ a = its-stamp a da n pb.place pb-le past.0 past.2 in
            elim past.3 [ inl away ↦ absurd (clash (away lb.0 there)) | inr late ↦ subst (λ (z : Stamp). IsLate log proper b.trans z.ts n (state_at log n pb.place)) is late ])
        | inr lost ↦ elim lost [ inl q ↦ absurd (not-over a da n pb.place pb-le q) | inr q ↦ absurd (not-lost a da n pb.place pb-le q.0 q.1 q.2) ]
      ]
    ]
      where
        turned : same_trans a.trans b.trans ≡ false
        turned = go (same_trans a.trans b.trans) refl
          where
            go : (t : Bool) → same_trans a.trans b.trans ≡ t → same_trans a.trans b.trans ≡ false
            go true e = (let is : a.trans ≡ b.trans = same_trans-true a.trans b.trans e in let wrong : true ≡ false = sym (same_trans-itself b.trans) ∙ ap (same_trans b.trans) (sym is) ∙ apart in cc)
            go false e = e

    late-step : IsStep log proper (λ c s. IsLate log proper b.trans a.ts c s)
    late-step c s d held here seen may knows after q = late-next log proper b.trans a.ts c s d held may knows q

    late-last : IsLate log proper b.trans a.ts n (final log n)
    late-last =
        at-end log proper n (λ s. IsLate log proper b.trans a.ts n s)
        ((place-from log proper (λ c s. IsLate log proper b.trans a.ts c s) (λ c s d e q. late-core log proper b.trans a.ts c s d e q) late-step n pb.place (size log proper n) pb-le (all-of log proper n)
        (start (L a da) (λ c s d e q. linked-core log proper a.trans c s d e q) (linked-step a da) (λ c s. IsLate log proper b.trans a.ts c s) (λ c s d e q. late-core log proper b.trans a.ts c s d e q) late-step n (state_at log n pb.place) pb.none
        (linked-at a da n pb.place pb-le).0 late-then)).0).beside

    pub less : stamp_cmp a b ≡ Less
    less = stamp_cmp-earlier a b (late-end a.ts b db n late-last)

  pub turns_order : GoesByTurns log
  turns_order n i l k a b m o da db apart ha hb against first le = less n i l k a b m o da db apart ha hb against first le

  -- whose mode ended for good is not the one that holds there later
  not-again : (n i l : ℕ) (k : Key) (a b : TransId) (m o : Mode) → EndsAt log n i a k m → mode_at log n l b k ≡ Some o → i < l → same_trans b a ≡ false
  not-again n i l k a b m o ea hb first = go (same_trans b a) refl
    where
      go : (t : Bool) → same_trans b a ≡ t → same_trans b a ≡ false
      go true e = (let is : b ≡ a = same_trans-true b a e in let wrong : None ≡ Some o = sym (ea.after l first) ∙ ap (λ t. mode_at log n l t k) (sym is) ∙ hb in cc)
      go false e = e

  pub locks_order : GoesByLocks log
  locks_order n i l k a b m o da db ea eb against first =
      less n i l k a b m o da db (not-again n i l k a.trans b.trans m o ea eb.before first) ea.before eb.before against first
      (let h : l < size log proper n = in-list (journal_of log n) l eb.entry eb.stands in omega (arith, h))

pub stamps_go_by_locks : Order
stamps_go_by_locks log proper = (locks_order log proper, turns_order log proper, begins_order log proper)
