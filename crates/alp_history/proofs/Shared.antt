-- the calls of a share are those that entries performed
use Rattle.std.specs.Prelude.{Bool, true, false, cond, filter, ◌==◌, Option, None, Some, map as list_map, T, flat_map}
use Rattle.std.specs.List.{AllByRecursion}
use Rattle.std.specs.FinMap.Entries.{put, is_sorted}
use Rattle.std.specs.declared.cmp.Ordering.{Ordering}
use Rattle.std.specs.declared.cmp.Ordering.TheVariants.{Less, Equal, Greater}
use Rattle.std.proofs.Common.{◌≡◌, ℕ, zero, suc, ◌<◌, ◌≤◌, List, [], ◌∷◌, ◌++◌, slice_get, length, refl, sym, ap, subst, ◌∙◌, ◌⊎◌, inl, inr, arith, eq-eqb}
use Rattle.std.proofs.lemmas.Bool.{eqb-true}
use Rattle.alp_base.specs.declared.ids.JoinNo.{JoinNo}
use Rattle.alp_base.specs.declared.ids.TransId.{TransId}
use Rattle.alp_base.specs.declared.ids.Stamp.{Stamp}
use Rattle.alp_files.specs.History.{PerformedCall, Decided}
use Rattle.alp_journal.specs.declared.entry.Entry.{Entry}
use Rattle.alp_journal.specs.Along.{state_after}
use Rattle.alp_journal.specs.Ids.{has_join, has_server, stamp_cmp}
use Rattle.alp_journal.specs.Opening.{ReadyNote}
use Rattle.alp_journal.specs.Deeds.{Deed, Performs}
use Rattle.alp_journal.specs.Coordinator.{decision_in}
use Rattle.alp_journal.specs.Participant.{Phase, Unseen, Joining, Active, Ready, Applied, Over}
use Rattle.alp_journal.specs.Holder.{Holder, Life, new_life, held_for, after_done, answer_in, performs, holder_after}
use Rattle.alp_journal.specs.State.{State, state_deed}
use Rattle.alp_journal.specs.Moves.{stops, tried, told, halted, next}
use Rattle.alp_history.specs.Log.{Log, Decision, journal_of, opening_of, state_at, final, IsIn, decided, share_at, of_life, shares_on, servers_in, shares_of}
use Rattle.alp_history.specs.Theorems.{IsProper, IsDecided, IsWhole, PerformedThere, HasShare, AreRising, AreShared, Sharing}
use Rattle.alp_history.proofs.Places.{past-end, some-same}
use Rattle.alp_history.proofs.BegunOrder.{in-left, in-right}
use Rattle.alp_history.proofs.Fates.{IsOver}
use Rattle.alp_history.proofs.Phases.{IsSeen}
use Rattle.alp_history.proofs.Logs.{state-suc}
use Rattle.alp_history.proofs.LifeMoves.{left_of, life-cases, ready-was}
use Rattle.alp_journal.proofs.StampLemmas.{itself}
use Rattle.alp_history.proofs.Linked.{HasPart, IsKeptAt}
use Rattle.alp_history.proofs.Turned.{in-flat}
use Rattle.alp_history.proofs.HeldAlong.{exact_stamps}
use Rattle.alp_history.proofs.EachServer.{place-from}
use Rattle.alp_history.proofs.LockOrder.{JoinLink}
use Rattle.alp_history.proofs.LockEnds.{linked-at, start, opened-none, not-over, not-lost, its-stamp}
use Rattle.alp_history.proofs.LetIn.{let-in}
use Rattle.alp_history.proofs.Agreed.{size, all-of, at-end, from-end, home-at}
use Rattle.alp_history.proofs.Decisions.{at_key, find-in, put-find, put-same, linked-end, decided-in, decided-sorted, in-filter, IsDecision, tied-end}
use Rattle.alp_history.proofs.Merged.{head-low, rest-sorted, in-eight}
use Rattle.alp_history.proofs.Votes.{joined-server}
use Rattle.alp_history.proofs.Wholes.{are-whole}
use Rattle.alp_history.proofs.LatestThere.{noted-other}
use Rattle.alp_history.proofs.EffectiveActs.{came}
use Rattle.alp_history.proofs.CommitEntries.{all-from, append-in}
use Rattle.alp_history.proofs.Performed.{IsDoneMore}
use Rattle.alp_history.proofs.SharesKept.{applied-cases, IsLive, Goes, X, x-core, x-step, B, b-core, b-step, bare-at, inside, more_of, undecided, unapplied, young, quiet}

-- ---- a call that was performed stays among those of the part

module _ (log : Log) (proper : IsProper log) (x : Stamp) (dx : IsDecided log x) where
  module _ (d : PerformedCall) where
    abbrev Among : List ℕ → List PerformedCall → Type 0
    Among who cs = IsIn d cs

    among-grows : (who : List ℕ) (cs : List PerformedCall) (y : PerformedCall) → Among who cs → Among who (cs ++ y ∷ [])
    among-grows who cs y i = in-left d cs (y ∷ []) i

    abbrev XA : ℕ → State → Type 0
    XA = X log proper x dx Among among-grows

    module _ (n : ℕ) (w : PerformedThere log n x.trans d) where
      abbrev i : ℕ
      i = w.place

      abbrev s : State
      s = state_at log n (suc i)

      abbrev m : IsDoneMore log proper n w.place w.entry w.stands w.goes x d w.performs dx
      m = more_of log proper x dx n d w

      low : suc i ≤ size log proper n
      low = inside log proper x dx n d w

      at_last : Goes log proper x dx Among among-grows n (final log n)
      at_last =
          let begun : XA n s = (
            (bare-at log proper x dx n (suc i) low).0.beside,
            inl (record {
              life = m.later;
              lives = m.stands_so;
              among = subst (IsIn d) (sym m.calls_so) (in-right d m.earlier.calls (d ∷ []) (inl refl));
              young = young log proper x dx n d w;
              undecided = undecided log proper x dx n d w;
              unapplied = unapplied log proper x dx n d w;
            }),
          ) in
          (at-end log proper n (λ z. XA n z)
          ((place-from log proper XA (x-core log proper x dx Among among-grows) (x-step log proper x dx Among among-grows) n (suc i) (size log proper n) low (all-of log proper n)
          (start log proper (B log proper x dx) (b-core log proper x dx) (b-step log proper x dx) XA (x-core log proper x dx Among among-grows) (x-step log proper x dx Among among-grows) n s (quiet log proper x dx n d w) (bare-at log proper x dx n (suc i) low).0 begun)).0).beside).1

      abbrev fin : State
      fin = final log n

      -- its share is the one that was applied, or the part that is ready still
      shared : (share : Decided) × HasShare log x n share × IsIn d share.calls
      shared = elim at_last [
        | inl live ↦
            let none : at_key x fin.holder.applied ≡ None = not-there live (at_key x fin.holder.applied) refl in
            let share : Decided = record { stamp = x; who = (live.life).who; calls = (live.life).calls } in
            (share, ap (λ o. list_map (λ (v : Decided). (n, v)) (share_at fin x o)) none ∙ ap (λ o. list_map (λ (v : Decided). (n, v)) (of_life x o)) live.lives, live.among)
        | inr rest ↦ elim rest [
          | inl done ↦
              let is : done.0 ≡ x = stamp-is done.0 (done.2).0 done.1 (done.2).1 in
              let at : at_key x fin.holder.applied ≡ Some (done.2).0 = ap (λ z. at_key z fin.holder.applied) (sym is) ∙ (done.2).1 in
              ((done.2).0, ap (λ o. list_map (λ (v : Decided). (n, v)) (share_at fin x o)) at, (done.2).2)
          | inr gone ↦ absurd (elim gone [
            | inl o ↦ not-over log proper x dx n (size log proper n) (all-of log proper n) (from-end log proper n (λ z. IsOver (z.fates x.trans)) o)
            | inr q ↦ not-lost log proper x dx n (size log proper n) (all-of log proper n) q.0 q.1 (from-end log proper n (λ z. z.phases q.0 ≡ Over) q.2)
          ])
        ]
      ]
        where
          not-there : IsLive log proper x dx Among among-grows (final log n).holder (final log n).phases (final log n).fates → (o : Option Decided) → at_key x (final log n).holder.applied ≡ o → at_key x (final log n).holder.applied ≡ None
          not-there live None e = e
          not-there live (Some v) e = absurd (elim (tied-end log proper n x v (find-in x v (final log n).holder.applied e)) [
            | inl own ↦ (let wrong : None ≡ Some (x, (own.2).0) = sym live.undecided ∙ (own.2).1 in cc)
            | inr p ↦ live.unapplied p.0 x p.1
          ])

          stamp-is : (y : Stamp) (v : Decided) → y.trans ≡ x.trans → at_key y (final log n).holder.applied ≡ Some v → y ≡ x
          stamp-is y v same e = its-stamp log proper x dx n (size log proper n) (all-of log proper n) y (elim (tied-end log proper n y v (find-in y v (final log n).holder.applied e)) [
            | inl own ↦ inl ((own.2).0, from-end log proper n (λ z. decision_in (z.fates x.trans) ≡ Some (y, (own.2).0)) (ap (λ (u : TransId). decision_in ((final log n).fates u)) (sym same) ∙ (own.2).1))
            | inr p ↦ inr (p.0, from-end log proper n (λ z. z.phases p.0 ≡ Applied x.trans y) (p.1 ∙ ap (λ (u : TransId). Applied u y) same))
          ])

      -- the server takes part
      takes : (x.trans.server ≡ n) ⊎ ((j : JoinNo) × (j.server ≡ n) × (has_join j dx.0 ≡ true))
      takes = go (x.trans.server == n) refl
        where
          seen : (j : JoinNo) (p : Phase) → (state_at log n (suc i)).phases j ≡ p → JoinLink log proper x.trans s.holder.kept (m.later).vote p → IsSeen p ≡ true
          seen j Unseen is link = absurd link
          seen j (Joining t c v) is link = absurd link
          seen j (Active t c v) is link = refl
          seen j (Ready t c ts) is link = refl
          seen j (Applied t y) is link = refl
          seen j Over is link = refl

          go : (t : Bool) → (x.trans.server == n) ≡ t → (x.trans.server ≡ n) ⊎ ((j : JoinNo) × (j.server ≡ n) × (has_join j dx.0 ≡ true))
          go true e = inl (eqb-true x.trans.server n e)
          go false e =
              let q = ((linked-at log proper x dx n (suc i) low).0.beside).other (λ k. (let wrong : true ≡ false = sym (eq-eqb x.trans.server n k) ∙ e in cc)) m.later m.stands_so in
              inr (q.0, (home-at log proper n (suc i) low).1 q.0 (seen q.0 (s.phases q.0) refl q.2), let-in log proper x dx n q.0 q.1)

  -- ---- a call of a share was performed

  module _ (n : ℕ) (d : PerformedCall) where
    abbrev Has : State → Type 0
    Has s = ((l : Life) × (s.holder.lives x.trans ≡ Some l) × IsIn d l.calls) ⊎ ((v : Decided) × (at_key x s.holder.applied ≡ Some v) × IsIn d v.calls)

    abbrev Before : State → Deed → Type 0
    Before s f = Has s ⊎ (f ≡ Performs x.trans d)

    life-new : (s : State) (f : Deed) (k : Life) → (holder_after s.holder f).lives x.trans ≡ Some k → IsIn d k.calls → Before s f
    life-new s f k is i =
        life-cases (λ o. (q : Life) → o ≡ Some q → IsIn d q.calls → Before s f) s.holder f x.trans
        (λ a q e j. inl (inl (q, e, j)))
        (λ c n w e q there j. absurd (none-of (new_life None c w) q there refl j))
        (λ k c w e q there j. absurd (none-of (new_life (Some k) c w) q there refl j))
        (λ c l e at q there j. inl (inl (l, at, subst (λ (z : Life). IsIn d z.calls) (sym (some-same (record l { held = held_for s.holder l c }) q there)) j)))
        (λ y l e at q there j. elim (append-in l.calls (y ∷ []) d (subst (λ (z : Life). IsIn d z.calls) (sym (some-same (after_done l y (answer_in s.holder l y)) q there)) j)) [
          | inl old ↦ inl (inl (l, at, old))
          | inr this ↦ elim this [ inl same ↦ inr (e ∙ ap (Performs x.trans) (sym same)) | inr more ↦ absurd more ]
        ])
        (λ e q there j. (let wrong : None ≡ Some q = there in cc))
        (λ k ts l e at q there j. inl (inl (l, at, subst (λ (z : Life). IsIn d z.calls) (sym (some-same (record l { vote = Some ts }) q there)) j)))
        (λ z l a c at q there j. absurd (none-of (left_of l) q there refl j))
        (λ a b e q there j. inl (inl (q, (ready-was (s.holder.lives x.trans) q there).0, j)))
        (λ k c a l e at p q there j. absurd (none-of (left_of l) q there refl j))
        k is i
      where
        none-of : (l q : Life) → Some l ≡ Some q → l.calls ≡ [] → IsIn d q.calls → ⊥
        none-of l q is none j = subst (IsIn d) (ap (λ (z : Life). z.calls) (sym (some-same l q is)) ∙ none) j

    applied-has : (s : State) (f : Deed) (v : Decided) → at_key x (holder_after s.holder f).applied ≡ Some v → IsIn d v.calls → Before s f
    applied-has s f v is i =
        applied-cases (λ xs. (u : Decided) → at_key x xs ≡ Some u → IsIn d u.calls → Before s f) s.holder f
        (λ u e j. inl (inr (u, e, j)))
        (λ z w c at young u e j. go z w at u e j (stamp_cmp x z) refl)
        v is i
      where
        here : (z : Stamp) (w : Life) → s.holder.lives z.trans ≡ Some w → (u : Decided) → at_key x (put stamp_cmp z (record { stamp = z; who = w.who; calls = w.calls }) s.holder.applied) ≡ Some u → IsIn d u.calls → x ≡ z → Before s f
        here z w at u e j same =
            let rec : record { stamp = z; who = w.who; calls = w.calls } ≡ u =
            some-same (record { stamp = z; who = w.who; calls = w.calls }) u (sym (put-same z (record { stamp = z; who = w.who; calls = w.calls }) s.holder.applied) ∙ ap (λ y. at_key y (put stamp_cmp z (record { stamp = z; who = w.who; calls = w.calls }) s.holder.applied)) (sym same) ∙ e) in
            inl (inl (w, ap (λ (y : Stamp). s.holder.lives y.trans) same ∙ at, subst (λ (y : Decided). IsIn d y.calls) (sym rec) j))

        other : (z : Stamp) (w : Life) (u : Decided) → at_key x (put stamp_cmp z (record { stamp = z; who = w.who; calls = w.calls }) s.holder.applied) ≡ Some u → IsIn d u.calls → (x ≡ z → ⊥) → Before s f
        other z w u e j away = inl (inr (u, sym (put-find x z (record { stamp = z; who = w.who; calls = w.calls }) s.holder.applied away) ∙ e, j))

        go : (z : Stamp) (w : Life) → s.holder.lives z.trans ≡ Some w → (u : Decided) → at_key x (put stamp_cmp z (record { stamp = z; who = w.who; calls = w.calls }) s.holder.applied) ≡ Some u → IsIn d u.calls → (o : Ordering) → stamp_cmp x z ≡ o → Before s f
        go z w at u e j Equal k = here z w at u e j (exact_stamps x z k)
        go z w at u e j Less k = other z w u e j (λ same. (let wrong : Equal ≡ Less = sym (itself x) ∙ ap (stamp_cmp x) same ∙ k in cc))
        go z w at u e j Greater k = other z w u e j (λ same. (let wrong : Equal ≡ Greater = sym (itself x) ∙ ap (stamp_cmp x) same ∙ k in cc))

    has-new : (s : State) (f : Deed) → Has (state_deed s f) → Before s f
    has-new s f h = elim h [ inl l ↦ life-new s f l.0 l.1 l.2 | inr v ↦ applied-has s f v.0 v.1 v.2 ]

    has-same : (s m : State) → s.holder ≡ m.holder → Has s → Has m
    has-same s m e h = subst (λ (y : Holder). ((l : Life) × (y.lives x.trans ≡ Some l) × IsIn d l.calls) ⊎ ((v : Decided) × (at_key x y.applied ≡ Some v) × IsIn d v.calls)) e h

    by-entry : (i : ℕ) (e : Entry) → slice_get (journal_of log n) i ≡ Some e → Has (state_at log n (suc i)) → Has (state_at log n i) ⊎ PerformedThere log n x.trans d
    by-entry i e at h = go (stops e) refl
      where
        step : state_at log n (suc i) ≡ next (state_at log n i) e
        step = state-suc log proper.lawful proper.linked n i e at

        go : (b : Bool) → stops e ≡ b → Has (state_at log n i) ⊎ PerformedThere log n x.trans d
        go true stopped = inl (has-same (state_at log n (suc i)) (state_at log n i) (ap (λ (z : State). z.holder) (step ∙ ap (λ b. cond b (halted (state_at log n i) e) (told (state_at log n i) e)) stopped)) h)
        go false goes =
            let is : (state_at log n (suc i)).holder ≡ (state_after state_deed (state_at log n i) (tried (state_at log n i) e)).holder =
            ap (λ (z : State). z.holder) (step ∙ ap (λ b. cond b (halted (state_at log n i) e) (told (state_at log n i) e)) goes) in
            elim (came Has (Performs x.trans d) has-new (tried (state_at log n i) e) (state_at log n i) (has-same (state_at log n (suc i)) (state_after state_deed (state_at log n i) (tried (state_at log n i) e)) is h)) [
              | inl old ↦ inl old
              | inr among ↦ inr (record { place = i; entry = e; stands = at; goes = goes; performs = among })
            ]

    by-journal : (i : ℕ) → i ≤ size log proper n → Has (state_at log n i) → PerformedThere log n x.trans d
    by-journal zero le h = absurd (elim h [ inl l ↦ opened-none log proper x dx n l.0 l.1 | inr v ↦ (let wrong : None ≡ Some v.0 = v.1 in cc) ])
    by-journal (suc i) le h = found (slice_get (journal_of log n) i) refl (λ old. by-journal i (let m : suc i ≤ size log proper n = le in omega (arith, m)) old)
      where
        found : (o : Option Entry) → slice_get (journal_of log n) i ≡ o → (Has (state_at log n i) → PerformedThere log n x.trans d) → PerformedThere log n x.trans d
        found None at before = absurd (let l : length (journal_of log n) ≤ i = past-end (journal_of log n) i at in let m : suc i ≤ size log proper n = le in omega (arith, l, m))
        found (Some e) at before = elim (by-entry i e at h) [ inl old ↦ before old | inr made ↦ made ]

    was-performed : (share : Decided) → HasShare log x n share → IsIn d share.calls → PerformedThere log n x.trans d
    was-performed share is i = by-journal (size log proper n) (all-of log proper n) (from-end log proper n Has (has (at_key x (final log n).holder.applied) refl))
      where
        first_in : List (ℕ × Decided) → Decided → Decided
        first_in [] v = v
        first_in (y ∷ ys) v = y.1

        on_it : Decided → ℕ × Decided
        on_it v = (n, v)

        ready : (o : Option Life) → (final log n).holder.lives x.trans ≡ o → list_map on_it (of_life x o) ≡ on_it share ∷ [] → Has (final log n)
        ready None e h = (let wrong : [] ≡ on_it share ∷ [] = h in cc)
        ready (Some l) e h = inl (l, e, subst (λ (v : Decided). IsIn d v.calls) (sym (ap (λ xs. first_in xs share) h)) i)

        has : (o : Option Decided) → at_key x (final log n).holder.applied ≡ o → Has (final log n)
        has (Some v) e = inr (v, e, subst (λ (u : Decided). IsIn d u.calls) (sym (ap (λ xs. first_in xs share) (sym (ap (λ z. list_map on_it (share_at (final log n) x z)) e) ∙ is))) i)
        has None e = ready ((final log n).holder.lives x.trans) refl (sym (ap (λ z. list_map on_it (share_at (final log n) x z)) e) ∙ is)

-- ---- each part of a decided transaction has a share

module _ (log : Log) (proper : IsProper log) where
  share-of-key : (x : Stamp) (n : ℕ) (v : Decided) → at_key x (final log n).holder.applied ≡ Some v → HasShare log x n v
  share-of-key x n v e = ap (λ o. list_map (λ (u : Decided). (n, u)) (share_at (final log n) x o)) e

  share-of-life : (x : Stamp) (n : ℕ) (l : Life) → (final log n).holder.lives x.trans ≡ Some l → (share : Decided) × HasShare log x n share
  share-of-life x n l e = go (at_key x (final log n).holder.applied) refl
    where
      go : (o : Option Decided) → at_key x (final log n).holder.applied ≡ o → (share : Decided) × HasShare log x n share
      go (Some v) k = (v, share-of-key x n v k)
      go None k = (record { stamp = x; who = l.who; calls = l.calls }, ap (λ o. list_map (λ (u : Decided). (n, u)) (share_at (final log n) x o)) k ∙ ap (λ o. list_map (λ (u : Decided). (n, u)) (of_life x o)) e)

  module _ (x : Stamp) (js : List JoinNo) (i : IsIn (x, js) (decided log)) where
    d : IsDecision log proper x js
    d = decided-in log proper x js i

    own-share : (share : Decided) × HasShare log x x.trans.server share
    own-share = ((d.key).0, share-of-key x x.trans.server (d.key).0 (d.key).1)

    -- no note of an opening is of it
    no-note : (n : ℕ) (r : ReadyNote) → IsIn r (opening_of log n).ready → r.trans ≡ x.trans → ⊥
    no-note n r k e = noted-other log proper x (js, d.committed, d.young) n 0 (omega arith) r k e

    join-share : (j : JoinNo) → has_join j js ≡ true → (share : Decided) × HasShare log x j.server share
    join-share j has = go ((final log j.server).phases j) refl ((are-whole log proper).parts x js j i has) ((linked-end log proper j.server).parts j) ((linked-end log proper j.server).kept j)
      where
        go : (p : Phase) → (final log j.server).phases j ≡ p → IsWhole x p → HasPart log proper j.server (final log j.server).holder.lives j p → IsKeptAt log proper j.server (final log j.server).holder.applied j p → (share : Decided) × HasShare log x j.server share
        go (Ready t c ts) is whole part keeps = share-of-life x j.server part.0 (ap (final log j.server).holder.lives (sym whole) ∙ part.1)
        go (Applied t y) is whole part keeps = elim keeps [
          | inl r ↦ absurd (no-note j.server r.0 r.1 (r.3 ∙ whole.0))
          | inr key ↦ (key.0, share-of-key x j.server key.0 (ap (λ z. at_key z (final log j.server).holder.applied) (sym whole.1) ∙ key.1))
        ]
        go Unseen is whole part keeps = absurd whole
        go (Joining t c w) is whole part keeps = absurd whole
        go (Active t c w) is whole part keeps = absurd whole
        go Over is whole part keeps = absurd whole

    abbrev decided-so : IsDecided log x
    decided-so = (js, d.committed, d.young)

    -- a server of its joins is one of the eight
    among-eight : (n : ℕ) (p : ℕ → Bool) → 0 < n → n ≤ 8 → p n ≡ true → IsIn n (filter p (1 ∷ 2 ∷ 3 ∷ 4 ∷ 5 ∷ 6 ∷ 7 ∷ 8 ∷ []))
    among-eight n p low high e = in-filter p n (1 ∷ 2 ∷ 3 ∷ 4 ∷ 5 ∷ 6 ∷ 7 ∷ 8 ∷ []) (in-eight n low high) e

    performed-share : (n : ℕ) (c : PerformedCall) → PerformedThere log n x.trans c → (share : Decided) × HasShare log x n share × IsIn (n, share) (shares_of log (x, js)) × IsIn c share.calls
    performed-share n c w =
        let s = shared log proper x decided-so c n w in
        let here : IsIn (n, s.0) (shares_on log x n) = subst (IsIn (n, s.0)) (sym s.1) (inl refl) in (
          s.0,
          s.1,
          elim (takes log proper x decided-so c n w) [
            | inl home ↦ in-left (n, s.0) (shares_on log x x.trans.server) (flat_map (shares_on log x) (servers_in js)) (subst (λ m. IsIn (n, s.0) (shares_on log x m)) (sym home) here)
            | inr q ↦
                let part = d.parts q.0 q.2 in
                let has : has_server n js ≡ true = subst (λ m. has_server m js ≡ true) q.1 (joined-server q.0 js q.2) in
                let low : 0 < (q.0).server = part.0 in
                let high : (q.0).server ≤ 8 = part.1 in
                let same : (q.0).server ≡ n = q.1 in
                in-right (n, s.0) (shares_on log x x.trans.server) (flat_map (shares_on log x) (servers_in js)) (in-flat (shares_on log x) n (n, s.0) (servers_in js) (among-eight n (λ m. has_server m js) (omega (arith, low, same)) (omega (arith, high, same)) has) here)
          ],
          s.2,
        )

  rising : (ds : List Decision) → T (is_sorted stamp_cmp ds) → AreRising ds
  rising [] s = tt
  rising (d ∷ ds) s = (all-later d ds s, rising ds (rest-sorted d ds s))
    where
      all-later : (d : Decision) (ds : List Decision) → T (is_sorted stamp_cmp (d ∷ ds)) → AllByRecursion (λ (e : Decision). stamp_cmp d.0 e.0 ≡ Less) ds
      all-later d ds s = all-from (λ (e : Decision). stamp_cmp d.0 e.0 ≡ Less) ds (λ e i. head-low d ds s e.0 e.1 i)

  shared-all : AreShared log
  shared-all = record {
    own = own-share;
    joined = λ x js j i has. join-share x js i j has;
    performed = λ n x js c i w. performed-share x js i n c w;
    performs = λ n x js share c i is among. was-performed log proper x (decided-so x js i) n c share is among;
    rising = rising (decided log) (decided-sorted log proper);
  }

pub sharing : Sharing
sharing = shared-all
