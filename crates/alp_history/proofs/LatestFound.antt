-- what a decided transaction may read is what the latest of all decided ones left: none of smaller stamp changes it later
use Rattle.std.specs.Prelude.{Bool, true, false, cond, Option, None, Some, T}
use Rattle.std.specs.FinMap as map
use Rattle.std.specs.FinMap.{get-insert, get-empty}
use Rattle.alp_files.proofs.SameLemmas.{same_key-itself}
use Rattle.alp_base.specs.Keys.{key_cmp}
use Rattle.std.specs.FinMap.Entries.{put, is_sorted}
use Rattle.std.specs.Ordering.{is_lt, ordering_reverse}
use Rattle.std.specs.declared.cmp.Ordering.{Ordering}
use Rattle.std.specs.declared.cmp.Ordering.TheVariants.{Less, Equal, Greater}
use Rattle.std.proofs.Common.{◌≡◌, ℕ, ◌<◌, ◌≤◌, List, [], ◌∷◌, refl, sym, ap, subst, ◌∙◌, arith, inl, inr, ◌⊎◌}
use Rattle.alp_base.specs.declared.ids.JoinNo.{JoinNo}
use Rattle.alp_base.specs.declared.ids.TransId.{TransId}
use Rattle.alp_base.specs.declared.ids.Stamp.{Stamp}
use Rattle.alp_base.specs.declared.key.Key.{Key}
use Rattle.alp_base.specs.KeyLaws.{keys_total}
use Rattle.alp_files.specs.Holdings.{DoAgree, DoAgreeOnLeaves, IsIntended}
use Rattle.alp_files.proofs.HoldingLemmas.{agreement-of-leaves}
use Rattle.alp_files.specs.declared.call.Call.{Call}
use Rattle.alp_base.specs.declared.cell.Cell.{Cell}
use Rattle.alp_files.specs.Cells.{Cells, View}
use Rattle.alp_files.specs.Edits.{Edit, edits_map}
use Rattle.alp_files.specs.Act.{no_opens}
use Rattle.alp_files.specs.History.{PerformedCall, Decided, starting}
use Rattle.alp_files.specs.Locks.{Reads, Writes}
use Rattle.alp_files.specs.Apart.{IsWithin}
use Rattle.alp_files.proofs.HeldLemmas.{apart, leaves-turned}
use Rattle.alp_files.proofs.HistoryLemmas.{get-edits_map}
use Rattle.alp_files.proofs.FrameLemmas.{apart-same, part-within}
use Rattle.alp_journal.specs.Ids.{same_trans, stamp_cmp}
use Rattle.alp_journal.specs.Deeds.{Deed, Begins, Joins, Enters, Quits, Aborts, Grants, Performs, Releases, Readies, Applies, Registers, Finishes, Hears, Decides, Ends, Acknowledges, Forgets, Restarts}
use Rattle.alp_journal.specs.Coordinator.{Fate, decision_in}
use Rattle.alp_journal.specs.Participant.{Phase, Over, Applied}
use Rattle.alp_journal.specs.Holder.{Holder, Life, grants, performs, readies, commits, holder_after}
use Rattle.alp_journal.specs.State.{State, state_deed}
use Rattle.alp_journal.specs.Holding.{IsNewStamp, MayDo}
use Rattle.alp_history.specs.Log.{Log, state_at, final, IsIn, Decision, decided, start_of, left_at, left_there, left_of_each, latest_in, latest}
use Rattle.alp_history.specs.Theorems.{IsProper, IsDecided, FindsLatest}
use Rattle.alp_history.proofs.Places.{some-same, all-in}
use Rattle.alp_journal.proofs.IdLemmas.{same_trans-true, same_trans-itself}
use Rattle.alp_history.proofs.Fates.{decision-stays, IsOver}
use Rattle.alp_journal.proofs.HistoryOrder.{Item, AreOthers, others-earlier, decided_items, stamp_cmp-later}
use Rattle.alp_journal.proofs.OneServer.{IsHeld, life-intended}
use Rattle.alp_journal.proofs.StampLemmas.{stamps_total, itself}
use Rattle.alp_history.proofs.Linked.{IsTied}
use Rattle.alp_history.proofs.Turned.{is_left, Began}
use Rattle.alp_history.proofs.HeldAlong.{exact_stamps, IsSameCore}
use Rattle.alp_history.proofs.Agreed.{size, all-of, at-end, from-end}
use Rattle.alp_history.proofs.Decisions.{at_key, find-in, put-find, put-same, left-has, left-sorted, decided-sorted, decided-in}
use Rattle.alp_history.proofs.EachServer.{place-from, along-end}
use Rattle.alp_history.proofs.Merged.{head-low, rest-sorted, sorted-find, left-kinds, kept-decided}
use Rattle.alp_history.proofs.Latest.{left-edits}
use Rattle.alp_history.proofs.LatestThere.{found-there}
use Rattle.alp_history.proofs.LifeMoves.{IsCommit, applied-keeps}
use Rattle.alp_history.proofs.LetIn.{IsCalmAt, calm-at}
use Rattle.alp_history.proofs.LockOrder.{linked-core}
use Rattle.alp_history.proofs.LockRace.{IsLate, late-next, IsStamp, IsLost, Race, race-next, race-core, lost-next}
use Rattle.alp_history.proofs.LockEnds.{IsStep, L, linked-step, linked-at, start, not-over, not-lost, its-stamp, late-end}

-- ---- what a deed makes of what is kept

module _ (P : List (Stamp × List Edit) → Type 0) (h : Holder) (same : P h.left) where
  grant-left : (t : TransId) (c : Call) (o : Option Life) → P (grants h t c o).left
  grant-left t c None = same
  grant-left t c (Some l) = same

  perform-left : (t : TransId) (c : PerformedCall) (o : Option Life) → P (performs h t c o).left
  perform-left t c None = same
  perform-left t c (Some l) = same

  ready-left : (t : TransId) (ts : ℕ) (o : Option Life) → P (readies h t ts o).left
  ready-left t ts None = same
  ready-left t ts (Some l) = same

  commit-left : (z : Stamp) (o : Option Life) → ((l : Life) → o ≡ Some l → l.is_early ≡ false → P (put stamp_cmp z l.edits h.left)) → P (commits h z o).left
  commit-left z None f = same
  commit-left z (Some l) f = go (l.is_early) refl (f l refl)
    where
      go : (b : Bool) → l.is_early ≡ b → (l.is_early ≡ false → P (put stamp_cmp z l.edits h.left)) → P (cond {A = List (Stamp × List Edit)} b h.left (put stamp_cmp z l.edits h.left))
      go true e g = same
      go false e g = g e

  left-cases : (d : Deed) → ((z : Stamp) (l : Life) → IsCommit z d → h.lives z.trans ≡ Some l → l.is_early ≡ false → P (put stamp_cmp z l.edits h.left)) → P (holder_after h d).left
  left-cases (Decides z js) commit = commit-left z (h.lives z.trans) (λ l e. commit z l (inl (js, refl)) e)
  left-cases (Applies j z) commit = commit-left z (h.lives z.trans) (λ l e. commit z l (inr (j, refl)) e)
  left-cases (Grants t c) commit = grant-left t c (h.lives t)
  left-cases (Performs t c) commit = perform-left t c (h.lives t)
  left-cases (Readies j t ts) commit = ready-left t ts (h.lives t)
  left-cases (Begins t c w k) commit = same
  left-cases (Joins j t c w) commit = same
  left-cases (Enters j t c w) commit = same
  left-cases (Quits j t c w) commit = same
  left-cases (Aborts j t c w) commit = same
  left-cases (Releases t) commit = same
  left-cases (Registers t j) commit = same
  left-cases (Finishes t) commit = same
  left-cases (Hears t j ts) commit = same
  left-cases (Ends t c w) commit = same
  left-cases (Acknowledges t j) commit = same
  left-cases (Forgets t) commit = same
  left-cases (Restarts a b) commit = same

items-new : (z : Stamp) (xs : List Item) → AreOthers z xs → IsNewStamp z (decided_items xs)
items-new z [] h = tt
items-new z (y ∷ ys) h = (h.0, items-new z ys h.1)

turned-trans : (a b : TransId) → same_trans b a ≡ false → same_trans a b ≡ false
turned-trans a b n = go (same_trans a b) refl
  where
    go : (t : Bool) → same_trans a b ≡ t → same_trans a b ≡ false
    go true e = let is : a ≡ b = same_trans-true a b e in let wrong : true ≡ false = sym (same_trans-itself b) ∙ ap (same_trans b) (sym is) ∙ n in cc
    go false e = e

-- ---- two lists by stamps that tell the same of a place

not-same : (a b : Stamp) → stamp_cmp a b ≡ Less → a ≡ b → ⊥
not-same a b low e = let wrong : Equal ≡ Less = sym (itself a) ∙ ap (stamp_cmp a) e ∙ low in cc

not-both : (a b : Stamp) → stamp_cmp a b ≡ Less → stamp_cmp b a ≡ Less → ⊥
not-both a b low high = let wrong : Less ≡ Greater = sym low ∙ stamps_total.antisymm a b ∙ ap ordering_reverse high in cc

module _ (log : Log) (n : ℕ) (k : Key) (x : Stamp) where
  abbrev Leaves : List Edit → Type 0
  Leaves es = (old : Option Cell) → left_at k old es ≡ old

  -- what the one has below the stamp changes nothing there or stands in the other, and what the other has stands in the one
  abbrev Tells : List Decision → List (Stamp × List Edit) → Type 0
  Tells ds bs = (e : Decision) → IsIn e ds → is_lt (stamp_cmp e.0 x) ≡ true → Leaves (left_there log n e) ⊎ IsIn (e.0, left_there log n e) bs

  abbrev Knows_ : List Decision → List (Stamp × List Edit) → Type 0
  Knows_ ds bs = (y : Stamp) (es : List Edit) → IsIn (y, es) bs → (e : Decision) × IsIn e ds × (e.0 ≡ y) × (left_there log n e ≡ es)

  skip-one : (b : Bool) (old : Option Cell) (es : List Edit) → (b ≡ true → Leaves es) → cond b (left_at k old es) old ≡ old
  skip-one true old es h = h refl old
  skip-one false old es h = refl

  same-latest : (ds : List Decision) (bs : List (Stamp × List Edit)) (old : Option Cell) → T (is_sorted stamp_cmp ds) → T (is_sorted stamp_cmp bs) → Tells ds bs → Knows_ ds bs
      → latest_in k x old (left_of_each log n ds) ≡ latest_in k x old bs
  same-latest [] [] old s t tells knows = refl
  same-latest [] (b ∷ bs) old s t tells knows = absurd ((knows b.0 b.1 (inl refl)).1)
  same-latest (d ∷ ds) [] old s t tells knows =
      ap (λ (c : Option Cell). latest_in k x c (left_of_each log n ds)) (skip-one (is_lt (stamp_cmp d.0 x)) old (left_there log n d) (λ low. elim (tells d (inl refl) low) [ inl h ↦ h | inr i ↦ absurd i ]))
      ∙ same-latest ds [] old (rest-sorted d ds s) tt (λ e i. tells e (inr i)) (λ y es i. absurd i)
  same-latest (d ∷ ds) (b ∷ bs) old s t tells knows =
      go (stamp_cmp d.0 b.0) refl (λ c p q. same-latest ds bs c (rest-sorted d ds s) (rest-sorted b bs t) p q) (λ p q. same-latest ds (b ∷ bs) old (rest-sorted d ds s) t p q)
    where
      go : (o : Ordering) → stamp_cmp d.0 b.0 ≡ o → ((c : Option Cell) → Tells ds bs → Knows_ ds bs → latest_in k x c (left_of_each log n ds) ≡ latest_in k x c bs)
          → (Tells ds (b ∷ bs) → Knows_ ds (b ∷ bs) → latest_in k x old (left_of_each log n ds) ≡ latest_in k x old (b ∷ bs))
          → latest_in k x old (left_of_each log n (d ∷ ds)) ≡ latest_in k x old (b ∷ bs)
      go Greater e both one =
          let q = knows b.0 b.1 (inl refl) in
          absurd (elim q.1 [
            | inl is ↦ (let wrong : Equal ≡ Greater = sym (itself d.0) ∙ ap (stamp_cmp d.0) (ap (λ (z : Decision). z.0) (sym is) ∙ q.2) ∙ e in cc)
            | inr i ↦ (let low : stamp_cmp d.0 (q.0).0 ≡ Less = head-low d ds s (q.0).0 (q.0).1 i in let wrong : Less ≡ Greater = sym low ∙ ap (stamp_cmp d.0) q.2 ∙ e in cc)
          ])
      go Less e both one =
          let away : (es : List Edit) → IsIn (d.0, es) (b ∷ bs) → ⊥ =
          λ es i. elim i [ inl is ↦ not-same d.0 b.0 e (ap (λ (z : Stamp × List Edit). z.0) is) | inr j ↦ not-both d.0 b.0 e (head-low b bs t d.0 es j) ] in
          ap (λ (c : Option Cell). latest_in k x c (left_of_each log n ds)) (skip-one (is_lt (stamp_cmp d.0 x)) old (left_there log n d) (λ low. elim (tells d (inl refl) low) [ inl h ↦ h | inr i ↦ absurd (away (left_there log n d) i) ]))
          ∙ one (λ e i. tells e (inr i)) (λ y es i. (let q = knows y es i in elim q.1 [
            | inl is ↦ absurd (away es (subst (λ (z : Stamp). IsIn {A = Stamp × List Edit} (z, es) (b ∷ bs)) (sym q.2 ∙ ap (λ (z : Decision). z.0) is) i))
            | inr j ↦ (q.0, j, q.2, q.3)
          ]))
      go Equal e both one =
          let key : d.0 ≡ b.0 = exact_stamps d.0 b.0 e in
          let q = knows b.0 b.1 (inl refl) in
          let value : left_there log n d ≡ b.1 = elim q.1 [
            | inl is ↦ ap (left_there log n) (sym is) ∙ q.3
            | inr i ↦ absurd (not-same d.0 (q.0).0 (head-low d ds s (q.0).0 (q.0).1 i) (key ∙ sym q.2))
          ] in
          both (cond (is_lt (stamp_cmp d.0 x)) (left_at k old (left_there log n d)) old)
          (λ z i low. elim (tells z (inr i) low) [
            | inl h ↦ inl h
            | inr j ↦ elim j [ inl is ↦ absurd (not-same d.0 z.0 (head-low d ds s z.0 z.1 i) (key ∙ sym (ap (λ (w : Stamp × List Edit). w.0) is))) | inr m ↦ inr m ]
          ])
          (λ y es i. (let r = knows y es (inr i) in elim r.1 [
            | inl is ↦ absurd (not-same b.0 y (head-low b bs t y es i) (sym key ∙ ap (λ (z : Decision). z.0) (sym is) ∙ r.2))
            | inr j ↦ (r.0, j, r.2, r.3)
          ]))
          ∙ (λ i. latest_in k x (cond (is_lt (stamp_cmp (key i) x)) (left_at k old (value i)) old) bs)

-- a stamp at which something is committed now was not there
module _ (log : Log) (proper : IsProper log) (c : ℕ) (m : State) (e : Deed) (held : IsHeld (Began log proper c (is_left log proper m.phases)) m.holder) (may : MayDo m.holder e) where
  pub commit-new : (z : Stamp) (w : Life) → IsCommit z e → m.holder.lives z.trans ≡ Some w → w.is_early ≡ false → IsNewStamp z m.holder.applied
  commit-new z w commit is young = elim commit [
    | inl a ↦
        let late : m.holder.clock < z.ts = (subst (MayDo m.holder) a.1 may).0 in
        let low : m.holder.kept ≤ m.holder.clock = held.order in
        subst (IsNewStamp z) held.list (items-new z held.parts (others-earlier z m.holder.kept held.parts (omega (arith, late, low)) held.below))
    | inr a ↦ elim ((subst (MayDo m.holder) a.1 may) w is) [ inl early ↦ absurd (let wrong : true ≡ false = sym early ∙ young in cc) | inr v ↦ v.4 ]
  ]

-- ---- what is applied later

module _ (log : Log) (proper : IsProper log) (x : Stamp) (d : IsDecided log x) (n i : ℕ) (i-le : i ≤ size log proper n) (l : Life) (lives : (state_at log n i).holder.lives x.trans ≡ Some l) (new : at_key x (state_at log n i).holder.applied ≡ None) (k : Key) (reads : Reads l.held k) where
  abbrev before : List (Stamp × List Edit)
  before = (state_at log n i).holder.left

  intended : IsIntended l.held
  intended = life-intended _ _ _ _ _ l ((linked-at log proper x d n i i-le).0.held.live x.trans l lives)

  abbrev Spares : List Edit → Type 0
  Spares es = (m : Cells) → map.get m k ≡ map.get (edits_map es m) k

  -- what agrees with its locks leaves the place
  agreed-spares : (c : ℕ) (m : State) (held : IsHeld (Began log proper c (is_left log proper m.phases)) m.holder) (t : TransId) (q : Life) → m.holder.lives t ≡ Some q → q.is_early ≡ false → DoAgree l.held q.held → Spares q.edits
  agreed-spares c m held t q is young agree = elim (held.live t q is) [
    | inl e ↦ absurd (let wrong : true ≡ false = sym e.early ∙ young in cc)
    | inr g ↦
        let inside = part-within q.held m.holder.server q.who q.calls m.holder.cells held.ids no_opens (g.1).right.formed held.sized tt (g.1).right.covered in
        let leaves : DoAgreeOnLeaves l.held q.held = agreement-of-leaves l.held q.held agree intended (g.1).intended in
        λ w. apart-same (Reads l.held) (Writes q.held) (apart q.held l.held (leaves-turned l.held q.held leaves)) q.edits (subst (IsWithin (Writes q.held)) (g.1).edits inside.0) w k reads
  ]

  module _ (y : Stamp) (other : same_trans y.trans x.trans ≡ false) where
    abbrev IsPastLate : ℕ → State → Type 0
    IsPastLate c s = (z : Stamp) × IsStamp log proper x.trans y.trans other l.held z s × IsLate log proper y.trans z.ts c s

    abbrev IsGone : ℕ → State → Type 0
    IsGone c s = IsLost log proper x.trans y.trans other l.held c s

    -- it was kept before, leaves the place, comes later than the one that reads, or that one was aborted
    abbrev Fine : ℕ → State → List Edit → Type 0
    Fine c s es = (at_key y before ≡ Some es) ⊎ Spares es ⊎ IsPastLate c s ⊎ IsGone c s

    abbrev Rest : ℕ → State → Type 0
    Rest c s = ((es : List Edit) → at_key y s.holder.left ≡ Some es → Fine c s es) × ((es : List Edit) → at_key y before ≡ Some es → at_key y s.holder.left ≡ Some es)

    abbrev X : ℕ → State → Type 0
    X c s = Race log proper x.trans y.trans other l.held c s × Rest c s

    x-core : (c : ℕ) (s m : State) → IsSameCore s m → X c s → X c m
    x-core c s m e q = (
      race-core log proper x.trans y.trans other l.held c s m e q.0,
      subst (λ (f : TransId → Fate). Rest c (record s { holder = m.holder; phases = m.phases; fates = f })) e.3
          (subst (λ (p : JoinNo → Phase). Rest c (record s { holder = m.holder; phases = p })) e.2
          (subst (λ (h : Holder). Rest c (record s { holder = h })) e.1 q.1)),
    )

    module _ (c : ℕ) (m : State) (e : Deed) (held : IsHeld (Began log proper c (is_left log proper m.phases)) m.holder) (may : MayDo m.holder e) where
      kept-other : (z : Stamp) (es : List Edit) → IsNewStamp z m.holder.applied → at_key y m.holder.left ≡ Some es → y ≡ z → ⊥
      kept-other z es fresh at is =
          let has = left-has m.holder.server (starting held.base) m.holder.applied y es (ap (at_key y) held.left_so ∙ at) in
          all-in (λ v. stamp_cmp z v.0 ≡ Equal → ⊥) m.holder.applied (y, has.0) fresh (find-in y has.0 m.holder.applied has.1) (ap (stamp_cmp z) is ∙ itself z)

    x-step : IsStep log proper X
    x-step c m e held here seen may knows after q = (
      race-next log proper x.trans y.trans other l.held c m e held here may knows after (q.0).0 (q.0).1,
      (
        left-cases (λ fs. (es : List Edit) → at_key y fs ≡ Some es → Fine c (state_deed m e) es) m.holder (λ es at. next es ((q.1).0 es at)) e (λ z w commit is young es at. put_in z w is young es at (stamp_cmp y z) refl),
        left-cases (λ fs. (es : List Edit) → at_key y before ≡ Some es → at_key y fs ≡ Some es) m.holder (q.1).1 e
            (λ z w commit is young es at. put-find y z w.edits m.holder.left (kept-other c m e held may z es (commit-new log proper c m e held may z w commit is young) ((q.1).1 es at)) ∙ (q.1).1 es at),
      ),
    )
      where
        next : (es : List Edit) → Fine c m es → Fine c (state_deed m e) es
        next es f = elim f [
          | inl a ↦ inl a
          | inr g ↦ elim g [
            | inl a ↦ inr (inl a)
            | inr h ↦ elim h [
              | inl p ↦ inr (inr (inl (
                p.0,
                elim p.1 [ inl a ↦ inl (a.0, decision-stays (p.0, a.0) e x.trans (m.fates x.trans) a.1) | inr a ↦ inr (a.0, applied-keeps x.trans p.0 e a.0 (m.phases a.0) a.1) ],
                late-next log proper y.trans (p.0).ts c m e held may knows p.2,
              )))
              | inr p ↦ inr (inr (inr (lost-next log proper x.trans y.trans other l.held c m e held here may knows after (q.0).0 p)))
            ]
          ]
        ]

        committed : (w : Life) → m.holder.lives y.trans ≡ Some w → w.is_early ≡ false → Fine c (state_deed m e) w.edits
        committed w is young = elim (q.0).1 [
          | inl still ↦ inr (inl (agreed-spares c m held y.trans w is young (still.2 w.held (held.agree x.trans y.trans still.0 w still.1 is (turned-trans x.trans y.trans other)))))
          | inr gone ↦ elim gone [
            | inl past ↦ elim past.3 [ inl away ↦ inr (inl (agreed-spares c m held y.trans w is young (away w is))) | inr late ↦ next w.edits (inr (inr (inl (past.0, past.2, late)))) ]
            | inr lost ↦ next w.edits (inr (inr (inr lost)))
          ]
        ]

        put_in : (z : Stamp) (w : Life) → m.holder.lives z.trans ≡ Some w → w.is_early ≡ false → (es : List Edit) → at_key y (put stamp_cmp z w.edits m.holder.left) ≡ Some es → (o : Ordering) → stamp_cmp y z ≡ o → Fine c (state_deed m e) es
        put_in z w is young es at Equal k2 =
            let y_is : y ≡ z = exact_stamps y z k2 in
            let es_is : w.edits ≡ es = some-same w.edits es (sym (put-same z w.edits m.holder.left) ∙ ap (λ t. at_key t (put stamp_cmp z w.edits m.holder.left)) (sym y_is) ∙ at) in
            subst (Fine c (state_deed m e)) es_is (committed w (ap (λ (t : Stamp). m.holder.lives t.trans) y_is ∙ is) young)
        put_in z w is young es at Less k2 = next es ((q.1).0 es (sym (put-find y z w.edits m.holder.left (not-same y z k2)) ∙ at))
        put_in z w is young es at Greater k2 =
            next es ((q.1).0 es (sym (put-find y z w.edits m.holder.left (λ same. (let wrong : Equal ≡ Greater = sym (itself y) ∙ ap (stamp_cmp y) same ∙ k2 in cc))) ∙ at))

    x-end : X n (final log n)
    x-end =
        let p : IsCalmAt log proper n i = calm-at log proper n i i-le in
        let p-le : p.place ≤ size log proper n = (let a : p.place ≤ i = p.before in let b : i ≤ size log proper n = i-le in omega (arith, a, b)) in
        let was : (state_at log n p.place).holder ≡ (state_at log n i).holder = (p.same).1 in
        let begins : X n (state_at log n p.place) = (
          ((linked-at log proper x d n p.place p-le).0.beside, inl (l, ap {B = Option Life} (λ (h : Holder). h.lives x.trans) was ∙ lives, λ c h. h)),
          (λ es at. inl (ap (λ (h : Holder). at_key y h.left) (sym was) ∙ at), λ es at. ap (λ (h : Holder). at_key y h.left) was ∙ at),
        ) in
        at-end log proper n (λ s. X n s)
        ((place-from log proper X x-core x-step n p.place (size log proper n) p-le (all-of log proper n)
        (start log proper (L log proper x d) (λ c s m e q. linked-core log proper x.trans c s m e q) (linked-step log proper x d) X x-core x-step n (state_at log n p.place) p.none (linked-at log proper x d n p.place p-le).0 begins)).0).beside

    module _ (dy : IsDecided log y) where
      past-later : IsPastLate n (final log n) → x.ts < y.ts
      past-later p =
          let is : p.0 ≡ x = its-stamp log proper x d n (size log proper n) (all-of log proper n) p.0 (from-end log proper n (λ s. IsStamp log proper x.trans y.trans other l.held p.0 s) p.1) in
          late-end log proper x.ts y dy n (subst (λ (z : Stamp). IsLate log proper y.trans z.ts n (final log n)) is p.2)

      gone-not : IsGone n (final log n) → ⊥
      gone-not g = elim g [
        | inl q ↦ not-over log proper x d n (size log proper n) (all-of log proper n) (from-end log proper n (λ s. IsOver (s.fates x.trans)) q)
        | inr q ↦ not-lost log proper x d n (size log proper n) (all-of log proper n) q.0 q.1 (from-end log proper n (λ s. s.phases q.0 ≡ Over) q.2)
      ]

      applied-fine : (es : List Edit) → at_key y (final log n).holder.left ≡ Some es → (at_key y before ≡ Some es) ⊎ Spares es ⊎ (x.ts < y.ts)
      applied-fine es at = elim ((x-end.1).0 es at) [
        | inl a ↦ inl a
        | inr g ↦ elim g [ inl a ↦ inr (inl a) | inr h ↦ elim h [ inl p ↦ inr (inr (past-later p)) | inr p ↦ absurd (gone-not p) ] ]
      ]

      ready-fine : (w : Life) → (final log n).holder.lives y.trans ≡ Some w → w.is_early ≡ false → Spares w.edits ⊎ (x.ts < y.ts)
      ready-fine w is young =
          let held = (along-end log proper n).held in
          elim (x-end.0).1 [
            | inl still ↦ inl (agreed-spares n (final log n) held y.trans w is young (still.2 w.held (held.agree x.trans y.trans still.0 w still.1 is (turned-trans x.trans y.trans other))))
            | inr gone ↦ elim gone [
              | inl past ↦ elim past.3 [ inl away ↦ inl (agreed-spares n (final log n) held y.trans w is young (away w is)) | inr late ↦ inr (past-later (past.0, past.2, late)) ]
              | inr lost ↦ absurd (gone-not lost)
            ]
          ]

  -- ---- together

  spares-one : (es : List Edit) → Spares es → (m : Cells) (old : Option Cell) → map.get m k ≡ old → left_at k old es ≡ old
  spares-one es h m old is =
      subst (λ (o : Option Cell). left_at k o es ≡ o) is (left-edits k es (map.get m k) ∙ ap (λ (v : View). v k) (sym (get-edits_map es m)) ∙ sym (h m))

  spares-all : (es : List Edit) → Spares es → Leaves log n k x es
  spares-all es h None = spares-one es h map.empty None (get-empty key_cmp k)
  spares-all es h (Some c) =
      let none : Cells = map.empty in
      spares-one es h (map.insert none k c) (Some c) (get-insert keys_total none k c k ∙ ap (λ (b : Bool). cond b (Some c) (map.get none k)) (same_key-itself k))

  decided-so : (y : Stamp) (js : List JoinNo) → IsIn (y, js) (decided log) → IsDecided log y
  decided-so y js j = (let c = decided-in log proper y js j in (js, c.committed, c.young))

  same-one : (y : Stamp) → IsDecided log y → y.trans ≡ x.trans → y ≡ x
  same-one y dy e =
      let at : decision_in ((final log x.trans.server).fates x.trans) ≡ Some (y, dy.0) = subst (λ (t : TransId). decision_in ((final log t.server).fates t) ≡ Some (y, dy.0)) e dy.1 in
      ap (λ (z : Decision). z.0) (some-same (y, dy.0) (x, d.0) (sym at ∙ d.1))

  tells-so : Tells log n k x (decided log) before
  tells-so e j low = go (same_trans e.0.trans x.trans) refl
    where
      dy : IsDecided log e.0
      dy = decided-so e.0 e.1 j

      not-later : x.ts < e.0.ts → ⊥
      not-later high = let wrong : true ≡ false = sym low ∙ ap is_lt (stamp_cmp-later e.0 x high) in cc

      go : (b : Bool) → same_trans e.0.trans x.trans ≡ b → Leaves log n k x (left_there log n e) ⊎ IsIn (e.0, left_there log n e) before
      go true s =
          let is : e.0 ≡ x = same-one e.0 dy (same_trans-true e.0.trans x.trans s) in
          let wrong : true ≡ false = sym low ∙ ap (λ z. is_lt (stamp_cmp z x)) is ∙ ap is_lt (itself x) in cc
      go false s = elim (left-kinds log proper n e.0 e.1 j) [
        | inl none ↦ inl (λ old. ap (left_at k old) none)
        | inr some ↦ elim some [
          | inl at ↦ elim (applied-fine e.0 s dy (left_there log n e) at) [
            | inl b ↦ inr (find-in e.0 (left_there log n e) before b)
            | inr f ↦ elim f [ inl t ↦ inl (spares-all (left_there log n e) t) | inr high ↦ absurd (not-later high) ]
          ]
          | inr r ↦ elim (ready-fine e.0 s dy r.0 r.1 r.2) [
            | inl t ↦ inl (subst (Leaves log n k x) (sym r.3) (spares-all (r.0).edits t))
            | inr high ↦ absurd (not-later high)
          ]
        ]
      ]

  sorted-before : T (is_sorted stamp_cmp before)
  sorted-before =
      let h = (linked-at log proper x d n i i-le).0.held in
      let s : State = state_at log n i in
      subst (λ (fs : List (Stamp × List Edit)). T (is_sorted stamp_cmp fs)) h.left_so
      (subst T (sym (left-sorted s.holder.server (starting h.base) s.holder.applied)) (linked-at log proper x d n i i-le).0.linked.sorted)

  -- what was applied there is of another transaction
  before-other : (y : Stamp) (v : Decided) → at_key y (state_at log n i).holder.applied ≡ Some v → same_trans y.trans x.trans ≡ false
  before-other y v at = go (same_trans y.trans x.trans) refl
    where
      tied : IsTied log proper n (state_at log n i).fates (state_at log n i).phases y
      tied =
          all-in (λ (w : Stamp × Decided). IsTied log proper n (state_at log n i).fates (state_at log n i).phases w.0) (state_at log n i).holder.applied (y, v) ((linked-at log proper x d n i i-le).0.linked.tied)
          (find-in y v (state_at log n i).holder.applied at)

      go : (b : Bool) → same_trans y.trans x.trans ≡ b → same_trans y.trans x.trans ≡ false
      go false e = e
      go true e =
          let is : y.trans ≡ x.trans = same_trans-true y.trans x.trans e in
          let same : y ≡ x = its-stamp log proper x d n i i-le y (elim tied [
            | inl own ↦ inl ((own.2).0, ap (λ (u : TransId). decision_in ((state_at log n i).fates u)) (sym is) ∙ (own.2).1)
            | inr j ↦ inr (j.0, j.1 ∙ ap (λ (t : TransId). Applied t y) is)
          ]) in
          let wrong : None ≡ Some v = sym new ∙ ap (λ z. at_key z (state_at log n i).holder.applied) (sym same) ∙ at in cc

  knows-so : Knows_ log n k x (decided log) before
  knows-so y es j =
      let h = (linked-at log proper x d n i i-le).0.held in
      let at : at_key y before ≡ Some es = sorted-find y es before sorted-before j in
      let has = left-has (state_at log n i).holder.server (starting h.base) (state_at log n i).holder.applied y es (ap (at_key y) h.left_so ∙ at) in
      let kept = kept-decided log proper n y es ((x-end y (before-other y has.0 has.1)).1.1 es at) in
      ((y, kept.0), kept.1, refl, kept.2)

  pub found : map.get (state_at log n i).holder.cells k ≡ latest log n k x
  found =
      found-there log proper x d n i i-le l lives new k reads
      ∙ sym (same-latest log n k x (decided log) before (map.get (start_of log n) k) (decided-sorted log proper) sorted-before tells-so knows-so)

pub findings : (log : Log) → IsProper log → FindsLatest log
findings log proper n i x l k d le lives new reads = found log proper x d n i le l lives new k reads
