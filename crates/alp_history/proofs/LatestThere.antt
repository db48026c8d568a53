-- while a decided transaction may read a place and is not applied yet, the cells there hold what the latest applied one left
use Rattle.std.specs.Prelude.{Bool, true, false, cond, ◌&&◌, ◌==◌, Option, None, Some}
use Rattle.std.specs.FinMap as map
use Rattle.std.specs.Ordering.{is_lt}
use Rattle.std.proofs.Common.{◌≡◌, ℕ, zero, suc, ◌<◌, ◌≤◌, List, [], ◌∷◌, refl, sym, ap, subst, ◌∙◌, arith, inl, inr, eq-eqb}
use Rattle.std.proofs.lemmas.Bool.{eqb-true}
use Rattle.alp_base.specs.declared.ids.JoinNo.{JoinNo}
use Rattle.alp_base.specs.declared.ids.TransId.{TransId}
use Rattle.alp_base.specs.declared.ids.Stamp.{Stamp}
use Rattle.alp_base.specs.declared.key.Key.{Key}
use Rattle.alp_files.specs.Holdings.{Holding, held_by, DoAgree, DoAgreeOnLeaves}
use Rattle.alp_files.proofs.HoldingLemmas.{agreement-of-leaves}
use Rattle.alp_files.specs.Cells.{Cells, View}
use Rattle.alp_base.specs.declared.cell.Cell.{Cell}
use Rattle.alp_files.specs.Edits.{Edit, edits_map}
use Rattle.alp_files.specs.Act.{no_opens}
use Rattle.alp_files.specs.History.{Standing, Decided, starting, begun}
use Rattle.alp_files.specs.Locks.{Reads, Writes}
use Rattle.alp_files.specs.Apart.{AreSized, after_part}
use Rattle.alp_files.proofs.HeldLemmas.{apart, leaves-turned}
use Rattle.alp_files.proofs.HistoryLemmas.{get-edits_map}
use Rattle.alp_files.proofs.FrameLemmas.{apart-same, part-within, files-changed}
use Rattle.alp_journal.specs.Ids.{same_trans, same_join, stamp_cmp}
use Rattle.alp_journal.specs.Opening.{ReadyNote, DecisionNote}
use Rattle.alp_journal.specs.Coordinator.{Fate, Undrawn, Running, Finishing, Committed, Forgotten, Ended, is_running, decision_in}
use Rattle.alp_journal.specs.Participant.{Phase, Unseen, Joining, Active, Ready, Applied, Over, is_ready}
use Rattle.alp_journal.specs.Holder.{Life}
use Rattle.alp_journal.specs.State.{State}
use Rattle.alp_journal.specs.Laws.{IsOpenPart}
use Rattle.alp_history.specs.Log.{Log, opening_of, state_at, IsIn, AreDistinct, is_noted, held, start_of, left_at, latest_in}
use Rattle.alp_history.specs.Theorems.{IsProper, IsDecided}
use Rattle.alp_history.proofs.Places.{some-same, all-in}
use Rattle.alp_journal.proofs.IdLemmas.{same_trans-true}
use Rattle.alp_journal.proofs.HistoryOrder.{Item, All, AreGood, decided_items, end_of, sized-after, stamp_cmp-earlier, IsClear, map-all, changed_by, left_by_items}
use Rattle.alp_journal.proofs.LifeLemmas.{IsVoteClear}
use Rattle.alp_journal.proofs.OneServer.{IsHeld, life-intended}
use Rattle.alp_journal.proofs.LeftBehind.{left_along}
use Rattle.alp_history.proofs.Fates.{IsOver}
use Rattle.alp_history.proofs.Linked.{IsLinkedUp, IsYoung, HasPart, IsKeptAt, IsRested, same_join-self}
use Rattle.alp_history.proofs.Turned.{is_left, Began}
use Rattle.alp_history.proofs.Agreed.{size, all-of, at-end}
use Rattle.alp_history.proofs.Decisions.{at_key, find-in}
use Rattle.alp_history.proofs.EachServer.{place-from}
use Rattle.alp_history.proofs.Latest.{left-edits}
use Rattle.alp_history.proofs.LetIn.{IsCalmAt, calm-at}
use Rattle.alp_history.proofs.LockOrder.{LetIn, OwnLink, JoinLink, Linked, linked-core}
use Rattle.alp_history.proofs.LockRace.{LatePhase, IsLate, late-next, late-core, late-open}
use Rattle.alp_history.proofs.LockEnds.{IsStep, L, linked-step, linked-at, start, not-over, not-lost, its-stamp, late-end}

-- ---- of what stands applied, all that touches the place is earlier

module _ (server : ℕ) (locks : Holding) (k : Key) (reads : Reads locks k) (x : Stamp) (v : ℕ) (low : v ≤ x.ts) where
  latest-clear : (xs : List Item) (s : Standing) → AreSized (map.get s.files) → All (IsClear locks v) xs → AreGood server s xs
      → latest_in k x (map.get s.files k) (left_by_items server s xs) ≡ map.get (end_of server s xs).files k
  latest-clear [] s sized clear good = refl
  latest-clear (y ∷ ys) s sized clear good =
      let es : List Edit = changed_by server s y.1 in
      let next : Standing = after_part server s y.1 in
      let made : next.files ≡ edits_map es s.files = files-changed server y.1.who y.1.calls (begun s) in
      let files : map.get next.files k ≡ left_at k (map.get s.files k) es =
      ap (λ (m : Cells). map.get m k) made ∙ ap (λ (w : View). w k) (get-edits_map es s.files) ∙ sym (left-edits k es (map.get s.files k)) in
      let inside = part-within y.1.held server y.1.who y.1.calls s.files s.made no_opens good.0.formed sized tt good.0.covered in
      let step : cond (is_lt (stamp_cmp y.0 x)) (left_at k (map.get s.files k) es) (map.get s.files k) ≡ map.get next.files k =
      elim clear.0 [
        | inl agree ↦
            both (is_lt (stamp_cmp y.0 x)) (left_at k (map.get s.files k) es) (map.get s.files k) (map.get next.files k) (sym files)
            (apart-same (Reads locks) (Writes y.1.held) (apart y.1.held locks (leaves-turned locks y.1.held agree)) es inside.0 s.files k reads ∙ ap (λ (m : Cells). map.get m k) (sym made))
        | inr less ↦
            ap (λ (b : Bool). cond b (left_at k (map.get s.files k) es) (map.get s.files k)) (ap is_lt (stamp_cmp-earlier y.0 x (omega (arith, less, low)))) ∙ sym files
      ] in
      ap (λ (c : Option Cell). latest_in k x c (left_by_items server next ys)) step ∙ latest-clear ys next (sized-after server s y.1 sized good.0) clear.1 good.1
    where
      both : (b : Bool) (p q r : Option Cell) → p ≡ r → q ≡ r → cond b p q ≡ r
      both true p q r e f = e
      both false p q r e f = f

-- ---- what earlier runs had made ready is apart from it too

held-there : (k : Key) (p : JoinNo → Bool) (rs : List ReadyNote) → ((r : ReadyNote) → IsIn r rs → p r.join ≡ true → (m : Cells) → map.get m k ≡ map.get (edits_map r.edits m) k) → (m : Cells)
    → map.get (held p rs m) k ≡ map.get m k
held-there k p [] same m = refl
held-there k p (r ∷ rs) same m = held-there k p rs (λ q i. same q (inr i)) (cond (p r.join) (edits_map r.edits m) m) ∙ go (p r.join) refl
  where
    go : (b : Bool) → p r.join ≡ b → map.get (cond b (edits_map r.edits m) m) k ≡ map.get m k
    go true e = sym (same r (inl refl) e m)
    go false e = refl

same-note : (rs : List ReadyNote) → AreDistinct rs → (r q : ReadyNote) → IsIn r rs → IsIn q rs → r.join ≡ q.join → r ≡ q
same-note [] d r q i j e = absurd i
same-note (y ∷ rs) d r q (inl a) (inl b) e = a ∙ sym b
same-note (y ∷ rs) d r q (inr i) (inr j) e = same-note rs d.1 r q i j e
same-note (y ∷ rs) d r q (inl a) (inr j) e =
    let other = (all-in (λ (z : ReadyNote). (same_trans y.trans z.trans ≡ false) × (same_join y.join z.join ≡ false)) rs q d.0 j).1 in
    let same : y.join ≡ q.join = ap (λ (z : ReadyNote). z.join) (sym a) ∙ e in
    let wrong : true ≡ false = sym (same_join-self y.join) ∙ ap (same_join y.join) same ∙ other in cc
same-note (y ∷ rs) d r q (inr i) (inl b) e =
    let other = (all-in (λ (z : ReadyNote). (same_trans y.trans z.trans ≡ false) × (same_join y.join z.join ≡ false)) rs r d.0 i).1 in
    let same : y.join ≡ r.join = ap (λ (z : ReadyNote). z.join) (sym b) ∙ sym e in
    let wrong : true ≡ false = sym (same_join-self y.join) ∙ ap (same_join y.join) same ∙ other in cc

module _ (log : Log) (proper : IsProper log) (x : Stamp) (d : IsDecided log x) (n i : ℕ) (i-le : i ≤ size log proper n) where
  abbrev s : State
  s = state_at log n i

  -- a note of the opening is of another transaction
  pub noted-other : (r : ReadyNote) → IsIn r (opening_of log n).ready → r.trans ≡ x.trans → ⊥
  noted-other r k e =
      let old : r.trans.epoch < (opening_of log r.trans.server).epoch = ((proper.sound n).ready r k).drawn in
      let older : x.trans.epoch < (opening_of log x.trans.server).epoch = subst (λ (t : TransId). t.epoch < (opening_of log t.server).epoch) e old in
      let now : (opening_of log x.trans.server).epoch ≤ x.trans.epoch = d.2 in omega (arith, older, now)

  h : IsHeld (Began log proper n (is_left log proper s.phases)) s.holder
  h = (linked-at log proper x d n i i-le).0.held

  linked : IsLinkedUp log proper n s
  linked = (linked-at log proper x d n i i-le).0.linked

  mine : Linked log proper x.trans n s
  mine = (linked-at log proper x d n i i-le).0.beside

  -- what is later than a time here has a greater stamp
  late-then : (v : ℕ) → IsLate log proper x.trans v n s → v < x.ts
  late-then v late =
      let p : IsCalmAt log proper n i = calm-at log proper n i i-le in
      let p-le : p.place ≤ size log proper n = (let a : p.place ≤ i = p.before in let b : i ≤ size log proper n = i-le in omega (arith, a, b)) in
      let c = p.same in
      let there : IsLate log proper x.trans v n (state_at log n p.place) =
      late-core log proper x.trans v n s (state_at log n p.place) (sym c.0, sym c.1, sym c.2, sym c.3, sym c.4, sym c.5) late in
      late-end log proper v x d n (at-end log proper n (λ s. IsLate log proper x.trans v n s)
      ((place-from log proper (λ c s. IsLate log proper x.trans v c s) (λ c s d e q. late-core log proper x.trans v c s d e q) (late-step v) n p.place (size log proper n) p-le (all-of log proper n)
      (start log proper (L log proper x d) (λ c s d e q. linked-core log proper x.trans c s d e q) (linked-step log proper x d) (λ c s. IsLate log proper x.trans v c s) (λ c s d e q. late-core log proper x.trans v c s d e q) (late-step v) n (state_at log n p.place) p.none
      (linked-at log proper x d n p.place p-le).0 there)).0).beside)
    where
      late-step : (v : ℕ) → IsStep log proper (λ c s. IsLate log proper x.trans v c s)
      late-step v c s d held here seen may knows after q = late-next log proper x.trans v c s d held may knows q

  -- while a part of it runs here its stamp is to be above the kept clock
  open-late : IsOpenPart s x.trans → s.holder.kept < x.ts
  open-late runs = late-then s.holder.kept (late-open log proper x.trans s.holder.kept n s (mine.right) (omega arith) runs)

  -- and so nothing is applied at it
  pub open-new : IsOpenPart s x.trans → at_key x s.holder.applied ≡ None
  open-new runs = go (at_key x s.holder.applied) refl
    where
      late : s.holder.kept < x.ts
      late = open-late runs

      low : (v : Decided) (xs : List Item) → All (λ y. y.0.ts ≤ s.holder.kept) xs → IsIn (x, v) (decided_items xs) → x.ts ≤ s.holder.kept
      low v [] below i = absurd i
      low v (y ∷ ys) below i = elim i [ inl same ↦ (let is : x ≡ y.0 = ap (λ (z : Stamp × Decided). z.0) same in subst (λ (z : Stamp). z.ts ≤ s.holder.kept) (sym is) below.0) | inr more ↦ low v ys below.1 more ]

      go : (o : Option Decided) → at_key x s.holder.applied ≡ o → at_key x s.holder.applied ≡ None
      go None at = at
      go (Some v) at =
          let among : IsIn (x, v) (decided_items h.parts) = subst (IsIn (x, v)) (sym h.list) (find-in x v s.holder.applied at) in
          let under : x.ts ≤ s.holder.kept = low v h.parts h.below among in
          absurd (omega (arith, late, under))

  module _ (l : Life) (lives : s.holder.lives x.trans ≡ Some l) (new : at_key x s.holder.applied ≡ None) where
    not-key : (y : Stamp) → y ≡ x → ((v : _) × (at_key y s.holder.applied ≡ Some v)) → ⊥
    not-key y e key = let wrong : None ≡ Some key.0 = sym new ∙ ap (λ z. at_key z s.holder.applied) (sym e) ∙ key.1 in cc

    decided-before : (e : DecisionNote) → IsIn e (opening_of log n).decisions → e.stamp.trans ≡ x.trans → ⊥
    decided-before e k is =
        let sound = (proper.sound n).decisions e k in
        let home : e.stamp.trans.server ≡ n = sound.here in
        let old : e.stamp.trans.epoch < (opening_of log n).epoch = sound.older in
        let older : x.trans.epoch < (opening_of log x.trans.server).epoch = subst (λ (t : TransId). t.epoch < (opening_of log t.server).epoch) is (subst (λ m. e.stamp.trans.epoch < (opening_of log m).epoch) (sym home) old) in
        let now : (opening_of log x.trans.server).epoch ≤ x.trans.epoch = d.2 in omega (arith, older, now)

    -- all that was applied is apart from it, or below this time, which its stamp is not below
    Clear : Type 0
    Clear = (v : ℕ) × (v ≤ x.ts) × All (IsClear l.held v) h.parts

    running : IsOpenPart s x.trans → Clear
    unfolding Clear
    running runs =
        let late : s.holder.kept < x.ts = open-late runs in
        (suc s.holder.kept, omega (arith, late), map-all (λ y. y.0.ts ≤ s.holder.kept) (IsClear l.held (suc s.holder.kept)) (λ y low. inr (omega (arith, low))) h.parts h.below)

    own-clear : (f : Fate) → s.fates x.trans ≡ f → OwnLink log proper s.holder.kept f → IsRested log proper n s.holder.applied x.trans f → Clear
    own-clear Undrawn is link rest = absurd link
    own-clear (Running c js) is link rest = running (inl (ap is_running is))
    own-clear (Finishing c js vs) is link rest = running (inl (ap is_running is))
    own-clear (Committed y js ds) is link rest = absurd (elim rest.1 [
      | inl before ↦ decided-before before.0 before.1 (ap (λ (z : Stamp). z.trans) before.2 ∙ rest.0)
      | inr now ↦ not-key y (its-stamp log proper x d n i i-le y (inl (js, ap decision_in is))) now.0
    ])
    own-clear (Forgotten y js) is link rest = absurd (elim rest.1 [
      | inl before ↦ decided-before before.0 before.1 (ap (λ (z : Stamp). z.trans) before.2 ∙ rest.0)
      | inr now ↦ not-key y (its-stamp log proper x d n i i-le y (inl (js, ap decision_in is))) now.0
    ])
    own-clear (Ended c) is link rest = absurd (not-over log proper x d n i i-le (subst IsOver (sym is) tt))

    part-clear : (j : JoinNo) → LetIn log proper n x.trans j → (p : Phase) → s.phases j ≡ p → JoinLink log proper x.trans s.holder.kept l.vote p → HasPart log proper n s.holder.lives j p → IsKeptAt log proper n s.holder.applied j p → Clear
    unfolding Clear
    part-clear j came Unseen is link part keeps = absurd link
    part-clear j came (Joining t c w) is link part keeps = absurd link
    part-clear j came (Active t c w) is link part keeps = running (inr (j, c, w, is ∙ ap (λ (u : TransId). Active u c w) link))
    part-clear j came (Over) is link part keeps = absurd (not-lost log proper x d n i i-le j came is)
    part-clear j came (Applied t y) is link part keeps = absurd (elim keeps [
      | inl r ↦ noted-other r.0 r.1 (r.3 ∙ link.0)
      | inr key ↦ not-key y (its-stamp log proper x d n i i-le y (inr (j, is ∙ ap (λ (u : TransId). Applied u y) link.0))) key
    ])
    part-clear j came (Ready t c ts) is link part keeps =
        let life : part.0 ≡ l = some-same part.0 l (sym part.1 ∙ ap s.holder.lives link.0 ∙ lives) in
        let vote : l.vote ≡ Some ts = ap (λ (z : Life). z.vote) (sym life) ∙ part.2 in
        let own : l.is_early ≡ false = elim part.3 [ inl r ↦ absurd (noted-other r.0 r.1 (r.3 ∙ link.0)) | inr y ↦ ap (λ (z : Life). z.is_early) (sym life) ∙ y.0 ] in
        let ready : s.phases j ≡ Ready x.trans c ts = is ∙ ap (λ (u : TransId). Ready u c ts) link.0 in
        elim (h.live x.trans l lives) [
          | inl e ↦ absurd (let wrong : true ≡ false = sym e.early ∙ own in cc)
          | inr g ↦ (ts, low ts ready, subst (λ (o : Option ℕ). IsVoteClear o l.held h.parts) vote g.1.clear)
        ]
      where
        low : (ts : ℕ) → s.phases j ≡ Ready x.trans c ts → ts ≤ x.ts
        low zero ready = omega arith
        low (suc w) ready =
            let late : w < x.ts = late-then w (inr (j, came, subst (λ (p : Phase). LatePhase x.trans w s.holder.kept p) (sym ready) (refl, omega arith))) in omega (arith, late)

    clear : Clear
    clear = go (x.trans.server == n) refl
      where
        go : (t : Bool) → (x.trans.server == n) ≡ t → Clear
        go true e = own-clear (s.fates x.trans) refl (mine.own (eqb-true x.trans.server n e) l lives) (linked.fates x.trans)
        go false e =
            let q = mine.other (λ k. (let wrong : true ≡ false = sym (eq-eqb x.trans.server n k) ∙ e in cc)) l lives in
            part-clear q.0 q.1 (s.phases q.0) refl q.2 (linked.parts q.0) (linked.kept q.0)

    module _ (k : Key) (reads : Reads l.held k) where
      -- what is still to be applied of earlier runs leaves the place
      early-same : (r : ReadyNote) → IsIn r (opening_of log n).ready → is_left log proper s.phases r.join ≡ true → (m : Cells) → map.get m k ≡ map.get (edits_map r.edits m) k
      early-same r i is m = go (s.phases r.join) (ready-of (is_noted log r.join) (is_ready (s.phases r.join)) is) (linked.parts r.join)
        where
          ready-of : (a b : Bool) → (a && b) ≡ true → b ≡ true
          ready-of true b e = e
          ready-of false b e = (let wrong : false ≡ true = e in cc)

          young-not : IsYoung log proper n r.join → ⊥
          young-not y = let a : r.join.epoch < (opening_of log n).epoch = ((proper.sound n).ready r i).older in omega (arith, a, y)

          go : (p : Phase) → is_ready p ≡ true → HasPart log proper n s.holder.lives r.join p → map.get m k ≡ map.get (edits_map r.edits m) k
          go Unseen e part = cc
          go (Joining t c w) e part = cc
          go (Active t c w) e part = cc
          go (Applied t y) e part = cc
          go Over e part = cc
          go (Ready t c ts) e part = elim part.3 [
            | inr y ↦ absurd (young-not y.1)
            | inl q ↦
                let same : q.0 ≡ r = same-note (opening_of log n).ready (proper.sound n).distinct q.0 r q.1 i q.2 in
                let locks : (part.0).held ≡ held_by r.locks = ap (λ (z : Life). z.held) q.4 ∙ ap (λ (z : ReadyNote). held_by z.locks) same in
                let sound = (proper.sound n).ready r i in
                let other : same_trans x.trans t ≡ false = unlike t q.0 q.1 q.3 (same_trans x.trans t) refl in
                let agree = h.agree x.trans t l part.0 lives part.1 other in
                let mine_intended = life-intended _ _ _ _ _ l (h.live x.trans l lives) in
                let leaves : DoAgreeOnLeaves l.held (held_by r.locks) =
                agreement-of-leaves l.held (held_by r.locks) (subst (λ (z : Holding). DoAgree l.held z) locks agree) mine_intended sound.intended in
                apart-same (Reads l.held) (Writes (held_by r.locks)) (apart (held_by r.locks) l.held (leaves-turned l.held (held_by r.locks) leaves)) r.edits sound.covered m k reads
          ]
            where
              unlike : (t : TransId) (q : ReadyNote) → IsIn q (opening_of log n).ready → q.trans ≡ t → (b : Bool) → same_trans x.trans t ≡ b → same_trans x.trans t ≡ false
              unlike t q i e true f = absurd (noted-other q i (e ∙ sym (same_trans-true x.trans t f)))
              unlike t q i e false f = f

      pub found-there : map.get s.holder.cells k ≡ latest_in k x (map.get (start_of log n) k) s.holder.left
      unfolding Clear
      found-there =
          let c : Clear = clear in
          let base : map.get (start_of log n) k ≡ map.get h.base k =
          ap (λ (m : Cells). map.get m k) (sym (h.from).1) ∙ held-there k (is_left log proper s.phases) (opening_of log n).ready early-same h.base in
          let all = latest-clear s.holder.server l.held k reads x c.0 c.1 h.parts (starting h.base) h.base_sized c.2 h.good in
          sym (
          ap (λ (o : Option Cell). latest_in k x o s.holder.left) base
          ∙ ap (latest_in k x (map.get h.base k)) (sym (ap (left_along s.holder.server (starting h.base)) h.list ∙ h.left_so))
          ∙ all ∙ ap (λ (m : Cells). map.get m k) h.files
          )
