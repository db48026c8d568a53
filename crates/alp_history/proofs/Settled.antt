-- the parts that are ready at the end, of transactions that were decided, as if they were applied
use Rattle.std.specs.Prelude.{Bool, true, false, cond, ◌&&◌, ◌||◌, Option, None, Some, is_some, T, flat_map, map as list_map}
use Rattle.std.specs.List.{list_any, AllByRecursion}
use Rattle.std.specs.FinMap.Entries.{put, is_sorted, is_sorted-put}
use Rattle.std.specs.declared.cmp.Ordering.{Ordering}
use Rattle.std.specs.declared.cmp.Ordering.TheVariants.{Less, Equal, Greater}
use Rattle.std.proofs.Common.{◌≡◌, ℕ, suc, ◌<◌, ◌≤◌, List, [], ◌∷◌, ◌++◌, slice_get, refl, sym, ap, subst, ◌∙◌, arith, inl, inr, ◌⊎◌}
use Rattle.std.proofs.lemmas.List.Folds.{list_any-append}
use Rattle.alp_base.specs.declared.ids.JoinNo.{JoinNo}
use Rattle.alp_base.specs.declared.ids.TransId.{TransId}
use Rattle.alp_base.specs.declared.ids.Stamp.{Stamp}
use Rattle.alp_files.specs.Cells.{Cells}
use Rattle.alp_files.specs.Edits.{Edit, edits_map}
use Rattle.alp_files.specs.Act.{no_opens}
use Rattle.alp_files.specs.History.{Decided, starting}
use Rattle.alp_journal.specs.Ids.{same_join, has_join, stamp_cmp}
use Rattle.alp_journal.specs.Opening.{ReadyNote, DecisionNote}
use Rattle.alp_journal.specs.Deeds.{Applies}
use Rattle.alp_journal.specs.Participant.{Phase, Unseen, Joining, Active, Ready, Applied, Over, is_ready}
use Rattle.alp_journal.specs.Holder.{Holder, Life, in_history, commits}
use Rattle.alp_journal.specs.State.{State}
use Rattle.alp_journal.specs.Laws.{IsHolding}
use Rattle.alp_journal.specs.Holding.{IsNewStamp, IsTimely}
use Rattle.alp_history.specs.Log.{ServerLog, Log, opening_of, journal_of, state_at, final, IsIn, noted, is_noted, Decision, decided, is_decided_in, held, edits_in, ready_note}
use Rattle.alp_history.specs.Theorems.{IsProper, HasCommitted, IsKept}
use Rattle.alp_history.proofs.Places.{some-same, all-in, in-list}
use Rattle.alp_journal.proofs.IdLemmas.{same_join-true}
use Rattle.alp_history.proofs.Phases.{IsSeen}
use Rattle.alp_history.proofs.Logs.{server-stays}
use Rattle.alp_history.proofs.Votes.{IsSpread, IsTimed}
use Rattle.alp_history.proofs.Agreed.{size, all-of, at-end, from-end, kept}
use Rattle.alp_history.proofs.Stamped.{NotedIn, SaidAt, Tells, timed-at, decided-timed}
use Rattle.alp_journal.proofs.OneServer.{IsHeld, deed_held, rebase, behind, behind-early, behind-own}
use Rattle.alp_journal.proofs.StampLemmas.{stamps_total, itself}
use Rattle.alp_history.proofs.Linked.{same_join-self, IsYoung, HasPart, AreApart, other-point}
use Rattle.alp_history.proofs.Turned.{is_left, Began, began-same, began-first, early-noted, flat-in, noted-committed, old-join}
use Rattle.alp_history.proofs.HeldAlong.{exact_stamps, put-keys, vote-low}
use Rattle.alp_history.proofs.EachServer.{along-end, Nothing_}
use Rattle.alp_history.proofs.Decisions.{at_key, find-in, put-find, put-same, left-has, IsDecision, decided-in, linked-end}

-- ---- the stamp of the decision that a join stands in

abbrev pub stamp_of : JoinNo → List Decision → Option Stamp
stamp_of j [] = None
stamp_of j (d ∷ ds) = cond (has_join j d.1) (Some d.0) (stamp_of j ds)

stamp-in : (j : JoinNo) (ds : List Decision) (x : Stamp) → stamp_of j ds ≡ Some x → (js : List JoinNo) × IsIn (x, js) ds × (has_join j js ≡ true)
stamp-in j [] x e = (let wrong : None ≡ Some x = e in cc)
stamp-in j (d ∷ ds) x e = go (λ k. stamp-in j ds x k) (has_join j d.1) refl e
  where
    go : (stamp_of j ds ≡ Some x → (js : List JoinNo) × IsIn (x, js) ds × (has_join j js ≡ true)) → (b : Bool) → has_join j d.1 ≡ b → cond b (Some d.0) (stamp_of j ds) ≡ Some x
        → (js : List JoinNo) × IsIn (x, js) (d ∷ ds) × (has_join j js ≡ true)
    go more true is e = (d.1, inl (ap (λ (y : Stamp). (y, d.1)) (sym (some-same d.0 x e))), is)
    go more false is e = (let r = more e in (r.0, inr r.1, r.2))

pub in-stamp : (j : JoinNo) (ds : List Decision) (d : Decision) → IsIn d ds → has_join j d.1 ≡ true → (x : Stamp) × (stamp_of j ds ≡ Some x)
in-stamp j [] d i e = absurd i
in-stamp j (y ∷ ys) d i e = go (λ k. in-stamp j ys d k e) (has_join j y.1) refl i
  where
    go : (IsIn d ys → (x : Stamp) × (stamp_of j ys ≡ Some x)) → (b : Bool) → has_join j y.1 ≡ b → IsIn d (y ∷ ys) → (x : Stamp) × (cond b (Some y.0) (stamp_of j ys) ≡ Some x)
    go more true is i = (y.0, refl)
    go more false is (inl a) = (let wrong : true ≡ false = sym e ∙ ap (λ (z : Decision). has_join j z.1) a ∙ is in cc)
    go more false is (inr k) = more k

any-stamp : (j : JoinNo) (ds : List Decision) → list_any (λ (d : Decision). has_join j d.1) ds ≡ is_some (stamp_of j ds)
any-stamp j [] = refl
any-stamp j (d ∷ ds) = go (has_join j d.1) (any-stamp j ds)
  where
    go : (b : Bool) → list_any (λ (d : Decision). has_join j d.1) ds ≡ is_some (stamp_of j ds) → (b || list_any (λ (d : Decision). has_join j d.1) ds) ≡ is_some (cond b (Some d.0) (stamp_of j ds))
    go true e = refl
    go false e = e

any-map : (j : JoinNo) (ns : List DecisionNote) → list_any (λ (d : Decision). has_join j d.1) (list_map (λ (n : DecisionNote). (n.stamp, n.joins)) ns) ≡ list_any (λ (n : DecisionNote). has_join j n.joins) ns
any-map j [] = refl
any-map j (n ∷ ns) = ap (λ (b : Bool). has_join j n.joins || b) (any-map j ns)

in-split : {A : Type 0} (x : A) (xs ys : List A) → IsIn x (xs ++ ys) → IsIn x xs ⊎ IsIn x ys
in-split x [] ys i = inr i
in-split x (y ∷ xs) ys i = elim i [ inl e ↦ inl (inl e) | inr k ↦ elim (in-split x xs ys k) [ inl a ↦ inl (inr a) | inr b ↦ inr b ] ]

map-notes : (x : Stamp) (js : List JoinNo) (ns : List DecisionNote) → IsIn {A = Decision} (x, js) (list_map (λ (n : DecisionNote). (n.stamp, n.joins)) ns) → (d : DecisionNote) × IsIn d ns × (d.stamp ≡ x) × (d.joins ≡ js)
map-notes x js [] i = absurd i
map-notes x js (n ∷ ns) i = elim i [ inl e ↦ (n, inl refl, ap (λ (d : Decision). d.0) (sym e), ap (λ (d : Decision). d.1) (sym e)) | inr k ↦ (let r = map-notes x js ns k in (r.0, inr r.1, r.2, r.3)) ]

-- ---- a list of applied transactions with one more

abbrev pub record_of : Stamp → Life → Decided
record_of x l = record { stamp = x; who = l.who; calls = l.calls }

record IsOneMore (x : Stamp) (l : Life) (xs ys : List (Stamp × Decided)) : Type 0 where
  old : (y : Stamp) (v : Decided) → at_key y xs ≡ Some v → at_key y ys ≡ Some v
  only : (y : Stamp) (v : Decided) → at_key y ys ≡ Some v → (at_key y xs ≡ Some v) ⊎ ((y ≡ x) × (v ≡ record_of x l) × (l.is_early ≡ false))
  new : l.is_early ≡ false → at_key x ys ≡ Some (record_of x l)
  sorted : T (is_sorted stamp_cmp xs) → T (is_sorted stamp_cmp ys)
  fresh : (z : Stamp) → (z ≡ x → ⊥) → IsNewStamp z xs → IsNewStamp z ys

not-new : (x : Stamp) (v : Decided) (xs : List (Stamp × Decided)) → IsNewStamp x xs → at_key x xs ≡ Some v → ⊥
not-new x v xs n e = all-in (λ (y : Stamp × Decided). stamp_cmp x y.0 ≡ Equal → ⊥) xs (x, v) n (find-in x v xs e) (itself x)

one-more : (x : Stamp) (l : Life) (xs : List (Stamp × Decided)) → (l.is_early ≡ false → IsNewStamp x xs) → IsOneMore x l xs (in_history x l xs)
one-more x l xs new = go (l.is_early) refl
  where
    go : (b : Bool) → l.is_early ≡ b → IsOneMore x l xs (cond {A = List (Stamp × Decided)} b xs (put stamp_cmp x (record_of x l) xs))
    go true e = record { old = λ y v k. k; only = λ y v k. inl k; new = λ f. (let wrong : true ≡ false = sym e ∙ f in cc); sorted = λ h. h; fresh = λ z n h. h }
    go false e = record {
      old = λ y v k. put-find y x (record_of x l) xs (λ s. not-new x v xs (new e) (ap (λ z. at_key z xs) (sym s) ∙ k)) ∙ k;
      only = λ y v k. which y v k (stamp_cmp y x) refl;
      new = λ f. put-same x (record_of x l) xs;
      sorted = λ h. is_sorted-put stamp_cmp stamps_total x (record_of x l) xs h;
      fresh = λ z n h. put-keys (λ k. stamp_cmp z k ≡ Equal → ⊥) x (record_of x l) xs (λ s. n (exact_stamps z x s)) h;
    }
      where
        apart_ : (y : Stamp) (v : Decided) (o : Ordering) → stamp_cmp y x ≡ o → (o ≡ Equal → ⊥) → at_key y (put stamp_cmp x (record_of x l) xs) ≡ Some v → at_key y xs ≡ Some v
        apart_ y v o s n k = sym (put-find y x (record_of x l) xs (λ i. n (sym s ∙ ap (λ z. stamp_cmp z x) i ∙ itself x))) ∙ k

        which : (y : Stamp) (v : Decided) → at_key y (put stamp_cmp x (record_of x l) xs) ≡ Some v → (o : Ordering) → stamp_cmp y x ≡ o → (at_key y xs ≡ Some v) ⊎ ((y ≡ x) × (v ≡ record_of x l) × (l.is_early ≡ false))
        which y v k Equal s = (let is = exact_stamps y x s in inr (is, some-same v (record_of x l) (sym k ∙ ap (λ z. at_key z (put stamp_cmp x (record_of x l) xs)) is ∙ put-same x (record_of x l) xs), e))
        which y v k Less s = inl (apart_ y v Less s (λ q. (let wrong : Less ≡ Equal = q in cc)) k)
        which y v k Greater s = inl (apart_ y v Greater s (λ q. (let wrong : Greater ≡ Equal = q in cc)) k)

-- and a list of what they changed
record IsOneLeft (x : Stamp) (l : Life) (es fs : List (Stamp × List Edit)) : Type 0 where
  old : (y : Stamp) (v : List Edit) → at_key y es ≡ Some v → at_key y fs ≡ Some v
  new : l.is_early ≡ false → at_key x fs ≡ Some l.edits

one-left : (x : Stamp) (l : Life) (es : List (Stamp × List Edit)) → (l.is_early ≡ false → (v : List Edit) → at_key x es ≡ Some v → ⊥) → IsOneLeft x l es (cond {A = List (Stamp × List Edit)} l.is_early es (put stamp_cmp x l.edits es))
one-left x l es new = go (l.is_early) refl
  where
    go : (b : Bool) → l.is_early ≡ b → IsOneLeft x l es (cond {A = List (Stamp × List Edit)} b es (put stamp_cmp x l.edits es))
    go true e = record { old = λ y v k. k; new = λ f. (let wrong : true ≡ false = sym e ∙ f in cc) }
    go false e = record {
      old = λ y v k. put-find y x l.edits es (λ s. new e v (ap (λ z. at_key z es) (sym s) ∙ k)) ∙ k;
      new = λ f. put-same x l.edits es;
    }

module _ (log : Log) (proper : IsProper log) where
  abbrev pub all_decisions : List Decision
  all_decisions = decided log ++ list_map (λ (n : DecisionNote). (n.stamp, n.joins)) (noted log)

  pub decided-some : (j : JoinNo) → is_decided_in log j ≡ is_some (stamp_of j all_decisions)
  decided-some j =
      sym (ap (λ (b : Bool). list_any (λ (d : Decision). has_join j d.1) (decided log) || b) (any-map j (noted log)))
      ∙ sym (list_any-append (λ (d : Decision). has_join j d.1) (decided log) (list_map (λ (n : DecisionNote). (n.stamp, n.joins)) (noted log))) ∙ any-stamp j all_decisions

  -- the decision that a join stands in
  pub record IsSettled (j : JoinNo) (x : Stamp) : Type 0 where
    pub joins : List JoinNo
    pub has : has_join j joins ≡ true
    pub committed : HasCommitted log x.trans.server x joins
    pub origin : IsDecision log proper x joins ⊎ ((w : ℕ) × (d : DecisionNote) × IsIn d (opening_of log w).decisions × (d.stamp ≡ x) × (has_join j d.joins ≡ true))

  pub settled-by : (j : JoinNo) (x : Stamp) → stamp_of j all_decisions ≡ Some x → IsSettled j x
  settled-by j x e =
      let s = stamp-in j all_decisions x e in
      elim (in-split (x, s.0) (decided log) (list_map (λ (n : DecisionNote). (n.stamp, n.joins)) (noted log)) s.1) [
        | inl i ↦ (let d = decided-in log proper x s.0 i in record { joins = s.0; has = s.2; committed = d.committed; origin = inl d })
        | inr i ↦
            let n = map-notes x s.0 (noted log) i in
            let f = flat-in (λ (x : ServerLog). x.opening.decisions) n.0 log.servers n.1 in
            let w : ℕ = (f.0).opening.server in
            let there : IsIn n.0 (opening_of log w).decisions = subst (λ (y : ServerLog). IsIn n.0 y.opening.decisions) (sym (proper.different f.0 f.1)) f.2 in
            let here : (n.0).stamp.trans.server ≡ w = ((proper.sound w).decisions n.0 there).here in
            let c : HasCommitted log w (n.0).stamp (n.0).joins = noted-committed log proper w n.0 there in
            record {
              joins = s.0;
              has = s.2;
              committed = subst (λ (d : Decision). HasCommitted log d.0.trans.server d.0 d.1) (λ k. (n.2 k, n.3 k)) (subst (λ m. HasCommitted log m (n.0).stamp (n.0).joins) (sym here) c);
              origin = inr (w, n.0, there, n.2, ap (has_join j) n.3 ∙ s.2);
            }
      ]

  module _ (n : ℕ) where
    abbrev fin : State
    fin = final log n

    -- a ready part of a decided transaction
    pub ready-trans : (j : JoinNo) (t : TransId) (c ts : ℕ) (x : Stamp) → fin.phases j ≡ Ready t c ts → IsSettled j x → t ≡ x.trans
    ready-trans j t c ts x is s =
        let here : j.server ≡ n = (along-end log proper n).seen j (ap IsSeen is) in
        let k : IsKept x ((final log j.server).phases j) = kept log proper x.trans.server x s.joins j (s.committed) (s.has) in
        subst (IsKept x) is (subst (λ m. IsKept x ((final log m).phases j)) here k)

    -- its joins are of different servers
    pub spread-end : (x : Stamp) (js : List JoinNo) → HasCommitted log x.trans.server x js → IsSpread js
    spread-end x js c =
        let m : ℕ = x.trans.server in
        (decided-timed log proper m (size log proper m) x.trans ((final log m).fates x.trans) (x, js) c
        (at-end log proper m (λ s. IsTimed (SaidAt log proper m (size log proper m)) (NotedIn log proper m) x.trans (s.fates x.trans)) (timed-at log proper m (size log proper m) (size log proper m) (all-of log proper m) (all-of log proper m) x.trans))).0

    pub tells-end : (j : JoinNo) (x : Stamp) → j.server ≡ n → IsSettled j x → Tells log proper n (size log proper n) x j
    tells-end j x here s =
        let m : ℕ = x.trans.server in
        let t = decided-timed log proper m (size log proper m) x.trans ((final log m).fates x.trans) (x, s.joins) (s.committed)
        (at-end log proper m (λ s. IsTimed (SaidAt log proper m (size log proper m)) (NotedIn log proper m) x.trans (s.fates x.trans)) (timed-at log proper m (size log proper m) (size log proper m) (all-of log proper m) (all-of log proper m) x.trans)) in
        record {
          from = m;
          joins = s.joins;
          stands = s.committed;
          has = s.has;
          spread = t.0;
          voted = elim (t.1 j (s.has)) [
            | inl d ↦ inl d
            | inr v ↦ (let a = v.1 in
                let there = subst (λ w. (slice_get (journal_of log w) a.0 ≡ Some a.2) × ((state_at log w (suc a.0)).phases j ≡ Ready x.trans a.1 v.0)) here (a.5, a.6) in
                inr (v.0, a.0, a.1, v.2, in-list (journal_of log n) a.0 a.2 there.0, there.1))
          ];
        }

    ready-low : (j : JoinNo) (c ts : ℕ) (x : Stamp) → fin.phases j ≡ Ready x.trans c ts → IsSettled j x → ts ≤ x.ts
    ready-low j c ts x is s =
        let here : j.server ≡ n = (along-end log proper n).seen j (ap IsSeen is) in
        vote-low log proper (Nothing_ log proper) (λ n s m c x. tt) (λ n m d a b c e f g h. tt) n (size log proper n) (state_at log n (size log proper n)) x j c ts (all-of log proper n) here (tells-end j x here s) (λ j t ts h. h, λ j u w. (u, w))
        (from-end log proper n (λ s. s.phases j ≡ Ready x.trans c ts) is)

    -- a note of the opening is of no transaction of this run
    pub note-old : (j : JoinNo) (x : Stamp) (r : ReadyNote) → IsIn r (opening_of log n).ready → r.trans ≡ x.trans → (opening_of log x.trans.server).epoch ≤ x.trans.epoch → ⊥
    note-old j x r i e young =
        let old : r.trans.epoch < (opening_of log r.trans.server).epoch = ((proper.sound n).ready r i).drawn in
        let there : x.trans.epoch < (opening_of log x.trans.server).epoch = subst (λ (u : TransId). u.epoch < (opening_of log u.server).epoch) e old in
        omega (arith, there, young)

    -- ---- one part after the other

    abbrev settle_one : Phase → Option Stamp → Holder → Holder
    settle_one (Ready t c ts) (Some x) h = commits h x (h.lives x.trans)
    settle_one (Ready t c ts) None h = h
    settle_one p s h = h

    abbrev pub settle : List JoinNo → Holder → Holder
    settle [] h = h
    settle (j ∷ js) h = settle js (settle_one (fin.phases j) (stamp_of j all_decisions) h)

    abbrev pub is_still : List JoinNo → JoinNo → Bool
    is_still js k = is_left log proper fin.phases k && has_join k js

    abbrev pub notes_of : List JoinNo → List ReadyNote
    notes_of js = flat_map (λ j. ready_note fin j (fin.phases j)) js

    pub record Before (js : List JoinNo) (h : Holder) : Type 0 where
      pub held_so : IsHeld (Began log proper n (is_still js)) h
      pub apart : AreApart js
      pub lives : (j : JoinNo) → IsIn j js → (t : TransId) → IsHolding t (fin.phases j) → h.lives t ≡ fin.holder.lives t
      pub news : (j : JoinNo) → IsIn j js → (x : Stamp) → stamp_of j all_decisions ≡ Some x → IsHolding x.trans (fin.phases j) → IsYoung log proper n j → IsNewStamp x h.applied

    -- a ready part of this run whose transaction was decided
    abbrev pub IsLate : Stamp → Decided → List JoinNo → Type 0
    IsLate y v js = (j : JoinNo) × IsIn j js × (stamp_of j all_decisions ≡ Some y) × (c : ℕ) × (ts : ℕ) × (fin.phases j ≡ Ready y.trans c ts) × (l : Life) × (fin.holder.lives y.trans ≡ Some l) × (l.is_early ≡ false) × (v ≡ record_of y l)

    pub record Behind (js : List JoinNo) (h g : Holder) : Type 0 where
      pub held_so : IsHeld (Began log proper n (is_still [])) g
      pub cells : g.cells ≡ held (is_decided_in log) (notes_of js) h.cells
      pub old : (y : Stamp) (v : Decided) → at_key y h.applied ≡ Some v → at_key y g.applied ≡ Some v
      pub new : (j : JoinNo) → IsIn j js → (x : Stamp) (l : Life) (c ts : ℕ) → stamp_of j all_decisions ≡ Some x → fin.phases j ≡ Ready x.trans c ts → fin.holder.lives x.trans ≡ Some l → l.is_early ≡ false → at_key x g.applied ≡ Some (record_of x l)
      pub only : (y : Stamp) (v : Decided) → at_key y g.applied ≡ Some v → (at_key y h.applied ≡ Some v) ⊎ IsLate y v js
      pub old_left : (y : Stamp) (es : List Edit) → at_key y h.left ≡ Some es → at_key y g.left ≡ Some es
      pub new_left : (j : JoinNo) → IsIn j js → (x : Stamp) (l : Life) (c ts : ℕ) → stamp_of j all_decisions ≡ Some x → fin.phases j ≡ Ready x.trans c ts → fin.holder.lives x.trans ≡ Some l → l.is_early ≡ false → at_key x g.left ≡ Some l.edits
      pub sorted : T (is_sorted stamp_cmp h.applied) → T (is_sorted stamp_cmp g.applied)
      pub server : g.server ≡ h.server

    more-late : (y : Stamp) (v : Decided) (j : JoinNo) (js : List JoinNo) → IsLate y v js → IsLate y v (j ∷ js)
    more-late y v j js l = (l.0, inr l.1, l.2, l.3, l.4, l.5, l.6, l.7, l.8, l.9)

    and-false : (c : Bool) → (c && false) ≡ false
    and-false true = refl
    and-false false = refl

    -- one that is not left to be applied
    began-skip : (j : JoinNo) (js : List JoinNo) → is_left log proper fin.phases j ≡ false → (b : Cells) → Began log proper n (is_still (j ∷ js)) b → Began log proper n (is_still js) b
    began-skip j js none_is b q = began-same log proper n (is_still (j ∷ js)) (is_still js) (λ r i. go r (same_join j r.join) refl) b q
      where
        go : (r : ReadyNote) → (c : Bool) → same_join j r.join ≡ c → (is_left log proper fin.phases r.join && (c || has_join r.join js)) ≡ (is_left log proper fin.phases r.join && has_join r.join js)
        go r true e = (let f : is_left log proper fin.phases r.join ≡ false = ap (is_left log proper fin.phases) (sym (same_join-true j r.join e)) ∙ none_is in ap (λ d. d && (true || has_join r.join js)) f ∙ sym (ap (λ d. d && has_join r.join js) f))
        go r false e = refl

    skip : (j : JoinNo) (js : List JoinNo) (h : Holder) → Before (j ∷ js) h → is_left log proper fin.phases j ≡ false → Before js h
    skip j js h b none_is = record {
      held_so = rebase (Began log proper n (is_still (j ∷ js))) (Began log proper n (is_still js)) h (began-skip j js none_is) (b.held_so);
      apart = b.apart.1;
      lives = λ k i. b.lives k (inr i);
      news = λ k i. b.news k (inr i);
    }

    skipped : (j : JoinNo) (js : List JoinNo) (h g : Holder) → ((x : Stamp) (c ts : ℕ) → stamp_of j all_decisions ≡ Some x → fin.phases j ≡ Ready x.trans c ts → ⊥) → held (is_decided_in log) (notes_of (j ∷ js)) h.cells ≡ held (is_decided_in log) (notes_of js) h.cells
        → Behind js h g → Behind (j ∷ js) h g
    skipped j js h g other same p = record {
      held_so = p.held_so;
      cells = p.cells ∙ sym same;
      old = p.old;
      new = λ k i x l c ts s r. elim i [ inl e ↦ absurd (other x c ts (ap (λ z. stamp_of z all_decisions) (sym e) ∙ s) (ap fin.phases (sym e) ∙ r)) | inr m ↦ p.new k m x l c ts s r ];
      only = λ y v e. elim (p.only y v e) [ inl a ↦ inl a | inr l ↦ inr (more-late y v j js l) ];
      old_left = p.old_left;
      new_left = λ k i x l c ts s r. elim i [ inl e ↦ absurd (other x c ts (ap (λ z. stamp_of z all_decisions) (sym e) ∙ s) (ap fin.phases (sym e) ∙ r)) | inr m ↦ p.new_left k m x l c ts s r ];
      sorted = p.sorted;
      server = p.server;
    }

    -- what is noted is decided
    undecided : (j : JoinNo) → stamp_of j all_decisions ≡ None → (is_decided_in log j ≡ false) × (is_noted log j ≡ false)
    undecided j e =
        let f : is_decided_in log j ≡ false = decided-some j ∙ ap is_some e in
        (f, either (list_any (λ (d : Decision). has_join j d.1) (decided log)) (is_noted log j) f)
      where
        either : (a b : Bool) → (a || b) ≡ false → b ≡ false
        either true b e = (let wrong : true ≡ false = e in cc)
        either false b e = e

    -- ---- a ready part whose transaction was decided

    module _ (j : JoinNo) (js : List JoinNo) (h : Holder) (b : Before (j ∷ js) h) (x : Stamp) (settled : stamp_of j all_decisions ≡ Some x) (c ts : ℕ) (ready : fin.phases j ≡ Ready x.trans c ts) where
      done : IsSettled j x
      done = settled-by j x settled

      mine : HasPart log proper n fin.holder.lives j (Ready x.trans c ts)
      mine = subst (HasPart log proper n fin.holder.lives j) ready ((linked-end log proper n).parts j)

      abbrev life : Life
      life = mine.0

      there : h.lives x.trans ≡ Some life
      there = b.lives j (inl refl) x.trans (subst (IsHolding x.trans) (sym ready) refl) ∙ mine.1

      abbrev after : Holder
      after = commits h x (h.lives x.trans)

      same : after ≡ commits h x (Some life)
      same = ap (commits h x) there

      own-new : life.is_early ≡ false → IsNewStamp x h.applied
      own-new e = elim mine.3 [
        | inl r ↦ absurd (let wrong : true ≡ false = ap (λ (l : Life). l.is_early) (sym r.4) ∙ e in cc)
        | inr y ↦ b.news j (inl refl) x settled (subst (IsHolding x.trans) (sym ready) refl) y.1
      ]

      timely : (k : Life) → h.lives x.trans ≡ Some k → IsTimely h x k
      timely k is =
          let eq : life ≡ k = some-same life k (sym there ∙ is) in
          subst (IsTimely h x) eq (elim mine.3 [
            | inl r ↦ inl (ap (λ (l : Life). l.is_early) r.4)
            | inr y ↦ inr (ts, y.0, mine.2, ready-low j c ts x ready done, own-new y.0)
          ])

      left-here : (d : Bool) → is_noted log j ≡ d → is_left log proper fin.phases j ≡ d
      left-here d e = ap (λ p. is_noted log j && is_ready p) ready ∙ and-true (is_noted log j) ∙ e
        where
          and-true : (a : Bool) → (a && true) ≡ a
          and-true true = refl
          and-true false = refl

      self : same_join j j ≡ true
      self = same_join-self j

      not-among : (ks : List JoinNo) → AllByRecursion (λ k. j ≡ k → ⊥) ks → has_join j ks ≡ false
      not-among [] a = refl
      not-among (k ∷ ks) a = go (same_join k j) refl (not-among ks a.1)
        where
          go : (d : Bool) → same_join k j ≡ d → has_join j ks ≡ false → (d || has_join j ks) ≡ false
          go true e r = absurd (a.0 (sym (same_join-true k j e)))
          go false e r = r

      turn : (k : Life) → h.lives x.trans ≡ Some k → (m : Cells) → Began log proper n (is_still (j ∷ js)) m → Began log proper n (is_still js) (behind k m)
      turn k is m q =
          let eq : life ≡ k = some-same life k (sym there ∙ is) in
          subst (λ (l : Life). Began log proper n (is_still js) (behind l m)) eq (elim mine.3 [
            | inl r ↦
                let note : is_noted log j ≡ true = early-noted log proper n x j r.0 r.1 r.3 (x.trans.server, done.joins, done.committed, done.has) in
                subst (Began log proper n (is_still js)) (sym (behind-early life m (ap (λ (z : Life). z.is_early) r.4) ∙ ap (λ (z : Life). edits_map z.edits m) r.4))
                (began-first log proper n (is_still (j ∷ js)) (is_still js) r.0 r.1 (ap (is_noted log) r.2 ∙ note)
                (subst (λ i. is_still (j ∷ js) i ≡ true) (sym r.2) (ap (λ d. d && (same_join j j || has_join j js)) (left-here true note) ∙ ap (λ d. d || has_join j js) self))
                (subst (λ i. is_still js i ≡ false) (sym r.2) (ap (λ d. is_left log proper fin.phases j && d) (not-among js b.apart.0) ∙ and-false (is_left log proper fin.phases j)))
                (λ y i e. ap (λ d. is_left log proper fin.phases y.join && (d || has_join y.join js)) (ap (λ z. same_join z y.join) (sym r.2) ∙ e)) m q)
            | inr y ↦
                subst (Began log proper n (is_still js)) (sym (behind-own life m y.0))
                (began-same log proper n (is_still (j ∷ js)) (is_still js) (λ r i. ap (λ d. is_left log proper fin.phases r.join && (d || has_join r.join js)) (unlike r i y.1 (same_join j r.join) refl)) m q)
          ])
        where
          unlike : (r : ReadyNote) → IsIn r (opening_of log n).ready → IsYoung log proper n j → (d : Bool) → same_join j r.join ≡ d → same_join j r.join ≡ false
          unlike r i y true e = absurd (old-join log proper n fin (linked-end log proper n) r i (subst (IsYoung log proper n) (same_join-true j r.join e) y))
          unlike r i y false e = e

      held-after : IsHeld (Began log proper n (is_still js)) after
      held-after =
          deed_held (Began log proper n (is_still (j ∷ js))) (Began log proper n (is_still js)) h (Applies j x) timely
          ((λ none m q. (let wrong : None ≡ Some life = sym none ∙ there in cc)), turn) (b.held_so)

      step : IsOneMore x life h.applied after.applied
      step = subst (IsOneMore x life h.applied) (ap (λ (g : Holder). g.applied) (sym same)) (one-more x life h.applied own-new)

      none-left : life.is_early ≡ false → (v : List Edit) → at_key x h.left ≡ Some v → ⊥
      none-left e v k =
          let start = starting (b.held_so).base in
          let has = left-has h.server start h.applied x v (ap (at_key x) ((b.held_so).left_so) ∙ k) in
          not-new x has.0 h.applied (own-new e) has.1

      step_left : IsOneLeft x life h.left after.left
      step_left = subst (IsOneLeft x life h.left) (ap (λ (g : Holder). g.left) (sym same)) (one-left x life h.left none-left)

      -- the others hold other transactions
      others : (k : JoinNo) → IsIn k js → (t : TransId) → IsHolding t (fin.phases k) → t ≡ x.trans → ⊥
      others k i t hold e =
          all-in (λ z. j ≡ z → ⊥) js k b.apart.0 i
          ((linked-end log proper n).one j k x.trans (subst (IsHolding x.trans) (sym ready) refl) (subst (λ u. IsHolding u (fin.phases k)) e hold))

      before-rest : Before js after
      before-rest = record {
        held_so = held-after;
        apart = b.apart.1;
        lives = λ k i t hold.
            ap (λ (g : Holder). g.lives t) same ∙ other-point log proper n h.lives x.trans t (Some (record life { calls = []; edits = []; own = no_opens; vote = None; is_early = false })) (others k i t hold) ∙ b.lives k (inr i) t hold;
        news = λ k i z e hold young. step.fresh z (λ q. others k i z.trans hold (ap (λ (y : Stamp). y.trans) q)) (b.news k (inr i) z e hold young);
      }

      rest-behind : (g : Holder) → Behind js after g → Behind (j ∷ js) h g
      rest-behind g p = record {
        held_so = p.held_so;
        cells =
            p.cells ∙ ap (λ (y : Holder). held (is_decided_in log) (notes_of js) y.cells) same
            ∙ sym (ap (λ (q : Phase). held (is_decided_in log) (ready_note fin j q ++ notes_of js) h.cells) ready
            ∙ ap (λ (d : Bool). held (is_decided_in log) (notes_of js) (cond d (edits_map (edits_in (fin.holder.lives x.trans)) h.cells) h.cells)) (decided-some j ∙ ap is_some settled)
            ∙ ap (λ (l : Option Life). held (is_decided_in log) (notes_of js) (edits_map (edits_in l) h.cells)) mine.1);
        old = λ y v e. p.old y v (step.old y v e);
        new = λ k i z l d s e r m young. elim i [
          | inl k_is ↦
              let z_is : x ≡ z = some-same x z (sym settled ∙ ap (λ q. stamp_of q all_decisions) (sym k_is) ∙ e) in
              let l_is : life ≡ l = some-same life l (sym mine.1 ∙ ap (λ (q : Stamp). fin.holder.lives q.trans) z_is ∙ m) in
              let early : life.is_early ≡ false = ap (λ (q : Life). q.is_early) l_is ∙ young in
              subst (λ (q : Stamp). at_key q g.applied ≡ Some (record_of q l)) z_is (subst (λ (q : Life). at_key x g.applied ≡ Some (record_of x q)) l_is (p.old x (record_of x life) (step.new early)))
          | inr q ↦ p.new k q z l d s e r m young
        ];
        only = λ y v e. elim (p.only y v e) [
          | inl a ↦ elim (step.only y v a) [
            | inl old ↦ inl old
            | inr w ↦ inr (j, inl refl, settled ∙ ap Some (sym w.0), c, ts, ready ∙ ap (λ (q : Stamp). Ready q.trans c ts) (sym w.0), life, ap (λ (q : Stamp). fin.holder.lives q.trans) w.0 ∙ mine.1, w.2, w.1 ∙ ap (λ (q : Stamp). record_of q life) (sym w.0))
          ]
          | inr l ↦ inr (more-late y v j js l)
        ];
        old_left = λ y v e. p.old_left y v (step_left.old y v e);
        new_left = λ k i z l d s e r m young. elim i [
          | inl k_is ↦
              let z_is : x ≡ z = some-same x z (sym settled ∙ ap (λ q. stamp_of q all_decisions) (sym k_is) ∙ e) in
              let l_is : life ≡ l = some-same life l (sym mine.1 ∙ ap (λ (q : Stamp). fin.holder.lives q.trans) z_is ∙ m) in
              let early : life.is_early ≡ false = ap (λ (q : Life). q.is_early) l_is ∙ young in
              subst (λ (q : Stamp). at_key q g.left ≡ Some l.edits) z_is (p.old_left x life.edits (step_left.new early) ∙ ap (λ (q : Life). Some q.edits) l_is)
          | inr q ↦ p.new_left k q z l d s e r m young
        ];
        sorted = λ s. p.sorted (step.sorted s);
        server = p.server ∙ server-stays (Applies j x) h;
      }

    pub settled-all : (js : List JoinNo) (h : Holder) → Before js h → Behind js h (settle js h)
    settled-all [] h b = record { held_so = b.held_so; cells = refl; old = λ y v e. e; new = λ k i x l c ts s r m y. absurd i; only = λ y v e. inl e; old_left = λ y v e. e; new_left = λ k i x l c ts s r m y. absurd i; sorted = λ s. s; server = refl }
    settled-all (j ∷ js) h b = go (λ g q. settled-all js g q) (fin.phases j) refl (stamp_of j all_decisions) refl
      where
        plain : (p : Phase) → fin.phases j ≡ p → (is_ready p ≡ false) → (ready_note fin j p ≡ []) → ((g : Holder) → Before js g → Behind js g (settle js g)) → Behind (j ∷ js) h (settle js h)
        plain p e none_is note more =
            skipped j js h (settle js h) (λ x c ts s r. (let wrong : false ≡ true = sym none_is ∙ ap is_ready (sym e ∙ r) in cc))
            (ap (λ (q : Phase). held (is_decided_in log) (ready_note fin j q ++ notes_of js) h.cells) e ∙ ap (λ (rs : List ReadyNote). held (is_decided_in log) (rs ++ notes_of js) h.cells) note)
            (more h (skip j js h b (ap (λ q. is_noted log j && is_ready q) e ∙ ap (λ d. is_noted log j && d) none_is ∙ and-false (is_noted log j))))

        go : ((g : Holder) → Before js g → Behind js g (settle js g)) → (p : Phase) → fin.phases j ≡ p → (s : Option Stamp) → stamp_of j all_decisions ≡ s → Behind (j ∷ js) h (settle js (settle_one p s h))
        go more Unseen e s f = plain Unseen e refl refl more
        go more (Joining t c w) e s f = plain (Joining t c w) e refl refl more
        go more (Active t c w) e s f = plain (Active t c w) e refl refl more
        go more (Applied t x) e s f = plain (Applied t x) e refl refl more
        go more Over e s f = plain Over e refl refl more
        go more (Ready t c ts) e None f =
            let u = undecided j f in
            skipped j js h (settle js h) (λ x k v s r. (let wrong : None ≡ Some x = sym f ∙ s in cc))
            (ap (λ (q : Phase). held (is_decided_in log) (ready_note fin j q ++ notes_of js) h.cells) e ∙ ap (λ (d : Bool). held (is_decided_in log) (notes_of js) (cond d (edits_map (edits_in (fin.holder.lives t)) h.cells) h.cells)) u.0)
            (more h (skip j js h b (ap (λ d. d && is_ready (fin.phases j)) u.1)))
        go more (Ready t c ts) e (Some x) f =
            let t_is : t ≡ x.trans = ready-trans j t c ts x e (settled-by j x f) in
            let ready : fin.phases j ≡ Ready x.trans c ts = e ∙ ap (λ (u : TransId). Ready u c ts) t_is in
            rest-behind j js h b x f c ts ready (settle js (commits h x (h.lives x.trans))) (more (commits h x (h.lives x.trans)) (before-rest j js h b x f c ts ready))
