-- the decided transactions of all servers, by look-up
use Rattle.std.specs.Prelude.{Bool, true, false, cond, ◌&&◌, ◌==◌, Option, None, Some, T, filter, map as list_map}
use Rattle.std.specs.FinMap.Entries.{put, find-put, is_sorted, is_sorted-put, below_all, by_order, find}
use Rattle.std.specs.Ordering.{is_eq, is_lt}
use Rattle.std.specs.declared.cmp.Ordering.{Ordering}
use Rattle.std.specs.declared.cmp.Ordering.TheVariants.{Less, Equal, Greater}
use Rattle.std.proofs.Common.{◌≡◌, ℕ, ◌<◌, ◌≤◌, List, [], ◌∷◌, refl, sym, ap, subst, ◌∙◌, arith, inl, inr, ◌⊎◌, eq-eqb}
use Rattle.std.proofs.lemmas.Bool.{eqb-true}
use Rattle.alp_base.specs.declared.ids.JoinNo.{JoinNo}
use Rattle.alp_base.specs.declared.ids.Stamp.{Stamp}
use Rattle.alp_files.specs.Edits.{Edit}
use Rattle.alp_files.specs.History.{Decided, Standing, begun, steps}
use Rattle.alp_files.specs.Apart.{changes}
use Rattle.alp_journal.specs.Ids.{has_join, stamp_cmp}
use Rattle.alp_journal.specs.Coordinator.{Fate, Undrawn, Running, Finishing, Committed, Forgotten, Ended, decision_in, joins_of}
use Rattle.alp_journal.specs.Along.{state_after}
use Rattle.alp_journal.specs.State.{opened}
use Rattle.alp_journal.specs.Moves.{next}
use Rattle.alp_history.specs.Log.{ServerLog, Log, of, opening_of, final, IsIn, Decision, all_put, own_of, decisions_of, decided_by, decided}
use Rattle.alp_history.specs.Theorems.{IsProper, HasCommitted}
use Rattle.alp_history.proofs.Places.{some-same, all-in}
use Rattle.alp_history.proofs.Phases.{IsSeen}
use Rattle.alp_history.proofs.Logs.{opening-server}
use Rattle.alp_history.proofs.Agreed.{committed-parts, applied-committed}
use Rattle.alp_journal.proofs.StampLemmas.{stamps_total, itself}
use Rattle.alp_history.proofs.Linked.{IsYoung, AreParts, IsRested, IsDecidedHere, IsDecidedBefore, IsTied, IsLinkedUp}
use Rattle.alp_history.proofs.Turned.{server-in}
use Rattle.alp_history.proofs.HeldAlong.{exact_stamps}
use Rattle.alp_history.proofs.EachServer.{along-end}
use Rattle.alp_journal.proofs.LeftBehind.{left_along}

-- ---- look-ups

module _ {X : Type 0} where
  abbrev pub at_key : Stamp → List (Stamp × X) → Option X
  at_key x xs = find stamp_cmp x xs

  abbrev pub Has : Stamp → List (Stamp × X) → Type 0
  Has x xs = (v : X) × (at_key x xs ≡ Some v)

  pub find-in : (x : Stamp) (v : X) (xs : List (Stamp × X)) → at_key x xs ≡ Some v → IsIn (x, v) xs
  find-in x v [] e = cc
  find-in x v (y ∷ ys) e = go (λ k. find-in x v ys k) (stamp_cmp x y.0) refl e
    where
      go : (at_key x ys ≡ Some v → IsIn (x, v) ys) → (o : Ordering) → stamp_cmp x y.0 ≡ o → cond (is_eq o) (Some y.1) (at_key x ys) ≡ Some v → IsIn (x, v) (y ∷ ys)
      go more Equal is k = inl (λ i. (exact_stamps x y.0 is i, sym (some-same y.1 v k) i))
      go more Less is k = inr (more k)
      go more Greater is k = inr (more k)

  pub in-has : (x : Stamp) (v : X) (xs : List (Stamp × X)) → IsIn (x, v) xs → Has x xs
  in-has x v [] i = absurd i
  in-has x v (y ∷ ys) (inl e) = (y.1, ap (λ (o : Ordering). cond (is_eq o) (Some y.1) (at_key x ys)) (ap (λ (z : Stamp × X). stamp_cmp x z.0) (sym e) ∙ itself x))
  in-has x v (y ∷ ys) (inr i) = go (stamp_cmp x y.0) (in-has x v ys i)
    where
      go : (o : Ordering) → Has x ys → (w : X) × (cond (is_eq o) (Some y.1) (at_key x ys) ≡ Some w)
      go Equal h = (y.1, refl)
      go Less h = h
      go Greater h = h

  pub put-in : (e : Stamp × X) (k : Stamp) (w : X) (xs : List (Stamp × X)) → IsIn e (put stamp_cmp k w xs) → (e ≡ (k, w)) ⊎ IsIn e xs
  put-in e k w [] i = elim i [ inl a ↦ inl a | inr n ↦ absurd n ]
  put-in e k w (y ∷ ys) i = go (λ r. put-in e k w ys r) (stamp_cmp k y.0) refl i
    where
      go : (IsIn e (put stamp_cmp k w ys) → (e ≡ (k, w)) ⊎ IsIn e ys) → (o : Ordering) → stamp_cmp k y.0 ≡ o → IsIn e (by_order o ((k, w) ∷ y ∷ ys) ((y.0, w) ∷ ys) (y ∷ put stamp_cmp k w ys)) → (e ≡ (k, w)) ⊎ IsIn e (y ∷ ys)
      go more Less is i = elim i [ inl a ↦ inl a | inr r ↦ inr r ]
      go more Equal is i = elim i [ inl a ↦ inl (a ∙ ap (λ (z : Stamp). (z, w)) (sym (exact_stamps k y.0 is))) | inr r ↦ inr (inr r) ]
      go more Greater is i = elim i [ inl a ↦ inr (inl a) | inr r ↦ elim (more r) [ inl a ↦ inl a | inr b ↦ inr (inr b) ] ]

  pub put-find : (y x : Stamp) (v : X) (xs : List (Stamp × X)) → (y ≡ x → ⊥) → at_key y (put stamp_cmp x v xs) ≡ at_key y xs
  put-find y x v xs other = find-put stamp_cmp stamps_total y x v xs ∙ go (stamp_cmp y x) refl
    where
      go : (o : Ordering) → stamp_cmp y x ≡ o → cond (is_eq o) (Some v) (at_key y xs) ≡ at_key y xs
      go Equal e = absurd (other (exact_stamps y x e))
      go Less e = refl
      go Greater e = refl

  pub put-same : (x : Stamp) (v : X) (xs : List (Stamp × X)) → at_key x (put stamp_cmp x v xs) ≡ Some v
  put-same x v xs = find-put stamp_cmp stamps_total x x v xs ∙ ap (λ (o : Ordering). cond (is_eq o) (Some v) (at_key x xs)) (itself x)

  pub put-has : (y x : Stamp) (v : X) (xs : List (Stamp × X)) → (y ≡ x) ⊎ Has y xs → Has y (put stamp_cmp x v xs)
  put-has y x v xs h = go (stamp_cmp y x) refl
    where
      go : (o : Ordering) → stamp_cmp y x ≡ o → Has y (put stamp_cmp x v xs)
      go Equal e = (v, find-put stamp_cmp stamps_total y x v xs ∙ ap (λ (o : Ordering). cond (is_eq o) (Some v) (at_key y xs)) e)
      go Less e = other (find-put stamp_cmp stamps_total y x v xs ∙ ap (λ (o : Ordering). cond (is_eq o) (Some v) (at_key y xs)) e) (λ s. (let wrong : Less ≡ Equal = sym e ∙ ap (stamp_cmp y) (sym s) ∙ itself y in cc))
        where
          other : at_key y (put stamp_cmp x v xs) ≡ at_key y xs → (y ≡ x → ⊥) → Has y (put stamp_cmp x v xs)
          other p n = elim h [ inl s ↦ absurd (n s) | inr k ↦ (k.0, p ∙ k.1) ]
      go Greater e = other (find-put stamp_cmp stamps_total y x v xs ∙ ap (λ (o : Ordering). cond (is_eq o) (Some v) (at_key y xs)) e) (λ s. (let wrong : Greater ≡ Equal = sym e ∙ ap (stamp_cmp y) (sym s) ∙ itself y in cc))
        where
          other : at_key y (put stamp_cmp x v xs) ≡ at_key y xs → (y ≡ x → ⊥) → Has y (put stamp_cmp x v xs)
          other p n = elim h [ inl s ↦ absurd (n s) | inr k ↦ (k.0, p ∙ k.1) ]

  pub all_put-in : (e : Stamp × X) (xs ys : List (Stamp × X)) → IsIn e (all_put xs ys) → IsIn e xs ⊎ IsIn e ys
  all_put-in e [] ys i = inr i
  all_put-in e (x ∷ xs) ys i = elim (put-in e x.0 x.1 (all_put xs ys) i) [ inl a ↦ inl (inl a) | inr b ↦ elim (all_put-in e xs ys b) [ inl c ↦ inl (inr c) | inr c ↦ inr c ] ]

  pub all_put-has : (x : Stamp) (xs ys : List (Stamp × X)) → ((v : X) × IsIn (x, v) xs) ⊎ Has x ys → Has x (all_put xs ys)
  all_put-has x [] ys h = elim h [ inl i ↦ absurd i.1 | inr k ↦ k ]
  all_put-has x (y ∷ xs) ys h = put-has x y.0 y.1 (all_put xs ys) (elim h [
    | inl i ↦ elim i.1 [ inl e ↦ inl (ap (λ (z : Stamp × X). z.0) e) | inr k ↦ inr (all_put-has x xs ys (inl (i.0, k))) ]
    | inr k ↦ inr (all_put-has x xs ys (inr k))
  ])

  pub all_put-sorted : (xs ys : List (Stamp × X)) → T (is_sorted stamp_cmp ys) → T (is_sorted stamp_cmp (all_put xs ys))
  all_put-sorted [] ys h = h
  all_put-sorted (x ∷ xs) ys h = is_sorted-put stamp_cmp stamps_total x.0 x.1 (all_put xs ys) (all_put-sorted xs ys h)

-- what transactions change stands at their stamps
module _ (server : ℕ) where
  pub left-has : (s : Standing) (xs : List (Stamp × Decided)) (x : Stamp) (es : List Edit) → at_key x (left_along server s xs) ≡ Some es → Has x xs
  left-has s [] x es e = (let wrong : None ≡ Some es = e in cc)
  left-has s (y ∷ ys) x es e = go (λ k. left-has (steps server (begun s) y.1.who y.1.calls) ys x es k) (stamp_cmp x y.0) e
    where
      go : (at_key x (left_along server (steps server (begun s) y.1.who y.1.calls) ys) ≡ Some es → Has x ys) → (o : Ordering)
          → cond (is_eq o) (Some (changes server (begun s) y.1.who y.1.calls)) (at_key x (left_along server (steps server (begun s) y.1.who y.1.calls) ys)) ≡ Some es → (v : Decided) × (cond (is_eq o) (Some y.1) (at_key x ys) ≡ Some v)
      go more Equal k = (y.1, refl)
      go more Less k = more k
      go more Greater k = more k

  pub has-left : (s : Standing) (xs : List (Stamp × Decided)) (x : Stamp) (v : Decided) → at_key x xs ≡ Some v → Has x (left_along server s xs)
  has-left s [] x v e = (let wrong : None ≡ Some v = e in cc)
  has-left s (y ∷ ys) x v e = go (λ k. has-left (steps server (begun s) y.1.who y.1.calls) ys x v k) (stamp_cmp x y.0) e
    where
      go : (at_key x ys ≡ Some v → Has x (left_along server (steps server (begun s) y.1.who y.1.calls) ys)) → (o : Ordering) → cond (is_eq o) (Some y.1) (at_key x ys) ≡ Some v
          → (es : List Edit) × (cond (is_eq o) (Some (changes server (begun s) y.1.who y.1.calls)) (at_key x (left_along server (steps server (begun s) y.1.who y.1.calls) ys)) ≡ Some es)
      go more Equal k = (changes server (begun s) y.1.who y.1.calls, refl)
      go more Less k = more k
      go more Greater k = more k

  left-below : (s : Standing) (x : Stamp) (xs : List (Stamp × Decided)) → below_all stamp_cmp x (left_along server s xs) ≡ below_all stamp_cmp x xs
  left-below s x [] = refl
  left-below s x (y ∷ ys) = ap (λ (b : Bool). is_lt (stamp_cmp x y.0) && b) (left-below (steps server (begun s) y.1.who y.1.calls) x ys)

  pub left-sorted : (s : Standing) (xs : List (Stamp × Decided)) → is_sorted stamp_cmp (left_along server s xs) ≡ is_sorted stamp_cmp xs
  left-sorted s [] = refl
  left-sorted s (y ∷ ys) =
      let below = left-below (steps server (begun s) y.1.who y.1.calls) y.0 ys in
      let rest = left-sorted (steps server (begun s) y.1.who y.1.calls) ys in
      λ i. below i && rest i

filter-in : {A : Type 0} (p : A → Bool) (x : A) (xs : List A) → IsIn x (filter p xs) → IsIn x xs × (p x ≡ true)
filter-in p x [] i = absurd i
filter-in p x (y ∷ ys) i = go (λ k. filter-in p x ys k) (p y) refl i
  where
    go : (IsIn x (filter p ys) → IsIn x ys × (p x ≡ true)) → (b : Bool) → p y ≡ b → IsIn x (cond b (y ∷ filter p ys) (filter p ys)) → IsIn x (y ∷ ys) × (p x ≡ true)
    go more true e i = elim i [ inl a ↦ (inl a, ap p a ∙ e) | inr k ↦ (let r = more k in (inr r.0, r.1)) ]
    go more false e i = (let r = more i in (inr r.0, r.1))

pub in-filter : {A : Type 0} (p : A → Bool) (x : A) (xs : List A) → IsIn x xs → p x ≡ true → IsIn x (filter p xs)
in-filter p x [] i e = absurd i
in-filter p x (y ∷ ys) i e = go (λ k. in-filter p x ys k e) (p y) refl i
  where
    go : (IsIn x ys → IsIn x (filter p ys)) → (b : Bool) → p y ≡ b → IsIn x (y ∷ ys) → IsIn x (cond b (y ∷ filter p ys) (filter p ys))
    go more true k i = elim i [ inl a ↦ inl a | inr r ↦ inr (more r) ]
    go more false k i = elim i [ inl a ↦ absurd (let wrong : true ≡ false = sym e ∙ ap p a ∙ k in cc) | inr r ↦ more r ]

pub map-in : {A B : Type 0} (f : A → B) (y : B) (xs : List A) → IsIn y (list_map f xs) → (x : A) × IsIn x xs × (f x ≡ y)
map-in f y [] i = absurd i
map-in f y (x ∷ xs) i = elim i [ inl e ↦ (x, inl refl, sym e) | inr k ↦ (let r = map-in f y xs k in (r.0, inr r.1, r.2)) ]

pub in-map : {A B : Type 0} (f : A → B) (x : A) (xs : List A) → IsIn x xs → IsIn (f x) (list_map f xs)
in-map f x [] i = absurd i
in-map f x (y ∷ ys) i = elim i [ inl e ↦ inl (ap f e) | inr k ↦ inr (in-map f x ys k) ]

decision-joins : (f : Fate) (x : Stamp) (js : List JoinNo) → decision_in f ≡ Some (x, js) → joins_of f ≡ js
decision-joins (Committed y ks ds) x js e = ap (λ (d : Decision). d.1) (some-same (y, ks) (x, js) e)
decision-joins (Forgotten y ks) x js e = ap (λ (d : Decision). d.1) (some-same (y, ks) (x, js) e)
decision-joins Undrawn x js e = (let wrong : None ≡ Some (x, js) = e in cc)
decision-joins (Running c ks) x js e = (let wrong : None ≡ Some (x, js) = e in cc)
decision-joins (Finishing c ks vs) x js e = (let wrong : None ≡ Some (x, js) = e in cc)
decision-joins (Ended c) x js e = (let wrong : None ≡ Some (x, js) = e in cc)

module _ (log : Log) (proper : IsProper log) where
  abbrev pub applied_at : ℕ → List (Stamp × Decided)
  applied_at n = (final log n).holder.applied

  pub linked-end : (n : ℕ) → IsLinkedUp log proper n (final log n)
  linked-end n = (along-end log proper n).linked

  pub here-end : (n : ℕ) → (final log n).holder.server ≡ n
  here-end n = (along-end log proper n).here

  -- ---- what a decided transaction is

  -- decided in this run, with joins of other servers
  pub record IsDecision (x : Stamp) (js : List JoinNo) : Type 0 where
    pub committed : HasCommitted log x.trans.server x js
    pub young : (opening_of log x.trans.server).epoch ≤ x.trans.epoch
    pub parts : AreParts log proper x.trans.server js
    pub key : Has x (applied_at x.trans.server)

  -- the fate says so of what was committed
  pub rested : (n : ℕ) (x : Stamp) (js : List JoinNo) → HasCommitted log n x js → IsDecidedBefore log proper n x js ⊎ IsDecidedHere log proper n (applied_at n) x.trans x js
  rested n x js h = go ((final log n).fates x.trans) h ((linked-end n).fates x.trans)
    where
      go : (f : Fate) → decision_in f ≡ Some (x, js) → IsRested log proper n (applied_at n) x.trans f → IsDecidedBefore log proper n x js ⊎ IsDecidedHere log proper n (applied_at n) x.trans x js
      go (Committed y ks ds) e r = subst (λ (d : Decision). IsDecidedBefore log proper n d.0 d.1 ⊎ IsDecidedHere log proper n (applied_at n) x.trans d.0 d.1) (some-same (y, ks) (x, js) e) r.1
      go (Forgotten y ks) e r = subst (λ (d : Decision). IsDecidedBefore log proper n d.0 d.1 ⊎ IsDecidedHere log proper n (applied_at n) x.trans d.0 d.1) (some-same (y, ks) (x, js) e) r.1
      go Undrawn e r = (let wrong : None ≡ Some (x, js) = e in cc)
      go (Running c ks) e r = (let wrong : None ≡ Some (x, js) = e in cc)
      go (Finishing c ks vs) e r = (let wrong : None ≡ Some (x, js) = e in cc)
      go (Ended c) e r = (let wrong : None ≡ Some (x, js) = e in cc)

  pub here-decision : (n : ℕ) (x : Stamp) (js : List JoinNo) → HasCommitted log n x js → (IsDecidedBefore log proper n x js → ⊥) → IsDecision x js
  here-decision n x js h other = elim (rested n x js h) [
    | inl b ↦ absurd (other b)
    | inr k ↦
        let own : n ≡ x.trans.server = sym (committed-parts log proper n x.trans (x, js) h).0 in
        subst (λ m. HasCommitted log m x js → IsDecidedHere log proper m (applied_at m) x.trans x js → IsDecision x js) (sym own) (λ c d. record { committed = c; young = d.1; parts = d.2; key = d.0 }) h k
  ]

  -- what an earlier run decided is of an earlier epoch
  pub older-note : (n : ℕ) (x : Stamp) (js : List JoinNo) → IsDecidedBefore log proper n x js → (opening_of log n).epoch ≤ x.trans.epoch → ⊥
  older-note n x js b y =
      let old : (b.0).stamp.trans.epoch < (opening_of log n).epoch = ((proper.sound n).decisions b.0 b.1).older in
      let there : x.trans.epoch < (opening_of log n).epoch = subst (λ (z : Stamp). z.trans.epoch < (opening_of log n).epoch) b.2 old in
      omega (arith, there, y)

  -- a join of this run stands in no decision of an earlier one
  pub young-join : (n m : ℕ) (x : Stamp) (js : List JoinNo) (j : JoinNo) → has_join j js ≡ true → j.server ≡ n → IsYoung log proper n j → IsDecidedBefore log proper m x js → ⊥
  young-join n m x js j has here young b =
      let old : j.epoch < (opening_of log j.server).epoch = ((proper.sound m).decisions b.0 b.1).known j (ap (has_join j) b.3 ∙ has) in
      let there : j.epoch < (opening_of log n).epoch = subst (λ w. j.epoch < (opening_of log w).epoch) here old in
      omega (arith, there, young)

  -- ---- the list of decisions

  pub tied-end : (n : ℕ) (x : Stamp) (v : Decided) → IsIn (x, v) (applied_at n) → IsTied log proper n (final log n).fates (final log n).phases x
  tied-end n x v i = all-in (λ (y : Stamp × Decided). IsTied log proper n (final log n).fates (final log n).phases y.0) (applied_at n) (x, v) (linked-end n).tied i

  -- what stands here of this server was decided here
  pub own-decided : (n : ℕ) (x : Stamp) (v : Decided) → IsIn (x, v) (applied_at n) → x.trans.server ≡ n → IsDecision x (joins_of ((final log n).fates x.trans))
  own-decided n x v i own = elim (tied-end n x v i) [
    | inl a ↦
        let d = a.2 in
        subst (λ js. IsDecision x js) (sym (decision-joins ((final log n).fates x.trans) x d.0 d.1)) (here-decision n x d.0 d.1 (λ b. older-note n x d.0 b a.1))
    | inr a ↦ absurd
        (let c = applied-committed log proper n a.0 x.trans x a.1 in
        let there : (a.0).server ≡ n = (along-end log proper n).seen a.0 (ap IsSeen a.1) in
        let w = c.1 in
        let mine : w.0 ≡ n = sym (committed-parts log proper w.0 x.trans (x, w.1) w.2).0 ∙ own in
        let d : IsDecision x w.1 = here-decision w.0 x w.1 w.2 (young-join n w.0 x w.1 a.0 w.3 there a.2) in
        (d.parts a.0 w.3).2 (there ∙ sym own))
  ]

  decisions-in : (n : ℕ) (x : Stamp) (js : List JoinNo) → IsIn (x, js) (decisions_of (final log n)) → IsDecision x js
  decisions-in n x js i =
      let m = map-in (λ (x : Stamp × Decided). (x.0, joins_of ((final log n).fates x.0.trans))) (x, js) (own_of (final log n)) i in
      let f = filter-in (λ (x : Stamp × Decided). x.0.trans.server == (final log n).holder.server) m.0 (applied_at n) m.1 in
      let own : (m.0).0.trans.server ≡ n = eqb-true (m.0).0.trans.server (final log n).holder.server f.1 ∙ here-end n in
      subst (λ (d : Decision). IsDecision d.0 d.1) m.2 (own-decided n (m.0).0 (m.0).1 f.0 own)

  by-in : (x : Stamp) (js : List JoinNo) (xs : List ServerLog) → IsIn (x, js) (decided_by log xs) → IsDecision x js
  by-in x js [] i = absurd i
  by-in x js (y ∷ ys) i = elim (all_put-in (x, js) (decisions_of (final log y.opening.server)) (decided_by log ys) i) [ inl a ↦ decisions-in y.opening.server x js a | inr b ↦ by-in x js ys b ]

  pub decided-in : (x : Stamp) (js : List JoinNo) → IsIn (x, js) (decided log) → IsDecision x js
  decided-in x js i = by-in x js log.servers i

  by-has : (x : Stamp) (s : ServerLog) (xs : List ServerLog) → IsIn s xs → ((js : List JoinNo) × IsIn (x, js) (decisions_of (final log s.opening.server))) → Has x (decided_by log xs)
  by-has x s [] i h = absurd i
  by-has x s (y ∷ ys) i h = all_put-has x (decisions_of (final log y.opening.server)) (decided_by log ys) (elim i [
    | inl e ↦ inl (subst (λ (z : ServerLog). (js : List JoinNo) × IsIn (x, js) (decisions_of (final log z.opening.server))) e h)
    | inr k ↦ inr (by-has x s ys k h)
  ])

  -- one server decides a transaction once
  pub same-joins : (x : Stamp) (js ks : List JoinNo) → HasCommitted log x.trans.server x js → HasCommitted log x.trans.server x ks → js ≡ ks
  same-joins x js ks a b = ap (λ (d : Decision). d.1) (some-same (x, js) (x, ks) (sym a ∙ b))

  pub in-decided : (x : Stamp) (js : List JoinNo) → IsDecision x js → IsIn (x, js) (decided log)
  in-decided x js d = elim (server-in log proper x.trans.server) [
    | inl s ↦
        let n : ℕ = x.trans.server in
        let i : IsIn (x, (d.key).0) (applied_at n) = find-in x (d.key).0 (applied_at n) (d.key).1 in
        let own : (n == (final log n).holder.server) ≡ true = eq-eqb n (final log n).holder.server (sym (here-end n)) in
        let o = in-filter (λ (x : Stamp × Decided). x.0.trans.server == (final log n).holder.server) (x, (d.key).0) (applied_at n) i own in
        let mine = in-map (λ (x : Stamp × Decided). (x.0, joins_of ((final log n).fates x.0.trans))) (x, (d.key).0) (own_of (final log n)) o in
        let here : (of log n).opening.server ≡ n = opening-server log n in
        let has : Has x (decided log) = by-has x (of log n) log.servers s (subst (λ m. (js : List JoinNo) × IsIn (x, js) (decisions_of (final log m))) (sym here) (joins_of ((final log n).fates x.trans), mine)) in
        let found : IsIn (x, has.0) (decided log) = find-in x has.0 (decided log) has.1 in
        subst (λ ks. IsIn (x, ks) (decided log)) (same-joins x has.0 js (decided-in x has.0 found).committed (d.committed)) found
    | inr none ↦ absurd
        (let empty : applied_at x.trans.server ≡ [] = ap (λ (s : ServerLog). (state_after next (opened s.opening) s.journal).holder.applied) none in
        let wrong : None ≡ Some (d.key).0 = sym (ap (at_key x) empty) ∙ (d.key).1 in cc)
  ]

  sorted-by : (xs : List ServerLog) → T (is_sorted stamp_cmp (decided_by log xs))
  sorted-by [] = tt
  sorted-by (x ∷ xs) = all_put-sorted (decisions_of (final log x.opening.server)) (decided_by log xs) (sorted-by xs)

  pub decided-sorted : T (is_sorted stamp_cmp (decided log))
  decided-sorted = sorted-by log.servers
