-- one node for each resource without spans, and for each longest run
use Rattle.std.proofs.Common.{◌≡◌, ◌⊎◌, inl, inr, ℕ, Bool, true, false, ◌&&◌, cond, eqb, [], Option, None, Some, is_none, nat_cmp, refl, sym, ◌∙◌, ap, subst, eq-eqb}
use Rattle.std.proofs.lemmas.Bool.{eqb-true, eqb-false, cases_eq}
use Rattle.std.specs.FinMap as map
use Rattle.std.specs.FinMap.{get-empty}
use Rattle.alp_modes.specs.declared.Mode.{Mode}
use Rattle.alp_chain.specs.declared.node.NodeView.{NodeView}
use Rattle.alp_chain.specs.declared.node.Span.{Span}
use Rattle.alp_chain.specs.Chains.{Nodes, Chains, is_on, is_of, is_whole, removed_as, removed}
use Rattle.alp_chain.specs.Spans.{PageRun, run_of, run_in, runs, AreRuns, is_own, AreOwnSpans, AreAllSpans, of_others, KeepsOthers, AreLocks}
use Rattle.alp_chain.proofs.KeyLemmas.{get_put, get_cut}
use Rattle.alp_chain.proofs.RaisedLemmas.{none-runs}
use Rattle.alp_chain.proofs.OtherRuns.{others-runs, fewer-runs}

same_view : (v w : NodeView) → Some v ≡ Some w → v ≡ w
same_view v w e = cc

pub locks-none : (nodes : Nodes) → nodes ≡ map.empty → AreLocks nodes
locks-none nodes e = record {
  longest = λ r t. none-runs r t nodes e;
  single = λ n k v w f. let wrong : None ≡ Some v = sym (ap (λ (m : Nodes). map.get m n) e ∙ get-empty nat_cmp n) ∙ f in absurd (cc);
  alike = λ n k v w f. let wrong : None ≡ Some v = sym (ap (λ (m : Nodes). map.get m n) e ∙ get-empty nat_cmp n) ∙ f in absurd (cc);
}

-- fewer nodes
locks-fewer : (a b : Nodes) → ((n : ℕ) (v : NodeView) → map.get b n ≡ Some v → map.get a n ≡ Some v) → AreLocks a → AreLocks b
locks-fewer a b h s = record {
  longest = λ r t. fewer-runs [] (runs a r t) (runs b r t) (λ n x e. run_kept r t n x (map.get b n) refl e) (s.longest r t);
  single = λ n k v w e f. s.single n k v w (h n v e) (h k w f);
  alike = λ n k v w e f. s.alike n k v w (h n v e) (h k w f);
}
  where
    run_kept : (r t n : ℕ) (x : PageRun) (o : Option NodeView) → map.get b n ≡ o → run_in r t (map.get b n) ≡ Some x → run_in r t (map.get a n) ≡ Some x
    run_kept r t n x None e f = let wrong : None ≡ Some x = ap (run_in r t) (sym e) ∙ f in absurd (cc)
    run_kept r t n x (Some v) e f = ap (run_in r t) (h n v e) ∙ ap (run_in r t) (sym e) ∙ f

cut_of : (b : Bool) (o : Option NodeView) (v : NodeView) → cond b None o ≡ Some v → o ≡ Some v
cut_of true o v e = absurd (cc)
cut_of false o v e = e

locks-removed : (a : Nodes) (n : ℕ) → AreLocks a → AreLocks (map.remove a n)
locks-removed a n s = locks-fewer a (map.remove a n) (λ k v e. cut_of (eqb k n) (map.get a k) v (sym (get_cut a n k) ∙ e)) s

pub locks-gone : (c : Chains) (n : ℕ) → AreLocks c.nodes → AreLocks (removed c n).nodes
locks-gone c n s = go (map.get c.nodes n) where
  go : (o : Option NodeView) → AreLocks (removed_as c n o).nodes
  go None = s
  go (Some v) = locks-removed c.nodes n s

pub locks-released : (t : ℕ) (a b : Nodes) → ((n : ℕ) → map.get b n ≡ cond (is_of t (map.get a n)) None (map.get a n)) → AreLocks a → AreLocks b
locks-released t a b h s = locks-fewer a b (λ k v e. cut_of (is_of t (map.get a k)) (map.get a k) v (sym (h k) ∙ e)) s

-- a node without a span has no run
whole_run : (r t : ℕ) (v : NodeView) → v.span ≡ None → run_in r t (Some v) ≡ None
whole_run r t v e = pick (eqb r v.resource && eqb t v.trans) where
  pick : (b : Bool) → cond b (run_of v.mode v.span) None ≡ None
  pick true = ap (run_of v.mode) e
  pick false = refl

-- what is put, or what was
abbrev Put : Nodes → ℕ → NodeView → ℕ → NodeView → Type 0
Put a n w k v = ((k ≡ n) × (w ≡ v)) ⊎ ((k ≡ n → ⊥) × (map.get a k ≡ Some v))

seen : (a : Nodes) (n : ℕ) (w : NodeView) (k : ℕ) (v : NodeView) → map.get (map.insert a n w) k ≡ Some v → Put a n w k v
seen a n w k v e = go (eqb k n) refl where
  go : (b : Bool) → eqb k n ≡ b → Put a n w k v
  go true f = inl (eqb-true k n f, same_view w v (sym (get_put a n w k ∙ ap (λ (b : Bool). cond b (Some w) (map.get a k)) f) ∙ e))
  go false f = inr (eqb-false k n f, sym (get_put a n w k ∙ ap (λ (b : Bool). cond b (Some w) (map.get a k)) f) ∙ e)

-- a node without a span is put where no other of its transaction is on the resource, and the others there have none
locks-whole : (a : Nodes) (n : ℕ) (w : NodeView) → w.span ≡ None → ((r t : ℕ) → run_in r t (map.get a n) ≡ None)
    → ((k : ℕ) (v : NodeView) → (k ≡ n → ⊥) → map.get a k ≡ Some v → v.resource ≡ w.resource → v.span ≡ None)
    → ((k : ℕ) (v : NodeView) → (k ≡ n → ⊥) → map.get a k ≡ Some v → v.resource ≡ w.resource → v.trans ≡ w.trans → ⊥) → AreLocks a → AreLocks (map.insert a n w)
locks-whole a n w none was whole first s = record {
  longest = λ r t. subst (AreRuns []) (sym (same r t)) (s.longest r t);
  single = λ m k v x e f. single m k v x (seen a n w m v e) (seen a n w k x f);
  alike = λ m k v x e f. alike m k v x (seen a n w m v e) (seen a n w k x f);
}
  where
    same_at : (r t k : ℕ) (b : Bool) → eqb k n ≡ b → run_in r t (cond b (Some w) (map.get a k)) ≡ run_in r t (map.get a k)
    same_at r t k true e = whole_run r t w none ∙ sym (ap (λ (m : ℕ). run_in r t (map.get a m)) (eqb-true k n e) ∙ was r t)
    same_at r t k false e = refl

    same : (r t : ℕ) → runs (map.insert a n w) r t ≡ runs a r t
    same r t i k = (ap (run_in r t) (get_put a n w k) ∙ same_at r t k (eqb k n) refl) i

    single : (m k : ℕ) (v x : NodeView) → Put a n w m v → Put a n w k x → v.resource ≡ x.resource → v.trans ≡ x.trans → v.span ≡ None → m ≡ k
    single m k v x (inl p) (inl q) e f g = p.0 ∙ sym q.0
    single m k v x (inl p) (inr q) e f g = absurd (first k x q.0 q.1 (sym (ap (λ (y : NodeView). y.resource) p.1 ∙ e)) (sym (ap (λ (y : NodeView). y.trans) p.1 ∙ f)))
    single m k v x (inr p) (inl q) e f g = absurd (first m v p.0 p.1 (e ∙ sym (ap (λ (y : NodeView). y.resource) q.1)) (f ∙ sym (ap (λ (y : NodeView). y.trans) q.1)))
    single m k v x (inr p) (inr q) e f g = s.single m k v x p.1 q.1 e f g

    alike : (m k : ℕ) (v x : NodeView) → Put a n w m v → Put a n w k x → v.resource ≡ x.resource → is_none v.span ≡ is_none x.span
    alike m k v x (inl p) (inl q) e = ap (λ (y : NodeView). is_none y.span) (sym p.1 ∙ q.1)
    alike m k v x (inl p) (inr q) e =
        sym (ap (λ (y : NodeView). is_none y.span) p.1) ∙ ap is_none none ∙ sym (ap is_none (whole k x q.0 q.1 (sym (ap (λ (y : NodeView). y.resource) p.1 ∙ e))))
    alike m k v x (inr p) (inl q) e =
        ap is_none (whole m v p.0 p.1 (e ∙ sym (ap (λ (y : NodeView). y.resource) q.1))) ∙ sym (ap is_none none) ∙ ap (λ (y : NodeView). is_none y.span) q.1
    alike m k v x (inr p) (inr q) e = s.alike m k v x p.1 q.1 e

pub no_span : (o : Option Span) → is_none o ≡ true → o ≡ None
no_span None e = refl
no_span (Some s) e = absurd (let wrong : false ≡ true = e in cc)

-- a node is added
pub locks-added : (a : Nodes) (n : ℕ) (w : NodeView) → w.span ≡ None → map.get a n ≡ None → ((k : ℕ) → is_on w.resource (map.get a k) ≡ true → is_whole (map.get a k) ≡ true)
    → ((k : ℕ) → is_on w.resource (map.get a k) ≡ true → is_of w.trans (map.get a k) ≡ false) → AreLocks a → AreLocks (map.insert a n w)
locks-added a n w none new whole first s =
    locks-whole a n w none (λ r t. ap (run_in r t) new) (λ k v other e i. no_span v.span (sym (ap is_whole e) ∙ whole k (on_it k v e i))) (λ k v other e i j. apart k v e j (first k (on_it k v e i))) s
  where
    on_it : (k : ℕ) (v : NodeView) → map.get a k ≡ Some v → v.resource ≡ w.resource → is_on w.resource (map.get a k) ≡ true
    on_it k v e i = ap (is_on w.resource) e ∙ eq-eqb w.resource v.resource (sym i)

    apart : (k : ℕ) (v : NodeView) → map.get a k ≡ Some v → v.trans ≡ w.trans → is_of w.trans (map.get a k) ≡ false → ⊥
    apart k v e j f = let wrong : true ≡ false = sym (ap (is_of w.trans) e ∙ eq-eqb w.trans v.trans (sym j)) ∙ f in absurd (cc)

-- the mode of a node without a span changes
pub locks-mode : (a : Nodes) (n : ℕ) (v : NodeView) (m : Mode) → map.get a n ≡ Some v → v.span ≡ None → AreLocks a → AreLocks (map.insert a n (record v { mode = m }))
locks-mode a n v m there none s =
    locks-whole a n (record v { mode = m }) none (λ r t. ap (run_in r t) there ∙ whole_run r t v none) (λ k x other e i. no_span x.span (s.alike k n x v e there i ∙ ap is_none none))
    (λ k x other e i j. other (sym (s.single n k v x there e (sym i) (sym j) none))) s

-- the runs of one transaction on one resource change, where all nodes of the resource are spans
module _ (r t : ℕ) (c d : Chains) (k : KeepsOthers r t c d) (new : AreRuns [] (runs d.nodes r t)) (spans : AreAllSpans r c.nodes) (s : AreLocks c.nodes) where
  own_spans : AreOwnSpans r t c.nodes
  own_spans n m = go (map.get c.nodes n) refl where
    go : (o : Option NodeView) → map.get c.nodes n ≡ o → is_whole (map.get c.nodes n) ≡ false
    go None e = ap is_whole e
    go (Some v) e = ap is_whole e ∙ spans n v e (sym (on_r (eqb r v.resource) refl)) where
      on_r : (b : Bool) → eqb r v.resource ≡ b → r ≡ v.resource
      on_r true f = eqb-true r v.resource f
      on_r false f =
          let wrong : false ≡ true = sym (ap (λ (b : Bool). b && eqb t v.trans) f) ∙ ap (is_own r t) (sym e) ∙ m in
          absurd (cc)

  -- a node of another is the one that was there
  old_or_own : (n : ℕ) (v : NodeView) → map.get d.nodes n ≡ Some v → (map.get c.nodes n ≡ Some v) ⊎ (is_own r t (Some v) ≡ true)
  old_or_own n v e = go (is_own r t (Some v)) refl where
    go : (b : Bool) → is_own r t (Some v) ≡ b → (map.get c.nodes n ≡ Some v) ⊎ (is_own r t (Some v) ≡ true)
    go true f = inr f
    go false f = inl (from (map.get c.nodes n) (sym (k.nodes n) ∙ ap (of_others r t) e ∙ ap (λ (b : Bool). cond b None (Some v)) f)) where
      from : (o : Option NodeView) → of_others r t o ≡ Some v → o ≡ Some v
      from o g = cut_of (is_own r t o) o v g

  own_at : (v : NodeView) → is_own r t (Some v) ≡ true → r ≡ v.resource
  own_at v m = go (eqb r v.resource) refl where
    go : (b : Bool) → eqb r v.resource ≡ b → r ≡ v.resource
    go true f = eqb-true r v.resource f
    go false f = let wrong : false ≡ true = sym (ap (λ (b : Bool). b && eqb t v.trans) f) ∙ m in absurd (cc)

  spanned : (n : ℕ) (v : NodeView) → map.get d.nodes n ≡ Some v → is_own r t (Some v) ≡ true → is_none v.span ≡ false
  spanned n v e m = sym (ap is_whole e) ∙ k.spans own_spans n (ap (is_own r t) e ∙ m)

  pub all-spans : AreAllSpans r d.nodes
  all-spans n v e i = go (old_or_own n v e) where
    go : (map.get c.nodes n ≡ Some v) ⊎ (is_own r t (Some v) ≡ true) → is_none v.span ≡ false
    go (inl p) = spans n v p i
    go (inr q) = spanned n v e q

  single_of : (n m : ℕ) (v w : NodeView) → map.get d.nodes n ≡ Some v → map.get d.nodes m ≡ Some w → (map.get c.nodes n ≡ Some v) ⊎ (is_own r t (Some v) ≡ true) → (map.get c.nodes m ≡ Some w) ⊎ (is_own r t (Some w) ≡ true)
      → v.resource ≡ w.resource → v.trans ≡ w.trans → v.span ≡ None → n ≡ m
  single_of n m v w e f (inl p) (inl q) g h i = s.single n m v w p q g h i
  single_of n m v w e f (inl p) (inr q) g h i =
      let wrong : true ≡ false = sym (ap is_none i) ∙ spans n v p (g ∙ sym (own_at w q)) in
      absurd (cc)
  single_of n m v w e f (inr p) q g h i = let wrong : true ≡ false = sym (ap is_none i) ∙ spanned n v e p in absurd (cc)

  alike_of : (n m : ℕ) (v w : NodeView) → map.get d.nodes n ≡ Some v → map.get d.nodes m ≡ Some w → (map.get c.nodes n ≡ Some v) ⊎ (is_own r t (Some v) ≡ true) → (map.get c.nodes m ≡ Some w) ⊎ (is_own r t (Some w) ≡ true)
      → v.resource ≡ w.resource → is_none v.span ≡ is_none w.span
  alike_of n m v w e f (inl p) (inl q) g = s.alike n m v w p q g
  alike_of n m v w e f (inl p) (inr q) g = spans n v p (g ∙ sym (own_at w q)) ∙ sym (spanned m w f q)
  alike_of n m v w e f (inr p) (inl q) g = spanned n v e p ∙ sym (spans m w q (sym g ∙ sym (own_at v p)))
  alike_of n m v w e f (inr p) (inr q) g = spanned n v e p ∙ sym (spanned m w f q)

  pub locks-spans : AreLocks d.nodes
  locks-spans = record {
    longest = λ x y. go x y (cases_eq x r) (cases_eq y t);
    single = λ n m v w e f. single_of n m v w e f (old_or_own n v e) (old_or_own m w f);
    alike = λ n m v w e f. alike_of n m v w e f (old_or_own n v e) (old_or_own m w f);
  }
    where
      other : (x y : ℕ) → ((x ≡ r) → (y ≡ t) → ⊥) → AreRuns [] (runs d.nodes x y)
      other x y h = subst (AreRuns []) (sym (λ i n. others-runs x y r t c d k h n i)) (s.longest x y)

      go : (x y : ℕ) → (x ≡ r) ⊎ (x ≡ r → ⊥) → (y ≡ t) ⊎ (y ≡ t → ⊥) → AreRuns [] (runs d.nodes x y)
      go x y (inl e) (inl f) = subst (λ (z : ℕ). AreRuns [] (runs d.nodes z y)) (sym e) (subst (λ (z : ℕ). AreRuns [] (runs d.nodes r z)) (sym f) new)
      go x y (inl e) (inr f) = other x y (λ g h. f h)
      go x y (inr e) f = other x y (λ g h. e g)
