-- which node holds a page, as the list of the resource tells
use Rattle.std.proofs.Common.{◌≡◌, ℕ, ◌+◌, ◌<◌, ◌≤◌, Bool, true, false, ◌&&◌, not, cond, eqb, leb, ltb, List, [], ◌∷◌, ◌++◌, Option, None, Some, option_map, find, filter, refl, sym, ◌∙◌, ap, subst, arith, eq-eqb, ne_eqb}
use Rattle.std.proofs.lemmas.Bool.{eqb-true, leb-true, ltb-true, le-leb, lt-ltb}
use Rattle.std.specs.FinMap as map
use Rattle.alp_modes.specs.declared.Mode.{Mode}
use Rattle.alp_chain.specs.declared.node.NodeView.{NodeView}
use Rattle.alp_chain.specs.declared.node.Span.{Span}
use Rattle.alp_chain.specs.Linked.{times, without}
use Rattle.alp_chain.specs.Lists.{Lists, list_at, with_last, taken_off}
use Rattle.alp_chain.specs.Chains.{Nodes, Chains, has, StandOnce, added, removed_as, is_whole}
use Rattle.alp_chain.specs.Spans.{PageRun, run_of, run_in, runs, has_page, node_on, mode_by, mode_on, AreRuns, IsFree, is_own, of_others, KeepsOthers, AreOwnSpans}
use Rattle.alp_chain.proofs.KeyLemmas.{get_put, get_cut}
use Rattle.alp_chain.proofs.TimesLemmas.{here, later}
use Rattle.alp_chain.proofs.ShowLemmas.{list-with_list}
use Rattle.alp_chain.proofs.ReleaseLemmas.{filter-without}
use Rattle.alp_chain.proofs.SpanLemmas.{set_at, Tells}

-- ---- a node that has a run

pub record AreLinked (r t n : ℕ) (o : Option NodeView) (a : PageRun) : Type 0 where
  pub view : NodeView
  pub there : o ≡ Some view
  pub resource : r ≡ view.resource
  pub trans : t ≡ view.trans
  pub run : run_of view.mode view.span ≡ Some a
  pub mode : view.mode ≡ a.mode

mode_of_run : (m : Mode) (s : Option Span) (a : PageRun) → run_of m s ≡ Some a → m ≡ a.mode
mode_of_run m None a e = absurd (cc)
mode_of_run m (Some s) a e = let same : ◌≡◌ {A = PageRun} (record { first = s.first; end = s.first + s.count; mode = m }) a = cc in ap (λ (b : PageRun). b.mode) same

pub run-is : (r t n : ℕ) (o : Option NodeView) (a : PageRun) → run_in r t o ≡ Some a → AreLinked r t n o a
run-is r t n None a e = absurd (cc)
run-is r t n (Some v) a e = go (eqb r v.resource) refl (eqb t v.trans) refl e where
  go : (b : Bool) → eqb r v.resource ≡ b → (d : Bool) → eqb t v.trans ≡ d → cond (b && d) (run_of v.mode v.span) None ≡ Some a → AreLinked r t n (Some v) a
  go true f true g h = record { view = v; there = refl; resource = eqb-true r v.resource f; trans = eqb-true t v.trans g; run = h; mode = mode_of_run v.mode v.span a h }
  go true f false g h = absurd (cc)
  go false f d g h = absurd (cc)

-- the run of a view of that transaction on that resource
pub run-own : (r t : ℕ) (v : NodeView) → r ≡ v.resource → t ≡ v.trans → run_in r t (Some v) ≡ run_of v.mode v.span
run-own r t v e f = ap (λ (b : Bool). cond (b && eqb t v.trans) (run_of v.mode v.span) None) (eq-eqb r v.resource e) ∙ ap (λ (b : Bool). cond b (run_of v.mode v.span) None) (eq-eqb t v.trans f)

pub is_own-run : (r t : ℕ) (v : NodeView) → r ≡ v.resource → t ≡ v.trans → is_own r t (Some v) ≡ true
is_own-run r t v e f = ap (λ (b : Bool). b && eqb t v.trans) (eq-eqb r v.resource e) ∙ eq-eqb t v.trans f

-- ---- pages of runs

pub record HasPage (o : Option PageRun) (p : ℕ) : Type 0 where
  pub run : PageRun
  pub there : o ≡ Some run
  pub from : run.first ≤ p
  pub to : p < run.end

pub page-is : (o : Option PageRun) (p : ℕ) → has_page o p ≡ true → HasPage o p
page-is None p e = absurd (cc)
page-is (Some a) p e = go (leb a.first p) refl (ltb p a.end) refl e where
  go : (x : Bool) → leb a.first p ≡ x → (y : Bool) → ltb p a.end ≡ y → (x && y) ≡ true → HasPage (Some a) p
  go true f true g h = record { run = a; there = refl; from = leb-true a.first p f; to = ltb-true p a.end g }
  go true f false g h = absurd (cc)
  go false f y g h = absurd (cc)

pub page-has : (a : PageRun) (p : ℕ) → a.first ≤ p → p < a.end → has_page (Some a) p ≡ true
page-has a p h k = ap (λ (b : Bool). b && ltb p a.end) (le-leb a.first p h) ∙ lt-ltb p a.end k

-- ---- searches

pub record IsFound (test : ℕ → Bool) (xs : List ℕ) (n : ℕ) : Type 0 where
  pub member : 1 ≤ times n xs
  pub passes : test n ≡ true

found_step : (test : ℕ → Bool) (x n : ℕ) (xs : List ℕ) (b : Bool) → test x ≡ b → cond b (Some x) (find test xs) ≡ Some n → (find test xs ≡ Some n → IsFound test xs n) → IsFound test (x ∷ xs) n
found_step test x n xs true e f ih = let same : x ≡ n = cc in record { member = subst (λ (y : ℕ). 1 ≤ times n (y ∷ xs)) (sym same) (here n xs); passes = ap test (sym same) ∙ e }
found_step test x n xs false e f ih = let rest = ih f in record { member = later n x xs rest.member; passes = rest.passes }

pub found : (test : ℕ → Bool) (xs : List ℕ) (n : ℕ) → find test xs ≡ Some n → IsFound test xs n
found test [] n e = absurd (cc)
found test (x ∷ xs) n e = found_step test x n xs (test x) refl e (found test xs n)

missing_step : (test : ℕ → Bool) (x n : ℕ) (xs : List ℕ) (b u : Bool) → test x ≡ b → eqb n x ≡ u → cond b (Some x) (find test xs) ≡ None → 1 ≤ cond u 1 0 + times n xs → (find test xs ≡ None → 1 ≤ times n xs → test n ≡ false) → test n ≡ false
missing_step test x n xs true u e f g h ih = absurd (cc)
missing_step test x n xs false true e f g h ih = ap test (eqb-true n x f) ∙ e
missing_step test x n xs false false e f g h ih = ih g (omega arith)

pub missing : (test : ℕ → Bool) (xs : List ℕ) (n : ℕ) → find test xs ≡ None → 1 ≤ times n xs → test n ≡ false
missing test [] n e h = absurd (omega arith)
missing test (x ∷ xs) n e h = missing_step test x n xs (test x) (eqb n x) refl refl e h (missing test xs n)

-- ---- who holds a page

module _ (c : Chains) (r t : ℕ) (s : StandOnce c) where
  -- a node that has a run stands on the list of the resource
  pub run-listed : (n : ℕ) (a : PageRun) → runs c.nodes r t n ≡ Some a → 1 ≤ times n (list_at c.on r)
  run-listed n a e =
      let is : AreLinked r t n (map.get c.nodes n) a = run-is r t n (map.get c.nodes n) a e in
      let count : times n (list_at c.on r) ≡ 1 =
      s.on r n ∙ ap (λ (o : Option NodeView). cond (has (λ v. v.resource) r o) 1 0) is.there ∙ ap (λ (b : Bool). cond b 1 0) (eq-eqb r is.view.resource is.resource) in
      omega arith

  pub node-none : (p : ℕ) → node_on c r t p ≡ None → IsFree p (runs c.nodes r t)
  node-none p e n a f h k =
      let no : has_page (runs c.nodes r t n) p ≡ false = missing (λ x. has_page (runs c.nodes r t x) p) (list_at c.on r) n e (run-listed n a f) in
      let yes : has_page (runs c.nodes r t n) p ≡ true = ap (λ (o : Option PageRun). has_page o p) f ∙ page-has a p h k in
      cc

  pub node-some : (p n : ℕ) → node_on c r t p ≡ Some n → HasPage (runs c.nodes r t n) p
  node-some p n e = page-is (runs c.nodes r t n) p (found (λ x. has_page (runs c.nodes r t x) p) (list_at c.on r) n e).passes

  mode_by_run : (n : ℕ) (a : PageRun) → runs c.nodes r t n ≡ Some a → mode_by c (Some n) ≡ Some a.mode
  mode_by_run n a e =
      let is : AreLinked r t n (map.get c.nodes n) a = run-is r t n (map.get c.nodes n) a e in
      ap (option_map (λ (v : NodeView). v.mode)) is.there ∙ ap Some is.mode

  -- what the runs tell of a page is the mode that the transaction has there
  pub mode-told : (f : ℕ → Option Mode) → Tells (runs c.nodes r t) f → (p : ℕ) → mode_on c r t p ≡ f p
  mode-told f tells p = go (node_on c r t p) refl where
    go : (o : Option ℕ) → node_on c r t p ≡ o → mode_by c (node_on c r t p) ≡ f p
    go None e = ap (mode_by c) e ∙ sym (tells.none p (node-none p e))
    go (Some n) e =
        let h = node-some p n e in
        ap (mode_by c) e ∙ mode_by_run n h.run h.there ∙ sym (tells.some n h.run p h.there h.from h.to)

  module _ (l : List ℕ) (a : AreRuns l (runs c.nodes r t)) where
    pub node-held : (n : ℕ) (b : PageRun) (p : ℕ) → runs c.nodes r t n ≡ Some b → b.first ≤ p → p < b.end → node_on c r t p ≡ Some n
    node-held n b p e h k = go (node_on c r t p) refl where
      go : (o : Option ℕ) → node_on c r t p ≡ o → node_on c r t p ≡ Some n
      go None f = absurd (node-none p f n b e h k)
      go (Some x) f = let y = node-some p x f in f ∙ ap Some (a.apart x n y.run b p y.there e y.from y.to h k)

    pub mode-tells : Tells (runs c.nodes r t) (mode_on c r t)
    mode-tells = record {
      some = λ n b p e h k. ap (mode_by c) (node-held n b p e h k) ∙ mode_by_run n b e;
      none = λ p free. ap (mode_by c) (go p free (node_on c r t p) refl);
    }
      where
        go : (p : ℕ) → IsFree p (runs c.nodes r t) → (o : Option ℕ) → node_on c r t p ≡ o → node_on c r t p ≡ None
        go p free None e = e
        go p free (Some n) e = let h = node-some p n e in absurd (free n h.run h.there h.from h.to)

-- ---- runs after a change of nodes

chosen : (r t : ℕ) (b : Bool) (o p : Option NodeView) → run_in r t (cond b o p) ≡ cond b (run_in r t o) (run_in r t p)
chosen r t true o p = refl
chosen r t false o p = refl

pub runs-put : (nodes : Nodes) (r t n : ℕ) (v : NodeView) (x : ℕ) → runs (map.insert nodes n v) r t x ≡ set_at (runs nodes r t) n (run_in r t (Some v)) x
runs-put nodes r t n v x = ap (run_in r t) (get_put nodes n v x) ∙ chosen r t (eqb x n) (Some v) (map.get nodes x)

pub runs-cut : (nodes : Nodes) (r t n x : ℕ) → runs (map.remove nodes n) r t x ≡ set_at (runs nodes r t) n None x
runs-cut nodes r t n x = ap (run_in r t) (get_cut nodes n x) ∙ chosen r t (eqb x n) None (map.get nodes x)

-- ---- others stay

kept_step : (p q : ℕ → Bool) (x : ℕ) (xs : List ℕ) (b d : Bool) → p x ≡ b → q x ≡ d → b ≡ d → filter p xs ≡ filter q xs → cond b (x ∷ filter p xs) (filter p xs) ≡ cond d (x ∷ filter q xs) (filter q xs)
kept_step p q x xs true true e f g ih = ap (λ (ys : List ℕ). x ∷ ys) ih
kept_step p q x xs true false e f g ih = absurd (cc)
kept_step p q x xs false true e f g ih = absurd (cc)
kept_step p q x xs false false e f g ih = ih

-- tests that agree on all that stands there
pub filter-same : (p q : ℕ → Bool) (xs : List ℕ) → ((n : ℕ) → 1 ≤ times n xs → p n ≡ q n) → filter p xs ≡ filter q xs
filter-same p q [] h = refl
filter-same p q (x ∷ xs) h = kept_step p q x xs (p x) (q x) refl refl (h x (here x xs)) (filter-same p q xs (λ n k. h n (later n x xs k)))

last_step : (p : ℕ → Bool) (n : ℕ) (b : Bool) → p n ≡ b → b ≡ false → cond b (n ∷ []) [] ≡ []
last_step p n true e f = absurd (cc)
last_step p n false e f = refl

front_step : (x : ℕ) (us vs : List ℕ) (b : Bool) → us ≡ vs → cond b (x ∷ us) us ≡ cond b (x ∷ vs) vs
front_step x us vs true e = ap (λ (ys : List ℕ). x ∷ ys) e
front_step x us vs false e = e

-- a last one that does not pass
pub filter-last : (p : ℕ → Bool) (xs : List ℕ) (n : ℕ) → p n ≡ false → filter p (xs ++ n ∷ []) ≡ filter p xs
filter-last p [] n h = last_step p n (p n) refl h
filter-last p (x ∷ xs) n h = front_step x (filter p (xs ++ n ∷ [])) (filter p xs) (p x) (filter-last p xs n h)

own_of : (r t : ℕ) (b : Bool) (o p : Option NodeView) → is_own r t (cond b o p) ≡ cond b (is_own r t o) (is_own r t p)
own_of r t true o p = refl
own_of r t false o p = refl

-- spans stay spans where one is put or goes
pub spans-put : (r t n : ℕ) (nodes : Nodes) (w : NodeView) → is_whole (Some w) ≡ false → AreOwnSpans r t nodes → AreOwnSpans r t (map.insert nodes n w)
spans-put r t n nodes w spanned all x m = go (eqb x n) refl where
  go : (b : Bool) → eqb x n ≡ b → is_whole (map.get (map.insert nodes n w) x) ≡ false
  go true e = ap is_whole (get_put nodes n w x ∙ ap (λ (b : Bool). cond b (Some w) (map.get nodes x)) e) ∙ spanned
  go false e =
      let old : map.get (map.insert nodes n w) x ≡ map.get nodes x = get_put nodes n w x ∙ ap (λ (b : Bool). cond b (Some w) (map.get nodes x)) e in
      ap is_whole old ∙ all x (sym (ap (is_own r t) old) ∙ m)

pub spans-cut : (r t n : ℕ) (nodes : Nodes) → AreOwnSpans r t nodes → AreOwnSpans r t (map.remove nodes n)
spans-cut r t n nodes all x m = go (eqb x n) refl where
  go : (b : Bool) → eqb x n ≡ b → is_whole (map.get (map.remove nodes n) x) ≡ false
  go true e =
      let gone : map.get (map.remove nodes n) x ≡ None = get_cut nodes n x ∙ ap (λ (b : Bool). cond b None (map.get nodes x)) e in
      ap is_whole gone
  go false e =
      let old : map.get (map.remove nodes n) x ≡ map.get nodes x = get_cut nodes n x ∙ ap (λ (b : Bool). cond b None (map.get nodes x)) e in
      ap is_whole old ∙ all x (sym (ap (is_own r t) old) ∙ m)

-- a node of the transaction on the resource is seen otherwise
module _ (r t : ℕ) (c : Chains) (n : ℕ) (v w : NodeView) (there : map.get c.nodes n ≡ Some v) (was : is_own r t (Some v) ≡ true) (is : is_own r t (Some w) ≡ true) (spanned : is_whole (Some w) ≡ false) where
  own_same : (x : ℕ) → is_own r t (map.get (map.insert c.nodes n w) x) ≡ is_own r t (map.get c.nodes x)
  own_same x = ap (is_own r t) (get_put c.nodes n w x) ∙ go (eqb x n) refl where
    go : (b : Bool) → eqb x n ≡ b → is_own r t (cond b (Some w) (map.get c.nodes x)) ≡ is_own r t (map.get c.nodes x)
    go true e = is ∙ sym (ap (is_own r t) (ap (map.get c.nodes) (eqb-true x n e) ∙ there) ∙ was)
    go false e = refl

  pub others-view : KeepsOthers r t c (record c { nodes = map.insert c.nodes n w })
  others-view = record {
    nodes = λ x. ap (of_others r t) (get_put c.nodes n w x) ∙ go x (eqb x n) refl;
    on = λ k. filter-same (λ x. not (is_own r t (map.get (map.insert c.nodes n w) x))) (λ x. not (is_own r t (map.get c.nodes x))) (list_at c.on k) (λ x h. ap not (own_same x));
    of = λ k. filter-same (λ x. not (is_own r t (map.get (map.insert c.nodes n w) x))) (λ x. not (is_own r t (map.get c.nodes x))) (list_at c.of k) (λ x h. ap not (own_same x));
    spans = spans-put r t n c.nodes w spanned;
  }
    where
      go : (x : ℕ) (b : Bool) → eqb x n ≡ b → of_others r t (cond b (Some w) (map.get c.nodes x)) ≡ of_others r t (map.get c.nodes x)
      go x true e =
          ap (λ (b : Bool). cond b None (Some w)) is
          ∙ sym (ap (of_others r t) (ap (map.get c.nodes) (eqb-true x n e) ∙ there) ∙ ap (λ (b : Bool). cond b None (Some v)) was)
      go x false e = refl

-- a node of it is added
module _ (r t : ℕ) (c : Chains) (n : ℕ) (w : NodeView) (s : StandOnce c) (new : map.get c.nodes n ≡ None) (is : is_own r t (Some w) ≡ true) (spanned : is_whole (Some w) ≡ false) where
  new_here : not (is_own r t (map.get (map.insert c.nodes n w) n)) ≡ false
  new_here = ap (λ (o : Option NodeView). not (is_own r t o)) (get_put c.nodes n w n ∙ ap (λ (b : Bool). cond b (Some w) (map.get c.nodes n)) (eq-eqb n n refl)) ∙ ap not is

  old_same : (x : ℕ) → (x ≡ n → ⊥) → not (is_own r t (map.get (map.insert c.nodes n w) x)) ≡ not (is_own r t (map.get c.nodes x))
  old_same x other = ap (λ (o : Option NodeView). not (is_own r t o)) (get_put c.nodes n w x ∙ ap (λ (b : Bool). cond b (Some w) (map.get c.nodes x)) (ne_eqb x n other))

  -- on a list on which the node does not stand
  module _ (lists : Lists) (key : ℕ) (absent : (k : ℕ) → times n (list_at lists k) ≡ 0) where
    kept_list : (k : ℕ) → filter (λ x. not (is_own r t (map.get (map.insert c.nodes n w) x))) (list_at lists k) ≡ filter (λ x. not (is_own r t (map.get c.nodes x))) (list_at lists k)
    kept_list k = filter-same (λ x. not (is_own r t (map.get (map.insert c.nodes n w) x))) (λ x. not (is_own r t (map.get c.nodes x))) (list_at lists k)
        (λ x h. old_same x (λ e. let some : 1 ≤ times n (list_at lists k) = subst (λ (y : ℕ). 1 ≤ times y (list_at lists k)) e h in let none = absent k in omega arith))

    pub filter-added : (k : ℕ) → filter (λ x. not (is_own r t (map.get (map.insert c.nodes n w) x))) (list_at (with_last lists key n) k) ≡ filter (λ x. not (is_own r t (map.get c.nodes x))) (list_at lists k)
    filter-added k =
        ap (filter (λ x. not (is_own r t (map.get (map.insert c.nodes n w) x)))) (list-with_list lists key (list_at lists key ++ n ∷ []) k)
        ∙ go (eqb k key) refl
      where
        go : (b : Bool) → eqb k key ≡ b → filter (λ x. not (is_own r t (map.get (map.insert c.nodes n w) x))) (cond b (list_at lists key ++ n ∷ []) (list_at lists k)) ≡ filter (λ x. not (is_own r t (map.get c.nodes x))) (list_at lists k)
        go true e =
            filter-last (λ x. not (is_own r t (map.get (map.insert c.nodes n w) x))) (list_at lists key) n new_here
            ∙ kept_list key ∙ ap (λ (x : ℕ). filter (λ y. not (is_own r t (map.get c.nodes y))) (list_at lists x)) (sym (eqb-true k key e))
        go false e = kept_list k

  pub others-added : KeepsOthers r t c (added c n w)
  others-added = record {
    nodes = λ x. ap (of_others r t) (get_put c.nodes n w x) ∙ go x (eqb x n) refl;
    on = filter-added c.on w.resource (λ k. s.on k n ∙ ap (λ (o : Option NodeView). cond (has (λ v. v.resource) k o) 1 0) new);
    of = filter-added c.of w.trans (λ k. s.of k n ∙ ap (λ (o : Option NodeView). cond (has (λ v. v.trans) k o) 1 0) new);
    spans = spans-put r t n c.nodes w spanned;
  }
    where
      go : (x : ℕ) (b : Bool) → eqb x n ≡ b → of_others r t (cond b (Some w) (map.get c.nodes x)) ≡ of_others r t (map.get c.nodes x)
      go x true e = ap (λ (b : Bool). cond b None (Some w)) is ∙ sym (ap (of_others r t) (ap (map.get c.nodes) (eqb-true x n e) ∙ new))
      go x false e = refl

-- a node of it is taken off
module _ (r t : ℕ) (c : Chains) (n : ℕ) (v : NodeView) (s : StandOnce c) (there : map.get c.nodes n ≡ Some v) (was : is_own r t (Some v) ≡ true) where
  gone_here : not (is_own r t (map.get c.nodes n)) ≡ false
  gone_here = ap (λ (o : Option NodeView). not (is_own r t o)) there ∙ ap not was

  rest_same : (x : ℕ) → (x ≡ n → ⊥) → not (is_own r t (map.get (map.remove c.nodes n) x)) ≡ not (is_own r t (map.get c.nodes x))
  rest_same x other = ap (λ (o : Option NodeView). not (is_own r t o)) (get_cut c.nodes n x ∙ ap (λ (b : Bool). cond b None (map.get c.nodes x)) (ne_eqb x n other))

  module _ (lists : Lists) (key : ℕ) (absent : (k : ℕ) → times n (list_at (taken_off lists key n) k) ≡ 0) where
    pub filter-removed : (k : ℕ) → filter (λ x. not (is_own r t (map.get (map.remove c.nodes n) x))) (list_at (taken_off lists key n) k) ≡ filter (λ x. not (is_own r t (map.get c.nodes x))) (list_at lists k)
    filter-removed k =
        filter-same (λ x. not (is_own r t (map.get (map.remove c.nodes n) x))) (λ x. not (is_own r t (map.get c.nodes x))) (list_at (taken_off lists key n) k)
        (λ x h. rest_same x (λ e. let some : 1 ≤ times n (list_at (taken_off lists key n) k) = subst (λ (y : ℕ). 1 ≤ times y (list_at (taken_off lists key n) k)) e h in let none = absent k in omega arith))
        ∙ ap (filter (λ x. not (is_own r t (map.get c.nodes x)))) (list-with_list lists key (without n (list_at lists key)) k)
        ∙ go (eqb k key) refl
      where
        go : (b : Bool) → eqb k key ≡ b → filter (λ x. not (is_own r t (map.get c.nodes x))) (cond b (without n (list_at lists key)) (list_at lists k)) ≡ filter (λ x. not (is_own r t (map.get c.nodes x))) (list_at lists k)
        go true e =
            filter-without (λ x. not (is_own r t (map.get c.nodes x))) n (list_at lists key) gone_here
            ∙ ap (λ (x : ℕ). filter (λ y. not (is_own r t (map.get c.nodes y))) (list_at lists x)) (sym (eqb-true k key e))
        go false e = refl

  pub others-removed : StandOnce (removed_as c n (Some v)) → KeepsOthers r t c (removed_as c n (Some v))
  others-removed after = record {
    nodes = λ x. ap (of_others r t) (get_cut c.nodes n x) ∙ go x (eqb x n) refl;
    on = filter-removed c.on v.resource (λ k. after.on k n ∙ ap (λ (o : Option NodeView). cond (has (λ w. w.resource) k o) 1 0) none);
    of = filter-removed c.of v.trans (λ k. after.of k n ∙ ap (λ (o : Option NodeView). cond (has (λ w. w.trans) k o) 1 0) none);
    spans = spans-cut r t n c.nodes;
  }
    where
      none : map.get (map.remove c.nodes n) n ≡ None
      none = get_cut c.nodes n n ∙ ap (λ (b : Bool). cond b None (map.get c.nodes n)) (eq-eqb n n refl)

      go : (x : ℕ) (b : Bool) → eqb x n ≡ b → of_others r t (cond b None (map.get c.nodes x)) ≡ of_others r t (map.get c.nodes x)
      go x true e = sym (ap (of_others r t) (ap (map.get c.nodes) (eqb-true x n e) ∙ there) ∙ ap (λ (b : Bool). cond b None (Some v)) was)
      go x false e = refl

pub others-none : (r t : ℕ) (c : Chains) → KeepsOthers r t c c
others-none r t c = record { nodes = λ n. refl; on = λ k. refl; of = λ k. refl; spans = λ all. all }

pub others-then : (r t : ℕ) (c d e : Chains) → KeepsOthers r t c d → KeepsOthers r t d e → KeepsOthers r t c e
others-then r t c d e p q = record { nodes = λ n. q.nodes n ∙ p.nodes n; on = λ k. q.on k ∙ p.on k; of = λ k. q.of k ∙ p.of k; spans = λ all. q.spans (p.spans all) }
