-- the steps by which runs split, rise and meet
use Rattle.std.proofs.Common.{◌≡◌, ◌⊎◌, inl, inr, ℕ, ◌+◌, ◌-◌, ◌<◌, ◌≤◌, ◌^◌, Bool, true, false, cond, eqb, List, ◌∷◌, Option, None, Some, is_none, refl, sym, ◌∙◌, ap, subst, arith, eq-eqb, ne_eqb}
use Rattle.std.proofs.lemmas.Bool.{cases_eq}
use Rattle.std.specs.FinMap as map
use Rattle.alp_modes.specs.declared.Mode.{Mode}
use Rattle.alp_modes.specs.Modes.{join_of}
use Rattle.alp_chain.specs.declared.node.NodeView.{NodeView}
use Rattle.alp_chain.specs.declared.node.Span.{Span}
use Rattle.alp_chain.specs.Linked.{times}
use Rattle.alp_chain.specs.Chains.{Chains, StandOnce, added, removed_as}
use Rattle.alp_chain.specs.Spans.{PageRun, run_of, run_in, runs, node_on, mode_on, AreRuns, AreSpans, IsCut, IsFree, IsHeld, is_own, is_among, raised, Splits, Raises, Meets}
use Rattle.alp_chain.proofs.KeyLemmas.{get_put, get_cut}
use Rattle.alp_chain.proofs.TimesLemmas.{here, later}
use Rattle.alp_chain.proofs.ChainLemmas.{once-added, once-removed, once-view}
use Rattle.alp_chain.proofs.SpanLemmas.{set_at, see, same_run, lt_or_le, put-runs, put-cut, put-free, Tells, put-tells, among-in, moved-tells, cut_at, cut-runs, cut-free, cut-cut, cut-here, cut-moved, whole_of, joined_at, joined-runs, joined-free, joined-cut, joined-moved}
use Rattle.alp_chain.proofs.RunLists.{run-own, is_own-run, node-none, mode-told, mode-tells, node-held, runs-put, runs-cut, others-view, others-added, others-removed, others-none, others-then}

-- ---- what a held page says

module _ (c : Chains) (r t p n : ℕ) (v : NodeView) (s : Span) (h : IsHeld c r t p n v s) where
  pub held-run : runs c.nodes r t n ≡ Some (record { first = s.first; end = s.first + s.count; mode = v.mode })
  held-run = ap (run_in r t) h.there ∙ run-own r t v h.resource h.trans ∙ ap (run_of v.mode) h.span

  pub held-own : is_own r t (Some v) ≡ true
  held-own = is_own-run r t v h.resource h.trans

-- a run is shorter than all pages
pub narrow : (m : ℕ → Option PageRun) (n : ℕ) (a : PageRun) → AreSpans m → m n ≡ Some a → a.end < a.first + 2 ^ 32
narrow m n a s e = go (lt_or_le s.free a.first) (lt_or_le s.free a.end) where
  go : (s.free < a.first) ⊎ (a.first ≤ s.free) → (s.free < a.end) ⊎ (a.end ≤ s.free) → a.end < a.first + 2 ^ 32
  go (inl h) k = let top = s.runs.within n a e in omega arith
  go (inr h) (inl k) = absurd (s.unheld n a e h k)
  go (inr h) (inr k) = let low = s.below in omega arith

-- ---- splits

module _ (c : Chains) (r t q n k : ℕ) (v w x : NodeView) (s : Span) (once : StandOnce c) (spans : AreSpans (runs c.nodes r t)) (h : IsHeld c r t q n v s) (low : s.first < q)
    (wr : w.resource ≡ v.resource) (wt : w.trans ≡ v.trans) (wm : w.mode ≡ v.mode) (ws : w.span ≡ Some (record { first = s.first; count = q - s.first }))
    (xr : x.resource ≡ v.resource) (xt : x.trans ≡ v.trans) (xm : x.mode ≡ v.mode) (xs : x.span ≡ Some (record { first = q; count = (s.first + s.count) - q }))
    (new : map.get (map.insert c.nodes n w) k ≡ None) where
  left_run : run_in r t (Some w) ≡ Some (record { first = s.first; end = q; mode = v.mode })
  left_run =
      let end : s.first + (q - s.first) ≡ q = omega arith in
      run-own r t w (h.resource ∙ sym wr) (h.trans ∙ sym wt) ∙ ap (run_of w.mode) ws ∙ (λ i. Some (record { first = s.first; end = end i; mode = wm i }))

  right_run : run_in r t (Some x) ≡ Some (record { first = q; end = s.first + s.count; mode = v.mode })
  right_run =
      let high = h.to in
      let end : q + ((s.first + s.count) - q) ≡ s.first + s.count = omega arith in
      run-own r t x (h.resource ∙ sym xr) (h.trans ∙ sym xt) ∙ ap (run_of x.mode) xs ∙ (λ i. Some (record { first = q; end = end i; mode = xm i }))

  split_runs : (y : ℕ) → runs (map.insert (map.insert c.nodes n w) k x) r t y ≡ cut_at (runs c.nodes r t) n k q (record { first = s.first; end = s.first + s.count; mode = v.mode }) y
  split_runs y =
      runs-put (map.insert c.nodes n w) r t k x y
      ∙ (λ i. cond (eqb y k) (right_run i) ((runs-put c.nodes r t n w y ∙ ap (λ (o : Option PageRun). cond (eqb y n) o (runs c.nodes r t y)) left_run) i))

  same_runs : runs (map.insert (map.insert c.nodes n w) k x) r t ≡ cut_at (runs c.nodes r t) n k q (record { first = s.first; end = s.first + s.count; mode = v.mode })
  same_runs i y = split_runs y i

  not_n : k ≡ n → ⊥
  not_n e =
      let some : map.get (map.insert c.nodes n w) k ≡ Some w = get_put c.nodes n w k ∙ ap (λ (b : Bool). cond b (Some w) (map.get c.nodes k)) (eq-eqb k n e) in
      let wrong : None ≡ Some w = sym new ∙ some in cc

  vacant : runs c.nodes r t k ≡ None
  vacant = ap (run_in r t) (sym (get_put c.nodes n w k ∙ ap (λ (b : Bool). cond b (Some w) (map.get c.nodes k)) (ne_eqb k n not_n)) ∙ new)

  there : runs c.nodes r t n ≡ Some (record { first = s.first; end = s.first + s.count; mode = v.mode })
  there = held-run c r t q n v s h

  pub split-once : StandOnce (record c { nodes = map.insert c.nodes n w })
  split-once = once-view c n v w once h.there wr wt

  pub split-all-once : StandOnce (added (record c { nodes = map.insert c.nodes n w }) k x)
  split-all-once = once-added (record c { nodes = map.insert c.nodes n w }) k x split-once new

  pub splits : Splits q r t c (added (record c { nodes = map.insert c.nodes n w }) k x)
  splits = record {
    runs_after = λ l g. subst (AreRuns (q ∷ l)) (sym same_runs) (cut-runs l (runs c.nodes r t) n k q (record { first = s.first; end = s.first + s.count; mode = v.mode }) g there vacant low h.to);
    free = λ g f. subst (IsFree g) (sym same_runs) (cut-free spans.loose (runs c.nodes r t) n k q (record { first = s.first; end = s.first + s.count; mode = v.mode }) spans.runs there vacant low h.to g f);
    cut = λ g f. subst (IsCut g) (sym same_runs) (cut-cut spans.loose (runs c.nodes r t) n k q (record { first = s.first; end = s.first + s.count; mode = v.mode }) spans.runs there vacant low h.to g f);
    here = subst (IsCut q) (sym same_runs) (cut-here spans.loose (runs c.nodes r t) n k q (record { first = s.first; end = s.first + s.count; mode = v.mode }) spans.runs there vacant low h.to);
    modes = mode-told (added (record c { nodes = map.insert c.nodes n w }) k x) r t split-all-once (mode_on c r t)
        (subst (λ (m : ℕ → Option PageRun). Tells m (mode_on c r t)) (sym same_runs)
        (moved-tells (runs c.nodes r t) (cut_at (runs c.nodes r t) n k q (record { first = s.first; end = s.first + s.count; mode = v.mode })) (mode_on c r t)
        (cut-moved spans.loose (runs c.nodes r t) n k q (record { first = s.first; end = s.first + s.count; mode = v.mode }) spans.runs there vacant low h.to)
        (mode-tells c r t once spans.loose spans.runs)));
    others = others-then r t c (record c { nodes = map.insert c.nodes n w }) (added (record c { nodes = map.insert c.nodes n w }) k x)
        (others-view r t c n v w h.there (held-own c r t q n v s h) (is_own-run r t w (h.resource ∙ sym wr) (h.trans ∙ sym wt)) (ap is_none ws))
        (others-added r t (record c { nodes = map.insert c.nodes n w }) k x split-once new (is_own-run r t x (h.resource ∙ sym xr) (h.trans ∙ sym xt)) (ap is_none xs));
  }

-- nothing to cut
pub splits-none : (c : Chains) (r t q : ℕ) → IsCut q (runs c.nodes r t) → Splits q r t c c
splits-none c r t q here_cut = record {
  runs_after = λ l g. record { filled = g.filled; within = g.within; apart = g.apart; longest = λ n k a b e f u m. later a.end q l (g.longest n k a b e f u m) };
  free = λ g f. f;
  cut = λ g f. f;
  here = here_cut;
  modes = λ p. refl;
  others = others-none r t c;
}

-- where no run has a page none goes across its beginning
pub cut-of-free : (q : ℕ) (m : ℕ → Option PageRun) → IsFree q m → IsCut q m
cut-of-free q m f n a e h k = f n a e (omega arith) k

-- and none does where a run begins
pub cut-of-first : (l : List ℕ) (q : ℕ) (m : ℕ → Option PageRun) (n : ℕ) (a : PageRun) → AreRuns l m → m n ≡ Some a → a.first ≡ q → IsCut q m
cut-of-first l q m n a s e is k b f h i =
    let low = s.filled n a e in
    let same : k ≡ n = s.apart k n b a q f e (omega arith) i (omega arith) (omega arith) in
    let one : b ≡ a = same_run b a (sym f ∙ ap m same ∙ e) in
    let start : b.first ≡ a.first = ap (λ (d : PageRun). d.first) one in
    omega arith

-- ---- raises

abbrev pub raised_run : Span → Mode → PageRun
raised_run s j = record { first = s.first; end = s.first + s.count; mode = j }

module _ (c : Chains) (r t q n : ℕ) (v w : NodeView) (s : Span) (m : Mode) (once : StandOnce c) (spans : AreSpans (runs c.nodes r t)) (h : IsHeld c r t q n v s) (cut_here : IsCut q (runs c.nodes r t))
    (wr : w.resource ≡ v.resource) (wt : w.trans ≡ v.trans) (wm : w.mode ≡ join_of v.mode m) (ws : w.span ≡ v.span) where
  was : runs c.nodes r t n ≡ Some (raised_run s v.mode)
  was = held-run c r t q n v s h

  -- it begins there
  pub raise-first : s.first ≡ q
  raise-first = go (lt_or_le s.first q) where
    go : (s.first < q) ⊎ (q ≤ s.first) → s.first ≡ q
    go (inl k) = absurd (cut_here n (raised_run s v.mode) was k h.to)
    go (inr k) = let low = h.from in omega arith

  raise_run : run_in r t (Some w) ≡ Some (raised_run s (join_of v.mode m))
  raise_run = run-own r t w (h.resource ∙ sym wr) (h.trans ∙ sym wt) ∙ ap (run_of w.mode) (ws ∙ h.span) ∙ ap (λ (j : Mode). Some (raised_run s j)) wm

  raise_runs : runs (map.insert c.nodes n w) r t ≡ set_at (runs c.nodes r t) n (Some (raised_run s (join_of v.mode m)))
  raise_runs i y = (runs-put c.nodes r t n w y ∙ ap (λ (o : Option PageRun). cond (eqb y n) o (runs c.nodes r t y)) raise_run) i

  overlap : (y : ℕ) (b : PageRun) (p : ℕ) → (y ≡ n → ⊥) → runs c.nodes r t y ≡ Some b → b.first ≤ p → p < b.end → s.first ≤ p → p < s.first + s.count → ⊥
  overlap y b p other e k l f g = other (spans.runs.apart y n b (raised_run s v.mode) p e was k l f g)

  full : s.first < s.first + s.count
  full = spans.runs.filled n (raised_run s v.mode) was

  top : s.first + s.count ≤ 2 ^ 32
  top = spans.runs.within n (raised_run s v.mode) was

  more : (l : List ℕ) → AreRuns l (runs c.nodes r t) → AreRuns (s.first ∷ (s.first + s.count) ∷ l) (set_at (runs c.nodes r t) n (Some (raised_run s (join_of v.mode m))))
  more l g = put-runs l (s.first ∷ (s.first + s.count) ∷ l) (runs c.nodes r t) n (raised_run s (join_of v.mode m)) g full top overlap
      (λ x y a b not_x not_y e f u o. later a.end s.first ((s.first + s.count) ∷ l) (later a.end (s.first + s.count) l (g.longest x y a b e f u o)))
      (λ y b other e u o. subst (λ (z : ℕ). 1 ≤ times z (s.first ∷ (s.first + s.count) ∷ l)) (sym u) (here s.first ((s.first + s.count) ∷ l)))
      (λ y b other e u o. later (s.first + s.count) s.first ((s.first + s.count) ∷ l) (here (s.first + s.count) l))

  pub raise-once : StandOnce (record c { nodes = map.insert c.nodes n w })
  raise-once = once-view c n v w once h.there wr wt

  -- in its pages the mode was that of the run
  mode_there : (p : ℕ) → cond (is_among s.first (s.first + s.count) p) (Some (join_of v.mode m)) (mode_on c r t p) ≡ cond (is_among s.first (s.first + s.count) p) (Some (raised (mode_on c r t p) m)) (mode_on c r t p)
  mode_there p = go (is_among s.first (s.first + s.count) p) refl where
    go : (b : Bool) → is_among s.first (s.first + s.count) p ≡ b → cond b (Some (join_of v.mode m)) (mode_on c r t p) ≡ cond b (Some (raised (mode_on c r t p) m)) (mode_on c r t p)
    go true e =
        let y = among-in s.first (s.first + s.count) p e in
        let tells = mode-tells c r t once spans.loose spans.runs in
        sym (ap (λ (o : Option Mode). Some (raised o m)) (tells.some n (raised_run s v.mode) p was y.from y.to))
    go false e = refl

  raise_modes : (p : ℕ) → mode_on (record c { nodes = map.insert c.nodes n w }) r t p ≡ cond (is_among s.first (s.first + s.count) p) (Some (raised (mode_on c r t p) m)) (mode_on c r t p)
  raise_modes p =
      mode-told (record c { nodes = map.insert c.nodes n w }) r t raise-once (λ x. cond (is_among s.first (s.first + s.count) x) (Some (join_of v.mode m)) (mode_on c r t x))
      (subst (λ (k : ℕ → Option PageRun). Tells k (λ x. cond (is_among s.first (s.first + s.count) x) (Some (join_of v.mode m)) (mode_on c r t x))) (sym raise_runs)
      (put-tells (runs c.nodes r t) n (raised_run s (join_of v.mode m)) (mode_on c r t) (mode-tells c r t once spans.loose spans.runs) overlap
      (λ b x e k l. let same : raised_run s v.mode ≡ b = same_run (raised_run s v.mode) b (sym was ∙ e) in
      record { from = subst (λ (d : PageRun). d.first ≤ x) (sym same) k; to = subst (λ (d : PageRun). x < d.end) (sym same) l }))) p
      ∙ mode_there p

  -- no other run goes across its end
  end_cut : IsCut (s.first + s.count) (set_at (runs c.nodes r t) n (Some (raised_run s (join_of v.mode m))))
  end_cut y b e k l = go (see (runs c.nodes r t) n (Some (raised_run s (join_of v.mode m))) y b e) where
    go : ((y ≡ n) × (Some (raised_run s (join_of v.mode m)) ≡ Some b)) ⊎ ((y ≡ n → ⊥) × (runs c.nodes r t y ≡ Some b)) → ⊥
    go (inl u) = let same : raised_run s (join_of v.mode m) ≡ b = same_run (raised_run s (join_of v.mode m)) b u.1 in let end : s.first + s.count ≡ b.end = ap (λ (d : PageRun). d.end) same in omega arith
    go (inr u) =
        let low = full in
        u.0 (spans.runs.apart y n b (raised_run s v.mode) ((s.first + s.count) - 1) u.1 was (omega arith) (omega arith) (omega arith) (omega arith))

  raises_first : Raises s.first (s.first + s.count) r t m c (record c { nodes = map.insert c.nodes n w })
  raises_first = record {
    runs_after = λ l g. subst (AreRuns (s.first ∷ (s.first + s.count) ∷ l)) (sym raise_runs) (more l g);
    free = λ g k f. subst (IsFree g) (sym raise_runs) (put-free g (runs c.nodes r t) n (raised_run s (join_of v.mode m)) f k);
    cut = λ g k f. subst (IsCut g) (sym raise_runs) (put-cut g (runs c.nodes r t) n (raised_run s (join_of v.mode m)) f k);
    here = subst (IsCut (s.first + s.count)) (sym raise_runs) end_cut;
    modes = raise_modes;
    others = others-view r t c n v w h.there (held-own c r t q n v s h) (is_own-run r t w (h.resource ∙ sym wr) (h.trans ∙ sym wt)) (ap is_none (ws ∙ h.span));
  }

  pub raises-held : Raises q (s.first + s.count) r t m c (record c { nodes = map.insert c.nodes n w })
  raises-held = subst (λ (f : ℕ). Raises f (s.first + s.count) r t m c (record c { nodes = map.insert c.nodes n w })) raise-first raises_first

  -- and it ends no later than where no run goes across
  pub raise-within : (e : ℕ) → q < e → IsCut e (runs c.nodes r t) → s.first + s.count ≤ e
  raise-within e k f = go (lt_or_le e (s.first + s.count)) where
    go : (e < s.first + s.count) ⊎ (s.first + s.count ≤ e) → s.first + s.count ≤ e
    go (inl l) = absurd (f n (raised_run s v.mode) was (let low = raise-first in omega arith) l)
    go (inr l) = l

-- pages that were not held
module _ (c : Chains) (r t f e k : ℕ) (w : NodeView) (m : Mode) (once : StandOnce c) (spans : AreSpans (runs c.nodes r t)) (order : f < e) (top : e ≤ 2 ^ 32)
    (unheld : node_on c r t f ≡ None) (gap : (n : ℕ) (a : PageRun) → runs c.nodes r t n ≡ Some a → f < a.first → a.first < e → ⊥) (new : map.get c.nodes k ≡ None)
    (wr : w.resource ≡ r) (wt : w.trans ≡ t) (wm : w.mode ≡ m) (ws : w.span ≡ Some (record { first = f; count = e - f })) where
  gap_run : run_in r t (Some w) ≡ Some (record { first = f; end = e; mode = m })
  gap_run =
      let end : f + (e - f) ≡ e = omega arith in
      run-own r t w (sym wr) (sym wt) ∙ ap (run_of w.mode) ws ∙ (λ i. Some (record { first = f; end = end i; mode = wm i }))

  gap_runs : runs (map.insert c.nodes k w) r t ≡ set_at (runs c.nodes r t) k (Some (record { first = f; end = e; mode = m }))
  gap_runs i y = (runs-put c.nodes r t k w y ∙ ap (λ (o : Option PageRun). cond (eqb y k) o (runs c.nodes r t y)) gap_run) i

  gap_free : IsFree f (runs c.nodes r t)
  gap_free = node-none c r t once f unheld

  -- no run has a page of the gap
  clear : (y : ℕ) (b : PageRun) (p : ℕ) → runs c.nodes r t y ≡ Some b → b.first ≤ p → p < b.end → f ≤ p → p < e → ⊥
  clear y b p g h i j l = go (lt_or_le f b.first) where
    go : (f < b.first) ⊎ (b.first ≤ f) → ⊥
    go (inl n) = gap y b g n (omega arith)
    go (inr n) = gap_free y b g n (omega arith)

  none_there : runs c.nodes r t k ≡ None
  none_there = ap (run_in r t) new

  gap_more : (l : List ℕ) → AreRuns l (runs c.nodes r t) → AreRuns (f ∷ e ∷ l) (set_at (runs c.nodes r t) k (Some (record { first = f; end = e; mode = m })))
  gap_more l g = put-runs l (f ∷ e ∷ l) (runs c.nodes r t) k (record { first = f; end = e; mode = m }) g order top (λ y b p other h i j o q. clear y b p h i j o q)
      (λ x y a b not_x not_y h i u o. later a.end f (e ∷ l) (later a.end e l (g.longest x y a b h i u o)))
      (λ y b other h u o. subst (λ (z : ℕ). 1 ≤ times z (f ∷ e ∷ l)) (sym u) (here f (e ∷ l)))
      (λ y b other h u o. later e f (e ∷ l) (here e l))

  pub gap-once : StandOnce (added c k w)
  gap-once = once-added c k w once new

  mode_gap : (p : ℕ) → cond (is_among f e p) (Some m) (mode_on c r t p) ≡ cond (is_among f e p) (Some (raised (mode_on c r t p) m)) (mode_on c r t p)
  mode_gap p = go (is_among f e p) refl where
    go : (b : Bool) → is_among f e p ≡ b → cond b (Some m) (mode_on c r t p) ≡ cond b (Some (raised (mode_on c r t p) m)) (mode_on c r t p)
    go true g =
        let y = among-in f e p g in
        let tells = mode-tells c r t once spans.loose spans.runs in
        sym (ap (λ (o : Option Mode). Some (raised o m)) (tells.none p (λ z b h i j. clear z b p h i j y.from y.to)))
    go false g = refl

  gap_modes : (p : ℕ) → mode_on (added c k w) r t p ≡ cond (is_among f e p) (Some (raised (mode_on c r t p) m)) (mode_on c r t p)
  gap_modes p =
      mode-told (added c k w) r t gap-once (λ x. cond (is_among f e x) (Some m) (mode_on c r t x))
      (subst (λ (z : ℕ → Option PageRun). Tells z (λ x. cond (is_among f e x) (Some m) (mode_on c r t x))) (sym gap_runs)
      (put-tells (runs c.nodes r t) k (record { first = f; end = e; mode = m }) (mode_on c r t) (mode-tells c r t once spans.loose spans.runs) (λ y b x other h i j o q. clear y b x h i j o q)
      (λ b x h i j. let wrong : None ≡ Some b = sym none_there ∙ h in absurd (cc)))) p
      ∙ mode_gap p

  gap_cut : IsCut e (set_at (runs c.nodes r t) k (Some (record { first = f; end = e; mode = m })))
  gap_cut = put-cut e (runs c.nodes r t) k (record { first = f; end = e; mode = m }) (λ y b h i j. clear y b (e - 1) h (omega arith) (omega arith) (omega arith) (omega arith)) (λ h i. omega arith)

  pub raises-gap : Raises f e r t m c (added c k w)
  raises-gap = record {
    runs_after = λ l g. subst (AreRuns (f ∷ e ∷ l)) (sym gap_runs) (gap_more l g);
    free = λ g h i. subst (IsFree g) (sym gap_runs) (put-free g (runs c.nodes r t) k (record { first = f; end = e; mode = m }) i h);
    cut = λ g h i. subst (IsCut g) (sym gap_runs) (put-cut g (runs c.nodes r t) k (record { first = f; end = e; mode = m }) i h);
    here = subst (IsCut e) (sym gap_runs) gap_cut;
    modes = gap_modes;
    others = others-added r t c k w once new (is_own-run r t w (sym wr) (sym wt)) (ap is_none ws);
  }

-- ---- meets

module _ (c : Chains) (r t q n k : ℕ) (v u w : NodeView) (s z : Span) (once : StandOnce c) (spans : AreSpans (runs c.nodes r t)) (pos : 0 < q)
    (h : IsHeld c r t (q - 1) n v s) (g : IsHeld c r t q k u z) (apart : n ≡ k → ⊥) (modes : v.mode ≡ u.mode)
    (wr : w.resource ≡ v.resource) (wt : w.trans ≡ v.trans) (wm : w.mode ≡ v.mode) (ws : w.span ≡ Some (record { first = s.first; count = (z.first + z.count) - s.first })) where
  first_run : runs c.nodes r t n ≡ Some (raised_run s v.mode)
  first_run = held-run c r t (q - 1) n v s h

  second_run : runs c.nodes r t k ≡ Some (raised_run z u.mode)
  second_run = held-run c r t q k u z g

  ends : s.first + s.count ≡ q
  ends = go (lt_or_le q (s.first + s.count)) where
    go : (q < s.first + s.count) ⊎ (s.first + s.count ≤ q) → s.first + s.count ≡ q
    go (inl l) = absurd (apart (spans.runs.apart n k (raised_run s v.mode) (raised_run z u.mode) q first_run second_run (let f = h.from in omega arith) l g.from g.to))
    go (inr l) = let f = h.to in omega arith

  begins : z.first ≡ q
  begins = go (lt_or_le z.first q) where
    go : (z.first < q) ⊎ (q ≤ z.first) → z.first ≡ q
    go (inl l) = absurd (apart (spans.runs.apart n k (raised_run s v.mode) (raised_run z u.mode) (q - 1) first_run second_run h.from h.to (omega arith) (let f = g.to in omega arith)))
    go (inr l) = let f = g.from in omega arith

  whole_run : run_in r t (Some w) ≡ Some (whole_of (raised_run s v.mode) (raised_run z u.mode))
  whole_run =
      let full = spans.runs.filled k (raised_run z u.mode) second_run in
      let end : s.first + ((z.first + z.count) - s.first) ≡ z.first + z.count = (let a = h.from in let b = begins in omega arith) in
      run-own r t w (h.resource ∙ sym wr) (h.trans ∙ sym wt) ∙ ap (run_of w.mode) ws ∙ (λ i. Some (record { first = s.first; end = end i; mode = wm i }))

  meet_runs : runs (map.insert (map.remove c.nodes k) n w) r t ≡ joined_at (runs c.nodes r t) n k (raised_run s v.mode) (raised_run z u.mode)
  meet_runs i y =
      (runs-put (map.remove c.nodes k) r t n w y
      ∙ (λ j. cond (eqb y n) (whole_run j) (runs-cut c.nodes r t k y j))) i

  pub meet-removed : StandOnce (removed_as c k (Some u))
  meet-removed = once-removed c k u once g.there

  pub meet-there : map.get (map.remove c.nodes k) n ≡ Some v
  meet-there = get_cut c.nodes k n ∙ ap (λ (b : Bool). cond b None (map.get c.nodes n)) (ne_eqb n k apart) ∙ h.there

  pub meet-once : StandOnce (record (removed_as c k (Some u)) { nodes = map.insert (map.remove c.nodes k) n w })
  meet-once = once-view (removed_as c k (Some u)) n v w meet-removed meet-there wr wt

  pub meets : Meets q r t c (record (removed_as c k (Some u)) { nodes = map.insert (map.remove c.nodes k) n w })
  meets = record {
    runs_after = λ l a. subst (AreRuns l) (sym meet_runs) (joined-runs q l (runs c.nodes r t) n k (raised_run s v.mode) (raised_run z u.mode) a first_run second_run ends begins modes);
    free = λ p a. subst (IsFree p) (sym meet_runs) (joined-free q spans.loose (runs c.nodes r t) n k (raised_run s v.mode) (raised_run z u.mode) loosened first_run second_run ends begins modes p a);
    cut = λ p other a. subst (IsCut p) (sym meet_runs) (joined-cut q spans.loose (runs c.nodes r t) n k (raised_run s v.mode) (raised_run z u.mode) loosened first_run second_run ends begins modes p other a);
    modes = mode-told (record (removed_as c k (Some u)) { nodes = map.insert (map.remove c.nodes k) n w }) r t meet-once (mode_on c r t)
        (subst (λ (m : ℕ → Option PageRun). Tells m (mode_on c r t)) (sym meet_runs)
        (moved-tells (runs c.nodes r t) (joined_at (runs c.nodes r t) n k (raised_run s v.mode) (raised_run z u.mode)) (mode_on c r t)
        (joined-moved q spans.loose (runs c.nodes r t) n k (raised_run s v.mode) (raised_run z u.mode) loosened first_run second_run ends begins modes)
        (mode-tells c r t once spans.loose spans.runs)));
    others = others-then r t c (removed_as c k (Some u)) (record (removed_as c k (Some u)) { nodes = map.insert (map.remove c.nodes k) n w })
        (others-removed r t c k u once g.there (held-own c r t q k u z g) meet-removed)
        (others-view r t (removed_as c k (Some u)) n v w meet-there (held-own c r t (q - 1) n v s h) (is_own-run r t w (h.resource ∙ sym wr) (h.trans ∙ sym wt)) (ap is_none ws));
  }
    where
      loosened : AreRuns (q ∷ spans.loose) (runs c.nodes r t)
      loosened = record { filled = spans.runs.filled; within = spans.runs.within; apart = spans.runs.apart; longest = λ x y a b e f i j. later a.end q spans.loose (spans.runs.longest x y a b e f i j) }

-- nothing meets
pub meets-none : (c : Chains) (r t q : ℕ) → ((l : List ℕ) → AreRuns l (runs c.nodes r t) → (x y : ℕ) (a b : PageRun) → runs c.nodes r t x ≡ Some a → runs c.nodes r t y ≡ Some b → a.end ≡ q → b.first ≡ q → a.mode ≡ b.mode → ⊥) → Meets q r t c c
meets-none c r t q apart = record {
  runs_after = λ l g. record { filled = g.filled; within = g.within; apart = g.apart; longest = λ x y a b e f i j. firm l g x y a b e f i j (cases_eq a.end q) };
  free = λ p f. f;
  cut = λ p other f. f;
  modes = λ p. refl;
  others = others-none r t c;
}
  where
    firm : (l : List ℕ) → AreRuns (q ∷ l) (runs c.nodes r t) → (x y : ℕ) (a b : PageRun) → runs c.nodes r t x ≡ Some a → runs c.nodes r t y ≡ Some b → a.end ≡ b.first → a.mode ≡ b.mode → (a.end ≡ q) ⊎ (a.end ≡ q → ⊥) → 1 ≤ times a.end l
    firm l g x y a b e f i j (inl is) = absurd (apart (q ∷ l) g x y a b e f is (sym i ∙ is) j)
    firm l g x y a b e f i j (inr other) =
        let some : 1 ≤ times a.end (q ∷ l) = g.longest x y a b e f i j in
        let no : ◌≡◌ {A = ℕ} (cond (eqb a.end q) 1 0) 0 = ap (λ (u : Bool). cond u 1 0) (ne_eqb a.end q other) in
        omega arith

-- the runs that touch at a page are those of the nodes that hold it and the one before
module _ (c : Chains) (r t q n k : ℕ) (v u : NodeView) (s z : Span) (once : StandOnce c) (pos : 0 < q) (h : IsHeld c r t (q - 1) n v s) (g : IsHeld c r t q k u z) where
  module _ (l : List ℕ) (m : AreRuns l (runs c.nodes r t)) (x y : ℕ) (a b : PageRun) (e : runs c.nodes r t x ≡ Some a) (f : runs c.nodes r t y ≡ Some b) (ends : a.end ≡ q) (begins : b.first ≡ q) where
    touch_left : x ≡ n
    touch_left = let full = m.filled x a e in let two : Some x ≡ Some n = sym (node-held c r t once l m x a (q - 1) e (omega arith) (omega arith)) ∙ h.first in cc

    touch_right : y ≡ k
    touch_right = let full = m.filled y b f in let two : Some y ≡ Some k = sym (node-held c r t once l m y b q f (omega arith) (omega arith)) ∙ g.first in cc

    pub touch-one : n ≡ k → ⊥
    touch-one same =
        let full = m.filled x a e in
        let one : a ≡ b = same_run a b (sym e ∙ ap (runs c.nodes r t) (touch_left ∙ same ∙ sym touch_right) ∙ f) in
        let start : a.first ≡ b.first = ap (λ (d : PageRun). d.first) one in
        omega arith

    pub touch-modes : a.mode ≡ b.mode → v.mode ≡ u.mode
    touch-modes same =
        let left : raised_run s v.mode ≡ a = same_run (raised_run s v.mode) a (sym (held-run c r t (q - 1) n v s h) ∙ ap (runs c.nodes r t) (sym touch_left) ∙ e) in
        let right : raised_run z u.mode ≡ b = same_run (raised_run z u.mode) b (sym (held-run c r t q k u z g) ∙ ap (runs c.nodes r t) (sym touch_right) ∙ f) in
        ap (λ (d : PageRun). d.mode) left ∙ same ∙ sym (ap (λ (d : PageRun). d.mode) right)

-- two that meet are together shorter than all pages
pub narrow-two : (m : ℕ → Option PageRun) (n k q : ℕ) (a b : PageRun) → AreSpans m → m n ≡ Some a → m k ≡ Some b → a.first ≤ q → q ≤ a.end → b.first ≤ q → q < b.end → b.end < a.first + 2 ^ 32
narrow-two m n k q a b s e f i j o w = go (lt_or_le s.free a.first) (lt_or_le s.free q) (lt_or_le s.free b.end) where
  go : (s.free < a.first) ⊎ (a.first ≤ s.free) → (s.free < q) ⊎ (q ≤ s.free) → (s.free < b.end) ⊎ (b.end ≤ s.free) → b.end < a.first + 2 ^ 32
  go (inl h) y z = let top = s.runs.within k b f in omega arith
  go (inr h) (inl y) z = absurd (s.unheld n a e h (omega arith))
  go (inr h) (inr y) (inl z) = absurd (s.unheld k b f (omega arith) z)
  go (inr h) (inr y) (inr z) = let low = s.below in omega arith
