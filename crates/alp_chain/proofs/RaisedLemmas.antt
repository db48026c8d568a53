-- a span, page by page
use Rattle.std.proofs.Common.{◌≡◌, ◌⊎◌, inl, inr, ℕ, ◌+◌, ◌<◌, ◌≤◌, ◌^◌, Bool, true, false, cond, eqb, List, [], ◌∷◌, Option, None, Some, refl, sym, ◌∙◌, ap, subst, arith, nat_cmp}
use Rattle.alp_modes.specs.declared.Mode.{Mode}
use Rattle.alp_chain.specs.declared.node.Span.{Span}
use Rattle.alp_chain.specs.Linked.{times}
use Rattle.std.specs.FinMap as map
use Rattle.std.specs.FinMap.{get-empty}
use Rattle.alp_chain.specs.Chains.{Nodes, Chains}
use Rattle.alp_chain.specs.Spans.{PageRun, run_in, runs, mode_by, mode_on, node_on, AreRuns, AreSpans, IsCut, IsFree, HasFree, is_among, raised, KeepsOthers, Splits, Raises, Meets}
use Rattle.alp_chain.proofs.SpanLemmas.{among-yes, among-in, lt_or_le}
use Rattle.alp_chain.proofs.RunLists.{others-then}

-- runs that may touch at more pages
pub looser : (l k : List ℕ) (m : ℕ → Option PageRun) → ((q : ℕ) → 1 ≤ times q l → 1 ≤ times q k) → AreRuns l m → AreRuns k m
looser l k m h s = record { filled = s.filled; within = s.within; apart = s.apart; longest = λ x y a b e f i j. h a.end (s.longest x y a b e f i j) }

pub among-no : (f e p : ℕ) → is_among f e p ≡ false → f ≤ p → p < e → ⊥
among-no f e p n h k = let yes : is_among f e p ≡ true = among-yes f e p h k in cc

not_true : (b : Bool) → (b ≡ true → ⊥) → b ≡ false
not_true true h = absurd (h refl)
not_true false h = refl

pub among-out : (f e p : ℕ) → (f ≤ p → p < e → ⊥) → is_among f e p ≡ false
among-out f e p h = not_true (is_among f e p) (λ y. let i = among-in f e p y in h i.from i.to)

-- the pages from the first up to that one are raised, of those up to the end
pub record IsRaised (first end page r t : ℕ) (m : Mode) (c d : Chains) : Type 0 where
  pub low : first ≤ page
  pub high : page ≤ end
  pub runs_after : (l : List ℕ) → AreRuns l (runs c.nodes r t) → AreRuns (page ∷ end ∷ l) (runs d.nodes r t)
  pub free : (g : ℕ) → (first ≤ g → g < end → ⊥) → IsFree g (runs c.nodes r t) → IsFree g (runs d.nodes r t)
  pub cut_page : IsCut page (runs d.nodes r t)
  pub cut_end : IsCut end (runs d.nodes r t)
  pub modes : (p : ℕ) → mode_on d r t p ≡ cond (is_among first page p) (Some (raised (mode_on c r t p) m)) (mode_on c r t p)
  pub others : KeepsOthers r t c d

swap_two : (a b q : ℕ) (l : List ℕ) → 1 ≤ times q (a ∷ b ∷ l) → 1 ≤ times q (b ∷ a ∷ l)
swap_two a b q l h = omega arith

pub raised-start : (first end r t : ℕ) (m : Mode) (c d e : Chains) → first ≤ end → Splits first r t c d → Splits end r t d e → IsRaised first end first r t m c e
raised-start first end r t m c d e h s u = record {
  low = omega arith;
  high = h;
  runs_after = λ l a. looser (end ∷ first ∷ l) (first ∷ end ∷ l) (runs e.nodes r t) (λ q k. swap_two end first q l k) (u.runs_after (first ∷ l) (s.runs_after l a));
  free = λ g k f. u.free g (s.free g f);
  cut_page = u.cut first s.here;
  cut_end = u.here;
  modes = λ p. u.modes p ∙ s.modes p ∙ sym (ap (λ (b : Bool). cond b (Some (raised (mode_on c r t p) m)) (mode_on c r t p)) (among-out first first p (λ i j. omega arith)));
  others = others-then r t c d e s.others u.others;
}

drop_page : (p n e q : ℕ) (l : List ℕ) → 1 ≤ times q (p ∷ n ∷ p ∷ e ∷ l) → 1 ≤ times q (p ∷ n ∷ e ∷ l)
drop_page p n e q l h = go (eqb q p) refl where
  go : (b : Bool) → eqb q p ≡ b → 1 ≤ times q (p ∷ n ∷ e ∷ l)
  go true f = let one : ◌≡◌ {A = ℕ} (cond (eqb q p) 1 0) 1 = ap (λ (b : Bool). cond b 1 0) f in omega arith
  go false f = let none : ◌≡◌ {A = ℕ} (cond (eqb q p) 1 0) 0 = ap (λ (b : Bool). cond b 1 0) f in omega arith

-- a page of both parts, of one of them, or of none
raise_mode : (first page next p : ℕ) (m : Mode) (o : Option Mode) → first ≤ page → page ≤ next → (a b : Bool) → is_among first page p ≡ a → is_among page next p ≡ b
    → cond b (Some (raised (cond a (Some (raised o m)) o) m)) (cond a (Some (raised o m)) o) ≡ cond (is_among first next p) (Some (raised o m)) o
raise_mode first page next p m o h k true true e f = let x = among-in first page p e in let y = among-in page next p f in let a = x.to in let b = y.from in absurd (omega arith)
raise_mode first page next p m o h k true false e f =
    let x = among-in first page p e in
    sym (ap (λ (b : Bool). cond b (Some (raised o m)) o) (among-yes first next p x.from (let a = x.to in omega arith)))
raise_mode first page next p m o h k false true e f =
    let y = among-in page next p f in
    sym (ap (λ (b : Bool). cond b (Some (raised o m)) o) (among-yes first next p (let a = y.from in omega arith) y.to))
raise_mode first page next p m o h k false false e f =
    sym (ap (λ (b : Bool). cond b (Some (raised o m)) o) (among-out first next p (λ i j. go i j (lt_or_le p page))))
  where
    go : first ≤ p → p < next → (p < page) ⊎ (page ≤ p) → ⊥
    go i j (inl l) = among-no first page p e i l
    go i j (inr l) = among-no page next p f l j

pub raised-step : (first end page next r t : ℕ) (m : Mode) (c d e f : Chains) → page < next → next ≤ end → page < end → IsRaised first end page r t m c d → Raises page next r t m d e → Meets page r t e f → IsRaised first end next r t m c f
raised-step first end page next r t m c d e f up within before s u v = record {
  low = let a = s.low in omega arith;
  high = within;
  runs_after = λ l a. v.runs_after (next ∷ end ∷ l) (looser (page ∷ next ∷ page ∷ end ∷ l) (page ∷ next ∷ end ∷ l) (runs e.nodes r t) (λ q k. drop_page page next end q l k) (u.runs_after (page ∷ end ∷ l) (s.runs_after l a)));
  free = λ g k h. v.free g (u.free g (λ i j. k (let a = s.low in omega arith) (omega arith)) (s.free g k h));
  cut_page = v.cut next (λ i. omega arith) u.here;
  cut_end = v.cut end (λ i. omega arith) (u.cut end (λ i j. omega arith) s.cut_end);
  modes = λ p. v.modes p ∙ u.modes p
      ∙ ap (λ (o : Option Mode). cond (is_among page next p) (Some (raised o m)) o) (s.modes p)
      ∙ raise_mode first page next p m (mode_on c r t p) s.low (omega arith) (is_among first page p) (is_among page next p) refl refl;
  others = others-then r t c d f s.others (others-then r t d e f u.others v.others);
}

pub record IsDone (first end r t : ℕ) (m : Mode) (c d : Chains) : Type 0 where
  pub runs_after : (l : List ℕ) → AreRuns l (runs c.nodes r t) → AreRuns l (runs d.nodes r t)
  pub free : (g : ℕ) → (first ≤ g → g < end → ⊥) → IsFree g (runs c.nodes r t) → IsFree g (runs d.nodes r t)
  pub modes : (p : ℕ) → mode_on d r t p ≡ cond (is_among first end p) (Some (raised (mode_on c r t p) m)) (mode_on c r t p)
  pub others : KeepsOthers r t c d

one_end : (e q : ℕ) (l : List ℕ) → 1 ≤ times q (e ∷ e ∷ l) → 1 ≤ times q (e ∷ l)
one_end e q l h = omega arith

pub raised-done : (first end page r t : ℕ) (m : Mode) (c d e : Chains) → page ≡ end → IsRaised first end page r t m c d → Meets end r t d e → IsDone first end r t m c e
raised-done first end page r t m c d e is s v = record {
  runs_after = λ l a. v.runs_after l (looser (end ∷ end ∷ l) (end ∷ l) (runs d.nodes r t) (λ q k. one_end end q l k) (subst (λ (p : ℕ). AreRuns (p ∷ end ∷ l) (runs d.nodes r t)) is (s.runs_after l a)));
  free = λ g k f. v.free g (s.free g k f);
  modes = λ p. v.modes p ∙ s.modes p ∙ ap (λ (q : ℕ). cond (is_among first q p) (Some (raised (mode_on c r t p) m)) (mode_on c r t p)) is;
  others = others-then r t c d e s.others v.others;
}

-- ---- what stays known on the way

pub spans-start : (r t : ℕ) (s : Span) (c : Chains) → AreRuns [] (runs c.nodes r t) → HasFree r t s c → AreSpans (runs c.nodes r t)
spans-start r t s c a h = record { loose = []; free = h.page; below = h.below; runs = a; unheld = h.unheld }

pub spans-split : (q r t : ℕ) (c d : Chains) → AreSpans (runs c.nodes r t) → Splits q r t c d → AreSpans (runs d.nodes r t)
spans-split q r t c d a s = record { loose = q ∷ a.loose; free = a.free; below = a.below; runs = s.runs_after a.loose a.runs; unheld = s.free a.free a.unheld }

pub spans-raised : (page r t : ℕ) (s : Span) (m : Mode) (c d : Chains) → AreRuns [] (runs c.nodes r t) → HasFree r t s c → IsRaised s.first (s.first + s.count) page r t m c d → AreSpans (runs d.nodes r t)
spans-raised page r t s m c d a h u = record {
  loose = page ∷ (s.first + s.count) ∷ [];
  free = h.page;
  below = h.below;
  runs = u.runs_after [] a;
  unheld = u.free h.page (λ i j. among-no s.first (s.first + s.count) h.page h.unasked i j) h.unheld;
}

pub spans-up : (page next r t : ℕ) (s : Span) (m : Mode) (c d e : Chains) → AreRuns [] (runs c.nodes r t) → HasFree r t s c → next ≤ s.first + s.count
    → IsRaised s.first (s.first + s.count) page r t m c d → Raises page next r t m d e → AreSpans (runs e.nodes r t)
spans-up page next r t s m c d e a h within u v = record {
  loose = page ∷ next ∷ page ∷ (s.first + s.count) ∷ [];
  free = h.page;
  below = h.below;
  runs = v.runs_after (page ∷ (s.first + s.count) ∷ []) (u.runs_after [] a);
  unheld = v.free h.page (λ i j. among-no s.first (s.first + s.count) h.page h.unasked (let b = u.low in omega arith) (omega arith)) (u.free h.page (λ i j. among-no s.first (s.first + s.count) h.page h.unasked i j) h.unheld);
}

-- a page whose mode is known is held by a node
pub node-there : (c : Chains) (r t p : ℕ) (m : Mode) → mode_on c r t p ≡ Some m → node_on c r t p ≡ None → ⊥
node-there c r t p m e f = let none : mode_on c r t p ≡ None = ap (mode_by c) f in cc

-- what is asked is shorter than all pages
pub short-span : (r t : ℕ) (s : Span) (c : Chains) → HasFree r t s c → s.first + s.count ≤ 2 ^ 32 → s.count < 2 ^ 32
short-span r t s c h top = go (lt_or_le s.count (2 ^ 32)) where
  go : (s.count < 2 ^ 32) ⊎ (2 ^ 32 ≤ s.count) → s.count < 2 ^ 32
  go (inl l) = l
  go (inr l) = let low = h.below in absurd (among-no s.first (s.first + s.count) h.page h.unasked (omega arith) (omega arith))

-- where nothing is held there are no runs
pub no-runs : (r t : ℕ) (nodes : Nodes) → nodes ≡ map.empty → (n : ℕ) → runs nodes r t n ≡ None
no-runs r t nodes e n = ap (λ (m : Nodes). run_in r t (map.get m n)) e ∙ ap (run_in r t) (get-empty nat_cmp n)

pub none-runs : (r t : ℕ) (nodes : Nodes) → nodes ≡ map.empty → AreRuns [] (runs nodes r t)
none-runs r t nodes e = record {
  filled = λ n a f. let wrong : None ≡ Some a = sym (no-runs r t nodes e n) ∙ f in absurd (cc);
  within = λ n a f. let wrong : None ≡ Some a = sym (no-runs r t nodes e n) ∙ f in absurd (cc);
  apart = λ n k a b p f g. let wrong : None ≡ Some a = sym (no-runs r t nodes e n) ∙ f in absurd (cc);
  longest = λ n k a b f g. let wrong : None ≡ Some a = sym (no-runs r t nodes e n) ∙ f in absurd (cc);
}

pub none-free : (r t g : ℕ) (nodes : Nodes) → nodes ≡ map.empty → IsFree g (runs nodes r t)
none-free r t g nodes e n a f = let wrong : None ≡ Some a = sym (no-runs r t nodes e n) ∙ f in absurd (cc)
