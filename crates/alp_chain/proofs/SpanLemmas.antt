-- runs that split, change and meet, as functions of their nodes
use Rattle.std.proofs.Common.{◌≡◌, ◌⊎◌, inl, inr, ℕ, ◌-◌, ◌<◌, ◌≤◌, ◌^◌, Bool, true, false, ◌&&◌, cond, eqb, leb, ltb, List, ◌∷◌, Option, None, Some, refl, sym, ◌∙◌, ap, subst, arith, eq-eqb, ne_eqb}
use Rattle.std.proofs.lemmas.Bool.{eqb-true, eqb-false, cases_eq, leb-true, ltb-true, le-leb, lt-ltb, ltb-false}
use Rattle.alp_modes.specs.declared.Mode.{Mode}
use Rattle.alp_chain.specs.Linked.{times}
use Rattle.alp_chain.specs.Spans.{PageRun, AreRuns, IsCut, IsFree, is_among}
use Rattle.alp_chain.proofs.TimesLemmas.{here, later}

pub lt_or_le : (a b : ℕ) → (a < b) ⊎ (b ≤ a)
lt_or_le a b = go (ltb a b) refl where
  go : (t : Bool) → ltb a b ≡ t → (a < b) ⊎ (b ≤ a)
  go true e = inl (ltb-true a b e)
  go false e = inr (ltb-false a b e)

strictly : (a b : ℕ) → a ≤ b → (a ≡ b → ⊥) → a < b
strictly a b h other = go (lt_or_le a b) where
  go : (a < b) ⊎ (b ≤ a) → a < b
  go (inl k) = k
  go (inr k) = absurd (other (omega arith))

-- another value at one node
abbrev pub set_at : (ℕ → Option PageRun) → ℕ → Option PageRun → ℕ → Option PageRun
set_at m i o x = cond (eqb x i) o (m x)

-- what is there is the new one or an old one
abbrev pub Seen : (ℕ → Option PageRun) → ℕ → Option PageRun → ℕ → PageRun → Type 0
Seen m i o x a = ((x ≡ i) × (o ≡ Some a)) ⊎ ((x ≡ i → ⊥) × (m x ≡ Some a))

pub see : (m : ℕ → Option PageRun) (i : ℕ) (o : Option PageRun) (x : ℕ) (a : PageRun) → set_at m i o x ≡ Some a → Seen m i o x a
see m i o x a e = go (eqb x i) refl e where
  go : (b : Bool) → eqb x i ≡ b → cond b o (m x) ≡ Some a → Seen m i o x a
  go true f g = inl (eqb-true x i f, g)
  go false f g = inr (eqb-false x i f, g)

-- and the other way
pub set-here : (m : ℕ → Option PageRun) (i : ℕ) (o : Option PageRun) → set_at m i o i ≡ o
set-here m i o = ap (λ (b : Bool). cond b o (m i)) (eq-eqb i i refl)

pub set-there : (m : ℕ → Option PageRun) (i : ℕ) (o : Option PageRun) (x : ℕ) → (x ≡ i → ⊥) → set_at m i o x ≡ m x
set-there m i o x h = ap (λ (b : Bool). cond b o (m x)) (ne_eqb x i h)

pub same_run : (a b : PageRun) → Some a ≡ Some b → a ≡ b
same_run a b e = cc

no_run : (a : PageRun) → None ≡ Some a → ⊥
no_run a e = cc

-- ---- one run is put

module _ (old new : List ℕ) (m : ℕ → Option PageRun) (i : ℕ) (r : PageRun) (s : AreRuns old m) (filled : r.first < r.end) (within : r.end ≤ 2 ^ 32)
    (overlap : (y : ℕ) (b : PageRun) (p : ℕ) → (y ≡ i → ⊥) → m y ≡ Some b → b.first ≤ p → p < b.end → r.first ≤ p → p < r.end → ⊥)
    (others : (x y : ℕ) (a b : PageRun) → (x ≡ i → ⊥) → (y ≡ i → ⊥) → m x ≡ Some a → m y ≡ Some b → a.end ≡ b.first → a.mode ≡ b.mode → 1 ≤ times a.end new)
    (before : (y : ℕ) (b : PageRun) → (y ≡ i → ⊥) → m y ≡ Some b → b.end ≡ r.first → b.mode ≡ r.mode → 1 ≤ times b.end new)
    (following : (y : ℕ) (b : PageRun) → (y ≡ i → ⊥) → m y ≡ Some b → r.end ≡ b.first → r.mode ≡ b.mode → 1 ≤ times r.end new) where
  put_apart : (x y : ℕ) (a b : PageRun) (p : ℕ) → Seen m i (Some r) x a → Seen m i (Some r) y b → a.first ≤ p → p < a.end → b.first ≤ p → p < b.end → x ≡ y
  put_apart x y a b p (inl u) (inl v) k l f g = u.0 ∙ sym v.0
  put_apart x y a b p (inl u) (inr v) k l f g = absurd (overlap y b p v.0 v.1 f g (subst (λ (c : PageRun). c.first ≤ p) (sym (same_run r a u.1)) k) (subst (λ (c : PageRun). p < c.end) (sym (same_run r a u.1)) l))
  put_apart x y a b p (inr u) (inl v) k l f g = absurd (overlap x a p u.0 u.1 k l (subst (λ (c : PageRun). c.first ≤ p) (sym (same_run r b v.1)) f) (subst (λ (c : PageRun). p < c.end) (sym (same_run r b v.1)) g))
  put_apart x y a b p (inr u) (inr v) k l f g = s.apart x y a b p u.1 v.1 k l f g

  put_longest : (x y : ℕ) (a b : PageRun) → Seen m i (Some r) x a → Seen m i (Some r) y b → a.end ≡ b.first → a.mode ≡ b.mode → 1 ≤ times a.end new
  put_longest x y a b (inl u) (inl v) e f =
      let one : r.end ≡ r.first = ap (λ (c : PageRun). c.end) (same_run r a u.1) ∙ e ∙ sym (ap (λ (c : PageRun). c.first) (same_run r b v.1)) in
      absurd (omega arith)
  put_longest x y a b (inl u) (inr v) e f =
      subst (λ (c : PageRun). 1 ≤ times c.end new) (same_run r a u.1)
      (following y b v.0 v.1 (ap (λ (c : PageRun). c.end) (same_run r a u.1) ∙ e) (ap (λ (c : PageRun). c.mode) (same_run r a u.1) ∙ f))
  put_longest x y a b (inr u) (inl v) e f = before x a u.0 u.1 (e ∙ sym (ap (λ (c : PageRun). c.first) (same_run r b v.1))) (f ∙ sym (ap (λ (c : PageRun). c.mode) (same_run r b v.1)))
  put_longest x y a b (inr u) (inr v) e f = others x y a b u.0 v.0 u.1 v.1 e f

  put_filled : (x : ℕ) (a : PageRun) → Seen m i (Some r) x a → a.first < a.end
  put_filled x a (inl u) = subst (λ (c : PageRun). c.first < c.end) (same_run r a u.1) filled
  put_filled x a (inr u) = s.filled x a u.1

  put_within : (x : ℕ) (a : PageRun) → Seen m i (Some r) x a → a.end ≤ 2 ^ 32
  put_within x a (inl u) = subst (λ (c : PageRun). c.end ≤ 2 ^ 32) (same_run r a u.1) within
  put_within x a (inr u) = s.within x a u.1

  pub put-runs : AreRuns new (set_at m i (Some r))
  put-runs = record {
    filled = λ x a e. put_filled x a (see m i (Some r) x a e);
    within = λ x a e. put_within x a (see m i (Some r) x a e);
    apart = λ x y a b p e f. put_apart x y a b p (see m i (Some r) x a e) (see m i (Some r) y b f);
    longest = λ x y a b e f. put_longest x y a b (see m i (Some r) x a e) (see m i (Some r) y b f);
  }

-- a page where no run goes across, or that no run has, stays so
pub put-cut : (q : ℕ) (m : ℕ → Option PageRun) (i : ℕ) (r : PageRun) → IsCut q m → (r.first < q → q < r.end → ⊥) → IsCut q (set_at m i (Some r))
put-cut q m i r c h x a e = go (see m i (Some r) x a e) where
  go : Seen m i (Some r) x a → a.first < q → q < a.end → ⊥
  go (inl u) k l = h (subst (λ (d : PageRun). d.first < q) (sym (same_run r a u.1)) k) (subst (λ (d : PageRun). q < d.end) (sym (same_run r a u.1)) l)
  go (inr u) k l = c x a u.1 k l

pub put-free : (q : ℕ) (m : ℕ → Option PageRun) (i : ℕ) (r : PageRun) → IsFree q m → (r.first ≤ q → q < r.end → ⊥) → IsFree q (set_at m i (Some r))
put-free q m i r c h x a e = go (see m i (Some r) x a e) where
  go : Seen m i (Some r) x a → a.first ≤ q → q < a.end → ⊥
  go (inl u) k l = h (subst (λ (d : PageRun). d.first ≤ q) (sym (same_run r a u.1)) k) (subst (λ (d : PageRun). q < d.end) (sym (same_run r a u.1)) l)
  go (inr u) k l = c x a u.1 k l

-- ---- one run goes

old_one : (m : ℕ → Option PageRun) (i x : ℕ) (a : PageRun) → Seen m i None x a → (x ≡ i → ⊥) × (m x ≡ Some a)
old_one m i x a (inl u) = absurd (no_run a u.1)
old_one m i x a (inr u) = u

pub drop-old : (m : ℕ → Option PageRun) (i x : ℕ) (a : PageRun) → set_at m i None x ≡ Some a → (x ≡ i → ⊥) × (m x ≡ Some a)
drop-old m i x a e = old_one m i x a (see m i None x a e)

pub drop-runs : (l : List ℕ) (m : ℕ → Option PageRun) (i : ℕ) → AreRuns l m → AreRuns l (set_at m i None)
drop-runs l m i s = record {
  filled = λ x a e. s.filled x a (drop-old m i x a e).1;
  within = λ x a e. s.within x a (drop-old m i x a e).1;
  apart = λ x y a b p e f. s.apart x y a b p (drop-old m i x a e).1 (drop-old m i y b f).1;
  longest = λ x y a b e f. s.longest x y a b (drop-old m i x a e).1 (drop-old m i y b f).1;
}

-- ---- which mode a page has

pub record Tells (m : ℕ → Option PageRun) (f : ℕ → Option Mode) : Type 0 where
  pub some : (n : ℕ) (a : PageRun) (p : ℕ) → m n ≡ Some a → a.first ≤ p → p < a.end → f p ≡ Some a.mode
  pub none : (p : ℕ) → IsFree p m → f p ≡ None

-- whether a page is among those of a run
pub among-yes : (f e p : ℕ) → f ≤ p → p < e → is_among f e p ≡ true
among-yes f e p h k = ap (λ (b : Bool). b && ltb p e) (le-leb f p h) ∙ lt-ltb p e k

pub record IsIn (f e p : ℕ) : Type 0 where
  pub from : f ≤ p
  pub to : p < e

pub among-in : (f e p : ℕ) → is_among f e p ≡ true → IsIn f e p
among-in f e p h = go (leb f p) refl (ltb p e) refl h where
  go : (a : Bool) → leb f p ≡ a → (b : Bool) → ltb p e ≡ b → (a && b) ≡ true → IsIn f e p
  go true x true y g = record { from = leb-true f p x; to = ltb-true p e y }
  go true x false y g = absurd (cc)
  go false x b y g = absurd (cc)

-- a run is put that covers the old one of its node and no other
module _ (m : ℕ → Option PageRun) (i : ℕ) (r : PageRun) (f : ℕ → Option Mode) (tells : Tells m f)
    (overlap : (y : ℕ) (b : PageRun) (p : ℕ) → (y ≡ i → ⊥) → m y ≡ Some b → b.first ≤ p → p < b.end → r.first ≤ p → p < r.end → ⊥)
    (covers : (b : PageRun) (p : ℕ) → m i ≡ Some b → b.first ≤ p → p < b.end → IsIn r.first r.end p) where
  pub put-tells : Tells (set_at m i (Some r)) (λ p. cond (is_among r.first r.end p) (Some r.mode) (f p))
  put-tells = record {
    some = λ x a p e h k. some_of x a p (see m i (Some r) x a e) h k;
    none = λ p free. none_of p free (is_among r.first r.end p) refl;
  }
    where
      some_of : (x : ℕ) (a : PageRun) (p : ℕ) → Seen m i (Some r) x a → a.first ≤ p → p < a.end → cond (is_among r.first r.end p) (Some r.mode) (f p) ≡ Some a.mode
      some_of x a p (inl u) h k =
          let same : r ≡ a = same_run r a u.1 in
          ap (λ (b : Bool). cond b (Some r.mode) (f p)) (among-yes r.first r.end p (subst (λ (d : PageRun). d.first ≤ p) (sym same) h) (subst (λ (d : PageRun). p < d.end) (sym same) k))
          ∙ ap (λ (d : PageRun). Some d.mode) same
      some_of x a p (inr u) h k = go (is_among r.first r.end p) refl where
        go : (b : Bool) → is_among r.first r.end p ≡ b → cond b (Some r.mode) (f p) ≡ Some a.mode
        go true e = let y = among-in r.first r.end p e in absurd (overlap x a p u.0 u.1 h k y.from y.to)
        go false e = tells.some x a p u.1 h k

      none_of : (p : ℕ) → IsFree p (set_at m i (Some r)) → (b : Bool) → is_among r.first r.end p ≡ b → cond b (Some r.mode) (f p) ≡ None
      none_of p free true e = let y = among-in r.first r.end p e in absurd (free i r (set-here m i (Some r)) y.from y.to)
      none_of p free false e = tells.none p (λ x a g h k. left x a g h k (cases_eq x i)) where
        left : (x : ℕ) (a : PageRun) → m x ≡ Some a → a.first ≤ p → p < a.end → (x ≡ i) ⊎ (x ≡ i → ⊥) → ⊥
        left x a g h k (inl is) =
            let y = covers a p (ap m (sym is) ∙ g) h k in
            let yes : is_among r.first r.end p ≡ true = among-yes r.first r.end p y.from y.to in cc
        left x a g h k (inr other) = free x a (set-there m i (Some r) x other ∙ g) h k

-- the same pages are had in the same modes
pub record IsMoved (m k : ℕ → Option PageRun) : Type 0 where
  pub down : (x : ℕ) (a : PageRun) (p : ℕ) → k x ≡ Some a → a.first ≤ p → p < a.end → (y : ℕ) × (b : PageRun) × (m y ≡ Some b) × (b.first ≤ p) × (p < b.end) × (b.mode ≡ a.mode)
  pub up : (p : ℕ) → IsFree p k → IsFree p m

pub moved-tells : (m k : ℕ → Option PageRun) (f : ℕ → Option Mode) → IsMoved m k → Tells m f → Tells k f
moved-tells m k f v t = record {
  some = λ x a p e h l. let d = v.down x a p e h l in t.some d.0 d.1 p d.2 d.3 d.4 ∙ ap Some d.5;
  none = λ p free. t.none p (v.up p free);
}

-- ---- a run is cut in two

abbrev pub left_of : PageRun → ℕ → PageRun
left_of a q = record { first = a.first; end = q; mode = a.mode }

abbrev pub right_of : PageRun → ℕ → PageRun
right_of a q = record { first = q; end = a.end; mode = a.mode }

abbrev pub cut_at : (ℕ → Option PageRun) → ℕ → ℕ → ℕ → PageRun → ℕ → Option PageRun
cut_at m n k q a = set_at (set_at m n (Some (left_of a q))) k (Some (right_of a q))

module _ (l : List ℕ) (m : ℕ → Option PageRun) (n k q : ℕ) (a : PageRun) (s : AreRuns l m) (there : m n ≡ Some a) (vacant : m k ≡ None) (low : a.first < q) (high : q < a.end) where
  distinct : k ≡ n → ⊥
  distinct e = let same : None ≡ Some a = sym vacant ∙ ap m e ∙ there in cc

  -- the part before
  cut_left : AreRuns l (set_at m n (Some (left_of a q)))
  cut_left = put-runs l l m n (left_of a q) s low (omega (arith, s.within n a there))
      (λ y b p other e h i j o. other (s.apart y n b a p e there h i j (omega arith)))
      (λ x y b c not_x not_y e f t u. s.longest x y b c e f t u)
      (λ y b other e t u. s.longest y n b a e there t u)
      (λ y b other e t u. absurd (other (s.apart y n b a q e there (omega arith) (omega (arith, s.filled y b e)) (omega arith) high)))

  overlap : (y : ℕ) (b : PageRun) (p : ℕ) → (y ≡ k → ⊥) → Seen m n (Some (left_of a q)) y b → b.first ≤ p → p < b.end → q ≤ p → p < a.end → ⊥
  overlap y b p other (inl u) h i j o = let end : q ≡ b.end = ap (λ (c : PageRun). c.end) (same_run (left_of a q) b u.1) in omega arith
  overlap y b p other (inr u) h i j o = u.0 (s.apart y n b a p u.1 there h i (omega arith) o)

  after : (y : ℕ) (b : PageRun) → Seen m n (Some (left_of a q)) y b → a.end ≡ b.first → a.mode ≡ b.mode → 1 ≤ times a.end (q ∷ l)
  after y b (inl u) e f = let start : a.first ≡ b.first = ap (λ (c : PageRun). c.first) (same_run (left_of a q) b u.1) in absurd (omega arith)
  after y b (inr u) e f = later a.end q l (s.longest n y a b there u.1 e f)

  pub cut-runs : AreRuns (q ∷ l) (cut_at m n k q a)
  cut-runs = put-runs l (q ∷ l) (set_at m n (Some (left_of a q))) k (right_of a q) cut_left high (s.within n a there)
      (λ y b p other e h i j o. overlap y b p other (see m n (Some (left_of a q)) y b e) h i j o)
      (λ x y b c not_x not_y e f t u. later b.end q l (cut_left.longest x y b c e f t u))
      (λ y b other e t u. subst (λ (z : ℕ). 1 ≤ times z (q ∷ l)) (sym t) (here q l))
      (λ y b other e t u. after y b (see m n (Some (left_of a q)) y b e) t u)

  pub cut-free : (g : ℕ) → IsFree g m → IsFree g (cut_at m n k q a)
  cut-free g free = put-free g (set_at m n (Some (left_of a q))) k (right_of a q) (put-free g m n (left_of a q) free (λ h i. free n a there h (omega arith))) (λ h i. free n a there (omega arith) i)

  pub cut-cut : (g : ℕ) → IsCut g m → IsCut g (cut_at m n k q a)
  cut-cut g c = put-cut g (set_at m n (Some (left_of a q))) k (right_of a q) (put-cut g m n (left_of a q) c (λ h i. c n a there h (omega arith))) (λ h i. c n a there (omega arith) i)

  crossed : (y : ℕ) (b : PageRun) → Seen m n (Some (left_of a q)) y b → b.first < q → q < b.end → ⊥
  crossed y b (inl u) h i = let end : q ≡ b.end = ap (λ (c : PageRun). c.end) (same_run (left_of a q) b u.1) in omega arith
  crossed y b (inr u) h i = u.0 (s.apart y n b a q u.1 there (omega arith) i (omega arith) high)

  pub cut-here : IsCut q (cut_at m n k q a)
  cut-here = put-cut q (set_at m n (Some (left_of a q))) k (right_of a q) (λ y b e. crossed y b (see m n (Some (left_of a q)) y b e)) (λ h i. omega arith)

  pub cut-moved : IsMoved m (cut_at m n k q a)
  cut-moved = record {
    down = λ x b p e h i. down x b p (see (set_at m n (Some (left_of a q))) k (Some (right_of a q)) x b e) h i;
    up = λ p free y b e h i. up p free y b e h i (cases_eq y n);
  }
    where
      lower : (x : ℕ) (b : PageRun) (p : ℕ) → Seen m n (Some (left_of a q)) x b → b.first ≤ p → p < b.end → (y : ℕ) × (c : PageRun) × (m y ≡ Some c) × (c.first ≤ p) × (p < c.end) × (c.mode ≡ b.mode)
      lower x b p (inl u) h i =
          let same : left_of a q ≡ b = same_run (left_of a q) b u.1 in
          let start : a.first ≡ b.first = ap (λ (c : PageRun). c.first) same in
          let end : q ≡ b.end = ap (λ (c : PageRun). c.end) same in
          (n, a, there, omega arith, omega arith, ap (λ (c : PageRun). c.mode) same)
      lower x b p (inr u) h i = (x, b, u.1, h, i, refl)

      down : (x : ℕ) (b : PageRun) (p : ℕ) → Seen (set_at m n (Some (left_of a q))) k (Some (right_of a q)) x b → b.first ≤ p → p < b.end → (y : ℕ) × (c : PageRun) × (m y ≡ Some c) × (c.first ≤ p) × (p < c.end) × (c.mode ≡ b.mode)
      down x b p (inl u) h i =
          let same : right_of a q ≡ b = same_run (right_of a q) b u.1 in
          let start : q ≡ b.first = ap (λ (c : PageRun). c.first) same in
          let end : a.end ≡ b.end = ap (λ (c : PageRun). c.end) same in
          (n, a, there, omega arith, omega arith, ap (λ (c : PageRun). c.mode) same)
      down x b p (inr u) h i = lower x b p (see m n (Some (left_of a q)) x b u.1) h i

      half : (p : ℕ) → IsFree p (cut_at m n k q a) → a.first ≤ p → p < a.end → (p < q) ⊎ (q ≤ p) → ⊥
      half p free h i (inl low_half) = free n (left_of a q) (set-there (set_at m n (Some (left_of a q))) k (Some (right_of a q)) n (λ e. distinct (sym e)) ∙ set-here m n (Some (left_of a q))) h low_half
      half p free h i (inr high_half) = free k (right_of a q) (set-here (set_at m n (Some (left_of a q))) k (Some (right_of a q))) high_half i

      up : (p : ℕ) → IsFree p (cut_at m n k q a) → (y : ℕ) (b : PageRun) → m y ≡ Some b → b.first ≤ p → p < b.end → (y ≡ n) ⊎ (y ≡ n → ⊥) → ⊥
      up p free y b e h i (inl is) =
          let same : a ≡ b = same_run a b (sym there ∙ ap m (sym is) ∙ e) in
          half p free (subst (λ (c : PageRun). c.first ≤ p) (sym same) h) (subst (λ (c : PageRun). p < c.end) (sym same) i) (lt_or_le p q)
      up p free y b e h i (inr other) =
          free y b (set-there (set_at m n (Some (left_of a q))) k (Some (right_of a q)) y (λ f. let none : None ≡ Some b = sym vacant ∙ ap m (sym f) ∙ e in cc) ∙ set-there m n (Some (left_of a q)) y other ∙ e) h i

-- ---- two runs become one

abbrev pub whole_of : PageRun → PageRun → PageRun
whole_of a b = record { first = a.first; end = b.end; mode = a.mode }

abbrev pub joined_at : (ℕ → Option PageRun) → ℕ → ℕ → PageRun → PageRun → ℕ → Option PageRun
joined_at m n k a b = set_at (set_at m k None) n (Some (whole_of a b))

module _ (q : ℕ) (l : List ℕ) (m : ℕ → Option PageRun) (n k : ℕ) (a b : PageRun) (s : AreRuns (q ∷ l) m) (left_there : m n ≡ Some a) (right_there : m k ≡ Some b)
    (ends : a.end ≡ q) (begins : b.first ≡ q) (modes : a.mode ≡ b.mode) where
  fill_a : a.first < a.end
  fill_a = s.filled n a left_there

  fill_b : b.first < b.end
  fill_b = s.filled k b right_there

  apart_two : n ≡ k → ⊥
  apart_two e = let same : a ≡ b = same_run a b (sym left_there ∙ ap m e ∙ right_there) in let start : a.first ≡ b.first = ap (λ (c : PageRun). c.first) same in let first = fill_a in omega arith

  not_q : (z : ℕ) → 1 ≤ times z (q ∷ l) → (z ≡ q → ⊥) → 1 ≤ times z l
  not_q z h other = let no : ◌≡◌ {A = ℕ} (cond (eqb z q) 1 0) 0 = ap (λ (t : Bool). cond t 1 0) (ne_eqb z q other) in omega arith

  joined_overlap : (y : ℕ) (c : PageRun) (p : ℕ) → (y ≡ n → ⊥) → (y ≡ k → ⊥) → m y ≡ Some c → c.first ≤ p → p < c.end → a.first ≤ p → p < b.end → (p < q) ⊎ (q ≤ p) → ⊥
  joined_overlap y c p not_n not_k e h i j o (inl low) = not_n (s.apart y n c a p e left_there h i j (omega arith))
  joined_overlap y c p not_n not_k e h i j o (inr high) = not_k (s.apart y k c b p e right_there h i (omega arith) o)

  pub joined-runs : AreRuns l (joined_at m n k a b)
  joined-runs = put-runs (q ∷ l) l (set_at m k None) n (whole_of a b) (drop-runs (q ∷ l) m k s) (let f = fill_a in let g = fill_b in omega arith) (s.within k b right_there)
      (λ y c p other e h i j o. let d = drop-old m k y c e in joined_overlap y c p other d.0 d.1 h i j o (lt_or_le p q))
      (λ x y c d not_x not_y e f t u. let v = drop-old m k x c e in let w = drop-old m k y d f in
      not_q c.end (s.longest x y c d v.1 w.1 t u) (λ z. not_x (s.apart x n c a (q - 1) v.1 left_there (let g = s.filled x c v.1 in omega arith) (let g = s.filled x c v.1 in omega arith) (let g = fill_a in omega arith) (let g = fill_a in omega arith))))
      (λ y c other e t u. let v = drop-old m k y c e in not_q c.end (s.longest y n c a v.1 left_there t u) (λ z. let g = fill_a in omega arith))
      (λ y c other e t u. let v = drop-old m k y c e in not_q b.end (s.longest k y b c right_there v.1 t (sym modes ∙ u)) (λ z. let g = fill_b in omega arith))

  pub joined-free : (g : ℕ) → IsFree g m → IsFree g (joined_at m n k a b)
  joined-free g free = put-free g (set_at m k None) n (whole_of a b) (λ y c e. free y c (drop-old m k y c e).1) (λ h i. go h i (lt_or_le g q)) where
    go : a.first ≤ g → g < b.end → (g < q) ⊎ (q ≤ g) → ⊥
    go h i (inl low) = free n a left_there h (omega arith)
    go h i (inr high) = free k b right_there (omega arith) i

  pub joined-cut : (g : ℕ) → (g ≡ q → ⊥) → IsCut g m → IsCut g (joined_at m n k a b)
  joined-cut g other c = put-cut g (set_at m k None) n (whole_of a b) (λ y d e. c y d (drop-old m k y d e).1) (λ h i. go h i (lt_or_le g q)) where
    go : a.first < g → g < b.end → (g < q) ⊎ (q ≤ g) → ⊥
    go h i (inl low) = c n a left_there h (omega arith)
    go h i (inr high) = let more : q < g = strictly q g high (λ e. other (sym e)) in c k b right_there (omega arith) i

  pub joined-moved : IsMoved m (joined_at m n k a b)
  joined-moved = record {
    down = λ x c p e h i. down x c p (see (set_at m k None) n (Some (whole_of a b)) x c e) h i;
    up = λ p free y c e h i. up p free y c e h i (cases_eq y n) (cases_eq y k);
  }
    where
      two : (c : PageRun) (p : ℕ) → whole_of a b ≡ c → a.first ≤ p → p < b.end → (p < q) ⊎ (q ≤ p) → (y : ℕ) × (d : PageRun) × (m y ≡ Some d) × (d.first ≤ p) × (p < d.end) × (d.mode ≡ c.mode)
      two c p same h i (inl low) = (n, a, left_there, h, omega arith, ap (λ (d : PageRun). d.mode) same)
      two c p same h i (inr high) = (k, b, right_there, omega arith, i, sym modes ∙ ap (λ (d : PageRun). d.mode) same)

      down : (x : ℕ) (c : PageRun) (p : ℕ) → Seen (set_at m k None) n (Some (whole_of a b)) x c → c.first ≤ p → p < c.end → (y : ℕ) × (d : PageRun) × (m y ≡ Some d) × (d.first ≤ p) × (p < d.end) × (d.mode ≡ c.mode)
      down x c p (inl u) h i =
          let same : whole_of a b ≡ c = same_run (whole_of a b) c u.1 in
          two c p same (subst (λ (d : PageRun). d.first ≤ p) (sym same) h) (subst (λ (d : PageRun). p < d.end) (sym same) i) (lt_or_le p q)
      down x c p (inr u) h i = (x, c, (drop-old m k x c u.1).1, h, i, refl)

      whole_free : (p : ℕ) → IsFree p (joined_at m n k a b) → a.first ≤ p → p < b.end → ⊥
      whole_free p free h i = free n (whole_of a b) (set-here (set_at m k None) n (Some (whole_of a b))) h i

      up : (p : ℕ) → IsFree p (joined_at m n k a b) → (y : ℕ) (c : PageRun) → m y ≡ Some c → c.first ≤ p → p < c.end → (y ≡ n) ⊎ (y ≡ n → ⊥) → (y ≡ k) ⊎ (y ≡ k → ⊥) → ⊥
      up p free y c e h i (inl is) o =
          let same : a ≡ c = same_run a c (sym left_there ∙ ap m (sym is) ∙ e) in
          let start : a.first ≡ c.first = ap (λ (d : PageRun). d.first) same in
          let end : a.end ≡ c.end = ap (λ (d : PageRun). d.end) same in
          let g = fill_b in
          whole_free p free (omega arith) (omega arith)
      up p free y c e h i (inr other) (inl is) =
          let same : b ≡ c = same_run b c (sym right_there ∙ ap m (sym is) ∙ e) in
          let start : b.first ≡ c.first = ap (λ (d : PageRun). d.first) same in
          let end : b.end ≡ c.end = ap (λ (d : PageRun). d.end) same in
          let g = fill_a in
          whole_free p free (omega arith) (omega arith)
      up p free y c e h i (inr other) (inr apart) =
          free y c (set-there (set_at m k None) n (Some (whole_of a b)) y other ∙ set-there m k None y apart ∙ e) h i
