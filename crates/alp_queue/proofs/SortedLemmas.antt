-- entries in the order of their keys, split at one of them
use Rattle.std.proofs.Common.{◌≡◌, ℕ, zero, suc, ◌+◌, Bool, true, false, ◌&&◌, not, cond, List, [], ◌∷◌, ◌++◌, take, drop, map as list_map, slice_get, Option, Some, None, is_some, refl, sym, ap, subst, ◌∙◌, arith}
use Rattle.std.proofs.Math.Dec.{T}
use Rattle.std.proofs.lemmas.List.{take-append-drop, map-append}
use Rattle.std.specs.List.{AllByRecursion, position_or_len}
use Rattle.std.specs.Option.{option_or, option_and_then, unwrap_or}
use Rattle.std.specs.declared.cmp.Ordering.{Ordering}
use Rattle.std.specs.declared.cmp.Ordering.TheVariants.{Less, Equal, Greater}
use Rattle.std.specs.Ordering.{is_eq, is_lt, ordering_reverse}
use Rattle.std.specs.Cmp.{IsTotalOrder}
use Rattle.std.specs.FinMap.{find, put, is_sorted}
use Rattle.std.specs.FinMap.Entries.{below_all, by_order, find-put, is_sorted-put}

first : (a b : Bool) → T (a && b) → T a
first true b h = tt
first false b h = absurd h

second : (a b : Bool) → T (a && b) → T b
second true b h = h
second false b h = absurd h

less : (o : Ordering) → T (is_lt o) → o ≡ Less
less Less h = refl
less Equal h = absurd h
less Greater h = absurd h

greater : (o : Ordering) → is_lt o ≡ false → is_eq o ≡ false → o ≡ Greater
greater Less a b = cc
greater Equal a b = cc
greater Greater a b = refl

both : (a b : Bool) → T a → T b → T (a && b)
both true b p q = q
both false b p q = p

module _ {K : Type 0} {R : K → K → Ordering} (total : IsTotalOrder R) where
  turned : (a b : K) → R a b ≡ Less → R b a ≡ Greater
  turned a b p = total.antisymm b a ∙ ap ordering_reverse p

  back : (a b : K) → R a b ≡ Greater → R b a ≡ Less
  back a b p = total.antisymm b a ∙ ap ordering_reverse p

module _ {K X : Type 0} {R : K → K → Ordering} (total : IsTotalOrder R) where
  -- each entry's key is less than that one
  abbrev pub AreBelow : K → List (K × X) → Type 0
  AreBelow k es = AllByRecursion (λ e. R e.0 k ≡ Less) es

  left-below : (k : K) (es : List (K × X)) (e : K × X) (fs : List (K × X)) → T (below_all R k (es ++ e ∷ fs)) → R k e.0 ≡ Less
  left-below k [] e fs h = less (R k e.0) (first (is_lt (R k e.0)) (below_all R k fs) h)
  left-below k (x ∷ es) e fs h = left-below k es e fs (second (is_lt (R k x.0)) (below_all R k (es ++ e ∷ fs)) h)

  pub lefts-below : (es : List (K × X)) (e : K × X) (fs : List (K × X)) → T (is_sorted R (es ++ e ∷ fs)) → AreBelow e.0 es
  lefts-below [] e fs h = tt
  lefts-below (x ∷ es) e fs h =
      (left-below x.0 es e fs (first (below_all R x.0 (es ++ e ∷ fs)) (is_sorted R (es ++ e ∷ fs)) h), lefts-below es e fs (second (below_all R x.0 (es ++ e ∷ fs)) (is_sorted R (es ++ e ∷ fs)) h))

  below-left : (k : K) (es : List (K × X)) (fs : List (K × X)) → T (below_all R k (es ++ fs)) → T (below_all R k es)
  below-left k [] fs h = tt
  below-left k (x ∷ es) fs h =
      both (is_lt (R k x.0)) (below_all R k es) (first (is_lt (R k x.0)) (below_all R k (es ++ fs)) h) (below-left k es fs (second (is_lt (R k x.0)) (below_all R k (es ++ fs)) h))

  -- what stands left and right of an entry is sorted
  pub left-sorted : (es fs : List (K × X)) → T (is_sorted R (es ++ fs)) → T (is_sorted R es)
  left-sorted [] fs h = tt
  left-sorted (x ∷ es) fs h =
      both (below_all R x.0 es) (is_sorted R es) (below-left x.0 es fs (first (below_all R x.0 (es ++ fs)) (is_sorted R (es ++ fs)) h)) (left-sorted es fs (second (below_all R x.0 (es ++ fs)) (is_sorted R (es ++ fs)) h))

  pub right-part : (es : List (K × X)) (e : K × X) (fs : List (K × X)) → T (is_sorted R (es ++ e ∷ fs)) → T (below_all R e.0 fs && is_sorted R fs)
  right-part [] e fs h = h
  right-part (x ∷ es) e fs h = right-part es e fs (second (below_all R x.0 (es ++ e ∷ fs)) (is_sorted R (es ++ e ∷ fs)) h)

  pub right-sorted : (es : List (K × X)) (e : K × X) (fs : List (K × X)) → T (is_sorted R (es ++ e ∷ fs)) → T (is_sorted R fs)
  right-sorted es e fs h = second (below_all R e.0 fs) (is_sorted R fs) (right-part es e fs h)

  -- a key before one is before all that come behind that one
  none-behind : (q k : K) (es : List (K × X)) → R q k ≡ Less → T (below_all R k es) → find R q es ≡ None
  none-behind q k [] p h = refl
  none-behind q k (e ∷ es) p h =
      ap (λ o. cond (is_eq o) (Some e.1) (find R q es)) (total.trans q k e.0 p (less (R k e.0) (first (is_lt (R k e.0)) (below_all R k es) h)))
      ∙ none-behind q k es p (second (is_lt (R k e.0)) (below_all R k es) h)

  -- a key behind one is behind all that come before that one
  pub passes : (q k : K) (o : Ordering) → R q k ≡ o → is_lt o ≡ false → (es : List (K × X)) → AreBelow k es → AllByRecursion (λ e. R q e.0 ≡ Greater) es
  passes q k o p not_less [] h = tt
  passes q k Less p not_less (e ∷ es) h = let wrong : true ≡ false = not_less in cc
  passes q k Equal p not_less (e ∷ es) h = (total.congr q k e.0 p ∙ turned total e.0 k h.0, passes q k Equal p not_less es h.1)
  passes q k Greater p not_less (e ∷ es) h = (turned total e.0 q (total.trans e.0 k q h.0 (back total q k p)), passes q k Greater p not_less es h.1)

  find-behind : (q : K) (es fs : List (K × X)) → AllByRecursion (λ e. R q e.0 ≡ Greater) es → find R q (es ++ fs) ≡ find R q fs
  find-behind q [] fs h = refl
  find-behind q (e ∷ es) fs h = ap (λ o. cond (is_eq o) (Some e.1) (find R q (es ++ fs))) h.0 ∙ find-behind q es fs h.1

  put-behind : (k : K) (v : X) (es fs : List (K × X)) → AllByRecursion (λ e. R k e.0 ≡ Greater) es → put R k v (es ++ fs) ≡ es ++ put R k v fs
  put-behind k v [] fs h = refl
  put-behind k v (e ∷ es) fs h = ap (λ o. by_order o ((k, v) ∷ e ∷ (es ++ fs)) ((e.0, v) ∷ (es ++ fs)) (e ∷ put R k v (es ++ fs))) h.0 ∙ ap (λ xs. e ∷ xs) (put-behind k v es fs h.1)

  -- ---- what is found

  pub find-left : (q : K) (es : List (K × X)) (e : K × X) (fs : List (K × X)) → T (is_sorted R (es ++ e ∷ fs)) → R q e.0 ≡ Less → find R q (es ++ e ∷ fs) ≡ find R q es
  find-left q [] e fs h p = ap (λ o. cond (is_eq o) (Some e.1) (find R q fs)) p ∙ none-behind q e.0 fs p (first (below_all R e.0 fs) (is_sorted R fs) h)
  find-left q (x ∷ es) e fs h p = ap (cond (is_eq (R q x.0)) (Some x.1)) (find-left q es e fs (second (below_all R x.0 (es ++ e ∷ fs)) (is_sorted R (es ++ e ∷ fs)) h) p)

  pub find-here : (q : K) (es : List (K × X)) (e : K × X) (fs : List (K × X)) → T (is_sorted R (es ++ e ∷ fs)) → R q e.0 ≡ Equal → find R q (es ++ e ∷ fs) ≡ Some e.1
  find-here q es e fs h p =
      find-behind q es (e ∷ fs) (passes q e.0 Equal p refl es (lefts-below es e fs h)) ∙ ap (λ o. cond (is_eq o) (Some e.1) (find R q fs)) p

  pub find-right : (q : K) (es : List (K × X)) (e : K × X) (fs : List (K × X)) → T (is_sorted R (es ++ e ∷ fs)) → R q e.0 ≡ Greater → find R q (es ++ e ∷ fs) ≡ find R q fs
  find-right q es e fs h p =
      find-behind q es (e ∷ fs) (passes q e.0 Greater p refl es (lefts-below es e fs h)) ∙ ap (λ o. cond (is_eq o) (Some e.1) (find R q fs)) p

  -- ---- what is put

  pub put-left : (k : K) (v : X) (es : List (K × X)) (e : K × X) (fs : List (K × X)) → R k e.0 ≡ Less → put R k v (es ++ e ∷ fs) ≡ put R k v es ++ e ∷ fs
  put-left k v [] e fs p = ap (λ o. by_order o ((k, v) ∷ e ∷ fs) ((e.0, v) ∷ fs) (e ∷ put R k v fs)) p
  put-left k v (x ∷ es) e fs p = go (R k x.0) (put-left k v es e fs p)
    where
      go : (o : Ordering) → put R k v (es ++ e ∷ fs) ≡ put R k v es ++ e ∷ fs
          → by_order o ((k, v) ∷ x ∷ (es ++ e ∷ fs)) ((x.0, v) ∷ (es ++ e ∷ fs)) (x ∷ put R k v (es ++ e ∷ fs)) ≡ by_order o ((k, v) ∷ x ∷ es) ((x.0, v) ∷ es) (x ∷ put R k v es) ++ e ∷ fs
      go Less h = refl
      go Equal h = refl
      go Greater h = ap (λ xs. x ∷ xs) h

  put-here : (k : K) (v : X) (es : List (K × X)) (e : K × X) (fs : List (K × X)) → AreBelow e.0 es → R k e.0 ≡ Equal → put R k v (es ++ e ∷ fs) ≡ es ++ (e.0, v) ∷ fs
  put-here k v es e fs h p = put-behind k v es (e ∷ fs) (passes k e.0 Equal p refl es h) ∙ ap (λ o. es ++ by_order o ((k, v) ∷ e ∷ fs) ((e.0, v) ∷ fs) (e ∷ put R k v fs)) p

  put-right : (k : K) (v : X) (es : List (K × X)) (e : K × X) (fs : List (K × X)) → AreBelow e.0 es → R k e.0 ≡ Greater → put R k v (es ++ e ∷ fs) ≡ es ++ e ∷ put R k v fs
  put-right k v es e fs h p = put-behind k v es (e ∷ fs) (passes k e.0 Greater p refl es h) ∙ ap (λ o. es ++ by_order o ((k, v) ∷ e ∷ fs) ((e.0, v) ∷ fs) (e ∷ put R k v fs)) p

  -- ---- several are put

  -- each entry's key is greater than that one
  abbrev pub AreAbove : K → List (K × X) → Type 0
  AreAbove k es = AllByRecursion (λ e. R e.0 k ≡ Greater) es

  -- entries with each of the first ones put among them, the last first
  abbrev pub puts : List (K × X) → List (K × X) → List (K × X)
  puts [] fs = fs
  puts (e ∷ es) fs = put R e.0 e.1 (puts es fs)

  pub puts-none : (es : List (K × X)) → T (is_sorted R es) → puts es [] ≡ es
  puts-none [] h = refl
  puts-none (e ∷ []) h = refl
  puts-none (e ∷ f ∷ es) h =
      ap (put R e.0 e.1) (puts-none (f ∷ es) (second (below_all R e.0 (f ∷ es)) (is_sorted R (f ∷ es)) h))
      ∙ ap (λ o. by_order o ((e.0, e.1) ∷ f ∷ es) ((f.0, e.1) ∷ es) (f ∷ put R e.0 e.1 es))
      (less (R e.0 f.0) (first (is_lt (R e.0 f.0)) (below_all R e.0 es) (first (below_all R e.0 (f ∷ es)) (is_sorted R (f ∷ es)) h)))

  puts-append : (es ds fs : List (K × X)) → puts (es ++ ds) fs ≡ puts es (puts ds fs)
  puts-append [] ds fs = refl
  puts-append (e ∷ es) ds fs = ap (put R e.0 e.1) (puts-append es ds fs)

  puts-left : (ds es : List (K × X)) (e : K × X) (fs : List (K × X)) → AreBelow e.0 ds → puts ds (es ++ e ∷ fs) ≡ puts ds es ++ e ∷ fs
  puts-left [] es e fs h = refl
  puts-left (d ∷ ds) es e fs h = ap (put R d.0 d.1) (puts-left ds es e fs h.1) ∙ put-left d.0 d.1 (puts ds es) e fs h.0

  puts-right : (ds es : List (K × X)) (e : K × X) (fs : List (K × X)) → AreAbove e.0 ds → AreBelow e.0 es → puts ds (es ++ e ∷ fs) ≡ es ++ e ∷ puts ds fs
  puts-right [] es e fs h k = refl
  puts-right (d ∷ ds) es e fs h k = ap (put R d.0 d.1) (puts-right ds es e fs h.1 k) ∙ put-right d.0 d.1 es e (puts ds fs) k h.0

  -- lesser ones go to the left of an entry, and greater ones to its right
  pub puts-apart : (ds gs es : List (K × X)) (e : K × X) (fs : List (K × X)) → AreBelow e.0 ds → AreAbove e.0 gs → AreBelow e.0 es → puts (ds ++ gs) (es ++ e ∷ fs) ≡ puts ds es ++ e ∷ puts gs fs
  puts-apart ds gs es e fs h k below = puts-append ds gs (es ++ e ∷ fs) ∙ ap (puts ds) (puts-right gs es e fs k below) ∙ puts-left ds es e (puts gs fs) h

  -- and one of the same key takes its place
  pub puts-over : (ds : List (K × X)) (d : K × X) (gs es : List (K × X)) (e : K × X) (fs : List (K × X)) → AreBelow e.0 ds → R d.0 e.0 ≡ Equal → AreAbove e.0 gs → AreBelow e.0 es
      → puts (ds ++ d ∷ gs) (es ++ e ∷ fs) ≡ puts ds es ++ (e.0, d.1) ∷ puts gs fs
  puts-over ds d gs es e fs h p k below =
      puts-append ds (d ∷ gs) (es ++ e ∷ fs) ∙ ap (λ xs. puts ds (put R d.0 d.1 xs)) (puts-right gs es e fs k below)
      ∙ ap (puts ds) (put-here d.0 d.1 es e (puts gs fs) below p) ∙ puts-left ds es (e.0, d.1) (puts gs fs) h

  -- ---- where a list is cut at a key

  abbrev pub lesser_in : K → List (K × X) → ℕ
  lesser_in k es = position_or_len (λ e. not (is_lt (R e.0 k))) es

  take-more : (n : ℕ) (e : K × X) (es : List (K × X)) → take (1 + n) (e ∷ es) ≡ e ∷ take n es
  take-more n e es = let same : 1 + n ≡ suc n = omega arith in ap (λ m. take m (e ∷ es)) same

  drop-more : (n : ℕ) (e : K × X) (es : List (K × X)) → drop (1 + n) (e ∷ es) ≡ drop n es
  drop-more n e es = let same : 1 + n ≡ suc n = omega arith in ap (λ m. drop m (e ∷ es)) same

  pub taken-below : (k : K) (es : List (K × X)) → AreBelow k (take (lesser_in k es) es)
  taken-below k [] = tt
  taken-below k (e ∷ es) = go (R e.0 k) refl (taken-below k es)
    where
      go : (o : Ordering) → R e.0 k ≡ o → AreBelow k (take (lesser_in k es) es) → AreBelow k (take (cond (not (not (is_lt o))) (1 + lesser_in k es) 0) (e ∷ es))
      go Less p h = subst (AreBelow k) (sym (take-more (lesser_in k es) e es)) (p, h)
      go Equal p h = tt
      go Greater p h = tt

  -- the first is not less
  abbrev pub StartsFrom : K → List (K × X) → Type 0
  StartsFrom k [] = Unit {0}
  StartsFrom k (e ∷ es) = is_lt (R e.0 k) ≡ false

  pub rest-starts : (k : K) (es : List (K × X)) → StartsFrom k (drop (lesser_in k es) es)
  rest-starts k [] = tt
  rest-starts k (e ∷ es) = go (R e.0 k) refl (rest-starts k es)
    where
      go : (o : Ordering) → R e.0 k ≡ o → StartsFrom k (drop (lesser_in k es) es) → StartsFrom k (drop (cond (not (not (is_lt o))) (1 + lesser_in k es) 0) (e ∷ es))
      go Less p h = subst (StartsFrom k) (sym (drop-more (lesser_in k es) e es)) h
      go Equal p h = ap is_lt p
      go Greater p h = ap is_lt p

  all-behind : (k x : K) (es : List (K × X)) → R k x ≡ Less → T (below_all R x es) → AreAbove k es
  all-behind k x [] p h = tt
  all-behind k x (e ∷ es) p h =
      (turned total k e.0 (total.trans k x e.0 p (less (R x e.0) (first (is_lt (R x e.0)) (below_all R x es) h))), all-behind k x es p (second (is_lt (R x e.0)) (below_all R x es) h))

  tied-behind : (k x : K) (es : List (K × X)) → R x k ≡ Equal → T (below_all R x es) → AreAbove k es
  tied-behind k x [] p h = tt
  tied-behind k x (e ∷ es) p h =
      (turned total k e.0 (sym (total.congr x k e.0 p) ∙ less (R x e.0) (first (is_lt (R x e.0)) (below_all R x es) h)), tied-behind k x es p (second (is_lt (R x e.0)) (below_all R x es) h))

  -- behind one that ties with a key all are greater
  pub behind-tied : (k : K) (e : K × X) (es : List (K × X)) → T (is_sorted R (e ∷ es)) → R e.0 k ≡ Equal → AreAbove k es
  behind-tied k e es h p = tied-behind k e.0 es p (first (below_all R e.0 es) (is_sorted R es) h)

  -- and where the first neither is less nor ties
  pub rest-above : (k : K) (e : K × X) (es : List (K × X)) → T (is_sorted R (e ∷ es)) → StartsFrom k (e ∷ es) → is_eq (R e.0 k) ≡ false → AreAbove k (e ∷ es)
  rest-above k e es h from apart =
      let g : R e.0 k ≡ Greater = greater (R e.0 k) from apart in
      (g, all-behind k e.0 es (back total e.0 k g) (first (below_all R e.0 es) (is_sorted R es) h))

  pub drop-sorted : (n : ℕ) (es : List (K × X)) → T (is_sorted R es) → T (is_sorted R (drop n es))
  drop-sorted zero es h = h
  drop-sorted (suc n) [] h = tt
  drop-sorted (suc n) (e ∷ es) h = drop-sorted n es (second (below_all R e.0 es) (is_sorted R es) h)

  -- what the lists with one put first have at a key
  pub find-puts : (q : K) (es fs : List (K × X)) → find R q (puts es fs) ≡ option_or (find R q es) (find R q fs)
  find-puts q [] fs = refl
  find-puts q (e ∷ es) fs = find-put R total q e.0 e.1 (puts es fs) ∙ go (is_eq (R q e.0)) (find-puts q es fs)
    where
      go : (b : Bool) → find R q (puts es fs) ≡ option_or (find R q es) (find R q fs) → cond b (Some e.1) (find R q (puts es fs)) ≡ option_or (cond b (Some e.1) (find R q es)) (find R q fs)
      go true h = refl
      go false h = h

  pub puts-sorted : (es fs : List (K × X)) → T (is_sorted R fs) → T (is_sorted R (puts es fs))
  puts-sorted [] fs h = h
  puts-sorted (e ∷ es) fs h = is_sorted-put R total e.0 e.1 (puts es fs) (puts-sorted es fs h)

  -- ---- a list that is put around an entry

  tail-sorted : (es fs : List (K × X)) → T (is_sorted R (es ++ fs)) → T (is_sorted R fs)
  tail-sorted [] fs h = h
  tail-sorted (e ∷ es) fs h = tail-sorted es fs (second (below_all R e.0 (es ++ fs)) (is_sorted R (es ++ fs)) h)

  pub take-sorted : (n : ℕ) (es : List (K × X)) → T (is_sorted R es) → T (is_sorted R (take n es))
  take-sorted n es h = left-sorted (take n es) (drop n es) (subst (λ xs. T (is_sorted R xs)) (sym (take-append-drop n es)) h)

  -- the value of the first entry, where its key ties with that one
  abbrev pub first_tied : K → List (K × X) → Option X
  first_tied k es = option_and_then (λ e. cond (is_eq (R e.0 k)) (Some e.1) None) (slice_get es 0)

  pub above-rest : (k : K) (es : List (K × X)) → T (is_sorted R es) → StartsFrom k es → first_tied k es ≡ None → AreAbove k es
  above-rest k [] h from none = tt
  above-rest k (e ∷ es) h from none = go (is_eq (R e.0 k)) refl none
    where
      go : (b : Bool) → is_eq (R e.0 k) ≡ b → cond b (Some e.1) None ≡ None → AreAbove k (e ∷ es)
      go true p q = let wrong : true ≡ false = ap is_some q in cc
      go false p q = rest-above k e es h from p

  pub puts-around : (es ls : List (K × X)) (e : K × X) (rs : List (K × X)) → T (is_sorted R es) → T (is_sorted R (ls ++ e ∷ rs)) → first_tied e.0 (drop (lesser_in e.0 es) es) ≡ None
      → puts es (ls ++ e ∷ rs) ≡ puts (take (lesser_in e.0 es) es) ls ++ e ∷ puts (drop (lesser_in e.0 es) es) rs
  puts-around es ls e rs h k none =
      let n : ℕ = lesser_in e.0 es in
      ap (λ xs. puts xs (ls ++ e ∷ rs)) (sym (take-append-drop n es))
      ∙ puts-apart (take n es) (drop n es) ls e rs (taken-below e.0 es) (above-rest e.0 (drop n es) (drop-sorted n es h) (rest-starts e.0 es) none) (lefts-below ls e rs k)

  pub tied-first : (k : K) (es : List (K × X)) (x : X) → first_tied k es ≡ Some x → (d : K × X) × (es ≡ d ∷ drop 1 es) × (R d.0 k ≡ Equal) × (d.1 ≡ x)
  tied-first k [] x p = let wrong : true ≡ false = sym (ap is_some p) in cc
  tied-first k (e ∷ es) x p = go (R e.0 k) refl p
    where
      go : (o : Ordering) → R e.0 k ≡ o → cond (is_eq o) (Some e.1) None ≡ Some x → (d : K × X) × (e ∷ es ≡ d ∷ drop 1 (e ∷ es)) × (R d.0 k ≡ Equal) × (d.1 ≡ x)
      go Less q r = let wrong : true ≡ false = sym (ap is_some r) in cc
      go Equal q r = (e, refl, q, ap (λ o. unwrap_or o e.1) r)
      go Greater q r = let wrong : true ≡ false = sym (ap is_some r) in cc

  pub puts-in-place : (es ls : List (K × X)) (e : K × X) (rs : List (K × X)) (x : X) → T (is_sorted R es) → T (is_sorted R (ls ++ e ∷ rs)) → first_tied e.0 (drop (lesser_in e.0 es) es) ≡ Some x
      → puts es (ls ++ e ∷ rs) ≡ puts (take (lesser_in e.0 es) es) ls ++ (e.0, x) ∷ puts (drop 1 (drop (lesser_in e.0 es) es)) rs
  puts-in-place es ls e rs x h k some =
      let n : ℕ = lesser_in e.0 es in
      let it = tied-first e.0 (drop n es) x some in
      let behind : List (K × X) = drop 1 (drop n es) in
      ap (λ xs. puts xs (ls ++ e ∷ rs)) (sym (take-append-drop n es) ∙ ap (λ xs. take n es ++ xs) it.1)
      ∙ puts-over (take n es) it.0 behind ls e rs (taken-below e.0 es) it.2
      (behind-tied e.0 it.0 behind (subst (λ xs. T (is_sorted R xs)) it.1 (drop-sorted n es h)) it.2) (lefts-below ls e rs k)
      ∙ ap (λ y. puts (take n es) ls ++ (e.0, y) ∷ puts behind rs) it.3

-- ---- what stands at each of several keys

module _ {K X W : Type 0} {R : K → K → Ordering} (total : IsTotalOrder R) (g : K × X → Option X → W) where
  -- what each of the second entries comes to with what the first have at its key
  abbrev pub looks : List (K × X) → List (K × X) → List W
  looks es ds = list_map (λ d. g d (find R d.0 es)) ds

  looks-left : (ds ls : List (K × X)) (e : K × X) (rs : List (K × X)) → AreBelow total e.0 ds → T (is_sorted R (ls ++ e ∷ rs)) → looks (ls ++ e ∷ rs) ds ≡ looks ls ds
  looks-left [] ls e rs h k = refl
  looks-left (d ∷ ds) ls e rs h k = λ i. g d (find-left total d.0 ls e rs k h.0 i) ∷ looks-left ds ls e rs h.1 k i

  looks-right : (ds ls : List (K × X)) (e : K × X) (rs : List (K × X)) → AreAbove total e.0 ds → T (is_sorted R (ls ++ e ∷ rs)) → looks (ls ++ e ∷ rs) ds ≡ looks rs ds
  looks-right [] ls e rs h k = refl
  looks-right (d ∷ ds) ls e rs h k = λ i. g d (find-right total d.0 ls e rs k h.0 i) ∷ looks-right ds ls e rs h.1 k i

  -- lesser keys are looked up to the left of an entry, and greater ones to its right
  pub looks-around : (es ls : List (K × X)) (e : K × X) (rs : List (K × X)) → T (is_sorted R es) → T (is_sorted R (ls ++ e ∷ rs)) → first_tied total e.0 (drop (lesser_in total e.0 es) es) ≡ None
      → looks (ls ++ e ∷ rs) es ≡ looks ls (take (lesser_in total e.0 es) es) ++ looks rs (drop (lesser_in total e.0 es) es)
  looks-around es ls e rs h k none =
      let n : ℕ = lesser_in total e.0 es in
      ap (looks (ls ++ e ∷ rs)) (sym (take-append-drop n es))
      ∙ map-append (λ d. g d (find R d.0 (ls ++ e ∷ rs))) (take n es) (drop n es)
      ∙ (λ i. looks-left (take n es) ls e rs (taken-below total e.0 es) k i ++ looks-right (drop n es) ls e rs (above-rest total e.0 (drop n es) (drop-sorted total n es h) (rest-starts total e.0 es) none) k i)

  -- and one of the same key is found there
  pub looks-in-place : ((a b : K) → R a b ≡ Equal → a ≡ b) → (es ls : List (K × X)) (e : K × X) (rs : List (K × X)) (x : X) → T (is_sorted R es) → T (is_sorted R (ls ++ e ∷ rs))
      → first_tied total e.0 (drop (lesser_in total e.0 es) es) ≡ Some x
      → looks (ls ++ e ∷ rs) es ≡ looks ls (take (lesser_in total e.0 es) es) ++ g (e.0, x) (Some e.1) ∷ looks rs (drop 1 (drop (lesser_in total e.0 es) es))
  looks-in-place exact es ls e rs x h k some =
      let n : ℕ = lesser_in total e.0 es in
      let it = tied-first total e.0 (drop n es) x some in
      let behind : List (K × X) = drop 1 (drop n es) in
      ap (looks (ls ++ e ∷ rs)) (sym (take-append-drop n es) ∙ ap (λ xs. take n es ++ xs) it.1)
      ∙ map-append (λ d. g d (find R d.0 (ls ++ e ∷ rs))) (take n es) (it.0 ∷ behind)
      ∙ (λ i. looks-left (take n es) ls e rs (taken-below total e.0 es) k i
      ++ g (exact it.0.0 e.0 it.2 i, it.3 i) (find-here total it.0.0 ls e rs k it.2 i)
      ∷ looks-right behind ls e rs (behind-tied total e.0 it.0 behind (subst (λ xs. T (is_sorted R xs)) it.1 (drop-sorted total n es h)) it.2) k i)
