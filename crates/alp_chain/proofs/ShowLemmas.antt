-- links and ends that show lists
use Rattle.std.proofs.Common.{◌≡◌, ℕ, ◌+◌, ◌<◌, ◌≤◌, Bool, true, false, cond, eqb, List, [], ◌∷◌, ◌++◌, Option, None, Some, option_map, length, refl, sym, ◌∙◌, ap, subst, arith, nat_cmp}
use Rattle.std.proofs.lemmas.Bool.{eqb-true, eqb-false}
use Rattle.std.specs.Option.{unwrap_or}
use Rattle.std.specs.FinMap as map
use Rattle.alp_chain.specs.declared.links.Links.{Links}
use Rattle.alp_chain.specs.declared.links.Ends.{Ends}
use Rattle.alp_chain.specs.Linked.{times, without, first_or, last_or, between, AreLinked, walk, ends_between, ends_of, Shows, pushed, bridged, first_left, last_left, ends_left}
use Rattle.alp_chain.specs.Lists.{Lists, list_at, with_list, lists_of}
use Rattle.alp_chain.proofs.KeyLemmas.{get_put, get_cut, same_numbers, get_valued}
use Rattle.alp_chain.proofs.TimesLemmas.{here, times-append, times-without, IsSplit, split_at, without-split, at_most}
use Rattle.alp_chain.proofs.LinkLemmas.{last_or-append, first_or-in, last_in, linked-frame, walked, linked-pushed, pushed-other, bridged-other, link-split, linked-bridged}

-- ---- lists in maps

-- a list, unless it is empty
abbrev pub some_list : List ℕ → Option (List ℕ)
some_list [] = None
some_list (x ∷ xs) = Some (x ∷ xs)

pub get-with_list : (m : Lists) (k : ℕ) (xs : List ℕ) (q : ℕ) → map.get (with_list m k xs) q ≡ cond (eqb q k) (some_list xs) (map.get m q)
get-with_list m k [] q = get_cut m k q
get-with_list m k (x ∷ xs) q = get_put m k (x ∷ xs) q

pub list-some : (xs : List ℕ) (o : Option (List ℕ)) → o ≡ some_list xs → unwrap_or o [] ≡ xs
list-some [] o e = ap (λ (p : Option (List ℕ)). unwrap_or p []) e
list-some (x ∷ xs) o e = ap (λ (p : Option (List ℕ)). unwrap_or p []) e

-- what another list under a number leaves
pub list-with_list : (m : Lists) (k : ℕ) (xs : List ℕ) (j : ℕ) → list_at (with_list m k xs) j ≡ cond (eqb j k) xs (list_at m j)
list-with_list m k xs j = ap (λ (o : Option (List ℕ)). unwrap_or o []) (get-with_list m k xs j) ∙ choose (eqb j k) where
  choose : (t : Bool) → unwrap_or (cond t (some_list xs) (map.get m j)) [] ≡ cond t xs (list_at m j)
  choose true = list-some xs (some_list xs) refl
  choose false = refl

-- ---- what links and ends show

last_some : (x : ℕ) (xs : List ℕ) → (l : ℕ) × (last_or (Some x) xs ≡ Some l)
last_some x [] = (x, refl)
last_some x (y ∷ ys) = last_some y ys

-- the ends of a list that has a node
pub ends-some : (x : ℕ) (xs : List ℕ) → (l : ℕ) × (last_or (Some x) xs ≡ Some l) × (ends_of (x ∷ xs) ≡ Some (record { first = x; last = l }))
ends-some x xs =
    let e = last_some x xs in
    (e.0, e.1, ap (ends_between (Some x)) e.1)

-- what is met from the first end is the list
shown_list : (d : ℕ) (f : ℕ → Links) (xs : List ℕ) → AreLinked f None xs None → length xs ≤ d → option_map (λ (e : Ends). walk d f (Some e.first)) (ends_of xs) ≡ some_list xs
shown_list d f [] r h = refl
shown_list d f (x ∷ xs) r h =
    ap (option_map (λ (e : Ends). walk d f (Some e.first))) (ends-some x xs).2 ∙ ap Some (walked d f (x ∷ xs) None r h)

module _ (d : ℕ) (f : ℕ → Links) (ends : map.FinMap nat_cmp Ends) (lists : ℕ → List ℕ) (s : Shows d f (map.get ends) lists) where
  short : (k : ℕ) → length (lists k) ≤ d
  short k = at_most d (lists k) (s.once k) (s.within k)

  -- the map of lists has just these
  pub get-shown : (k : ℕ) → map.get (lists_of d f ends) k ≡ some_list (lists k)
  get-shown k =
      get_valued (λ (e : Ends). walk d f (Some e.first)) ends k
      ∙ ap (option_map (λ (e : Ends). walk d f (Some e.first))) (s.ends k)
      ∙ shown_list d f (lists k) (s.linked k) (short k)

  pub list-shown : (k : ℕ) → list_at (lists_of d f ends) k ≡ lists k
  list-shown k = list-some (lists k) (map.get (lists_of d f ends) k) (get-shown k)

  -- so it shows what the map has
  pub shows-itself : Shows d f (map.get ends) (list_at (lists_of d f ends))
  shows-itself = subst (Shows d f (map.get ends)) (sym (λ i k. list-shown k i)) s

  -- a map that has the same lists is the same
  pub shown-is : (m : Lists) → ((k : ℕ) → map.get m k ≡ some_list (lists k)) → lists_of d f ends ≡ m
  shown-is m h = same_numbers (lists_of d f ends) m (λ k. get-shown k ∙ sym (h k))

-- ---- one list changes

abbrev pub changed : (ℕ → List ℕ) → ℕ → List ℕ → ℕ → List ℕ
changed lists k xs j = cond (eqb j k) xs (lists j)

-- what holds of the new list and of the others holds of all
pick : (P : List ℕ → Type 0) (j k : ℕ) (xs ys : List ℕ) → (j ≡ k → P xs) → ((j ≡ k → ⊥) → P ys) → P (cond (eqb j k) xs ys)
pick P j k xs ys here there = go (eqb j k) refl where
  go : (t : Bool) → eqb j k ≡ t → P (cond t xs ys)
  go true e = here (eqb-true j k e)
  go false e = there (eqb-false j k e)

-- the new list is one, and takes nothing from the others
pub record IsChange (d : ℕ) (f g : ℕ → Links) (lists : ℕ → List ℕ) (k : ℕ) (xs : List ℕ) : Type 0 where
  pub linked : AreLinked g None xs None
  pub frame : (j n : ℕ) → (j ≡ k → ⊥) → 1 ≤ times n (lists j) → g n ≡ f n
  pub once : (n : ℕ) → times n xs ≤ 1
  pub apart : (j n : ℕ) → (j ≡ k → ⊥) → 1 ≤ times n (lists j) → 1 ≤ times n xs → ⊥
  pub within : (n : ℕ) → 1 ≤ times n xs → n < d

pub shows-changed : (d : ℕ) (f g : ℕ → Links) (ends fins : ℕ → Option Ends) (lists : ℕ → List ℕ) (k : ℕ) (xs : List ℕ)
    → Shows d f ends lists → IsChange d f g lists k xs → ((j : ℕ) → fins j ≡ cond (eqb j k) (ends_of xs) (ends j)) → Shows d g fins (changed lists k xs)
shows-changed d f g ends fins lists k xs s c h = record {
  linked = λ j. pick (λ zs. AreLinked g None zs None) j k xs (lists j) (λ e. c.linked) (λ other. linked-frame f g (lists j) None None (λ n m. c.frame j n other m) (s.linked j));
  ends = λ j. h j ∙ turned (eqb j k) j;
  once = λ j n. pick (λ zs. times n zs ≤ 1) j k xs (lists j) (λ e. c.once n) (λ other. s.once j n);
  apart = λ i j n. pick (λ zs. 1 ≤ times n zs → 1 ≤ times n (changed lists k xs j) → i ≡ j) i k xs (lists i)
      (λ e m. pick (λ zs. 1 ≤ times n zs → i ≡ j) j k xs (lists j) (λ f o. e ∙ sym f) (λ other o. absurd (c.apart j n other o m)))
      (λ not_i m. pick (λ zs. 1 ≤ times n zs → i ≡ j) j k xs (lists j) (λ f o. absurd (c.apart i n not_i m o)) (λ other o. s.apart i j n m o));
  within = λ j n. pick (λ zs. 1 ≤ times n zs → n < d) j k xs (lists j) (λ e m. c.within n m) (λ other m. s.within j n m);
}
  where
    turned : (t : Bool) (j : ℕ) → cond t (ends_of xs) (ends j) ≡ ends_of (cond t xs (lists j))
    turned true j = refl
    turned false j = s.ends j

-- ---- a node after the last of a list

pub last_of_ends : (xs : List ℕ) → option_map (λ (e : Ends). e.last) (ends_of xs) ≡ last_or None xs
last_of_ends [] = refl
last_of_ends (x ∷ xs) = let e = ends-some x xs in ap (option_map (λ (f : Ends). f.last)) e.2 ∙ sym e.1

-- the first of the ends, or the node itself
abbrev pub first_pushed : Option Ends → ℕ → ℕ
first_pushed None n = n
first_pushed (Some e) n = e.first

pub ends-pushed : (xs : List ℕ) (n : ℕ) → Some (record { first = first_pushed (ends_of xs) n; last = n }) ≡ ends_of (xs ++ n ∷ [])
ends-pushed [] n = refl
ends-pushed (x ∷ xs) n =
    let e = ends-some x xs in
    let last : last_or (Some x) (xs ++ n ∷ []) ≡ Some n = last_or-append (Some x) xs (n ∷ []) in
    ap (λ (o : Option Ends). Some (record { first = first_pushed o n; last = n })) e.2 ∙ sym (ap (ends_between (Some x)) last)

pub pushed-change : (d : ℕ) (f : ℕ → Links) (ends : ℕ → Option Ends) (lists : ℕ → List ℕ) (k n : ℕ) → Shows d f ends lists → ((j : ℕ) → times n (lists j) ≡ 0) → n < d
    → IsChange d f (pushed f (last_or None (lists k)) n) lists k (lists k ++ n ∷ [])
pushed-change d f ends lists k n s fresh h = record {
  linked = linked-pushed f (lists k) n (s.linked k) (s.once k) (fresh k);
  frame = λ j m other here. pushed-other f (last_or None (lists k)) n m (λ e. not_new j m here e) (λ e. other (s.apart j k m here (last_in m (lists k) e)));
  once = λ m. counted m (eqb m n) refl (s.once k m);
  apart = λ j m other here there. among j m other here (eqb m n) refl there;
  within = λ m there. inside m (eqb m n) refl there;
}
  where
    not_new : (j m : ℕ) → 1 ≤ times m (lists j) → m ≡ n → ⊥
    not_new j m here e = let some : 1 ≤ times n (lists j) = subst (λ (z : ℕ). 1 ≤ times z (lists j)) e here in let none : times n (lists j) ≡ 0 = fresh j in omega arith

    none_of : (m : ℕ) → eqb m n ≡ true → times m (lists k) ≡ 0
    none_of m e = let same : m ≡ n = eqb-true m n e in subst (λ (z : ℕ). times z (lists k) ≡ 0) (sym same) (fresh k)

    whole : (m : ℕ) (t : Bool) → eqb m n ≡ t → times m (lists k ++ n ∷ []) ≡ times m (lists k) + (cond t 1 0 + 0)
    whole m t e = times-append m (lists k) (n ∷ []) ∙ ap (λ (u : Bool). times m (lists k) + (cond u 1 0 + 0)) e

    counted : (m : ℕ) (t : Bool) → eqb m n ≡ t → times m (lists k) ≤ 1 → times m (lists k ++ n ∷ []) ≤ 1
    counted m true e f = let none = none_of m e in let all = whole m true e in omega arith
    counted m false e f = let all = whole m false e in omega arith

    among : (j m : ℕ) → (j ≡ k → ⊥) → 1 ≤ times m (lists j) → (t : Bool) → eqb m n ≡ t → 1 ≤ times m (lists k ++ n ∷ []) → ⊥
    among j m other here true e there = not_new j m here (eqb-true m n e)
    among j m other here false e there = let all = whole m false e in other (s.apart j k m here (omega arith))

    inside : (m : ℕ) (t : Bool) → eqb m n ≡ t → 1 ≤ times m (lists k ++ n ∷ []) → m < d
    inside m true e there = let same : m ≡ n = eqb-true m n e in omega arith
    inside m false e there = let all = whole m false e in s.within k m (omega arith)

-- ---- a node taken off

pub ends-bridged : (ys zs : List ℕ) (n : ℕ) (e : Ends) → ends_of (ys ++ n ∷ zs) ≡ Some e → ends_left (between (last_or None ys) (first_or zs None)) e ≡ ends_of (ys ++ zs)
ends-bridged ys zs n e h =
    ap₂' (first ys h) (last zs h)
  where
    ap₂' : {a b c d : Option ℕ} → a ≡ b → c ≡ d → ends_between a c ≡ ends_between b d
    ap₂' p q i = ends_between (p i) (q i)

    first : (us : List ℕ) → ends_of (us ++ n ∷ zs) ≡ Some e → first_left (last_or None us) (first_or zs None) e.first ≡ first_or (us ++ zs) None
    first [] g = refl
    first (u ∷ us) g =
        let l = last_some u us in
        let m = ends-some u (us ++ n ∷ zs) in
        let same : Some e ≡ Some (record { first = u; last = m.0 }) = sym g ∙ m.2 in
        let begin : e.first ≡ u = cc in
        ap (λ (o : Option ℕ). first_left o (first_or zs None) e.first) l.1 ∙ ap Some begin

    -- the last of the whole is the last of what comes after
    ended : (us : List ℕ) (w : ℕ) (ws : List ℕ) → last_or None (us ++ n ∷ w ∷ ws) ≡ last_or (Some w) ws
    ended us w ws = last_or-append None us (n ∷ w ∷ ws)

    last : (ws : List ℕ) → ends_of (ys ++ n ∷ ws) ≡ Some e → last_left (last_or None ys) (first_or ws None) e.last ≡ last_or None (ys ++ ws)
    last [] g = sym (last_or-append None ys [])
    last (w ∷ ws) g =
        let whole : option_map (λ (f : Ends). f.last) (ends_of (ys ++ n ∷ w ∷ ws)) ≡ last_or None (ys ++ n ∷ w ∷ ws) = last_of_ends (ys ++ n ∷ w ∷ ws) in
        let at : Some e.last ≡ last_or None (ys ++ n ∷ w ∷ ws) = sym (ap (option_map (λ (f : Ends). f.last)) g) ∙ whole in
        at ∙ ended ys w ws ∙ sym (last_or-append None ys (w ∷ ws))

module _ (d : ℕ) (f : ℕ → Links) (ends : ℕ → Option Ends) (lists : ℕ → List ℕ) (k n : ℕ) (s : Shows d f ends lists) (there : 1 ≤ times n (lists k)) where
  pub cut : IsSplit n (lists k)
  cut = split_at n (lists k) there

  pub link-there : f n ≡ between (last_or None cut.left) (first_or cut.right None)
  link-there = link-split f cut.left cut.right n (subst (λ (xs : List ℕ). AreLinked f None xs None) cut.whole (s.linked k))

  rest : without n (lists k) ≡ cut.left ++ cut.right
  rest = ap (without n) cut.whole ∙ without-split n cut.left cut.right (subst (λ (xs : List ℕ). times n xs ≤ 1) cut.whole (s.once k n))

  pub ends-left : (e : Ends) → ends k ≡ Some e → ends_left (f n) e ≡ ends_of (without n (lists k))
  ends-left e h =
      ap (λ (l : Links). ends_left l e) link-there
      ∙ ends-bridged cut.left cut.right n e (ap ends_of (sym cut.whole) ∙ sym (s.ends k) ∙ h)
      ∙ ap ends_of (sym rest)

  fewer : (m : ℕ) → times m (without n (lists k)) ≤ times m (lists k)
  fewer m = less (eqb n m) (times-without n m (lists k)) where
    less : (t : Bool) → times m (without n (lists k)) ≡ cond t 0 (times m (lists k)) → times m (without n (lists k)) ≤ times m (lists k)
    less true e = omega arith
    less false e = omega arith

  -- a neighbour is on the same list
  pub near_before : (m : ℕ) → (f n).before ≡ Some m → 1 ≤ times m (lists k)
  near_before m e =
      let left_end : last_or None cut.left ≡ Some m = sym (ap (λ (l : Links). l.before) link-there) ∙ e in
      let held : 1 ≤ times m cut.left = last_in m cut.left left_end in
      let all : times m (lists k) ≡ times m cut.left + times m (n ∷ cut.right) = ap (times m) cut.whole ∙ times-append m cut.left (n ∷ cut.right) in
      omega arith

  pub near_next : (m : ℕ) → (f n).next ≡ Some m → 1 ≤ times m (lists k)
  near_next m e =
      let right_end : first_or cut.right None ≡ Some m = sym (ap (λ (l : Links). l.next) link-there) ∙ e in
      let held : 1 ≤ times m cut.right = first_or-in m cut.right right_end in
      let all : times m (lists k) ≡ times m cut.left + times m (n ∷ cut.right) = ap (times m) cut.whole ∙ times-append m cut.left (n ∷ cut.right) in
      omega arith

  pub bridged-change : IsChange d f (bridged f (f n)) lists k (without n (lists k))
  bridged-change = record {
    linked = subst (λ (l : Links). AreLinked (bridged f l) None (without n (lists k)) None) (sym link-there)
        (subst (λ (xs : List ℕ). AreLinked (bridged f (between (last_or None cut.left) (first_or cut.right None))) None xs None) (sym rest)
        (linked-bridged f cut.left cut.right n (subst (λ (xs : List ℕ). AreLinked f None xs None) cut.whole (s.linked k)) (λ x. subst (λ (xs : List ℕ). times x xs ≤ 1) cut.whole (s.once k x))));
    frame = λ j m other here. bridged-other f (f n) m (λ e. other (s.apart j k m here (near_before m e))) (λ e. other (s.apart j k m here (near_next m e)));
    once = λ m. let most = s.once k m in let less = fewer m in omega arith;
    apart = λ j m other here h. let less = fewer m in other (s.apart j k m here (omega arith));
    within = λ m h. let less = fewer m in s.within k m (omega arith);
  }

-- ---- links that are the same, and more room

pub shows-same : (d e : ℕ) (f g : ℕ → Links) (ends : ℕ → Option Ends) (lists : ℕ → List ℕ) → d ≤ e → ((k n : ℕ) → 1 ≤ times n (lists k) → g n ≡ f n) → Shows d f ends lists → Shows e g ends lists
shows-same d e f g ends lists long same s = record {
  linked = λ k. linked-frame f g (lists k) None None (same k) (s.linked k);
  ends = s.ends;
  once = s.once;
  apart = s.apart;
  within = λ k n h. let held = s.within k n h in omega arith;
}

-- no lists at all
pub shows-none : (d : ℕ) (f : ℕ → Links) (ends : ℕ → Option Ends) → ((k : ℕ) → ends k ≡ None) → Shows d f ends (λ k. [])
shows-none d f ends h = record {
  linked = λ k. tt;
  ends = h;
  once = λ k n. omega arith;
  apart = λ j k n p q. absurd (omega arith);
  within = λ k n p. absurd (omega arith);
}
