-- nodes in their slots that stand on lists
use Rattle.std.proofs.Common.{◌≡◌, ℕ, ◌+◌, ◌≤◌, Bool, true, false, cond, eqb, List, [], ◌∷◌, ◌++◌, Option, None, Some, option_map, IsSome, slice_get, refl, sym, ◌∙◌, ap, subst, arith, nat_cmp}
use Rattle.std.proofs.lemmas.Bool.{eqb-true}
use Rattle.std.specs.FinMap as map
use Rattle.slab.specs.Slab.{Slab, get}
use Rattle.alp_chain.specs.declared.links.Links.{Links}
use Rattle.alp_chain.specs.declared.links.Ends.{Ends}
use Rattle.alp_chain.specs.declared.node.Node.{Node}
use Rattle.alp_chain.specs.declared.node.Way.{Way}
use Rattle.alp_chain.specs.Linked.{times, without, first_or, last_or, ends_of, ends_left, AreLinked, Shows, pushed, bridged}
use Rattle.alp_chain.specs.Lists.{Lists, list_at, with_list, taken_off, next_in}
use Rattle.alp_chain.specs.Heads.{first_in}
use Rattle.alp_chain.specs.Nodes.{sides, lists_in, IsBounded, AreListed, KeepsRest, IsThere}
use Rattle.alp_chain.proofs.KeyLemmas.{get_put}
use Rattle.alp_chain.proofs.TimesLemmas.{times-append, times-without}
use Rattle.alp_chain.proofs.LinkLemmas.{last_in}
use Rattle.alp_chain.proofs.ShowLemmas.{some_list, get-with_list, get-shown, list-shown, shows-itself, shown-is, ends-some, changed, IsChange, shows-changed, last_of_ends, first_pushed, ends-pushed, pushed-change, ends-left, bridged-change, near_before, near_next, shows-same}

-- where a view stands a node stands
pub some-kept : (a b : Option Node) → option_map (λ (v : Node). v.view) b ≡ option_map (λ (v : Node). v.view) a → IsSome a → IsSome b
some-kept None b e h = absurd (cc)
some-kept (Some v) None e h = absurd (cc)
some-kept (Some v) (Some w) e h = refl

-- ---- the same lists in other slots

module _ (way : Way) (s t : Slab Node) (es : map.FinMap nat_cmp Ends) (l : AreListed way s es) (long : s.capacity ≤ t.capacity)
    (same : (k n : ℕ) → 1 ≤ times n (list_at (lists_in way s es) k) → sides way t n ≡ sides way s n) where
  shown : Shows t.capacity (sides way t) (map.get es) (list_at (lists_in way s es))
  shown = shows-same s.capacity t.capacity (sides way s) (sides way t) (map.get es) (list_at (lists_in way s es)) long same l.shows

  pub lists-kept : lists_in way t es ≡ lists_in way s es
  lists-kept = shown-is t.capacity (sides way t) es (list_at (lists_in way s es)) shown (lists_in way s es) (get-shown s.capacity (sides way s) es (list_at (lists_in way s es)) l.shows)

  pub listed-kept : ((k n : ℕ) → 1 ≤ times n (list_at (lists_in way s es) k) → IsSome (get t n)) → AreListed way t es
  listed-kept there = record {
    shows = shows-itself t.capacity (sides way t) es (list_at (lists_in way s es)) shown;
    there = λ k n h. there k n (subst (λ (m : Lists). 1 ≤ times n (list_at m k)) lists-kept h);
  }

-- ---- one list changes

module _ (way : Way) (s t : Slab Node) (es fs : map.FinMap nat_cmp Ends) (k : ℕ) (xs : List ℕ) (g : ℕ → Links) (l : AreListed way s es) (rest : KeepsRest way s t)
    (change : IsChange s.capacity (sides way s) g (list_at (lists_in way s es)) k xs) (links : (n : ℕ) → sides way t n ≡ g n)
    (ends : (j : ℕ) → map.get fs j ≡ cond (eqb j k) (ends_of xs) (map.get es j)) where
  now : Shows t.capacity (sides way t) (map.get fs) (changed (list_at (lists_in way s es)) k xs)
  now =
      let long : s.capacity ≤ t.capacity = omega (arith, rest.capacity) in
      let there : Shows s.capacity g (map.get fs) (changed (list_at (lists_in way s es)) k xs) =
      shows-changed s.capacity (sides way s) g (map.get es) (map.get fs) (list_at (lists_in way s es)) k xs l.shows change ends in
      shows-same s.capacity t.capacity g (sides way t) (map.get fs) (changed (list_at (lists_in way s es)) k xs) long (λ j n h. links n) there

  chosen : (t : Bool) (j : ℕ) → cond t (some_list xs) (some_list (list_at (lists_in way s es) j)) ≡ some_list (cond t xs (list_at (lists_in way s es) j))
  chosen true j = refl
  chosen false j = refl

  pub lists-changed : lists_in way t fs ≡ with_list (lists_in way s es) k xs
  lists-changed = shown-is t.capacity (sides way t) fs (changed (list_at (lists_in way s es)) k xs) now (with_list (lists_in way s es) k xs) (λ j.
      get-with_list (lists_in way s es) k xs j
      ∙ ap (cond (eqb j k) (some_list xs)) (get-shown s.capacity (sides way s) es (list_at (lists_in way s es)) l.shows j)
      ∙ chosen (eqb j k) j)

  pub listed-changed : ((n : ℕ) → 1 ≤ times n xs → IsSome (get s n)) → AreListed way t fs
  listed-changed held = record {
    shows = shows-itself t.capacity (sides way t) fs (changed (list_at (lists_in way s es)) k xs) now;
    there = λ j n h. some-kept (get s n) (get t n) (rest.views n)
        (either (eqb j k) j n (subst (λ (ys : List ℕ). 1 ≤ times n ys) (list-shown t.capacity (sides way t) fs (changed (list_at (lists_in way s es)) k xs) now j) h));
  }
    where
      either : (b : Bool) (j n : ℕ) → 1 ≤ times n (cond b xs (list_at (lists_in way s es) j)) → IsSome (get s n)
      either true j n h = held n h
      either false j n h = l.there j n h

-- ---- members at the ends

pub last_member : (xs : List ℕ) (e : Ends) → ends_of xs ≡ Some e → 1 ≤ times e.last xs
last_member [] e f = absurd (cc)
last_member (x ∷ xs) e f =
    let m = ends-some x xs in
    let same : Some e ≡ Some (record { first = x; last = m.0 }) = sym f ∙ m.2 in
    let end : e.last ≡ m.0 = cc in
    last_in e.last (x ∷ xs) (m.1 ∙ ap Some (sym end))

pub ends_there : (n : ℕ) (xs : List ℕ) → 1 ≤ times n xs → ends_of xs ≡ None → ⊥
ends_there n [] h e = omega arith
ends_there n (x ∷ xs) h e = let m = ends-some x xs in let same : ◌≡◌ {A = Option Ends} (Some (record { first = x; last = m.0 })) None = sym m.2 ∙ e in cc

-- ---- a node after the last

module _ (way : Way) (s : Slab Node) (es : map.FinMap nat_cmp Ends) (k n : ℕ) (l : AreListed way s es) where
  pub last-of : option_map (λ (e : Ends). e.last) (map.get es k) ≡ last_or None (list_at (lists_in way s es) k)
  last-of = ap (option_map (λ (e : Ends). e.last)) (l.shows.ends k) ∙ last_of_ends (list_at (lists_in way s es) k)

  pub last-there : (e : Ends) → map.get es k ≡ Some e → IsSome (get s e.last)
  last-there e h = l.there k e.last (last_member (list_at (lists_in way s es) k) e (sym (l.shows.ends k) ∙ h))

  -- what is pushed
  pub push-change : IsBounded s → IsSome (get s n) → ((j : ℕ) → times n (list_at (lists_in way s es) j) ≡ 0)
      → IsChange s.capacity (sides way s) (pushed (sides way s) (option_map (λ (e : Ends). e.last) (map.get es k)) n) (list_at (lists_in way s es)) k (list_at (lists_in way s es) k ++ n ∷ [])
  push-change bounded held fresh =
      subst (λ (o : Option ℕ). IsChange s.capacity (sides way s) (pushed (sides way s) o n) (list_at (lists_in way s es)) k (list_at (lists_in way s es) k ++ n ∷ []))
      (sym last-of) (pushed-change s.capacity (sides way s) (map.get es) (list_at (lists_in way s es)) k n l.shows fresh (bounded n held))

  pub push-ends : (fs : map.FinMap nat_cmp Ends) (e : Ends) → fs ≡ map.insert es k e → e ≡ record { first = first_pushed (map.get es k) n; last = n }
      → (j : ℕ) → map.get fs j ≡ cond (eqb j k) (ends_of (list_at (lists_in way s es) k ++ n ∷ [])) (map.get es j)
  push-ends fs e put is j =
      ap (λ (m : map.FinMap nat_cmp Ends). map.get m j) put ∙ get_put es k e j
      ∙ ap (λ (o : Option Ends). cond (eqb j k) o (map.get es j))
      (ap Some is ∙ ap (λ (o : Option Ends). Some (record { first = first_pushed o n; last = n })) (l.shows.ends k) ∙ ends-pushed (list_at (lists_in way s es) k) n)

  pub push-there : IsSome (get s n) → (m : ℕ) → 1 ≤ times m (list_at (lists_in way s es) k ++ n ∷ []) → IsSome (get s m)
  push-there held m h = go (eqb m n) refl where
    go : (b : Bool) → eqb m n ≡ b → IsSome (get s m)
    go true e = subst (λ (x : ℕ). IsSome (get s x)) (sym (eqb-true m n e)) held
    go false e =
        let whole : times m (list_at (lists_in way s es) k ++ n ∷ []) ≡ times m (list_at (lists_in way s es) k) + (cond (eqb m n) 1 0 + 0) = times-append m (list_at (lists_in way s es) k) (n ∷ []) in
        let none : ◌≡◌ {A = ℕ} (cond (eqb m n) 1 0) 0 = ap (λ (b : Bool). cond b 1 0) e in
        l.there k m (omega arith)

-- ---- a node taken off

module _ (way : Way) (s : Slab Node) (es : map.FinMap nat_cmp Ends) (k n : ℕ) (l : AreListed way s es) (held : 1 ≤ times n (list_at (lists_in way s es) k)) where
  pub before-there : IsThere s (sides way s n).before
  before-there = go (sides way s n).before refl where
    go : (o : Option ℕ) → (sides way s n).before ≡ o → IsThere s o
    go None e = tt
    go (Some m) e = l.there k m (near_before s.capacity (sides way s) (map.get es) (list_at (lists_in way s es)) k n l.shows held m e)

  pub next-there : IsThere s (sides way s n).next
  next-there = go (sides way s n).next refl where
    go : (o : Option ℕ) → (sides way s n).next ≡ o → IsThere s o
    go None e = tt
    go (Some m) e = l.there k m (near_next s.capacity (sides way s) (map.get es) (list_at (lists_in way s es)) k n l.shows held m e)

  pub ends-there : map.get es k ≡ None → ⊥
  ends-there e = ends_there n (list_at (lists_in way s es) k) held (sym (l.shows.ends k) ∙ e)

  pub take-change : IsChange s.capacity (sides way s) (bridged (sides way s) (sides way s n)) (list_at (lists_in way s es)) k (without n (list_at (lists_in way s es) k))
  take-change = bridged-change s.capacity (sides way s) (map.get es) (list_at (lists_in way s es)) k n l.shows held

  pub take-ends : (fs : map.FinMap nat_cmp Ends) (e : Ends) → map.get es k ≡ Some e → ((j : ℕ) → map.get fs j ≡ cond (eqb j k) (ends_left (sides way s n) e) (map.get es j))
      → (j : ℕ) → map.get fs j ≡ cond (eqb j k) (ends_of (without n (list_at (lists_in way s es) k))) (map.get es j)
  take-ends fs e h put j =
      put j ∙ ap (λ (o : Option Ends). cond (eqb j k) o (map.get es j)) (ends-left s.capacity (sides way s) (map.get es) (list_at (lists_in way s es)) k n l.shows held e h)

  pub take-there : (m : ℕ) → 1 ≤ times m (without n (list_at (lists_in way s es) k)) → IsSome (get s m)
  take-there m h = l.there k m (go (eqb n m) (times-without n m (list_at (lists_in way s es) k))) where
    go : (b : Bool) → times m (without n (list_at (lists_in way s es) k)) ≡ cond b 0 (times m (list_at (lists_in way s es) k)) → 1 ≤ times m (list_at (lists_in way s es) k)
    go true e = absurd (omega arith)
    go false e = omega arith

-- what is left when the node is taken off
module _ (way : Way) (s t : Slab Node) (es fs : map.FinMap nat_cmp Ends) (k n : ℕ) (l : AreListed way s es) (held : 1 ≤ times n (list_at (lists_in way s es) k)) (rest : KeepsRest way s t)
    (over : Links) (over_is : sides way s n ≡ over) (links : (m : ℕ) → sides way t m ≡ bridged (sides way s) over m)
    (e : Ends) (had : map.get es k ≡ Some e) (left : Option Ends) (left_is : left ≡ ends_left over e) (put : (j : ℕ) → map.get fs j ≡ cond (eqb j k) left (map.get es j)) where
  taken_links : (m : ℕ) → sides way t m ≡ bridged (sides way s) (sides way s n) m
  taken_links m = links m ∙ ap (λ (o : Links). bridged (sides way s) o m) (sym over_is)

  taken_ends : (j : ℕ) → map.get fs j ≡ cond (eqb j k) (ends_of (without n (list_at (lists_in way s es) k))) (map.get es j)
  taken_ends = take-ends way s es k n l held fs e had (λ j. put j ∙ ap (λ (o : Option Ends). cond (eqb j k) o (map.get es j)) (left_is ∙ ap (λ (o : Links). ends_left o e) (sym over_is)))

  pub taken-lists : lists_in way t fs ≡ taken_off (lists_in way s es) k n
  taken-lists = lists-changed way s t es fs k (without n (list_at (lists_in way s es) k)) (bridged (sides way s) (sides way s n)) l rest (take-change way s es k n l held) taken_links taken_ends

  pub taken-listed : AreListed way t fs
  taken-listed = listed-changed way s t es fs k (without n (list_at (lists_in way s es) k)) (bridged (sides way s) (sides way s n)) l rest (take-change way s es k n l held) taken_links taken_ends (take-there way s es k n l held)

-- ---- walks

first_get : (xs : List ℕ) → first_or xs None ≡ slice_get xs 0
first_get [] = refl
first_get (x ∷ xs) = refl

first_end : (xs : List ℕ) → option_map (λ (e : Ends). e.first) (ends_of xs) ≡ slice_get xs 0
first_end [] = refl
first_end (x ∷ xs) = ap (option_map (λ (e : Ends). e.first)) (ends-some x xs).2

next_step : (f : ℕ → Links) (n x : ℕ) (xs : List ℕ) (t : Bool) → eqb n x ≡ t → (f x).next ≡ slice_get xs 0 → 1 ≤ cond t 1 0 + times n xs → (1 ≤ times n xs → (f n).next ≡ next_in n xs) → (f n).next ≡ cond t (slice_get xs 0) (next_in n xs)
next_step f n x xs true e next h ih = ap (λ (m : ℕ). (f m).next) (eqb-true n x e) ∙ next
next_step f n x xs false e next h ih = ih (omega arith)

linked_next : (f : ℕ → Links) (b : Option ℕ) (n : ℕ) (xs : List ℕ) → AreLinked f b xs None → 1 ≤ times n xs → (f n).next ≡ next_in n xs
linked_next f b n [] r h = absurd (omega arith)
linked_next f b n (x ∷ xs) r h = next_step f n x xs (eqb n x) refl (ap (λ (l : Links). l.next) r.0 ∙ first_get xs) h (linked_next f (Some x) n xs r.1)

-- the first node of a list, and the one after a node
module _ (way : Way) (s : Slab Node) (es : map.FinMap nat_cmp Ends) (k : ℕ) (l : AreListed way s es) where
  pub first-is : first_in es k ≡ slice_get (list_at (lists_in way s es) k) 0
  first-is = ap (option_map (λ (e : Ends). e.first)) (l.shows.ends k) ∙ first_end (list_at (lists_in way s es) k)

  pub next-is : (n : ℕ) → 1 ≤ times n (list_at (lists_in way s es) k) → (sides way s n).next ≡ next_in n (list_at (lists_in way s es) k)
  next-is n h = linked_next (sides way s) None n (list_at (lists_in way s es) k) (l.shows.linked k) h
