-- Names that are new, one after the other, are names one to one.
use Rattle.std.specs.Prelude.{◌⊎◌, Bool, true, false, cond, not, ◌&&◌, ◌||◌, ◌==◌, nat_le, nat_lt, None, Some}
use Rattle.std.proofs.Common.{◌≡◌, ℕ, ◌<◌, ◌≤◌, List, [], ◌∷◌, inl, inr, refl, sym, ◌∙◌, ap, subst, eq-eqb}
use Rattle.std.proofs.lemmas.Bool.{eqb-true, cond-true, cond-false, leb-true, ltb-true}
use Rattle.alp_fields.proofs.FormLaws.{and_parts}
use Rattle.alp_pages.specs.Naming.{Naming, IsNaming, nameless, named_all}
use Rattle.alp_pages.specs.Nodes.{Node, same_node}
use Rattle.alp_pages.specs.Pages.{Pages}
use Rattle.alp_pages.specs.Damage.{Part, Name, has_node, has_place, is_new, are_new, added, names_in, is_read, is_right, first_wrong, place_of, names_after}
use Rattle.alp_pages.proofs.NamingLaws.{named-is}
use Rattle.alp_pages.proofs.NodeTests.{nodes_tell, same_node-true, same_node-itself}
use Rattle.alp_pages.proofs.Members.{In}

abbrev pub places_by : List Name → Naming Node
places_by names = named_all same_node names

nameless-is : (lo hi : ℕ) → IsNaming {K = Node} lo hi nameless
nameless-is lo hi = record { there = λ k p e. cc; back = λ p k e. cc; least = λ k p e. cc; most = λ k p e. cc }

-- who is not named has no number, and where nothing is named nothing stands
pub no_node : (k : Node) (xs : List Name) → has_node k xs ≡ false → (places_by xs).of k ≡ None
no_node k [] h = refl
no_node k (x ∷ xs) h = go (same_node k x.0) refl (no_node k xs) h
  where
    go : (t : Bool) → same_node k x.0 ≡ t → (has_node k xs ≡ false → (places_by xs).of k ≡ None) → (t || has_node k xs) ≡ false → cond (same_node k x.0) (Some x.1) ((places_by xs).of k) ≡ None
    go true e rest r = cc
    go false e rest r = cond-false (same_node k x.0) (Some x.1) ((places_by xs).of k) e ∙ rest r

pub no_place : (p : ℕ) (xs : List Name) → has_place p xs ≡ false → (places_by xs).at p ≡ None
no_place p [] h = refl
no_place p (x ∷ xs) h = go (x.1 == p) refl (no_place p xs) h
  where
    flip : (x.1 == p) ≡ false → (p == x.1) ≡ false
    flip e = other (p == x.1) refl
      where
        other : (t : Bool) → (p == x.1) ≡ t → t ≡ false
        other true d = let same : x.1 ≡ p = sym (eqb-true p x.1 d) in let yes : (x.1 == p) ≡ true = eq-eqb x.1 p same in cc
        other false d = refl

    go : (t : Bool) → (x.1 == p) ≡ t → (has_place p xs ≡ false → (places_by xs).at p ≡ None) → (t || has_place p xs) ≡ false → cond (p == x.1) (Some x.0) ((places_by xs).at p) ≡ None
    go true e rest r = cc
    go false e rest r = cond-false (p == x.1) (Some x.0) ((places_by xs).at p) (flip e) ∙ rest r

not_true : (t : Bool) → not t ≡ true → t ≡ false
not_true true h = cc
not_true false h = refl

pub record IsNew (home : ℕ) (before : List Name) (x : Name) : Type 0 where
  pub least : 257 ≤ x.1
  pub most : x.1 < home
  pub node : has_node x.0 before ≡ false
  pub place : has_place x.1 before ≡ false

pub new_parts : (home : ℕ) (before : List Name) (x : Name) → is_new home before x ≡ true → IsNew home before x
new_parts home before x h =
    let one = and_parts (nat_le 257 x.1 && nat_lt x.1 home && not (has_node x.0 before)) (not (has_place x.1 before)) h in
    let two = and_parts (nat_le 257 x.1 && nat_lt x.1 home) (not (has_node x.0 before)) one.0 in
    let three = and_parts (nat_le 257 x.1) (nat_lt x.1 home) two.0 in
    record { least = leb-true _ _ three.0; most = ltb-true _ _ three.1; node = not_true _ two.1; place = not_true _ one.1 }

module _ (home : ℕ) where
  abbrev pub AreNames : List Name → Type 0
  AreNames xs = IsNaming 257 home (places_by xs)

  one_more : (before : List Name) (x : Name) → AreNames before → IsNew home before x → AreNames (x ∷ before)
  one_more before x is new = named-is nodes_tell (places_by before) is x.0 x.1 (no_node x.0 before new.node) (no_place x.1 before new.place) new.least new.most

  -- a name keeps its place as others are named
  keeps : (before : List Name) (x : Name) (k : Node) (p : ℕ) → IsNew home before x → (places_by before).of k ≡ Some p → (places_by (x ∷ before)).of k ≡ Some p
  keeps before x k p new h = go (same_node k x.0) refl
    where
      go : (t : Bool) → same_node k x.0 ≡ t → cond (same_node k x.0) (Some x.1) ((places_by before).of k) ≡ Some p
      go true e =
          let same : k ≡ x.0 = same_node-true k x.0 e in
          let none : (places_by before).of k ≡ None = ap (places_by before).of same ∙ no_node x.0 before new.node in
          cc
      go false e = cond-false (same_node k x.0) (Some x.1) ((places_by before).of k) e ∙ h

  pub names_added : (before xs : List Name) → AreNames before → are_new home before xs ≡ true → AreNames (added before xs)
  names_added before [] is h = is
  names_added before (x ∷ xs) is h = let parts = and_parts _ _ h in names_added (x ∷ before) xs (one_more before x is (new_parts home before x parts.0)) parts.1

  pub keeps_all : (before xs : List Name) (k : Node) (p : ℕ) → are_new home before xs ≡ true → (places_by before).of k ≡ Some p → (places_by (added before xs)).of k ≡ Some p
  keeps_all before [] k p h e = e
  keeps_all before (x ∷ xs) k p h e = let parts = and_parts _ _ h in keeps_all (x ∷ before) xs k p parts.1 (keeps before x k p (new_parts home before x parts.0) e)

  -- what is named has its place
  pub placed_all : (before xs : List Name) (k : Node) (p : ℕ) → are_new home before xs ≡ true → In (k, p) xs → (places_by (added before xs)).of k ≡ Some p
  placed_all before [] k p h i = absurd i
  placed_all before (x ∷ xs) k p h i =
      let parts = and_parts _ _ h in
      elim i [
        | inl e ↦ keeps_all (x ∷ before) xs k p parts.1 (
            cond-true (same_node k x.0) (Some x.1) ((places_by before).of k) (ap (λ (y : Name). same_node k y.0) e ∙ same_node-itself k) ∙ ap (λ (y : Name). Some y.1) e)
        | inr r ↦ placed_all (x ∷ before) xs k p parts.1 r
      ]

  -- and what has a place was named
  pub origin_of : (before xs : List Name) (k : Node) (p : ℕ) → (places_by (added before xs)).of k ≡ Some p → ((places_by before).of k ≡ Some p) ⊎ In (k, p) xs
  origin_of before [] k p h = inl h
  origin_of before (x ∷ xs) k p h = elim (origin_of (x ∷ before) xs k p h) [ inl e ↦ go (same_node k x.0) refl e | inr r ↦ inr (inr r) ]
    where
      go : (t : Bool) → same_node k x.0 ≡ t → cond t (Some x.1) ((places_by before).of k) ≡ Some p → ((places_by before).of k ≡ Some p) ⊎ In (k, p) (x ∷ xs)
      go true e q =
          let node : x.0 ≡ k = sym (same_node-true k x.0 e) in
          let place : x.1 ≡ p = cc in
          inr (inl (λ i. (node i, place i)))
      go false e q = inl q

-- ---- parts that are right

abbrev pub AreRight : ℕ → Pages → List Name → List Part → Type 0
AreRight home at before [] = Unit {0}
AreRight home at before (part ∷ rest) = (is_right home at before part ≡ true) × AreRight home at (added before (names_in at part)) rest

pub none_wrong : (home : ℕ) (at : Pages) (before : List Name) (parts : List Part) → first_wrong home at before parts ≡ None → AreRight home at before parts
none_wrong home at before [] h = tt
none_wrong home at before (part ∷ rest) h = go (is_right home at before part) refl (none_wrong home at (added before (names_in at part)) rest) h
  where
    go : (t : Bool) → is_right home at before part ≡ t → (first_wrong home at (added before (names_in at part)) rest ≡ None → AreRight home at (added before (names_in at part)) rest)
        → cond t (first_wrong home at (added before (names_in at part)) rest) (Some (place_of part)) ≡ None → AreRight home at before (part ∷ rest)
    go true e later r = (e, later r)
    go false e later r = cc

pub right_none : (home : ℕ) (at : Pages) (before : List Name) (parts : List Part) → AreRight home at before parts → first_wrong home at before parts ≡ None
right_none home at before [] h = refl
right_none home at before (part ∷ rest) h =
    cond-true (is_right home at before part) (first_wrong home at (added before (names_in at part)) rest) (Some (place_of part)) h.0 ∙ right_none home at (added before (names_in at part)) rest h.1

module _ (home : ℕ) (at : Pages) where
  pub are_names : (before : List Name) (parts : List Part) → AreNames home before → AreRight home at before parts → AreNames home (names_after at before parts)
  are_names before [] is h = is
  are_names before (part ∷ rest) is h =
      are_names (added before (names_in at part)) rest (names_added home before (names_in at part) is (and_parts _ _ h.0).1) h.1

  pub all_are_names : (parts : List Part) → AreRight home at [] parts → AreNames home (names_after at [] parts)
  all_are_names parts h = are_names [] parts (nameless-is 257 home) h

  still_placed : (before : List Name) (parts : List Part) (k : Node) (p : ℕ) → AreRight home at before parts → (places_by before).of k ≡ Some p → (places_by (names_after at before parts)).of k ≡ Some p
  still_placed before [] k p h e = e
  still_placed before (part ∷ rest) k p h e = still_placed (added before (names_in at part)) rest k p h.1 (keeps_all home before (names_in at part) k p (and_parts _ _ h.0).1 e)

  -- what a part names has its place
  pub placed : (before : List Name) (parts : List Part) (part : Part) (k : Node) (p : ℕ) → AreRight home at before parts → In part parts → In (k, p) (names_in at part) → (places_by (names_after at before parts)).of k ≡ Some p
  placed before [] part k p h i j = absurd i
  placed before (x ∷ rest) part k p h i j = elim i [
    | inl e ↦ still_placed (added before (names_in at x)) rest k p h.1
        (placed_all home before (names_in at x) k p (and_parts _ _ h.0).1 (subst (λ (y : Part). In (k, p) (names_in at y)) (sym e) j))
    | inr r ↦ placed (added before (names_in at x)) rest part k p h.1 r j
  ]

  -- what has a place is named by some part
  pub origin : (before : List Name) (parts : List Part) (k : Node) (p : ℕ) → (places_by (names_after at before parts)).of k ≡ Some p
      → ((places_by before).of k ≡ Some p) ⊎ ((part : Part) × In part parts × In (k, p) (names_in at part))
  origin before [] k p h = inl h
  origin before (x ∷ rest) k p h = elim (origin (added before (names_in at x)) rest k p h) [
    | inl e ↦ elim (origin_of home before (names_in at x) k p e) [ inl q ↦ inl q | inr r ↦ inr (x, inl refl, r) ]
    | inr r ↦ inr (r.0, inr r.1, r.2)
  ]

  -- each part is read
  pub is_read_in : (before : List Name) (parts : List Part) (part : Part) → AreRight home at before parts → In part parts → is_read at part ≡ true
  is_read_in before [] part h i = absurd i
  is_read_in before (x ∷ rest) part h i = elim i [
    | inl e ↦ ap (is_read at) (sym e) ∙ (and_parts _ _ h.0).0
    | inr r ↦ is_read_in (added before (names_in at x)) rest part h.1 r
  ]
