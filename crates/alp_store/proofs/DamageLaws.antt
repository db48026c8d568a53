-- The first damaged page is a home page.
use Rattle.std.specs.Prelude.{Bool, true, false, cond, ◌==◌, ◌*◌, ◌-◌, Option, None, Some, map as list_map}
use Rattle.std.specs.Option.{option_to_list}
use Rattle.std.specs.List.{AllByRecursion, filter_map, cons_option, flat_map, range_with_len, enumerate_from}
use Rattle.std.proofs.Common.{◌≡◌, ◌≤◌, ◌<◌, ◌+◌, ℕ, zero, suc, List, [], ◌∷◌, ◌++◌, refl, sym, ◌∙◌, ap, subst, arith}
use Rattle.alp_base.specs.declared.ids.FileId.{FileId}
use Rattle.alp_fields.specs.Forms.{whole}
use Rattle.alp_fields.proofs.FormLaws.{and_parts}
use Rattle.alp_pages.specs.Leader.{leader_page}
use Rattle.alp_pages.specs.declared.entry.Entry.{Entry}
use Rattle.alp_pages.specs.Nodes.{Node, LeaderOf, IndexOf}
use Rattle.alp_pages.specs.Pages.{Pages, entry_in}
use Rattle.alp_pages.specs.Volume.{row_of_node, child_of}
use Rattle.alp_pages.specs.Damage.{Part, Header, Slot, OwnerRow, NodePage, Name, place_of, parts, parts_of, damage_of, first_wrong, is_right, is_read, are_new, is_new, added, names_in, child_name, leader_name, index_part, size_of, row_there, entry_there}
use Rattle.alp_pages.proofs.NamesLaws.{new_parts}

module _ (home : ℕ) (at : Pages) (least : 257 ≤ home) where
  abbrev Lie : List Part → Type 0
  Lie xs = AllByRecursion (λ x. place_of x < home) xs

  -- whatever was named before, the first page that is wrong among these lies in the volume
  abbrev Within : List Part → Type 0
  Within xs = (before : List Name) (p : ℕ) → first_wrong home at before xs ≡ Some p → p < home

  -- one part that lies there, and what follows where it is right
  one : (x : Part) (xs : List Part) → place_of x < home → ((before : List Name) (p : ℕ) → is_right home at before x ≡ true → first_wrong home at (added before (names_in at x)) xs ≡ Some p → p < home) → Within (x ∷ xs)
  one x xs low rest before p e = go (is_right home at before x) refl e
    where
      go : (t : Bool) → is_right home at before x ≡ t → cond t (first_wrong home at (added before (names_in at x)) xs) (Some (place_of x)) ≡ Some p → p < home
      go true right h = rest before p right h
      go false wrong h = let same : place_of x ≡ p = cc in subst (λ (n : ℕ). n < home) same low

  skip : (xs ys : List Part) → Lie xs → Within ys → Within (xs ++ ys)
  skip [] ys low rest = rest
  skip (x ∷ xs) ys low rest = one x (xs ++ ys) low.0 (λ before p right h. skip xs ys low.1 rest (added before (names_in at x)) p h)

  -- ---- the index pages that a leader names

  indices : (k : Node) (f : FileId) (size : ℕ) (xs : List (ℕ × ℕ)) (before : List Name) → are_new home before (filter_map (child_name k) xs) ≡ true → Lie (filter_map (index_part f size) xs)
  indices k f size [] before h = tt
  indices k f size (x ∷ xs) before h = go (x.1 == 0) (λ names new. indices k f size xs names new) h
    where
      go : (t : Bool) → ((names : List Name) → are_new home names (filter_map (child_name k) xs) ≡ true → Lie (filter_map (index_part f size) xs)) → are_new home before (cons_option (cond t None (Some (child_of k x.0, x.1))) (filter_map (child_name k) xs)) ≡ true → Lie (cons_option (cond t None (Some (NodePage (IndexOf f x.0) (size - 128 * x.0) x.1))) (filter_map (index_part f size) xs))
      go true rest e = rest before e
      go false rest e =
          let both = and_parts _ _ e in
          ((new_parts home before (child_of k x.0, x.1) both.0).most, rest ((child_of k x.0, x.1) ∷ before) both.1)

  -- ---- a file's leader with its index pages

  file : (o : Option Entry) (rest : List Part) → ((e : Entry) → o ≡ Some e → e.place < home) → Within rest → Within (parts_of at o ++ rest)
  file None rest low more = more
  file (Some e) rest low more =
      let k = LeaderOf e.file in
      let size = size_of (whole leader_page (at e.place)) in
      let row = enumerate_from 0 (row_there (row_of_node k (at e.place))) in
      one (NodePage k 32 e.place) (filter_map (index_part e.file size) row ++ rest) (low e refl)
      (λ before p right h. (
      let new = (and_parts (is_read at (NodePage k 32 e.place)) (are_new home before (names_in at (NodePage k 32 e.place))) right).1 in
      skip (filter_map (index_part e.file size) row) rest (indices k e.file size row before new) more (added before (names_in at (NodePage k 32 e.place))) p h
      ))

  abbrev HasPlaces : List ℕ → Type 0
  HasPlaces ss = AllByRecursion (λ s. (e : Entry) → entry_there (entry_in at s) ≡ Some e → e.place < home) ss

  files : (ss : List ℕ) → HasPlaces ss → Within (flat_map (λ s. parts_of at (entry_there (entry_in at s))) ss)
  files [] low = λ before p h. cc
  files (s ∷ ss) low = file (entry_there (entry_in at s)) (flat_map (λ s. parts_of at (entry_there (entry_in at s))) ss) low.0 (files ss low.1)

  -- ---- owners, and the directory

  rows : (rs : List ℕ) (ys : List Part) → AllByRecursion (λ r. r < 256) rs → Within ys → Within (list_map OwnerRow rs ++ ys)
  rows [] ys low more = more
  rows (r ∷ rs) ys low more = one (OwnerRow r) (list_map OwnerRow rs ++ ys) (let few : r < 256 = low.0 in omega (arith, few, least)) (λ before p right h. rows rs ys low.1 more (added before (names_in at (OwnerRow r))) p h)

  slots : (ss : List ℕ) (ys : List Part) → AllByRecursion (λ s. s < 4096) ss → (HasPlaces ss → Within ys) → Within (list_map Slot ss ++ ys)
  slots [] ys low more = more tt
  slots (s ∷ ss) ys low more = one (Slot s) (list_map Slot ss ++ ys) (let few : s < 4096 = low.0 in omega (arith, few, least))
      (λ before p right h. slots ss ys low.1 (λ has. more (λ e there. place before right e there, has)) (added before (names_in at (Slot s))) p h)
    where
      place : (before : List Name) → is_right home at before (Slot s) ≡ true → (e : Entry) → entry_there (entry_in at s) ≡ Some e → e.place < home
      place before right e there =
          let new = (and_parts (is_read at (Slot s)) (are_new home before (names_in at (Slot s))) right).1 in
          let first : are_new home before ((LeaderOf e.file, e.place) ∷ []) ≡ true = ap (λ (o : Option Entry). are_new home before (option_to_list (leader_name o))) (sym there) ∙ new in
          (new_parts home before (LeaderOf e.file, e.place) (and_parts (is_new home before (LeaderOf e.file, e.place)) (are_new home ((LeaderOf e.file, e.place) ∷ before) []) first).0).most

ranged : (a n m : ℕ) → a + n ≤ m → AllByRecursion (λ s. s < m) (range_with_len a n)
ranged a zero m h = tt
ranged a (suc n) m h = (omega arith, ranged (a + 1) n m (omega arith))

pub damage_within : (home p : ℕ) (at : Pages) → 257 ≤ home → damage_of home at ≡ Some p → p < home
unfolding damage_of parts
damage_within home p at least h =
    let all = range_with_len 0 4096 in
    let nodes = flat_map (λ (s : ℕ). parts_of at (entry_there (entry_in at s))) all in
    let owned = list_map OwnerRow (range_with_len 0 256) ++ nodes in
    one home at least Header (list_map Slot all ++ owned) (omega arith)
    (λ before q right e. slots home at least all owned (ranged 0 4096 4096 (omega arith))
    (λ has. rows home at least (range_with_len 0 256) nodes (ranged 0 256 256 (omega arith)) (files home at least all has))
    (added before (names_in at Header)) q e)
    [] p h
