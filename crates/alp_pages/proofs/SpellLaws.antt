-- Pages without damage spell a volume: which entry, row and place everything has, and what each page says of it.
use Rattle.std.specs.Prelude.{◌⊎◌, true, Option, None, Some, slice_index_or}
use Rattle.std.specs.Option.{option_to_list}
use Rattle.std.proofs.Common.{◌≡◌, ℕ, zero, suc, ◌<◌, ◌+◌, ◌-◌, ◌*◌, List, [], length, inl, inr, refl, sym, ◌∙◌, ap, subst, arith}
use Rattle.alp_base.specs.declared.ids.FileId.{FileId}
use Rattle.alp_fields.proofs.FormLaws.{and_parts}
use Rattle.alp_pages.specs.declared.entry.Entry.{Entry}
use Rattle.alp_pages.specs.Naming.{Naming, IsNaming, number_or_0}
use Rattle.alp_pages.specs.Nodes.{Node, LeaderOf, IndexOf, DataOf}
use Rattle.alp_pages.specs.Pages.{Pages, entry_in}
use Rattle.alp_pages.specs.Rows.{SpellsRow}
use Rattle.alp_pages.specs.Volume.{nodes, child_of, width_of, row_of_node}
use Rattle.alp_pages.specs.Damage.{Part, Header, Slot, OwnerRow, NodePage, Name, place_of, entry_there, row_there, leader_name, names_of, names_in, parts, is_within, is_right_node, names_after}
use Rattle.alp_pages.proofs.LeaderLaws.{row_length}
use Rattle.alp_pages.proofs.Members.{In}
use Rattle.alp_pages.proofs.NamesLaws.{places_by, AreRight, all_are_names, placed, origin, is_read_in}
use Rattle.alp_pages.proofs.PartLaws.{Named, row-names, row-names-back, slot-part, leader-part, index-part, leader_row, leader_size_at, OfNode, Kind, OfHeader, OfSlot, OfRow, OfPage, kind_of}

-- the node of a node's page
abbrev pub node_in : Part → Node
node_in Header = LeaderOf (record { server = 0; epoch = 0; counter = 0 })
node_in (Slot s) = LeaderOf (record { server = 0; epoch = 0; counter = 0 })
node_in (OwnerRow r) = LeaderOf (record { server = 0; epoch = 0; counter = 0 })
node_in (NodePage k limit place) = k

abbrev pub limit_in : Part → ℕ
limit_in Header = 0
limit_in (Slot s) = 0
limit_in (OwnerRow r) = 0
limit_in (NodePage k limit place) = limit

abbrev pub node_file : Node → FileId
node_file (LeaderOf f) = f
node_file (IndexOf f b) = f
node_file (DataOf f n) = f

abbrev pub node_number : Node → ℕ
node_number (LeaderOf f) = 0
node_number (IndexOf f b) = b
node_number (DataOf f n) = n

-- the pages of leaders and index pages
abbrev pub IsPage : Node → Type 0
IsPage (LeaderOf f) = Unit {0}
IsPage (IndexOf f b) = Unit {0}
IsPage (DataOf f n) = ⊥

-- a file's entry
pub record HasEntry (at : Pages) (f : FileId) (p : ℕ) : Type 0 where
  pub slot : ℕ
  pub low : slot < 4096
  pub says : entry_there (entry_in at slot) ≡ Some (record { file = f; place = p })

-- a node named by the page of another
pub record HasParent (at : Pages) (k : Node) (p : ℕ) : Type 0 where
  pub parent : Node
  pub limit : ℕ
  pub place : ℕ
  pub part : In (NodePage parent limit place) (parts at)
  pub of : OfNode at (NodePage parent limit place)
  pub named : Named parent (row_there (row_of_node parent (at place))) k p

no_names : (k : Node) (x : Node) (q : ℕ) → In (x, q) (names_of k []) → ⊥
no_names k x q i = let b = row-names-back k [] x q i in (let low = b.within in absurd (omega arith))

module _ (home : ℕ) (at : Pages) (right : AreRight home at [] (parts at)) where
  abbrev pub spelled : Naming Node
  spelled = places_by (names_after at [] (parts at))

  pub spelled-is : IsNaming 257 home spelled
  spelled-is = all_are_names home at (parts at) right

  -- what has a place is a leader with an entry, or named by the page of another node
  slot_origin : (s : ℕ) → s < 4096 → (k : Node) (p : ℕ) (o : Option Entry) → entry_there (entry_in at s) ≡ o → In (k, p) (option_to_list (leader_name o)) → (f : FileId) × (k ≡ LeaderOf f) × HasEntry at f p
  slot_origin s low k p None e i = absurd i
  slot_origin s low k p (Some x) e i = elim i [
    | inl same ↦ (
        let place : x.place ≡ p = ap (λ (y : Name). y.1) same in
        (x.file, sym (ap (λ (y : Name). y.0) same), record { slot = s; low = low; says = e ∙ ap (λ (q : ℕ). Some (record { file = x.file; place = q })) place })
        )
    | inr r ↦ absurd r
  ]

  abbrev Origin : Node → ℕ → Type 0
  Origin k p = ((f : FileId) × (k ≡ LeaderOf f) × HasEntry at f p) ⊎ HasParent at k p

  page_origin : (part : Part) → OfNode at part → In part (parts at) → (k : Node) (p : ℕ) → In (k, p) (names_in at part) → HasParent at k p
  page_origin Header o i k p j = absurd j
  page_origin (OwnerRow r) o i k p j = absurd j
  page_origin (Slot s) o i k p j = elim o [ inl l ↦ (let e = l.is in cc) | inr x ↦ (let e = x.is in cc) ]
  page_origin (NodePage parent limit place) o i k p j =
      record { parent = parent; limit = limit; place = place; part = i; of = o; named = row-names-back parent (row_there (row_of_node parent (at place))) k p j }

  part_origin : (part : Part) → In part (parts at) → (k : Node) (p : ℕ) → In (k, p) (names_in at part) → Kind at part → Origin k p
  part_origin part i k p j (OfHeader e) = absurd (subst (λ (y : Part). In (k, p) (names_in at y)) e j)
  part_origin part i k p j (OfSlot s low e) = inl (slot_origin s low k p (entry_there (entry_in at s)) refl (subst (λ (y : Part). In (k, p) (names_in at y)) e j))
  part_origin part i k p j (OfRow r low e) = absurd (subst (λ (y : Part). In (k, p) (names_in at y)) e j)
  part_origin part i k p j (OfPage o) = inr (page_origin part o i k p j)

  pub origin_of : (k : Node) (p : ℕ) → spelled.of k ≡ Some p → Origin k p
  origin_of k p h = elim (origin home at [] (parts at) k p h) [ inl e ↦ absurd (let no : None ≡ Some p = e in cc) | inr r ↦ part_origin r.0 r.1 k p r.2 (kind_of at r.0 r.1) ]

  -- ---- leaders

  pub leader_entry : (f : FileId) (p : ℕ) → spelled.of (LeaderOf f) ≡ Some p → HasEntry at f p
  leader_entry f p h = elim (origin_of (LeaderOf f) p h) [
    | inl l ↦ (let same : l.0 ≡ f = ap node_file (sym l.1) in subst (λ (g : FileId). HasEntry at g p) same l.2)
    | inr x ↦ absurd (no_leader x.parent x.named.j x.named.child)
  ]
    where
      no_leader : (k : Node) (j : ℕ) → LeaderOf f ≡ child_of k j → ⊥
      no_leader (LeaderOf g) j e = cc
      no_leader (IndexOf g b) j e = cc
      no_leader (DataOf g n) j e = cc

  pub entry_placed : (f : FileId) (p : ℕ) → HasEntry at f p → spelled.of (LeaderOf f) ≡ Some p
  entry_placed f p e =
      placed home at [] (parts at) (Slot e.slot) (LeaderOf f) p right (slot-part at e.slot e.low)
      (subst (λ (o : Option Entry). In (LeaderOf f, p) (option_to_list (leader_name o))) (sym e.says) (inl refl))

  -- ---- pages of nodes

  -- a node's page stands at its place
  pub page_placed : (k : Node) (limit p : ℕ) → OfNode at (NodePage k limit p) → spelled.of k ≡ Some p
  page_placed k limit p o = elim o [
    | inl l ↦ (
        let node : k ≡ LeaderOf l.entry.file = ap node_in l.is in
        let place : p ≡ l.entry.place = ap place_of l.is in
        ap spelled.of node ∙ entry_placed l.entry.file l.entry.place (record { slot = l.slot; low = l.low; says = l.says }) ∙ ap Some (sym place)
        )
    | inr x ↦ (
        let node : k ≡ IndexOf x.entry.file x.block = ap node_in x.is in
        let place : p ≡ x.place = ap place_of x.is in
        ap spelled.of node
        ∙ placed home at [] (parts at) (NodePage (LeaderOf x.entry.file) 32 x.entry.place) (IndexOf x.entry.file x.block) x.place right (leader-part at x.slot x.entry x.low x.says)
        (row-names (LeaderOf x.entry.file) (leader_row at x.entry) x.block x.place x.named x.some)
        ∙ ap Some (sym place)
        )
  ]

  -- whose limit is what its leader's size leaves
  pub record HasPage (k : Node) (p : ℕ) : Type 0 where
    pub limit : ℕ
    pub part : In (NodePage k limit p) (parts at)
    pub of : OfNode at (NodePage k limit p)

  leader_page_of : (f : FileId) (p : ℕ) → HasEntry at f p → HasPage (LeaderOf f) p
  leader_page_of f p e = record {
    limit = 32;
    part = leader-part at e.slot (record { file = f; place = p }) e.low e.says;
    of = inl (record { slot = e.slot; entry = record { file = f; place = p }; low = e.low; says = e.says; is = refl });
  }

  -- an index page is named by its file's leader
  index_page_of : (f : FileId) (b p : ℕ) → HasParent at (IndexOf f b) p → HasPage (IndexOf f b) p
  index_page_of f b p x = go x.parent x.limit x.place x.of x.named
    where
      go : (k : Node) (limit place : ℕ) → OfNode at (NodePage k limit place) → Named k (row_there (row_of_node k (at place))) (IndexOf f b) p → HasPage (IndexOf f b) p
      go (IndexOf g c) limit place o n = let e = n.child in cc
      go (DataOf g c) limit place o n = let e = n.child in cc
      go (LeaderOf g) limit place o n = elim o [
        | inr y ↦ (let e = ap node_in y.is in cc)
        | inl l ↦ (
            let file : g ≡ l.entry.file = ap node_file (ap node_in l.is) in
            let at_place : place ≡ l.entry.place = ap place_of l.is in
            let own : f ≡ l.entry.file = ap node_file n.child ∙ file in
            let block : b ≡ n.j = ap node_number n.child in
            let row : row_there (row_of_node (LeaderOf g) (at place)) ≡ leader_row at l.entry = λ i. row_there (row_of_node (LeaderOf (file i)) (at (at_place i))) in
            let says : slice_index_or (leader_row at l.entry) b 0 ≡ p = ap (λ (r : List ℕ). slice_index_or r b 0) (sym row) ∙ ap (λ (y : ℕ). slice_index_or (row_there (row_of_node (LeaderOf g) (at place))) y 0) block ∙ n.says in
            let within : b < length (leader_row at l.entry) = subst (λ (y : ℕ). y < length (leader_row at l.entry)) (sym block) (subst (λ (r : List ℕ). n.j < length r) row n.within) in
            let node : IndexOf l.entry.file b ≡ IndexOf f b = ap (λ (y : FileId). IndexOf y b) (sym own) in
            record {
              limit = leader_size_at at l.entry - 128 * b;
              part = subst (λ (y : Node). In (NodePage y (leader_size_at at l.entry - 128 * b) p) (parts at)) node (index-part at l.slot l.entry b p l.low l.says says n.some);
              of = inr (record {
                slot = l.slot;
                entry = l.entry;
                block = b;
                place = p;
                low = l.low;
                says = l.says;
                named = says;
                within = within;
                some = n.some;
                is = ap (λ (y : Node). NodePage y (leader_size_at at l.entry - 128 * b) p) (sym node);
              });
            }
            )
      ]

  pub page_of : (k : Node) (p : ℕ) → IsPage k → spelled.of k ≡ Some p → HasPage k p
  page_of (LeaderOf f) p is h = leader_page_of f p (leader_entry f p h)
  page_of (DataOf f n) p is h = absurd is
  page_of (IndexOf f b) p is h = elim (origin_of (IndexOf f b) p h) [ inl l ↦ (let e = l.1 in cc) | inr x ↦ index_page_of f b p x ]

  -- ---- rows

  read_row : (k : Node) (limit p : ℕ) → In (NodePage k limit p) (parts at) → is_within limit (row_of_node k (at p)) ≡ true
  read_row k limit p i = (and_parts (is_right_node at k p) (is_within limit (row_of_node k (at p))) (is_read_in home at [] (parts at) (NodePage k limit p) right i)).1

  row_is : (limit : ℕ) (o : Option (List ℕ)) → is_within limit o ≡ true → (row : List ℕ) × (o ≡ Some row)
  row_is limit None h = cc
  row_is limit (Some row) h = (row, refl)

  -- a child that has a place is named by the page of its parent
  pub child_named : (k : Node) → IsPage k → (p j q : ℕ) → spelled.of k ≡ Some p → j < width_of k → spelled.of (child_of k j) ≡ Some q → slice_index_or (row_there (row_of_node k (at p))) j 0 ≡ q
  child_named (DataOf f n) is p j q here few h = absurd is
  child_named (LeaderOf f) is p j q here few h = elim (origin_of (IndexOf f j) q h) [ inl l ↦ (let e = l.1 in cc) | inr x ↦ go x.parent x.limit x.place x.of x.named ]
    where
      go : (k : Node) (limit place : ℕ) → OfNode at (NodePage k limit place) → Named k (row_there (row_of_node k (at place))) (IndexOf f j) q → slice_index_or (row_there (row_of_node (LeaderOf f) (at p))) j 0 ≡ q
      go (IndexOf g c) limit place o n = let e = n.child in cc
      go (DataOf g c) limit place o n = let e = n.child in cc
      go (LeaderOf g) limit place o n =
          let file : g ≡ f = sym (ap node_file n.child) in
          let number : j ≡ n.j = ap node_number n.child in
          let there : spelled.of (LeaderOf f) ≡ Some place = ap (λ (y : FileId). spelled.of (LeaderOf y)) (sym file) ∙ page_placed (LeaderOf g) limit place o in
          let one : p ≡ place = cc in
          ap (λ (y : ℕ). slice_index_or (row_there (row_of_node (LeaderOf f) (at y))) j 0) one
          ∙ ap (λ (y : FileId). slice_index_or (row_there (row_of_node (LeaderOf y) (at place))) j 0) (sym file)
          ∙ ap (λ (y : ℕ). slice_index_or (row_there (row_of_node (LeaderOf g) (at place))) y 0) number ∙ n.says
  child_named (IndexOf f b) is p j q here few h = elim (origin_of (DataOf f (128 * b + j)) q h) [ inl l ↦ (let e = l.1 in cc) | inr x ↦ go x.parent x.limit x.place x.part x.of x.named ]
    where
      go : (k : Node) (limit place : ℕ) → In (NodePage k limit place) (parts at) → OfNode at (NodePage k limit place) → Named k (row_there (row_of_node k (at place))) (DataOf f (128 * b + j)) q
          → slice_index_or (row_there (row_of_node (IndexOf f b) (at p))) j 0 ≡ q
      go (LeaderOf g) limit place i o n = let e = n.child in cc
      go (DataOf g c) limit place i o n = absurd (no_names (DataOf g c) (DataOf f (128 * b + j)) q (row-names (DataOf g c) [] n.j q n.says n.some))
      go (IndexOf g c) limit place i o n =
          let row = row_is limit (row_of_node (IndexOf g c) (at place)) (read_row (IndexOf g c) limit place i) in
          let long : length row.0 ≡ 128 = row_length (IndexOf g c) (at place) row.0 row.1 in
          let low : n.j < length row.0 = subst (λ (o : Option (List ℕ)). n.j < length (row_there o)) row.1 n.within in
          let file : g ≡ f = sym (ap node_file n.child) in
          let sum : 128 * b + j ≡ 128 * c + n.j = ap node_number n.child in
          let block : c ≡ b = omega (arith, sum, low, long, few) in
          let number : j ≡ n.j = omega (arith, sum, low, long, few) in
          let node : IndexOf g c ≡ IndexOf f b = λ i. IndexOf (file i) (block i) in
          let there : spelled.of (IndexOf f b) ≡ Some place = ap spelled.of (sym node) ∙ page_placed (IndexOf g c) limit place o in
          let one : p ≡ place = cc in
          ap (λ (y : ℕ). slice_index_or (row_there (row_of_node (IndexOf f b) (at y))) j 0) one
          ∙ ap (λ (y : Node). slice_index_or (row_there (row_of_node y (at place))) j 0) (sym node)
          ∙ ap (λ (y : ℕ). slice_index_or (row_there (row_of_node (IndexOf g c) (at place))) y 0) number ∙ n.says

  -- and what its page names has that place
  pub named_child : (k : Node) (p limit j q : ℕ) → In (NodePage k limit p) (parts at) → slice_index_or (row_there (row_of_node k (at p))) j 0 ≡ q → 0 < q → spelled.of (child_of k j) ≡ Some q
  named_child k p limit j q i says some = placed home at [] (parts at) (NodePage k limit p) (child_of k j) q right i (row-names k (row_there (row_of_node k (at p))) j q says some)

  says_row : (k : Node) (is : IsPage k) (p j : ℕ) → spelled.of k ≡ Some p → j < width_of k → slice_index_or (row_there (row_of_node k (at p))) j 0 ≡ number_or_0 (spelled.of (child_of k j))
  says_row k is p j here few = go (spelled.of (child_of k j)) refl
    where
      none : (q : ℕ) → slice_index_or (row_there (row_of_node k (at p))) j 0 ≡ q → spelled.of (child_of k j) ≡ None → q ≡ 0
      none zero e h = refl
      none (suc q) e h =
          let page = page_of k p is here in
          let there = named_child k p page.limit j (suc q) page.part e (omega arith) in cc

      go : (o : Option ℕ) → spelled.of (child_of k j) ≡ o → slice_index_or (row_there (row_of_node k (at p))) j 0 ≡ number_or_0 o
      go None h = none (slice_index_or (row_there (row_of_node k (at p))) j 0) refl h
      go (Some q) h = child_named k is p j q here few h

  rows_of : (k : Node) (is : IsPage k) (p : ℕ) → spelled.of k ≡ Some p → SpellsRow nodes spelled (at p) k
  rows_of k is p h =
      let page = page_of k p is h in
      let row = row_is page.limit (row_of_node k (at p)) (read_row k page.limit p page.part) in
      record {
        row = row.0;
        reads = row.1;
        says = λ j few. ap (λ (o : Option (List ℕ)). slice_index_or (row_there o) j 0) (sym row.1) ∙ says_row k is p j h few;
      }

  pub spells_rows : (k : Node) (p : ℕ) → spelled.of k ≡ Some p → SpellsRow nodes spelled (at p) k
  spells_rows (LeaderOf f) p h = rows_of (LeaderOf f) tt p h
  spells_rows (IndexOf f b) p h = rows_of (IndexOf f b) tt p h
  spells_rows (DataOf f n) p h = record { row = []; reads = refl; says = λ j few. absurd (omega arith) }
