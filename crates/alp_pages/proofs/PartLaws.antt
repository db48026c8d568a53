-- Which parts a volume has, what they name, and that what is named is named by one part.
use Rattle.std.specs.Prelude.{◌⊎◌, Bool, true, false, cond, ◌==◌, Option, None, Some, slice_index_or, map as list_map}
use Rattle.std.specs.List.{flat_map, range_with_len, enumerate_from}
use Rattle.std.proofs.Common.{◌≡◌, ℕ, ◌<◌, ◌+◌, ◌-◌, ◌*◌, List, ◌++◌, length, inl, inr, refl, sym, ◌∙◌, ap, subst, arith, eq-eqb}
use Rattle.std.proofs.lemmas.Bool.{cond-false}
use Rattle.alp_fields.specs.Forms.{whole}
use Rattle.alp_pages.specs.Leader.{leader_page}
use Rattle.alp_pages.specs.declared.entry.Entry.{Entry}
use Rattle.alp_pages.specs.Nodes.{Node, LeaderOf, IndexOf}
use Rattle.alp_pages.specs.Pages.{Pages, entry_in}
use Rattle.alp_pages.specs.Volume.{child_of, row_of_node}
use Rattle.alp_pages.specs.Damage.{Part, Header, Slot, OwnerRow, NodePage, Name, entry_there, row_there, child_name, names_of, size_of, index_part, parts_of, parts}
use Rattle.alp_pages.proofs.NamingLaws.{eqb_other}
use Rattle.alp_pages.proofs.Members.{In, in-left, in-right, in-append, in-map, in-map-back, in-filter_map, in-filter_map-back, in-flat_map, in-flat_map-back, in-range, in-range-back, in-enumerate, in-enumerate-back}

-- ---- rows

pub row-names : (k : Node) (row : List ℕ) (j q : ℕ) → slice_index_or row j 0 ≡ q → 0 < q → In (child_of k j, q) (names_of k row)
row-names k row j q e some =
    in-filter_map (child_name k) (j, q) (child_of k j, q) (enumerate_from 0 row)
    (subst (λ (n : ℕ). In (n, q) (enumerate_from 0 row)) (let n : 0 + j ≡ j = omega arith in n) (in-enumerate 0 j row q e some))
    (cond-false (q == 0) None (Some (child_of k j, q)) (eqb_other q 0 (λ z. omega arith)))

pub record Named (k : Node) (row : List ℕ) (x : Node) (q : ℕ) : Type 0 where
  pub j : ℕ
  pub child : x ≡ child_of k j
  pub within : j < length row
  pub says : slice_index_or row j 0 ≡ q
  pub some : 0 < q

pub row-names-back : (k : Node) (row : List ℕ) (x : Node) (q : ℕ) → In (x, q) (names_of k row) → Named k row x q
row-names-back k row x q i =
    let b = in-filter_map-back (child_name k) (x, q) (enumerate_from 0 row) i in
    let e = in-enumerate-back 0 b.0.0 b.0.1 row b.1 in
    go b.0.0 b.0.1 e.0 e.1 e.2 e.3 (b.0.1 == 0) refl b.2
  where
    go : (n p j : ℕ) → n ≡ 0 + j → j < length row → slice_index_or row j 0 ≡ p → (t : Bool) → (p == 0) ≡ t → cond {A = Option Name} t None (Some (child_of k n, p)) ≡ Some (x, q) → Named k row x q
    go n p j num low says true z h = cc
    go n p j num low says false z h =
        let same : ◌≡◌ {A = Name} (child_of k n, p) (x, q) = cc in
        let place : p ≡ q = ap (λ (y : Name). y.1) same in
        let number : n ≡ j = omega (arith, num) in
        let some : 0 < p = positive p z in
        record {
          j = j;
          child = sym (ap (λ (y : Name). y.0) same) ∙ ap (child_of k) number;
          within = low;
          says = says ∙ place;
          some = subst (λ (y : ℕ). 0 < y) place some;
        }
      where
        positive : (p : ℕ) → (p == 0) ≡ false → 0 < p
        positive p z = let ne : p ≡ 0 → ⊥ = λ e. (let yes = eq-eqb p 0 e in cc) in omega (arith, ne)

-- ---- parts

module _ (at : Pages) where
  -- behind the rows of owners, and behind the slots
  abbrev pub pages_of_nodes : List Part
  pages_of_nodes = flat_map (λ s. parts_of at (entry_there (entry_in at s))) (range_with_len 0 4096)

  abbrev pub behind_slots : List Part
  behind_slots = list_map OwnerRow (range_with_len 0 256) ++ pages_of_nodes

  pub slot-part : (s : ℕ) → s < 4096 → In (Slot s) (parts at)
  unfolding parts
  slot-part s low = inr (in-left (Slot s) (list_map Slot (range_with_len 0 4096)) behind_slots (in-map Slot s (range_with_len 0 4096) (in-range s 0 4096 (omega arith) (omega arith))))

  pub row-part : (r : ℕ) → r < 256 → In (OwnerRow r) (parts at)
  unfolding parts
  row-part r low =
      inr (in-right (OwnerRow r) (list_map Slot (range_with_len 0 4096)) behind_slots
      (in-left (OwnerRow r) (list_map OwnerRow (range_with_len 0 256)) pages_of_nodes (in-map OwnerRow r (range_with_len 0 256) (in-range r 0 256 (omega arith) (omega arith)))))

  node-part : (part : Part) (s : ℕ) → s < 4096 → In part (parts_of at (entry_there (entry_in at s))) → In part (parts at)
  unfolding parts
  node-part part s low i =
      inr (in-right part (list_map Slot (range_with_len 0 4096)) behind_slots (in-right part (list_map OwnerRow (range_with_len 0 256)) pages_of_nodes
      (in-flat_map (λ s. parts_of at (entry_there (entry_in at s))) s part (range_with_len 0 4096) (in-range s 0 4096 (omega arith) (omega arith)) i)))

  -- the row of places of a file's leader, and the file's size
  abbrev pub leader_row : Entry → List ℕ
  leader_row e = row_there (row_of_node (LeaderOf e.file) (at e.place))

  abbrev pub leader_size_at : Entry → ℕ
  leader_size_at e = size_of (whole leader_page (at e.place))

  pub leader-part : (s : ℕ) (e : Entry) → s < 4096 → entry_there (entry_in at s) ≡ Some e → In (NodePage (LeaderOf e.file) 32 e.place) (parts at)
  leader-part s e low h = node-part (NodePage (LeaderOf e.file) 32 e.place) s low (subst (λ (o : Option Entry). In (NodePage (LeaderOf e.file) 32 e.place) (parts_of at o)) (sym h) (inl refl))

  pub index-part : (s : ℕ) (e : Entry) (b q : ℕ) → s < 4096 → entry_there (entry_in at s) ≡ Some e → slice_index_or (leader_row e) b 0 ≡ q → 0 < q
      → In (NodePage (IndexOf e.file b) (leader_size_at e - 128 * b) q) (parts at)
  index-part s e b q low h says some =
      node-part part s low (subst (λ (o : Option Entry). In part (parts_of at o)) (sym h) (inr (
      in-filter_map (index_part e.file (leader_size_at e)) (b, q) part (enumerate_from 0 (leader_row e))
      (subst (λ (n : ℕ). In (n, q) (enumerate_from 0 (leader_row e))) (let n : 0 + b ≡ b = omega arith in n) (in-enumerate 0 b (leader_row e) q says some))
      (cond-false (q == 0) None (Some part) (eqb_other q 0 (λ z. omega arith))))))
    where
      part : Part
      part = NodePage (IndexOf e.file b) (leader_size_at e - 128 * b) q

  -- whose page a part is
  pub record IsLeaderPart (part : Part) : Type 0 where
    pub slot : ℕ
    pub entry : Entry
    pub low : slot < 4096
    pub says : entry_there (entry_in at slot) ≡ Some entry
    pub is : part ≡ NodePage (LeaderOf entry.file) 32 entry.place

  pub record IsIndexPart (part : Part) : Type 0 where
    pub slot : ℕ
    pub entry : Entry
    pub block : ℕ
    pub place : ℕ
    pub low : slot < 4096
    pub says : entry_there (entry_in at slot) ≡ Some entry
    pub named : slice_index_or (leader_row entry) block 0 ≡ place
    pub within : block < length (leader_row entry)
    pub some : 0 < place
    pub is : part ≡ NodePage (IndexOf entry.file block) (leader_size_at entry - 128 * block) place

  abbrev pub OfNode : Part → Type 0
  OfNode part = IsLeaderPart part ⊎ IsIndexPart part

  positive : (p : ℕ) → (p == 0) ≡ false → 0 < p
  positive p z = let ne : p ≡ 0 → ⊥ = λ e. (let yes = eq-eqb p 0 e in cc) in omega (arith, ne)

  of_index : (s : ℕ) (e : Entry) → s < 4096 → entry_there (entry_in at s) ≡ Some e → (n p j : ℕ) → n ≡ 0 + j → j < length (leader_row e) → slice_index_or (leader_row e) j 0 ≡ p → (part : Part) (t : Bool) → (p == 0) ≡ t
      → cond t None (Some (NodePage (IndexOf e.file n) (leader_size_at e - 128 * n) p)) ≡ Some part → IsIndexPart part
  of_index s e low h n p j num within says part true z is = cc
  of_index s e low h n p j num within says part false z is =
      let number : n ≡ j = omega (arith, num) in
      let same : NodePage (IndexOf e.file n) (leader_size_at e - 128 * n) p ≡ part = cc in
      record {
        slot = s;
        entry = e;
        block = j;
        place = p;
        low = low;
        says = h;
        named = says;
        within = within;
        some = positive p z;
        is = sym same ∙ ap (λ (b : ℕ). NodePage (IndexOf e.file b) (leader_size_at e - 128 * b) p) number;
      }

  of_entry : (s : ℕ) → s < 4096 → (o : Option Entry) → entry_there (entry_in at s) ≡ o → (part : Part) → In part (parts_of at o) → OfNode part
  of_entry s low None h part i = absurd i
  of_entry s low (Some e) h part i = elim i [
    | inl same ↦ inl (record { slot = s; entry = e; low = low; says = h; is = sym same })
    | inr r ↦ (
        let b = in-filter_map-back (index_part e.file (leader_size_at e)) part (enumerate_from 0 (leader_row e)) r in
        let n = in-enumerate-back 0 b.0.0 b.0.1 (leader_row e) b.1 in
        inr (of_index s e low h b.0.0 b.0.1 n.0 n.1 n.2 n.3 part (b.0.1 == 0) refl b.2)
        )
  ]

  -- each part is the header, a slot, a row, or the page of a node
  pub data Kind (part : Part) : Type 0 where
    OfHeader : part ≡ Header → Kind part
    OfSlot : (s : ℕ) → s < 4096 → part ≡ Slot s → Kind part
    OfRow : (r : ℕ) → r < 256 → part ≡ OwnerRow r → Kind part
    OfPage : OfNode part → Kind part

  pub kind_of : (part : Part) → In part (parts at) → Kind part
  unfolding parts
  kind_of part i = elim i [
    | inl e ↦ OfHeader (sym e)
    | inr r ↦ elim (in-append part (list_map Slot (range_with_len 0 4096)) behind_slots r) [
      | inl a ↦ (let b = in-map-back Slot part (range_with_len 0 4096) a in OfSlot b.0 (in-range-back b.0 0 4096 b.1).1 (sym b.2))
      | inr c ↦ elim (in-append part (list_map OwnerRow (range_with_len 0 256)) pages_of_nodes c) [
        | inl a ↦ (let b = in-map-back OwnerRow part (range_with_len 0 256) a in OfRow b.0 (in-range-back b.0 0 256 b.1).1 (sym b.2))
        | inr d ↦ (
            let b = in-flat_map-back (λ s. parts_of at (entry_there (entry_in at s))) part (range_with_len 0 4096) d in
            OfPage (of_entry b.0 (in-range-back b.0 0 4096 b.1).1 (entry_there (entry_in at b.0)) refl part b.2)
            )
      ]
    ]
  ]
