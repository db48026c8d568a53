-- What the first page of a block makes of a volume: the page, its index page, and the leader that names it.
use Rattle.std.specs.Prelude.{Bool, true, false, cond, ◌==◌, is_some, Option, None, Some, option_map, slice_index_or, slice_set}
use Rattle.std.specs.Ordering.{eq_by_cmp}
use Rattle.std.proofs.Common.{◌≡◌, ℕ, ◌<◌, ◌≤◌, ◌+◌, ◌*◌, ◌/◌, ◌%◌, List, [], ◌∷◌, refl, sym, ◌∙◌, ap, subst, arith, eq-eqb}
use Rattle.std.proofs.lemmas.Bool.{eqb-true, cond-true, cond-false}
use Rattle.std.proofs.lemmas.List.{get_or-set_same, get_or-set_other}
use Rattle.alp_base.specs.declared.ids.FileId.{FileId}
use Rattle.alp_base.specs.declared.key.Key.TheVariants.{Leader, PageOf}
use Rattle.alp_base.specs.Keys.{key_cmp}
use Rattle.alp_fields.specs.Forms.{whole}
use Rattle.alp_base.specs.declared.cell.Cell.TheVariants as cell
use Rattle.alp_files.specs.Cells.{View}
use Rattle.alp_files.specs.Edits.{Put, after}
use Rattle.alp_pages.specs.Leader.{leader_page}
use Rattle.alp_pages.specs.Naming.{Naming, IsNaming, named, number_or_0}
use Rattle.alp_pages.specs.Nodes.{Node, LeaderOf, IndexOf, DataOf, same_node}
use Rattle.alp_pages.specs.Pages.{Pages, written, entry_in, row_in}
use Rattle.alp_pages.specs.Rows.{SpellsRow}
use Rattle.alp_pages.specs.Volume.{Volume, Spells, nodes, child_of, width_of, props_cell}
use Rattle.alp_pages.specs.Changes.{NamesOne, NamesBlock}
use Rattle.alp_pages.proofs.GrowLaws.{not_same, some_is}
use Rattle.alp_pages.proofs.LeaderLaws.{leader_places}
use Rattle.alp_pages.proofs.NamingLaws.{apart, fresh, eqb_other, named-is}
use Rattle.alp_pages.proofs.NodeTests.{nodes_tell, same_node-true, same_node-itself, pages_alike}
use Rattle.alp_pages.proofs.SpellLaws.{node_file, node_number}
use Rattle.alp_pages.proofs.UnnamedLaws.{written_same, written_other, low_page, low_entries, low_rows}

module _ (home : ℕ) (at : Pages) (v : Volume) (m : View) (s : Spells home at v m) (f : FileId) (n lp i p : ℕ) (leader : v.places.of (LeaderOf f) ≡ Some lp) (few : n < 4096) (no_index : v.places.of (IndexOf f (n / 128)) ≡ None)
    (free_i : v.places.at i ≡ None) (free_p : v.places.at p ≡ None) (ne_places : i ≡ p → ⊥) (in_i : (257 ≤ i) × (i < home)) (in_p : (257 ≤ p) × (p < home))
    (bytes ix lbytes : List ℕ) (one_page : NamesOne ix (n % 128) p) (block : NamesBlock f (at lp) lbytes (n / 128) i) where
  abbrev b : ℕ
  b = n / 128

  abbrev index : Node
  index = IndexOf f (n / 128)

  abbrev mid : Naming Node
  mid = named same_node (IndexOf f (n / 128)) i v.places

  abbrev places : Naming Node
  places = named same_node (DataOf f n) p mid

  abbrev pages : Pages
  pages = written lp lbytes (written i ix (written p bytes at))

  -- no page of the block has a place
  no_page : (j : ℕ) → j / 128 ≡ n / 128 → v.places.of (DataOf f j) ≡ None
  no_page j same = go (v.places.of (DataOf f j)) refl
    where
      go : (o : Option ℕ) → v.places.of (DataOf f j) ≡ o → o ≡ None
      go None e = refl
      go (Some d) e =
          let yes = s.shape.block f j d e in
          let none : is_some (v.places.of (IndexOf f (j / 128))) ≡ false = ap (λ (x : ℕ). is_some (v.places.of (IndexOf f x))) same ∙ ap is_some no_index in
          cc

  mid-is : IsNaming 257 home mid
  mid-is = named-is nodes_tell v.places s.shape.places (IndexOf f (n / 128)) i no_index free_i in_i.0 in_i.1

  mid_free : mid.at p ≡ None
  mid_free = cond-false (p == i) (Some index) (v.places.at p) (eqb_other p i (λ z. ne_places (sym z))) ∙ free_p

  mid_none : mid.of (DataOf f n) ≡ None
  mid_none = no_page n refl

  places-is : IsNaming 257 home places
  places-is = named-is nodes_tell mid mid-is (DataOf f n) p mid_none mid_free in_p.0 in_p.1

  own_page : places.of (DataOf f n) ≡ Some p
  own_page = cond-true (same_node (DataOf f n) (DataOf f n)) (Some p) (mid.of (DataOf f n)) (same_node-itself (DataOf f n))

  own_index : places.of (IndexOf f (n / 128)) ≡ Some i
  own_index = cond-true (same_node (IndexOf f (n / 128)) (IndexOf f (n / 128))) (Some i) (v.places.of (IndexOf f (n / 128))) (same_node-itself (IndexOf f (n / 128)))

  other_of : (k : Node) → (k ≡ DataOf f n → ⊥) → (k ≡ IndexOf f (n / 128) → ⊥) → places.of k ≡ v.places.of k
  other_of k page ind =
      cond-false (same_node k (DataOf f n)) (Some p) (mid.of k) (not_same k (DataOf f n) page) ∙ cond-false (same_node k (IndexOf f (n / 128))) (Some i) (v.places.of k) (not_same k (IndexOf f (n / 128)) ind)

  -- what has a place is the page, its index page, or what had one
  data Placed (k : Node) (q : ℕ) : Type 0 where
    IsThePage : k ≡ DataOf f n → q ≡ p → Placed k q
    IsTheIndex : k ≡ IndexOf f (n / 128) → q ≡ i → Placed k q
    WasPlaced : (k ≡ DataOf f n → ⊥) → (k ≡ IndexOf f (n / 128) → ⊥) → v.places.of k ≡ Some q → Placed k q

  placed : (k : Node) (q : ℕ) → places.of k ≡ Some q → Placed k q
  placed k q h = go (same_node k (DataOf f n)) refl h
    where
      away : (a : Node) → same_node k a ≡ false → k ≡ a → ⊥
      away a e z = let yes : same_node k a ≡ true = ap (λ (y : Node). same_node y a) z ∙ same_node-itself a in cc

      next : same_node k (DataOf f n) ≡ false → (t : Bool) → same_node k (IndexOf f (n / 128)) ≡ t → cond t (Some i) (v.places.of k) ≡ Some q → Placed k q
      next a true e r = IsTheIndex (same_node-true k (IndexOf f (n / 128)) e) (sym (some_is i q r))
      next a false e r = WasPlaced (away (DataOf f n) a) (away (IndexOf f (n / 128)) e) r

      go : (t : Bool) → same_node k (DataOf f n) ≡ t → cond t (Some p) (mid.of k) ≡ Some q → Placed k q
      go true e r = IsThePage (same_node-true k (DataOf f n) e) (sym (some_is p q r))
      go false e r = next e (same_node k (IndexOf f (n / 128))) refl r

  -- ---- what stands at each place

  lp_i : (lp == i) ≡ false
  lp_i = fresh s.shape.places (LeaderOf f) i lp free_i leader

  lp_p : (lp == p) ≡ false
  lp_p = fresh s.shape.places (LeaderOf f) p lp free_p leader

  not_eq : (x y : ℕ) → (x == y) ≡ false → x ≡ y → ⊥
  not_eq x y e z = let yes = eq-eqb x y z in cc

  at_page : pages p ≡ bytes
  at_page =
      written_other lp lbytes (written i ix (written p bytes at)) p (eqb_other p lp (λ z. not_eq lp p lp_p (sym z))) ∙ written_other i ix (written p bytes at) p (eqb_other p i (λ z. ne_places (sym z)))
      ∙ written_same p bytes at

  at_index : pages i ≡ ix
  at_index = written_other lp lbytes (written i ix (written p bytes at)) i (eqb_other i lp (λ z. not_eq lp i lp_i (sym z))) ∙ written_same i ix (written p bytes at)

  at_leader : pages lp ≡ lbytes
  at_leader = written_same lp lbytes (written i ix (written p bytes at))

  at_other : (k : Node) (q : ℕ) → (k ≡ LeaderOf f → ⊥) → v.places.of k ≡ Some q → pages q ≡ at q
  at_other k q ne h =
      written_other lp lbytes (written i ix (written p bytes at)) q (apart s.shape.places (LeaderOf f) k lp q leader h ne) ∙ written_other i ix (written p bytes at) q (fresh s.shape.places k i q free_i h)
      ∙ written_other p bytes at q (fresh s.shape.places k p q free_p h)

  at_low : (q : ℕ) → q < 257 → pages q ≡ at q
  at_low q low =
      let high = s.shape.places.least (LeaderOf f) lp leader in
      low_page lp lbytes (written i ix (written p bytes at)) high q low ∙ low_page i ix (written p bytes at) in_i.0 q low ∙ low_page p bytes at in_p.0 q low

  -- ---- rows

  index_row : SpellsRow nodes places ix (IndexOf f (n / 128))
  index_row = record { row = one_page.row; reads = one_page.reads; says = λ j low. says j low (j == n % 128) refl }
    where
      says : (j : ℕ) → j < 128 → (t : Bool) → (j == n % 128) ≡ t → slice_index_or one_page.row j 0 ≡ number_or_0 (places.of (DataOf f (128 * (n / 128) + j)))
      says j low true e =
          let slot : j ≡ n % 128 = eqb-true j (n % 128) e in
          let number : 128 * (n / 128) + j ≡ n = omega (arith, slot) in
          ap (λ (x : ℕ). slice_index_or one_page.row x 0) slot ∙ one_page.own ∙ sym (ap number_or_0 (ap (λ (x : ℕ). places.of (DataOf f x)) number ∙ own_page))
      says j low false e =
          let ne : j ≡ n % 128 → ⊥ = not_eq j (n % 128) e in
          let node : DataOf f (128 * (n / 128) + j) ≡ DataOf f n → ⊥ = λ z. (let number : 128 * (n / 128) + j ≡ n = ap node_number z in ne (omega (arith, number))) in
          one_page.none j low ne ∙ sym (ap number_or_0 (other_of (DataOf f (128 * (n / 128) + j)) node (λ z. cc) ∙ no_page (128 * (n / 128) + j) (omega (arith, low))))

  leader_row : SpellsRow nodes places lbytes (LeaderOf f)
  leader_row = record { row = slice_set block.old.index (n / 128) i; reads = block.row_is; says = λ j low. says j low (j == n / 128) refl }
    where
      old_row : SpellsRow nodes v.places (at lp) (LeaderOf f)
      old_row = s.rows (LeaderOf f) lp leader

      same_row : old_row.row ≡ block.old.index
      same_row = some_is _ _ (sym old_row.reads ∙ block.old_row)

      says : (j : ℕ) → j < 32 → (t : Bool) → (j == n / 128) ≡ t → slice_index_or (slice_set block.old.index (n / 128) i) j 0 ≡ number_or_0 (places.of (IndexOf f j))
      says j low true e =
          let slot : j ≡ n / 128 = eqb-true j (n / 128) e in
          ap (λ (x : ℕ). slice_index_or (slice_set block.old.index (n / 128) i) x 0) slot
          ∙ get_or-set_same block.old.index (n / 128) i 0 (omega (arith, leader_places (at lp) block.old block.old_reads))
          ∙ sym (ap number_or_0 (ap (λ (x : ℕ). places.of (IndexOf f x)) slot ∙ own_index))
      says j low false e =
          let ne : j ≡ n / 128 → ⊥ = not_eq j (n / 128) e in
          get_or-set_other block.old.index (n / 128) j i 0 ne ∙ ap (λ (r : List ℕ). slice_index_or r j 0) (sym same_row) ∙ old_row.says j low
          ∙ ap number_or_0 (sym (other_of (IndexOf f j) (λ z. cc) (λ z. ne (ap node_number z))))

  -- the rows of other nodes name neither
  not_page : (k : Node) (j : ℕ) → j < width_of k → (k ≡ IndexOf f (n / 128) → ⊥) → child_of k j ≡ DataOf f n → ⊥
  not_page (LeaderOf g) j low ne e = cc
  not_page (DataOf g c) j low ne e = absurd (omega arith)
  not_page (IndexOf g c) j low ne e =
      let file : g ≡ f = ap node_file e in
      let number : 128 * c + j ≡ n = ap node_number e in
      let same : c ≡ n / 128 = omega (arith, number, low) in
      ne (λ z. IndexOf (file z) (same z))

  not_index : (k : Node) (j : ℕ) → j < width_of k → (k ≡ LeaderOf f → ⊥) → child_of k j ≡ IndexOf f (n / 128) → ⊥
  not_index (LeaderOf g) j low ne e = ne (ap LeaderOf (ap node_file e))
  not_index (DataOf g c) j low ne e = cc
  not_index (IndexOf g c) j low ne e = cc

  old_node : (k : Node) (q : ℕ) → (k ≡ IndexOf f (n / 128) → ⊥) → v.places.of k ≡ Some q → SpellsRow nodes places (pages q) k
  old_node k q ind h = go (same_node k (LeaderOf f)) refl
    where
      go : (t : Bool) → same_node k (LeaderOf f) ≡ t → SpellsRow nodes places (pages q) k
      go true e =
          let node : k ≡ LeaderOf f = same_node-true k (LeaderOf f) e in
          let place : q ≡ lp = some_is q lp (sym h ∙ ap v.places.of node ∙ leader) in
          subst (λ (y : Node). SpellsRow nodes places (pages q) y) (sym node) (subst (λ (x : List ℕ). SpellsRow nodes places x (LeaderOf f)) (sym (ap pages place ∙ at_leader)) leader_row)
      go false e =
          let ne : k ≡ LeaderOf f → ⊥ = λ z. (let yes : same_node k (LeaderOf f) ≡ true = ap (λ (y : Node). same_node y (LeaderOf f)) z ∙ same_node-itself (LeaderOf f) in cc) in
          let row = s.rows k q h in
          record {
            row = row.row;
            reads = ap (nodes.row_of k) (at_other k q ne h) ∙ row.reads;
            says = λ j low. row.says j low ∙ ap number_or_0 (sym (other_of (child_of k j) (not_page k j low ind) (not_index k j low ne)));
          }

  rows_are : (k : Node) (q : ℕ) → Placed k q → SpellsRow nodes places (pages q) k
  rows_are k q (IsThePage e place) = subst (λ (y : Node). SpellsRow nodes places (pages q) y) (sym e) (record { row = []; reads = refl; says = λ j low. absurd (omega arith) })
  rows_are k q (IsTheIndex e place) = subst (λ (y : Node). SpellsRow nodes places (pages q) y) (sym e) (subst (λ (x : List ℕ). SpellsRow nodes places x (IndexOf f (n / 128))) (sym (ap pages place ∙ at_index)) index_row)
  rows_are k q (WasPlaced page ind h) = old_node k q ind h

  -- ---- cells

  leader_cell : (g : FileId) (q : ℕ) → v.places.of (LeaderOf g) ≡ Some q → m (Leader g) ≡ option_map props_cell (whole leader_page (pages q))
  leader_cell g q h = go (same_node (LeaderOf g) (LeaderOf f)) refl
    where
      go : (t : Bool) → same_node (LeaderOf g) (LeaderOf f) ≡ t → m (Leader g) ≡ option_map props_cell (whole leader_page (pages q))
      go true e =
          let node : LeaderOf g ≡ LeaderOf f = same_node-true (LeaderOf g) (LeaderOf f) e in
          let place : q ≡ lp = some_is q lp (sym h ∙ ap v.places.of node ∙ leader) in
          s.leaders g q h ∙ ap (λ (x : ℕ). option_map props_cell (whole leader_page (at x))) place ∙ block.props_are ∙ ap (λ (x : List ℕ). option_map props_cell (whole leader_page x)) (sym (ap pages place ∙ at_leader))
      go false e =
          let ne : LeaderOf g ≡ LeaderOf f → ⊥ = λ z. (let yes : same_node (LeaderOf g) (LeaderOf f) ≡ true = ap (λ (y : Node). same_node y (LeaderOf f)) z ∙ same_node-itself (LeaderOf f) in cc) in
          s.leaders g q h ∙ ap (λ (x : List ℕ). option_map props_cell (whole leader_page x)) (sym (at_other (LeaderOf g) q ne h))

  abbrev put : View
  put = after (Put (PageOf f n) (cell.Page bytes) ∷ []) m

  some_page : (g : FileId) (j : ℕ) → is_some (places.of (DataOf g j)) ≡ is_some (put (PageOf g j))
  some_page g j = go (same_node (DataOf g j) (DataOf f n)) ∙ ap (λ (t : Bool). is_some (cond t (Some (cell.Page bytes)) (m (PageOf g j)))) (pages_alike g f j n)
    where
      go : (t : Bool) → is_some (cond t (Some p) (v.places.of (DataOf g j))) ≡ is_some (cond t (Some (cell.Page bytes)) (m (PageOf g j)))
      go true = refl
      go false = s.shape.pages g j

  page_cell : (g : FileId) (j q : ℕ) → Placed (DataOf g j) q → put (PageOf g j) ≡ Some (cell.Page (pages q))
  page_cell g j q (IsTheIndex e place) = cc
  page_cell g j q (IsThePage e place) =
      let alike : eq_by_cmp key_cmp (PageOf g j) (PageOf f n) ≡ true = sym (pages_alike g f j n) ∙ ap (λ (y : Node). same_node y (DataOf f n)) e ∙ same_node-itself (DataOf f n) in
      cond-true (eq_by_cmp key_cmp (PageOf g j) (PageOf f n)) (Some (cell.Page bytes)) (m (PageOf g j)) alike ∙ ap (λ (x : List ℕ). Some (cell.Page x)) (sym (ap pages place ∙ at_page))
  page_cell g j q (WasPlaced page ind h) =
      let alike : eq_by_cmp key_cmp (PageOf g j) (PageOf f n) ≡ false = sym (pages_alike g f j n) ∙ not_same (DataOf g j) (DataOf f n) page in
      cond-false (eq_by_cmp key_cmp (PageOf g j) (PageOf f n)) (Some (cell.Page bytes)) (m (PageOf g j)) alike ∙ s.pages g j q h ∙ ap (λ (x : List ℕ). Some (cell.Page x)) (sym (at_other (DataOf g j) q (λ z. cc) h))

  still : (k : Node) → is_some (v.places.of k) ≡ true → is_some (places.of k) ≡ true
  still k h = go (same_node k (DataOf f n)) (next (same_node k (IndexOf f (n / 128))))
    where
      next : (t : Bool) → is_some (cond t (Some i) (v.places.of k)) ≡ true
      next true = refl
      next false = h

      go : (t : Bool) → is_some (mid.of k) ≡ true → is_some (cond t (Some p) (mid.of k)) ≡ true
      go true r = refl
      go false r = r

  block_there : (g : FileId) (j q : ℕ) → Placed (DataOf g j) q → is_some (places.of (IndexOf g (j / 128))) ≡ true
  block_there g j q (IsThePage e place) = ap (λ (y : Node). is_some (places.of (IndexOf (node_file y) (node_number y / 128)))) e ∙ ap is_some own_index
  block_there g j q (IsTheIndex e place) = cc
  block_there g j q (WasPlaced page ind h) = still (IndexOf g (j / 128)) (s.shape.block g j q h)

  block_page : (g : FileId) (c q : ℕ) → Placed (IndexOf g c) q → (j : ℕ) × (j / 128 ≡ c) × (is_some (places.of (DataOf g j)) ≡ true)
  block_page g c q (IsThePage e place) = cc
  block_page g c q (IsTheIndex e place) = (n, sym (ap node_number e), ap (λ (y : Node). is_some (places.of (DataOf (node_file y) n))) e ∙ ap is_some own_page)
  block_page g c q (WasPlaced page ind h) = let j = s.shape.page g c q h in (j.0, j.1, still (DataOf g j.0) j.2)

  pub block_added : Spells home (written lp lbytes (written i ix (written p bytes at))) (record v { places = named same_node (DataOf f n) p (named same_node (IndexOf f (n / 128)) i v.places) })
      (after (Put (PageOf f n) (cell.Page bytes) ∷ []) m)
  block_added = record {
    shape = record {
      slots = s.shape.slots;
      rows = s.shape.rows;
      places = places-is;
      files = s.shape.files;
      owners = s.shape.owners;
      leaders = s.shape.leaders;
      pages = some_page;
      block = λ g j q h. block_there g j q (placed (DataOf g j) q h);
      page = λ g c q h. block_page g c q (placed (IndexOf g c) q h);
    };
    header = at_low 0 (omega arith) ∙ s.header;
    directory = λ slot low. entries slot low ∙ s.directory slot low;
    owners = λ row low. rows_low row low ∙ s.owners row low;
    rows = λ k q h. rows_are k q (placed k q h);
    leaders = leader_cell;
    pages = λ g j q h. page_cell g j q (placed (DataOf g j) q h);
  }
    where
      high : 257 ≤ lp
      high = s.shape.places.least (LeaderOf f) lp leader

      entries : (slot : ℕ) → slot < 4096 → entry_in pages slot ≡ entry_in at slot
      entries slot low = low_entries lp lbytes (written i ix (written p bytes at)) high slot low ∙ low_entries i ix (written p bytes at) in_i.0 slot low ∙ low_entries p bytes at in_p.0 slot low

      rows_low : (row : ℕ) → row < 256 → row_in pages row ≡ row_in at row
      rows_low row low = low_rows lp lbytes (written i ix (written p bytes at)) high row low ∙ low_rows i ix (written p bytes at) in_i.0 row low ∙ low_rows p bytes at in_p.0 row low
