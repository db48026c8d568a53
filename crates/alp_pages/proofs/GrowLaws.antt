-- What new pages make of a volume: a page of data in a block that has its index page.
use Rattle.std.specs.Prelude.{◌⊎◌, Bool, true, false, cond, ◌==◌, is_some, Option, None, Some, option_map, slice_index_or, slice_set}
use Rattle.std.specs.Ordering.{eq_by_cmp}
use Rattle.std.proofs.Common.{◌≡◌, ℕ, ◌<◌, ◌≤◌, ◌+◌, ◌*◌, ◌/◌, ◌%◌, List, [], ◌∷◌, length, inl, inr, refl, sym, ◌∙◌, ap, subst, arith, eq-eqb}
use Rattle.std.proofs.lemmas.Bool.{eqb-true, cond-true, cond-false}
use Rattle.std.proofs.lemmas.List.{get_or-set_same, get_or-set_other}
use Rattle.alp_base.specs.declared.ids.FileId.{FileId}
use Rattle.alp_base.specs.declared.key.Key.TheVariants.{PageOf}
use Rattle.alp_base.specs.Keys.{key_cmp}
use Rattle.alp_fields.specs.Forms.{whole}
use Rattle.alp_base.specs.declared.cell.Cell.TheVariants as cell
use Rattle.alp_files.specs.Cells.{View}
use Rattle.alp_files.specs.Edits.{Put, after}
use Rattle.alp_pages.specs.Leader.{leader_page}
use Rattle.alp_pages.specs.Naming.{Naming, named, number_or_0}
use Rattle.alp_pages.specs.Nodes.{Node, LeaderOf, IndexOf, DataOf, same_node}
use Rattle.alp_pages.specs.Pages.{Pages, written, index_page}
use Rattle.alp_pages.specs.Rows.{SpellsRow}
use Rattle.alp_pages.specs.Volume.{Volume, Spells, nodes, child_of, width_of, props_cell}
use Rattle.alp_pages.proofs.IndexLaws.{index_length}
use Rattle.alp_pages.proofs.NamingLaws.{apart, fresh, eqb_other, named-is}
use Rattle.alp_pages.proofs.NodeTests.{nodes_tell, same_node-true, same_node-itself, pages_alike}
use Rattle.alp_pages.proofs.SpellLaws.{node_file, node_number}
use Rattle.alp_pages.proofs.UnnamedLaws.{written_same, written_other, low_page, low_entries, low_rows, unnamed}

pub not_same : (a b : Node) → (a ≡ b → ⊥) → same_node a b ≡ false
not_same a b ne = go (same_node a b) refl
  where
    go : (t : Bool) → same_node a b ≡ t → t ≡ false
    go true e = absurd (ne (same_node-true a b e))
    go false e = refl

pub some_is : {A : Type 0} (a b : A) → ◌≡◌ {A = Option A} (Some a) (Some b) → a ≡ b
some_is a b e = cc

module _ (home : ℕ) (at : Pages) (v : Volume) (m : View) (s : Spells home at v m) (f : FileId) (n i p : ℕ) (index : v.places.of (IndexOf f (n / 128)) ≡ Some i) (none : v.places.of (DataOf f n) ≡ None)
    (free : v.places.at p ≡ None) (least : 257 ≤ p) (most : p < home) (bytes ix ps : List ℕ) (old : whole index_page (at i) ≡ Some ps) (reads : whole index_page ix ≡ Some (slice_set ps (n % 128) p)) where
  abbrev page : Node
  page = DataOf f n

  abbrev places : Naming Node
  places = named same_node (DataOf f n) p v.places

  -- the page first, and then its index page
  abbrev first : Pages
  first = written p bytes at

  one : Spells home (written p bytes at) v m
  one = unnamed home at v m s p bytes least free

  apart_places : (i == p) ≡ false
  apart_places = fresh s.shape.places (IndexOf f (n / 128)) p i free index

  long : length ps ≡ 128
  long = index_length (at i) ps old

  -- a place of the new naming is the new page's, or one of before
  placed : (k : Node) (q : ℕ) → places.of k ≡ Some q → ((k ≡ DataOf f n) × (q ≡ p)) ⊎ ((same_node k (DataOf f n) ≡ false) × (v.places.of k ≡ Some q))
  placed k q h = go (same_node k (DataOf f n)) refl h
    where
      go : (t : Bool) → same_node k (DataOf f n) ≡ t → cond t (Some p) (v.places.of k) ≡ Some q → ((k ≡ DataOf f n) × (q ≡ p)) ⊎ ((same_node k (DataOf f n) ≡ false) × (v.places.of k ≡ Some q))
      go true e r = inl (same_node-true k (DataOf f n) e, sym (some_is p q r))
      go false e r = inr (e, r)

  other_of : (k : Node) → (k ≡ DataOf f n → ⊥) → places.of k ≡ v.places.of k
  other_of k ne = cond-false (same_node k (DataOf f n)) (Some p) (v.places.of k) (not_same k (DataOf f n) ne)

  own_of : places.of (DataOf f n) ≡ Some p
  own_of = cond-true (same_node (DataOf f n) (DataOf f n)) (Some p) (v.places.of (DataOf f n)) (same_node-itself (DataOf f n))

  -- the index page names the new page beside those of before
  says : (j : ℕ) → j < 128 → slice_index_or (slice_set ps (n % 128) p) j 0 ≡ number_or_0 (places.of (DataOf f (128 * (n / 128) + j)))
  says j few = go (j == n % 128) refl
    where
      old_row : SpellsRow nodes v.places (at i) (IndexOf f (n / 128))
      old_row = s.rows (IndexOf f (n / 128)) i index

      same_row : old_row.row ≡ ps
      same_row = some_is _ _ (sym old_row.reads ∙ old)

      go : (t : Bool) → (j == n % 128) ≡ t → slice_index_or (slice_set ps (n % 128) p) j 0 ≡ number_or_0 (places.of (DataOf f (128 * (n / 128) + j)))
      go true e =
          let slot : j ≡ n % 128 = eqb-true j (n % 128) e in
          let number : 128 * (n / 128) + j ≡ n = omega (arith, slot) in
          ap (λ (x : ℕ). slice_index_or (slice_set ps (n % 128) p) x 0) slot ∙ get_or-set_same ps (n % 128) p 0 (omega (arith, long))
          ∙ sym (ap number_or_0 (ap (λ (x : ℕ). places.of (DataOf f x)) number ∙ own_of))
      go false e =
          let ne : j ≡ n % 128 → ⊥ = λ z. (let yes = eq-eqb j (n % 128) z in cc) in
          let node : DataOf f (128 * (n / 128) + j) ≡ DataOf f n → ⊥ = λ z. (let number : 128 * (n / 128) + j ≡ n = ap node_number z in ne (omega (arith, number))) in
          get_or-set_other ps (n % 128) j p 0 ne ∙ ap (λ (r : List ℕ). slice_index_or r j 0) (sym same_row) ∙ old_row.says j few ∙ ap number_or_0 (sym (other_of (DataOf f (128 * (n / 128) + j)) node))

  -- other rows do not name it
  not_child : (k : Node) (j : ℕ) → j < width_of k → (k ≡ IndexOf f (n / 128) → ⊥) → child_of k j ≡ DataOf f n → ⊥
  not_child (LeaderOf g) j few ne e = cc
  not_child (DataOf g c) j few ne e = absurd (omega arith)
  not_child (IndexOf g b) j few ne e =
      let file : g ≡ f = ap node_file e in
      let number : 128 * b + j ≡ n = ap node_number e in
      let block : b ≡ n / 128 = omega (arith, number, few) in
      ne (λ z. IndexOf (file z) (block z))

  row_at : (k : Node) (q : ℕ) → v.places.of k ≡ Some q → SpellsRow nodes places (written i ix (written p bytes at) q) k
  row_at k q h = go (q == i) refl
    where
      go : (t : Bool) → (q == i) ≡ t → SpellsRow nodes places (written i ix (written p bytes at) q) k
      go true e =
          let place : q ≡ i = eqb-true q i e in
          let there : v.places.at i ≡ Some k = s.shape.places.there k i (h ∙ ap Some place) in
          let here : v.places.at i ≡ Some (IndexOf f (n / 128)) = s.shape.places.there (IndexOf f (n / 128)) i index in
          let node : IndexOf f (n / 128) ≡ k = some_is _ _ (sym here ∙ there) in
          subst (λ (y : Node). SpellsRow nodes places (written i ix (written p bytes at) q) y) node (record {
            row = slice_set ps (n % 128) p;
            reads = ap (whole index_page) (cond-true (q == i) ix (written p bytes at q) e) ∙ reads;
            says = says;
          })
      go false e =
          let row = one.rows k q h in
          let ne : k ≡ IndexOf f (n / 128) → ⊥ = λ z. (
          let two : Some q ≡ Some i = sym h ∙ ap v.places.of z ∙ index in
          let place : q ≡ i = some_is q i two in
          let yes = eq-eqb q i place in
          cc
          ) in
          record {
            row = row.row;
            reads = ap (nodes.row_of k) (written_other i ix (written p bytes at) q e) ∙ row.reads;
            says = λ j few. row.says j few ∙ ap number_or_0 (sym (other_of (child_of k j) (not_child k j few ne)));
          }

  high : 257 ≤ i
  high = s.shape.places.least (IndexOf f (n / 128)) i index

  -- pages of other nodes than the index page stay
  stays : (k : Node) (q : ℕ) → (k ≡ IndexOf f (n / 128) → ⊥) → v.places.of k ≡ Some q → written i ix (written p bytes at) q ≡ written p bytes at q
  stays k q ne h = written_other i ix (written p bytes at) q (apart s.shape.places (IndexOf f (n / 128)) k i q index h ne)

  still : (k : Node) → is_some (v.places.of k) ≡ true → is_some (places.of k) ≡ true
  still k h = go (same_node k (DataOf f n))
    where
      go : (t : Bool) → is_some (cond t (Some p) (v.places.of k)) ≡ true
      go true = refl
      go false = h

  some_page : (g : FileId) (j : ℕ) → is_some (places.of (DataOf g j)) ≡ is_some (after (Put (PageOf f n) (cell.Page bytes) ∷ []) m (PageOf g j))
  some_page g j = go (same_node (DataOf g j) (DataOf f n)) ∙ ap (λ (t : Bool). is_some (cond t (Some (cell.Page bytes)) (m (PageOf g j)))) (pages_alike g f j n)
    where
      go : (t : Bool) → is_some (cond t (Some p) (v.places.of (DataOf g j))) ≡ is_some (cond t (Some (cell.Page bytes)) (m (PageOf g j)))
      go true = refl
      go false = s.shape.pages g j

  page_cell : (g : FileId) (j q : ℕ) → places.of (DataOf g j) ≡ Some q → after (Put (PageOf f n) (cell.Page bytes) ∷ []) m (PageOf g j) ≡ Some (cell.Page (written i ix (written p bytes at) q))
  page_cell g j q h = elim (placed (DataOf g j) q h) [
    | inl w ↦ (
        let alike : eq_by_cmp key_cmp (PageOf g j) (PageOf f n) ≡ true = sym (pages_alike g f j n) ∙ ap (λ (y : Node). same_node y (DataOf f n)) w.0 ∙ same_node-itself (DataOf f n) in
        let bytes_are : written i ix (written p bytes at) q ≡ bytes =
        ap (written i ix (written p bytes at)) w.1 ∙ written_other i ix (written p bytes at) p (eqb_other p i (λ z. (let yes = eq-eqb i p (sym z) in (let no_ = apart_places in cc)))) ∙ written_same p bytes at in
        cond-true (eq_by_cmp key_cmp (PageOf g j) (PageOf f n)) (Some (cell.Page bytes)) (m (PageOf g j)) alike ∙ ap (λ (b : List ℕ). Some (cell.Page b)) (sym bytes_are)
        )
    | inr w ↦ (
        let alike : eq_by_cmp key_cmp (PageOf g j) (PageOf f n) ≡ false = sym (pages_alike g f j n) ∙ w.0 in
        cond-false (eq_by_cmp key_cmp (PageOf g j) (PageOf f n)) (Some (cell.Page bytes)) (m (PageOf g j)) alike ∙ one.pages g j q w.1
        ∙ ap (λ (b : List ℕ). Some (cell.Page b)) (sym (stays (DataOf g j) q (λ e. cc) w.1))
        )
  ]

  pub page_added : Spells home (written i ix (written p bytes at)) (record v { places = named same_node (DataOf f n) p v.places }) (after (Put (PageOf f n) (cell.Page bytes) ∷ []) m)
  page_added = record {
    shape = record {
      slots = s.shape.slots;
      rows = s.shape.rows;
      places = named-is nodes_tell v.places s.shape.places (DataOf f n) p none free least most;
      files = s.shape.files;
      owners = s.shape.owners;
      leaders = s.shape.leaders;
      pages = some_page;
      block = λ g j q h. elim (placed (DataOf g j) q h) [
        | inl w ↦ ap (λ (y : Node). is_some (v.places.of (IndexOf (node_file y) (node_number y / 128)))) w.0 ∙ ap is_some index
        | inr w ↦ s.shape.block g j q w.1
      ];
      page = λ g b q h. (let j = s.shape.page g b q h in (j.0, j.1, still (DataOf g j.0) j.2));
    };
    header = low_page i ix (written p bytes at) high 0 (omega arith) ∙ one.header;
    directory = λ slot low. low_entries i ix (written p bytes at) high slot low ∙ one.directory slot low;
    owners = λ row low. low_rows i ix (written p bytes at) high row low ∙ one.owners row low;
    rows = λ k q h. elim (placed k q h) [
      | inl w ↦ subst (λ (y : Node). SpellsRow nodes places (written i ix (written p bytes at) q) y) (sym w.0) (record { row = []; reads = refl; says = λ j few. absurd (omega arith) })
      | inr w ↦ row_at k q w.1
    ];
    leaders = λ g q h. one.leaders g q h ∙ ap (λ (b : List ℕ). option_map props_cell (whole leader_page b)) (sym (stays (LeaderOf g) q (λ e. cc) h));
    pages = page_cell;
  }
