-- A new file: its entry in a free slot, and its leader at a free place, which names no index page yet.
use Rattle.std.specs.Prelude.{Bool, true, false, cond, ◌==◌, is_some, Option, None, Some, option_map, slice_index_or}
use Rattle.std.specs.Ordering.{eq_by_cmp}
use Rattle.std.proofs.Common.{◌≡◌, ℕ, ◌<◌, ◌≤◌, ◌+◌, ◌/◌, ◌%◌, List, [], ◌∷◌, refl, sym, ◌∙◌, ap, subst, arith, eq-eqb}
use Rattle.std.proofs.lemmas.Bool.{eqb-true, cond-true, cond-false}
use Rattle.alp_base.specs.declared.ids.FileId.{FileId}
use Rattle.alp_base.specs.declared.key.Key.TheVariants.{Leader, PageOf}
use Rattle.alp_base.specs.Keys.{key_cmp}
use Rattle.alp_fields.specs.Forms.{whole}
use Rattle.alp_base.specs.declared.cell.Cell.TheVariants as cell
use Rattle.alp_files.specs.Cells.{View, same_file}
use Rattle.alp_files.specs.Edits.{Put, after}
use Rattle.alp_files.proofs.SameLemmas.{same_file-true, same_file-itself}
use Rattle.alp_pages.specs.declared.leader.Leader.{Leader as LeaderRecord}
use Rattle.alp_pages.specs.Leader.{leader_page}
use Rattle.alp_pages.specs.Naming.{Naming, named, number_or_0}
use Rattle.alp_pages.specs.Nodes.{Node, LeaderOf, IndexOf, DataOf, same_node}
use Rattle.alp_pages.specs.Pages.{Pages, written, entry, entry_in, part_of, read_row}
use Rattle.alp_pages.specs.Rows.{SpellsRow}
use Rattle.alp_pages.specs.Volume.{Volume, Spells, nodes, child_of, row_of_leader, entry_for, props_cell}
use Rattle.alp_pages.specs.Changes.{HasSlot, IsFree}
use Rattle.alp_pages.proofs.FetchLaws.{is_none}
use Rattle.alp_pages.proofs.GrowLaws.{some_is}
use Rattle.alp_pages.proofs.NamingLaws.{Tells, fresh, eqb_other, named-is}
use Rattle.alp_pages.proofs.NodeTests.{nodes_tell, same_node-true, same_node-itself, leaders_alike}
use Rattle.alp_pages.proofs.SpellLaws.{node_file}
use Rattle.alp_pages.proofs.UnnamedLaws.{written_same, written_other, low_entries, unnamed}

files_tell : Tells same_file
files_tell = record { equal = same_file-true; itself = same_file-itself }

not_file : (a b : FileId) → (a ≡ b → ⊥) → same_file a b ≡ false
not_file a b ne = go (same_file a b) refl
  where
    go : (t : Bool) → same_file a b ≡ t → t ≡ false
    go true e = absurd (ne (same_file-true a b e))
    go false e = refl

module _ (home : ℕ) (at : Pages) (v : Volume) (m : View) (s : Spells home at v m) (f : FileId) (slot p : ℕ) (unknown : v.slots.of f ≡ None) (open_slot : v.slots.at slot ≡ None) (few : slot < 4096) (free : IsFree home v p)
    (no_pages : (n : ℕ) → m (PageOf f n) ≡ None) (dbytes lbytes : List ℕ) (l : LeaderRecord) (has : HasSlot at dbytes slot (Some (record { file = f; place = p }))) (reads : whole leader_page lbytes ≡ Some l) (file : l.file ≡ f)
    (empty : (j : ℕ) → slice_index_or l.index j 0 ≡ 0) where
  abbrev slots : Naming FileId
  slots = named same_file f slot v.slots

  abbrev places : Naming Node
  places = named same_node (LeaderOf f) p v.places

  abbrev grown : Volume
  grown = record v { slots = named same_file f slot v.slots; places = named same_node (LeaderOf f) p v.places }

  abbrev page_no : ℕ
  page_no = 1 + slot / 32

  abbrev pages : Pages
  pages = written page_no dbytes (written p lbytes at)

  one : Spells home (written p lbytes at) v m
  one = unnamed home at v m s p lbytes free.least free.free

  high : (q : ℕ) → 129 ≤ q → pages q ≡ written p lbytes at q
  high q low = written_other page_no dbytes (written p lbytes at) q (eqb_other q page_no (λ e. omega arith))

  -- the file has nothing yet
  no_leader : v.places.of (LeaderOf f) ≡ None
  no_leader = is_none (v.places.of (LeaderOf f)) (s.shape.leaders f ∙ sym (s.shape.files f) ∙ ap is_some unknown)

  no_data : (n : ℕ) → v.places.of (DataOf f n) ≡ None
  no_data n = is_none (v.places.of (DataOf f n)) (s.shape.pages f n ∙ ap is_some (no_pages n))

  no_index : (b : ℕ) → v.places.of (IndexOf f b) ≡ None
  no_index b = go (v.places.of (IndexOf f b)) refl
    where
      go : (o : Option ℕ) → v.places.of (IndexOf f b) ≡ o → o ≡ None
      go None e = refl
      go (Some q) e = let n = s.shape.page f b q e in let none : is_some (v.places.of (DataOf f n.0)) ≡ false = ap is_some (no_data n.0) in (let yes = n.2 in cc)

  own_place : places.of (LeaderOf f) ≡ Some p
  own_place = cond-true (same_node (LeaderOf f) (LeaderOf f)) (Some p) (v.places.of (LeaderOf f)) (same_node-itself (LeaderOf f))

  other_place : (g : FileId) → (g ≡ f → ⊥) → places.of (LeaderOf g) ≡ v.places.of (LeaderOf g)
  other_place g ne = cond-false (same_file g f) (Some p) (v.places.of (LeaderOf g)) (not_file g f ne)

  -- ---- the directory

  entry_is : (q : ℕ) → q < 4096 → entry_in pages q ≡ Some (option_map (entry_for grown) (slots.at q))
  entry_is q low = go (q == slot) refl
    where
      others : (o : Option FileId) → v.slots.at q ≡ o → option_map (entry_for v) o ≡ option_map (entry_for grown) o
      others None e = refl
      others (Some g) e =
          let ne : g ≡ f → ⊥ = λ z. (let there : v.slots.of g ≡ Some q = s.shape.slots.back q g e in let none : v.slots.of g ≡ None = ap v.slots.of z ∙ unknown in cc) in
          ap (λ (x : Option ℕ). Some (record { file = g; place = number_or_0 x })) (sym (other_place g ne))

      old_entry : (t : Bool) → (1 + q / 32 == page_no) ≡ t → (q ≡ slot → ⊥) → entry_in pages q ≡ entry_in (written p lbytes at) q
      old_entry false d ne = ap (λ (b : List ℕ). whole entry (part_of 16 (q % 32) b)) (written_other page_no dbytes (written p lbytes at) (1 + q / 32) d)
      old_entry true d ne =
          let same : 1 + q / 32 ≡ page_no = eqb-true (1 + q / 32) page_no d in
          let apart_ : q % 32 ≡ slot % 32 → ⊥ = λ z. ne (omega (arith, same, z)) in
          ap (λ (x : ℕ). whole entry (part_of 16 (q % 32) (pages x))) same ∙ ap (λ (b : List ℕ). whole entry (part_of 16 (q % 32) b)) (written_same page_no dbytes (written p lbytes at))
          ∙ ap (whole entry) (has.other (q % 32) apart_) ∙ ap (λ (x : ℕ). whole entry (part_of 16 (q % 32) (at x))) (sym same) ∙ sym (low_entries p lbytes at free.least q low)

      go : (t : Bool) → (q == slot) ≡ t → entry_in pages q ≡ Some (option_map (entry_for grown) (slots.at q))
      go true e =
          let same : q ≡ slot = eqb-true q slot e in
          ap (entry_in pages) same ∙ ap (λ (b : List ℕ). whole entry (part_of 16 (slot % 32) b)) (written_same page_no dbytes (written p lbytes at)) ∙ has.own
          ∙ sym (ap (λ (o : Option FileId). Some (option_map (entry_for grown) o)) (cond-true (q == slot) (Some f) (v.slots.at q) e) ∙ ap (λ (x : Option ℕ). Some (Some (record { file = f; place = number_or_0 x }))) own_place)
      go false e =
          let ne : q ≡ slot → ⊥ = λ z. (let yes = eq-eqb q slot z in cc) in
          old_entry (1 + q / 32 == page_no) refl ne ∙ one.directory q low ∙ ap Some (others (v.slots.at q) refl)
          ∙ sym (ap (λ (o : Option FileId). Some (option_map (entry_for grown) o)) (cond-false (q == slot) (Some f) (v.slots.at q) e))

  -- ---- rows

  data Placed (k : Node) (q : ℕ) : Type 0 where
    IsTheLeader : k ≡ LeaderOf f → q ≡ p → Placed k q
    WasPlaced : (k ≡ LeaderOf f → ⊥) → v.places.of k ≡ Some q → Placed k q

  placed : (k : Node) (q : ℕ) → places.of k ≡ Some q → Placed k q
  placed k q h = go (same_node k (LeaderOf f)) refl h
    where
      go : (t : Bool) → same_node k (LeaderOf f) ≡ t → cond t (Some p) (v.places.of k) ≡ Some q → Placed k q
      go true e r = IsTheLeader (same_node-true k (LeaderOf f) e) (sym (some_is p q r))
      go false e r = WasPlaced (λ z. (let yes : same_node k (LeaderOf f) ≡ true = ap (λ (y : Node). same_node y (LeaderOf f)) z ∙ same_node-itself (LeaderOf f) in cc)) r

  at_leader : pages p ≡ lbytes
  at_leader = (let low = free.least in high p (omega (arith, low))) ∙ written_same p lbytes at

  at_node : (k : Node) (q : ℕ) → v.places.of k ≡ Some q → pages q ≡ at q
  at_node k q h = (let low = s.shape.places.least k q h in high q (omega (arith, low))) ∙ written_other p lbytes at q (fresh s.shape.places k p q free.free h)

  child_stays : (k : Node) (j : ℕ) → places.of (child_of k j) ≡ v.places.of (child_of k j)
  child_stays (LeaderOf g) j = refl
  child_stays (IndexOf g b) j = refl
  child_stays (DataOf g n) j = refl

  own_row : SpellsRow nodes places lbytes (LeaderOf f)
  own_row = record {
    row = l.index;
    reads = ap (row_of_leader f) reads ∙ cond-true (same_file l.file f) (Some l.index) None (ap (λ (x : FileId). same_file x f) file ∙ same_file-itself f);
    says = λ j low. empty j ∙ sym (ap number_or_0 (no_index j));
  }

  row_is : (k : Node) (q : ℕ) → Placed k q → SpellsRow nodes places (pages q) k
  row_is k q (IsTheLeader e place) = subst (λ (y : Node). SpellsRow nodes places (pages q) y) (sym e) (subst (λ (x : List ℕ). SpellsRow nodes places x (LeaderOf f)) (sym (ap pages place ∙ at_leader)) own_row)
  row_is k q (WasPlaced ne h) =
      let row = s.rows k q h in
      record { row = row.row; reads = ap (nodes.row_of k) (at_node k q h) ∙ row.reads; says = λ j low. row.says j low ∙ ap number_or_0 (sym (child_stays k j)) }

  -- ---- cells

  abbrev put : View
  put = after (Put (Leader f) (cell.Leader l.props) ∷ []) m

  leader_cell : (g : FileId) (q : ℕ) → Placed (LeaderOf g) q → put (Leader g) ≡ option_map props_cell (whole leader_page (pages q))
  leader_cell g q (IsTheLeader e place) =
      cond-true (eq_by_cmp key_cmp (Leader g) (Leader f)) (Some (cell.Leader l.props)) (m (Leader g)) (sym (leaders_alike g f) ∙ ap (λ (x : FileId). same_file x f) (ap node_file e) ∙ same_file-itself f)
      ∙ sym (ap (λ (x : List ℕ). option_map props_cell (whole leader_page x)) (ap pages place ∙ at_leader) ∙ ap (option_map props_cell) reads)
  leader_cell g q (WasPlaced ne h) =
      cond-false (eq_by_cmp key_cmp (Leader g) (Leader f)) (Some (cell.Leader l.props)) (m (Leader g)) (sym (leaders_alike g f) ∙ not_file g f (λ z. ne (ap LeaderOf z)))
      ∙ s.leaders g q h ∙ ap (λ (x : List ℕ). option_map props_cell (whole leader_page x)) (sym (at_node (LeaderOf g) q h))

  some_file : {A : Type 0} (x : A) (o : Option A) (g : FileId) → is_some o ≡ is_some (m (Leader g)) → is_some (cond (same_file g f) (Some x) o) ≡ is_some (put (Leader g))
  some_file {A} x o g h = go (same_file g f) ∙ ap (λ (t : Bool). is_some (cond t (Some (cell.Leader l.props)) (m (Leader g)))) (leaders_alike g f)
    where
      go : (t : Bool) → is_some (cond t (Some x) o) ≡ is_some (cond t (Some (cell.Leader l.props)) (m (Leader g)))
      go true = refl
      go false = h

  pub file_added : Spells home (written (1 + slot / 32) dbytes (written p lbytes at)) (record v { slots = named same_file f slot v.slots; places = named same_node (LeaderOf f) p v.places }) (after (Put (Leader f) (cell.Leader l.props) ∷ []) m)
  file_added = record {
    shape = record {
      slots = named-is files_tell v.slots s.shape.slots f slot unknown open_slot (omega arith) few;
      rows = s.shape.rows;
      places = named-is nodes_tell v.places s.shape.places (LeaderOf f) p no_leader free.free free.least free.most;
      files = λ g. some_file slot (v.slots.of g) g (s.shape.files g);
      owners = s.shape.owners;
      leaders = λ g. some_file p (v.places.of (LeaderOf g)) g (s.shape.leaders g);
      pages = s.shape.pages;
      block = s.shape.block;
      page = s.shape.page;
    };
    header = written_other page_no dbytes (written p lbytes at) 0 (eqb_other 0 page_no (λ e. omega arith)) ∙ one.header;
    directory = entry_is;
    owners = λ row low. ap (λ (b : List ℕ). read_row (part_of 256 (row % 2) b)) (high (129 + row / 2) (omega arith)) ∙ one.owners row low;
    rows = λ k q h. row_is k q (placed k q h);
    leaders = λ g q h. leader_cell g q (placed (LeaderOf g) q h);
    pages = λ g j q h. s.pages g j q h ∙ ap (λ (b : List ℕ). Some (cell.Page b)) (sym (at_node (DataOf g j) q h));
  }
