-- What one changed page makes of a volume: a page of data, a leader, an owner's record, a file that goes.
use Rattle.std.specs.Prelude.{◌⊎◌, Bool, true, false, cond, ◌==◌, is_some, Option, None, Some, option_map}
use Rattle.std.specs.Option.{option_and_then}
use Rattle.std.specs.Ordering.{eq_by_cmp}
use Rattle.std.proofs.Common.{◌≡◌, ℕ, ◌<◌, ◌≤◌, ◌+◌, ◌/◌, ◌%◌, List, [], ◌∷◌, inl, inr, refl, sym, ◌∙◌, ap, subst, arith, eq-eqb}
use Rattle.std.proofs.lemmas.Bool.{eqb-true, cond-true, cond-false}
use Rattle.alp_base.specs.declared.ids.FileId.{FileId}
use Rattle.alp_base.specs.declared.key.Key.{Key}
use Rattle.alp_base.specs.declared.key.Key.TheVariants.{Leader, PageOf, OwnerOf}
use Rattle.alp_base.specs.Keys.{key_cmp}
use Rattle.alp_fields.specs.Forms.{whole}
use Rattle.alp_base.specs.declared.cell.Cell.TheVariants as cell
use Rattle.alp_base.specs.declared.cell.OwnerRecord.{OwnerRecord}
use Rattle.alp_files.specs.Cells.{View, same_file, same_name, owner_in}
use Rattle.alp_files.specs.Edits.{Put, Drop, after}
use Rattle.alp_files.proofs.SameLemmas.{same_file-true, same_file-itself, same_name-true, same_name-itself, same_key-true, same_key-itself, same_leader_key, same_page_key, same_owner_key}
use Rattle.alp_pages.specs.declared.leader.Leader.{Leader as LeaderRecord}
use Rattle.alp_pages.specs.Leader.{leader_page}
use Rattle.alp_pages.specs.Naming.{Naming, IsNaming, named, unless, without, number_or_0}
use Rattle.alp_pages.specs.Nodes.{Node, LeaderOf, IndexOf, DataOf, file_of}
use Rattle.alp_pages.specs.Pages.{Pages, written, entry, entry_in, part_of, read_row, row_in}
use Rattle.alp_pages.specs.Changes.{HasRow, HasSlot, is_of, volume_without}
use Rattle.alp_pages.specs.Rows.{SpellsRow}
use Rattle.alp_pages.specs.Volume.{Volume, Spells, nodes, row_of_node, entry_for, record_for, props_cell}
use Rattle.alp_pages.proofs.NamingLaws.{Tells, apart, eqb_other, named-is, without-is}
use Rattle.alp_pages.proofs.SpellLaws.{node_file, node_number}
use Rattle.alp_pages.proofs.UnnamedLaws.{written_same, written_other, low_page, low_entries, low_rows}

abbrev is_key : Key → Key → Bool
is_key = eq_by_cmp key_cmp

other_key : (a b : Key) → (a ≡ b → ⊥) → is_key a b ≡ false
other_key a b ne = go (is_key a b) refl
  where
    go : (t : Bool) → is_key a b ≡ t → t ≡ false
    go true e = absurd (ne (same_key-true a b e))
    go false e = refl

-- ---- the page of a node is written at its place

module _ (home : ℕ) (at : Pages) (v : Volume) (m : View) (s : Spells home at v m) (x : Node) (p : ℕ) (here : v.places.of x ≡ Some p) (bytes : List ℕ) where
  new : Pages
  new = written p bytes at

  least : 257 ≤ p
  least = s.shape.places.least x p here

  -- what stands at the places of other nodes stays
  other_page : (k : Node) (q : ℕ) → (k ≡ x → ⊥) → v.places.of k ≡ Some q → written p bytes at q ≡ at q
  other_page k q ne h = written_other p bytes at q (apart s.shape.places x k p q here h ne)

  -- either it is the node, or its page stays
  page_at : (k : Node) (q : ℕ) → v.places.of k ≡ Some q → ((q ≡ p) × (k ≡ x) × (written p bytes at q ≡ bytes)) ⊎ (written p bytes at q ≡ at q)
  page_at k q h = go (q == p) refl
    where
      go : (t : Bool) → (q == p) ≡ t → ((q ≡ p) × (k ≡ x) × (written p bytes at q ≡ bytes)) ⊎ (written p bytes at q ≡ at q)
      go true e =
          let place : q ≡ p = eqb-true q p e in
          let one : v.places.at p ≡ Some k = s.shape.places.there k p (h ∙ ap Some place) in
          let two : v.places.at p ≡ Some x = s.shape.places.there x p here in
          let node : k ≡ x = cc in
          inl (place, node, cond-true (q == p) bytes (at q) e)
      go false e = inr (written_other p bytes at q e)

  -- the rows are as they were, where the new page has a row that says the same
  rows_kept : SpellsRow nodes v.places bytes x → (k : Node) (q : ℕ) → v.places.of k ≡ Some q → SpellsRow nodes v.places (written p bytes at q) k
  rows_kept own k q h = elim (page_at k q h) [
    | inl w ↦ (
        let node : x ≡ k = sym w.1 in
        subst (λ (b : List ℕ). SpellsRow nodes v.places b k) (sym w.2) (subst (λ (y : Node). SpellsRow nodes v.places bytes y) node own)
        )
    | inr w ↦ subst (λ (b : List ℕ). SpellsRow nodes v.places b k) (sym w) (s.rows k q h)
  ]

-- ---- a page of data is put

module _ (home : ℕ) (at : Pages) (v : Volume) (m : View) (s : Spells home at v m) (f : FileId) (n p : ℕ) (here : v.places.of (DataOf f n) ≡ Some p) (bytes : List ℕ) where
  abbrev put : View
  put = after (Put (PageOf f n) (cell.Page bytes) ∷ []) m

  is_there : (g : FileId) (j : ℕ) → is_some (v.places.of (DataOf g j)) ≡ is_some (put (PageOf g j))
  is_there g j = go (is_key (PageOf g j) (PageOf f n)) refl
    where
      go : (t : Bool) → is_key (PageOf g j) (PageOf f n) ≡ t → is_some (v.places.of (DataOf g j)) ≡ is_some (cond t (Some (cell.Page bytes)) (m (PageOf g j)))
      go true e =
          let same = same_page_key g f j n e in
          let node : DataOf g j ≡ DataOf f n = λ i. DataOf (same.0 i) (same.1 i) in
          ap is_some (ap v.places.of node ∙ here)
      go false e = s.shape.pages g j

  page_cell : (g : FileId) (j q : ℕ) → v.places.of (DataOf g j) ≡ Some q → put (PageOf g j) ≡ Some (cell.Page (written p bytes at q))
  page_cell g j q h = go (is_key (PageOf g j) (PageOf f n)) refl
    where
      go : (t : Bool) → is_key (PageOf g j) (PageOf f n) ≡ t → cond t (Some (cell.Page bytes)) (m (PageOf g j)) ≡ Some (cell.Page (written p bytes at q))
      go true e =
          let same = same_page_key g f j n e in
          let node : DataOf g j ≡ DataOf f n = λ i. DataOf (same.0 i) (same.1 i) in
          let places : v.places.of (DataOf g j) ≡ v.places.of (DataOf f n) = ap v.places.of node in
          let one : q ≡ p = cc in
          ap (λ (b : List ℕ). Some (cell.Page b)) (sym (written_same p bytes at) ∙ ap (written p bytes at) (sym one))
      go false e =
          let ne : DataOf g j ≡ DataOf f n → ⊥ = λ z. (
          let file : g ≡ f = ap node_file z in
          let number : j ≡ n = ap node_number z in
          let key : PageOf g j ≡ PageOf f n = λ i. PageOf (file i) (number i) in
          let yes : is_key (PageOf g j) (PageOf f n) ≡ true = ap (λ (k : Key). is_key k (PageOf f n)) key ∙ same_key-itself (PageOf f n) in
          cc
          ) in
          s.pages g j q h ∙ ap (λ (b : List ℕ). Some (cell.Page b)) (sym (other_page home at v m s (DataOf f n) p here bytes (DataOf g j) q ne h))

  pub page_put : Spells home (written p bytes at) v (after (Put (PageOf f n) (cell.Page bytes) ∷ []) m)
  page_put = record {
    shape = record {
      slots = s.shape.slots;
      rows = s.shape.rows;
      places = s.shape.places;
      files = s.shape.files;
      owners = s.shape.owners;
      leaders = s.shape.leaders;
      pages = is_there;
      block = s.shape.block;
      page = s.shape.page;
    };
    header = low_page p bytes at (s.shape.places.least (DataOf f n) p here) 0 (omega arith) ∙ s.header;
    directory = λ slot few. low_entries p bytes at (s.shape.places.least (DataOf f n) p here) slot few ∙ s.directory slot few;
    owners = λ row few. low_rows p bytes at (s.shape.places.least (DataOf f n) p here) row few ∙ s.owners row few;
    rows = rows_kept home at v m s (DataOf f n) p here bytes (record { row = []; reads = refl; says = λ j few. absurd (omega arith) });
    leaders = λ g q h. s.leaders g q h ∙ ap (λ (b : List ℕ). option_map props_cell (whole leader_page b)) (sym (other_page home at v m s (DataOf f n) p here bytes (LeaderOf g) q (λ e. cc) h));
    pages = page_cell;
  }

-- ---- a leader is put, with its index places as they were

module _ (home : ℕ) (at : Pages) (v : Volume) (m : View) (s : Spells home at v m) (f : FileId) (p : ℕ) (here : v.places.of (LeaderOf f) ≡ Some p) (bytes : List ℕ) (l : LeaderRecord)
    (reads : whole leader_page bytes ≡ Some l) (row : row_of_node (LeaderOf f) bytes ≡ row_of_node (LeaderOf f) (at p)) where
  abbrev led : View
  led = after (Put (Leader f) (cell.Leader l.props) ∷ []) m

  some_leader : (g : FileId) → (t : Bool) → is_key (Leader g) (Leader f) ≡ t → is_some (m (Leader g)) ≡ is_some (cond t (Some (cell.Leader l.props)) (m (Leader g)))
  some_leader g false e = refl
  some_leader g true e =
      let file : g ≡ f = same_leader_key g f e in
      sym (s.shape.leaders g) ∙ ap (λ (x : FileId). is_some (v.places.of (LeaderOf x))) file ∙ ap is_some here

  leader_cell : (g : FileId) (q : ℕ) → v.places.of (LeaderOf g) ≡ Some q → led (Leader g) ≡ option_map props_cell (whole leader_page (written p bytes at q))
  leader_cell g q h = go (is_key (Leader g) (Leader f)) refl
    where
      go : (t : Bool) → is_key (Leader g) (Leader f) ≡ t → cond t (Some (cell.Leader l.props)) (m (Leader g)) ≡ option_map props_cell (whole leader_page (written p bytes at q))
      go true e =
          let file : g ≡ f = same_leader_key g f e in
          let places : v.places.of (LeaderOf g) ≡ v.places.of (LeaderOf f) = ap (λ (x : FileId). v.places.of (LeaderOf x)) file in
          let one : q ≡ p = cc in
          sym (ap (λ (b : List ℕ). option_map props_cell (whole leader_page b)) (ap (written p bytes at) one ∙ written_same p bytes at) ∙ ap (option_map props_cell) reads)
      go false e =
          let ne : LeaderOf g ≡ LeaderOf f → ⊥ = λ z. (
          let file : g ≡ f = ap node_file z in
          let yes : is_key (Leader g) (Leader f) ≡ true = ap (λ (x : FileId). is_key (Leader x) (Leader f)) file ∙ same_key-itself (Leader f) in
          cc
          ) in
          s.leaders g q h ∙ ap (λ (b : List ℕ). option_map props_cell (whole leader_page b)) (sym (other_page home at v m s (LeaderOf f) p here bytes (LeaderOf g) q ne h))

  pub leader_put : Spells home (written p bytes at) v (after (Put (Leader f) (cell.Leader l.props) ∷ []) m)
  leader_put = record {
    shape = record {
      slots = s.shape.slots;
      rows = s.shape.rows;
      places = s.shape.places;
      files = λ g. s.shape.files g ∙ some_leader g (is_key (Leader g) (Leader f)) refl;
      owners = s.shape.owners;
      leaders = λ g. s.shape.leaders g ∙ some_leader g (is_key (Leader g) (Leader f)) refl;
      pages = s.shape.pages;
      block = s.shape.block;
      page = s.shape.page;
    };
    header = low_page p bytes at (s.shape.places.least (LeaderOf f) p here) 0 (omega arith) ∙ s.header;
    directory = λ slot few. low_entries p bytes at (s.shape.places.least (LeaderOf f) p here) slot few ∙ s.directory slot few;
    owners = λ r few. low_rows p bytes at (s.shape.places.least (LeaderOf f) p here) r few ∙ s.owners r few;
    rows = rows_kept home at v m s (LeaderOf f) p here bytes (let old = s.rows (LeaderOf f) p here in record { row = old.row; reads = row ∙ old.reads; says = old.says });
    leaders = leader_cell;
    pages = λ g j q h. s.pages g j q h ∙ ap (λ (b : List ℕ). Some (cell.Page b)) (sym (other_page home at v m s (LeaderOf f) p here bytes (DataOf g j) q (λ e. cc) h));
  }

-- ---- an owner's record is put

module _ (home : ℕ) (at : Pages) (v : Volume) (m : View) (s : Spells home at v m) (r : ℕ) (few : r < 256) (bytes : List ℕ) (o : OwnerRecord) (has : HasRow at bytes r o) where
  abbrev page_no : ℕ
  page_no = 129 + r / 2

  high_page : (q : ℕ) → 257 ≤ q → written page_no bytes at q ≡ at q
  high_page q high = written_other page_no bytes at q (eqb_other q page_no (λ e. omega arith))

  row_here : row_in (written page_no bytes at) r ≡ Some (Some o)
  row_here = ap (λ (b : List ℕ). read_row (part_of 256 (r % 2) b)) (written_same page_no bytes at) ∙ has.own

  row_there : (q : ℕ) → (q ≡ r → ⊥) → row_in (written page_no bytes at) q ≡ row_in at q
  row_there q ne = go (129 + q / 2 == page_no) refl
    where
      go : (t : Bool) → (129 + q / 2 == page_no) ≡ t → read_row (part_of 256 (q % 2) (written page_no bytes at (129 + q / 2))) ≡ read_row (part_of 256 (q % 2) (at (129 + q / 2)))
      go false e = ap (λ (b : List ℕ). read_row (part_of 256 (q % 2) b)) (written_other page_no bytes at (129 + q / 2) e)
      go true e =
          let same : 129 + q / 2 ≡ page_no = eqb-true (129 + q / 2) page_no e in
          let apart_ : q % 2 ≡ r % 2 → ⊥ = λ z. ne (omega (arith, same, z)) in
          ap (λ (x : ℕ). read_row (part_of 256 (q % 2) (written page_no bytes at x))) same
          ∙ ap (λ (b : List ℕ). read_row (part_of 256 (q % 2) b)) (written_same page_no bytes at) ∙ ap read_row (has.other (q % 2) apart_)
          ∙ ap (λ (x : ℕ). read_row (part_of 256 (q % 2) (at x))) (sym same)

  slots_stay : (slot : ℕ) → slot < 4096 → entry_in (written page_no bytes at) slot ≡ entry_in at slot
  slots_stay slot low = ap (λ (b : List ℕ). whole entry (part_of 16 (slot % 32) b)) (written_other page_no bytes at (1 + slot / 32) (eqb_other (1 + slot / 32) page_no (λ e. omega arith)))

  abbrev owned : View
  owned = after (Put (OwnerOf o.name) (cell.Owner o) ∷ []) m

  -- the other owners are as they were
  other_owner : (name : List ℕ) → (name ≡ o.name → ⊥) → owned (OwnerOf name) ≡ m (OwnerOf name)
  other_owner name ne = cond-false (is_key (OwnerOf name) (OwnerOf o.name)) (Some (cell.Owner o)) (m (OwnerOf name)) (other_key (OwnerOf name) (OwnerOf o.name) (λ e. ne (ap (name_of_key) e)))
    where
      name_of_key : Key → List ℕ
      name_of_key (OwnerOf x) = x
      name_of_key (Leader g) = []
      name_of_key (PageOf g j) = []

  own_owner : owned (OwnerOf o.name) ≡ Some (cell.Owner o)
  own_owner = cond-true (is_key (OwnerOf o.name) (OwnerOf o.name)) (Some (cell.Owner o)) (m (OwnerOf o.name)) (same_key-itself (OwnerOf o.name))

  -- the rows say what the owners are, where the namings of before and after agree but in that row
  module _ (rows : Naming (List ℕ)) (is : IsNaming 0 256 rows) (row : rows.at r ≡ Some o.name) (others : (q : ℕ) → (q ≡ r → ⊥) → rows.at q ≡ v.rows.at q)
      (some : (name : List ℕ) → (name ≡ o.name → ⊥) → rows.of name ≡ v.rows.of name) (only : (name : List ℕ) (q : ℕ) → v.rows.at q ≡ Some name → name ≡ o.name → q ≡ r) where
    row_says : (q : ℕ) → q < 256 → row_in (written page_no bytes at) q ≡ Some (option_and_then (record_for owned) (rows.at q))
    row_says q low = go (q == r) refl
      where
        of_other : (q ≡ r → ⊥) → (x : Option (List ℕ)) → v.rows.at q ≡ x → option_and_then (record_for m) x ≡ option_and_then (record_for owned) x
        of_other ne None e = refl
        of_other ne (Some name) e = ap owner_in (sym (other_owner name (λ z. ne (only name q e z))))

        go : (t : Bool) → (q == r) ≡ t → row_in (written page_no bytes at) q ≡ Some (option_and_then (record_for owned) (rows.at q))
        go true e =
            let same : q ≡ r = eqb-true q r e in
            ap (row_in (written page_no bytes at)) same ∙ row_here ∙ ap Some (sym (ap (λ (x : ℕ). option_and_then (record_for owned) (rows.at x)) same ∙ ap (option_and_then (record_for owned)) row ∙ ap owner_in own_owner))
        go false e =
            let ne : q ≡ r → ⊥ = λ z. (let yes = eq-eqb q r z in cc) in
            row_there q ne ∙ s.owners q low ∙ ap Some (of_other ne (v.rows.at q) refl ∙ ap (option_and_then (record_for owned)) (sym (others q ne)))

    owner_there : (name : List ℕ) → is_some (rows.of name) ≡ is_some (owned (OwnerOf name))
    owner_there name = go (is_key (OwnerOf name) (OwnerOf o.name)) refl
      where
        go : (t : Bool) → is_key (OwnerOf name) (OwnerOf o.name) ≡ t → is_some (rows.of name) ≡ is_some (cond t (Some (cell.Owner o)) (m (OwnerOf name)))
        go true e = let same : name ≡ o.name = same_owner_key name o.name e in ap (λ (x : List ℕ). is_some (rows.of x)) same ∙ ap is_some (is.back r o.name row)
        go false e =
            let ne : name ≡ o.name → ⊥ = λ z. (let yes : is_key (OwnerOf name) (OwnerOf o.name) ≡ true = ap (λ (x : List ℕ). is_key (OwnerOf x) (OwnerOf o.name)) z ∙ same_key-itself (OwnerOf o.name) in cc) in
            ap is_some (some name ne) ∙ s.shape.owners name

    pub owner_put : Spells home (written page_no bytes at) (record v { rows = rows }) (after (Put (OwnerOf o.name) (cell.Owner o) ∷ []) m)
    owner_put = record {
      shape = record {
        slots = s.shape.slots;
        rows = is;
        places = s.shape.places;
        files = s.shape.files;
        owners = owner_there;
        leaders = s.shape.leaders;
        pages = s.shape.pages;
        block = s.shape.block;
        page = s.shape.page;
      };
      header = written_other page_no bytes at 0 (eqb_other 0 page_no (λ e. omega arith)) ∙ s.header;
      directory = λ slot low. slots_stay slot low ∙ s.directory slot low;
      owners = row_says;
      rows = λ k q h. subst (λ (b : List ℕ). SpellsRow nodes v.places b k) (sym (high_page q (s.shape.places.least k q h))) (s.rows k q h);
      leaders = λ g q h. s.leaders g q h ∙ ap (λ (b : List ℕ). option_map props_cell (whole leader_page b)) (sym (high_page q (s.shape.places.least (LeaderOf g) q h)));
      pages = λ g j q h. s.pages g j q h ∙ ap (λ (b : List ℕ). Some (cell.Page b)) (sym (high_page q (s.shape.places.least (DataOf g j) q h)));
    }

names_tell : Tells same_name
names_tell = record { equal = same_name-true; itself = same_name-itself }

-- in the row that the owner has
pub known_owner_put : (home : ℕ) (at : Pages) (v : Volume) (m : View) → Spells home at v m → (r : ℕ) (bytes : List ℕ) (o : OwnerRecord) → v.rows.of o.name ≡ Some r → HasRow at bytes r o
    → Spells home (written (129 + r / 2) bytes at) v (after (Put (OwnerOf o.name) (cell.Owner o) ∷ []) m)
known_owner_put home at v m s r bytes o row has =
    owner_put home at v m s r (s.shape.rows.most o.name r row) bytes o has v.rows s.shape.rows (s.shape.rows.there o.name r row) (λ q ne. refl) (λ name ne. refl)
    (λ name q h e. (let one : v.rows.of name ≡ Some q = s.shape.rows.back q name h in let two : v.rows.of name ≡ v.rows.of o.name = ap v.rows.of e in cc))

-- or in one that is free
pub new_owner_put : (home : ℕ) (at : Pages) (v : Volume) (m : View) → Spells home at v m → (r : ℕ) (bytes : List ℕ) (o : OwnerRecord) → v.rows.of o.name ≡ None → v.rows.at r ≡ None → r < 256 → HasRow at bytes r o
    → Spells home (written (129 + r / 2) bytes at) (record v { rows = named same_name o.name r v.rows }) (after (Put (OwnerOf o.name) (cell.Owner o) ∷ []) m)
new_owner_put home at v m s r bytes o none free few has =
    owner_put home at v m s r few bytes o has (named same_name o.name r v.rows) (named-is names_tell v.rows s.shape.rows o.name r none free (omega arith) few)
    (cond-true (r == r) (Some o.name) (v.rows.at r) (eq-eqb r r refl)) (λ q ne. cond-false (q == r) (Some o.name) (v.rows.at q) (eqb_other q r ne))
    (λ name ne. cond-false (same_name name o.name) (Some r) (v.rows.of name) (not_same name o.name ne))
    (λ name q h e. (let one : v.rows.of name ≡ Some q = s.shape.rows.back q name h in let two : v.rows.of name ≡ v.rows.of o.name = ap v.rows.of e in cc))
  where
    not_same : (a b : List ℕ) → (a ≡ b → ⊥) → same_name a b ≡ false
    not_same a b ne = go (same_name a b) refl
      where
        go : (t : Bool) → same_name a b ≡ t → t ≡ false
        go true e = absurd (ne (same_name-true a b e))
        go false e = refl

-- ---- a file goes: its entry is cleared, and all its places are free

module _ (home : ℕ) (at : Pages) (v : Volume) (m : View) (s : Spells home at v m) (f : FileId) (slot : ℕ) (here : v.slots.of f ≡ Some slot) (bytes : List ℕ) (has : HasSlot at bytes slot None) where
  abbrev page_no_ : ℕ
  page_no_ = 1 + slot / 32

  few_ : slot < 4096
  few_ = s.shape.slots.most f slot here

  stays : (q : ℕ) → 129 ≤ q → written page_no_ bytes at q ≡ at q
  stays q high = written_other page_no_ bytes at q (eqb_other q page_no_ (λ e. (let low = few_ in omega arith)))

  abbrev gone : View
  gone = after (Drop f ∷ []) m

  kept_of : {A : Type 0} (t : Bool) (o : Option A) (x : A) → cond t None o ≡ Some x → (t ≡ false) × (o ≡ Some x)
  kept_of true o x h = cc
  kept_of false o x h = (refl, h)

  alike : {A B : Type 0} (t : Bool) (a : Option A) (b : Option B) → is_some a ≡ is_some b → is_some (cond t None a) ≡ is_some (cond t None b)
  alike true a b h = refl
  alike false a b h = h

  slot_entry : (q : ℕ) → q < 4096 → entry_in (written page_no_ bytes at) q ≡ Some (option_map (entry_for (volume_without f v)) ((without (same_file f) v.slots).at q))
  slot_entry q low = go (q == slot) refl
    where
      -- what the directory says of other files is as it was
      other : (o : Option FileId) → v.slots.at q ≡ o → (q ≡ slot → ⊥) → option_map (entry_for v) o ≡ option_map (entry_for (volume_without f v)) (unless (same_file f) o)
      other None e ne = refl
      other (Some g) e ne =
          let ne_file : same_file f g ≡ false = not_file g e ne in
          ap Some (ap (λ (x : Option ℕ). record { file = g; place = number_or_0 x }) (sym (cond-false (same_file f g) None (v.places.of (LeaderOf g)) ne_file)))
          ∙ sym (ap (option_map (entry_for (volume_without f v))) (cond-false (same_file f g) None (Some g) ne_file))
        where
          not_file : (g : FileId) → v.slots.at q ≡ Some g → (q ≡ slot → ⊥) → same_file f g ≡ false
          not_file g e ne = look (same_file f g) refl
            where
              look : (t : Bool) → same_file f g ≡ t → t ≡ false
              look false d = refl
              look true d =
                  let file : f ≡ g = same_file-true f g d in
                  let one : v.slots.of g ≡ Some q = s.shape.slots.back q g e in
                  let two : v.slots.of f ≡ v.slots.of g = ap v.slots.of file in
                  absurd (ne (let same : q ≡ slot = cc in same))

      go : (t : Bool) → (q == slot) ≡ t → entry_in (written page_no_ bytes at) q ≡ Some (option_map (entry_for (volume_without f v)) ((without (same_file f) v.slots).at q))
      go true e =
          let same : q ≡ slot = eqb-true q slot e in
          let own : v.slots.at slot ≡ Some f = s.shape.slots.there f slot here in
          ap (entry_in (written page_no_ bytes at)) same ∙ ap (λ (b : List ℕ). whole entry (part_of 16 (slot % 32) b)) (written_same page_no_ bytes at) ∙ has.own
          ∙ ap (λ (o : Option FileId). Some (option_map (entry_for (volume_without f v)) o)) (sym (ap (λ (x : ℕ). unless (same_file f) (v.slots.at x)) same ∙ ap (unless (same_file f)) own ∙ cond-true (same_file f f) None (Some f) (same_file-itself f)))
      go false e =
          let ne : q ≡ slot → ⊥ = λ z. (let yes = eq-eqb q slot z in cc) in
          old_entry (1 + q / 32 == page_no_) refl ne ∙ s.directory q low ∙ ap Some (other (v.slots.at q) refl ne)
        where
          old_entry : (t : Bool) → (1 + q / 32 == page_no_) ≡ t → (q ≡ slot → ⊥) → entry_in (written page_no_ bytes at) q ≡ entry_in at q
          old_entry false d ne = ap (λ (b : List ℕ). whole entry (part_of 16 (q % 32) b)) (written_other page_no_ bytes at (1 + q / 32) d)
          old_entry true d ne =
              let same : 1 + q / 32 ≡ page_no_ = eqb-true (1 + q / 32) page_no_ d in
              let apart_ : q % 32 ≡ slot % 32 → ⊥ = λ z. ne (omega (arith, same, z)) in
              ap (λ (x : ℕ). whole entry (part_of 16 (q % 32) (written page_no_ bytes at x))) same
              ∙ ap (λ (b : List ℕ). whole entry (part_of 16 (q % 32) b)) (written_same page_no_ bytes at) ∙ ap (whole entry) (has.other (q % 32) apart_)
              ∙ ap (λ (x : ℕ). whole entry (part_of 16 (q % 32) (at x))) (sym same)

  node_high : (k : Node) (p : ℕ) → v.places.of k ≡ Some p → written page_no_ bytes at p ≡ at p
  node_high k p h = let least = s.shape.places.least k p h in stays p (omega (arith, least))

  child_file : (k : Node) (j : ℕ) → file_of (nodes.child k j) ≡ file_of k
  child_file (LeaderOf g) j = refl
  child_file (IndexOf g b) j = refl
  child_file (DataOf g n) j = refl

  pub file_gone : Spells home (written (1 + slot / 32) bytes at) (volume_without f v) (after (Drop f ∷ []) m)
  file_gone = record {
    shape = record {
      slots = without-is (same_file f) v.slots s.shape.slots;
      rows = s.shape.rows;
      places = without-is (is_of f) v.places s.shape.places;
      files = λ g. alike (same_file f g) (v.slots.of g) (m (Leader g)) (s.shape.files g);
      owners = s.shape.owners;
      leaders = λ g. alike (same_file f g) (v.places.of (LeaderOf g)) (m (Leader g)) (s.shape.leaders g);
      pages = λ g n. alike (same_file f g) (v.places.of (DataOf g n)) (m (PageOf g n)) (s.shape.pages g n);
      block = λ g n p h. (
          let k = kept_of (same_file f g) (v.places.of (DataOf g n)) p h in
          ap is_some (cond-false (same_file f g) None (v.places.of (IndexOf g (n / 128))) k.0) ∙ s.shape.block g n p k.1
          );
      page = λ g b p h. (
          let k = kept_of (same_file f g) (v.places.of (IndexOf g b)) p h in
          let n = s.shape.page g b p k.1 in
          (n.0, n.1, ap is_some (cond-false (same_file f g) None (v.places.of (DataOf g n.0)) k.0) ∙ n.2)
          );
    };
    header = written_other page_no_ bytes at 0 (eqb_other 0 page_no_ (λ e. omega arith)) ∙ s.header;
    directory = slot_entry;
    owners = λ row low. ap (λ (b : List ℕ). read_row (part_of 256 (row % 2) b)) (stays (129 + row / 2) (omega arith)) ∙ s.owners row low;
    rows = λ k p h. (
        let kept = kept_of (is_of f k) (v.places.of k) p h in
        let old = s.rows k p kept.1 in
        record {
          row = old.row;
          reads = ap (nodes.row_of k) (node_high k p kept.1) ∙ old.reads;
          says = λ j few. old.says j few
              ∙ ap number_or_0 (sym (cond-false (is_of f (nodes.child k j)) None (v.places.of (nodes.child k j)) (ap (same_file f) (child_file k j) ∙ kept.0)));
        }
        );
    leaders = λ g p h. (
        let kept = kept_of (same_file f g) (v.places.of (LeaderOf g)) p h in
        cond-false (same_file f g) None (m (Leader g)) kept.0 ∙ s.leaders g p kept.1 ∙ ap (λ (b : List ℕ). option_map props_cell (whole leader_page b)) (sym (node_high (LeaderOf g) p kept.1))
        );
    pages = λ g n p h. (
        let kept = kept_of (same_file f g) (v.places.of (DataOf g n)) p h in
        cond-false (same_file f g) None (m (PageOf g n)) kept.0 ∙ s.pages g n p kept.1 ∙ ap (λ (b : List ℕ). Some (cell.Page b)) (sym (node_high (DataOf g n) p kept.1))
        );
  }
