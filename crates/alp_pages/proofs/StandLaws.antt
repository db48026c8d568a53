-- Pages without damage stand for cells.
use Rattle.std.specs.Prelude.{Bool, true, false, not, ◌||◌, ◌==◌, nat_lt, is_some, Option, None, Some, option_map, slice_index_or, map as list_map}
use Rattle.std.specs.Option.{option_and_then, option_to_list}
use Rattle.std.specs.List.{enumerate_from, range_with_len}
use Rattle.std.specs.FinMap as map
use Rattle.std.proofs.Common.{◌≡◌, ℕ, zero, suc, ◌<◌, ◌≤◌, ◌+◌, ◌-◌, ◌*◌, ◌/◌, ◌%◌, List, [], ◌∷◌, ◌++◌, length, inl, inr, refl, sym, ◌∙◌, ap, subst, arith, eq-eqb}
use Rattle.std.proofs.lemmas.Bool.{eqb-true, ltb-true}
use Rattle.alp_base.specs.declared.ids.FileId.{FileId}
use Rattle.alp_base.specs.declared.key.Key.TheVariants.{Leader, PageOf, OwnerOf}
use Rattle.alp_fields.specs.Forms.{whole}
use Rattle.alp_fields.proofs.FormLaws.{and_parts, whole_spelled}
use Rattle.alp_base.specs.declared.cell.Cell.{Cell}
use Rattle.alp_base.specs.declared.cell.Cell.TheVariants as cell
use Rattle.alp_base.specs.declared.cell.Props.{Props}
use Rattle.alp_base.specs.declared.cell.OwnerRecord.{OwnerRecord}
use Rattle.alp_files.specs.Cells.{Cells, same_file, same_name, owner_in}
use Rattle.alp_files.specs.Files.{AreCharged}
use Rattle.alp_files.proofs.SameLemmas.{same_name-true, same_name-itself, same_file-true, same_file-itself}
use Rattle.alp_pages.specs.declared.leader.Leader.{Leader as LeaderRecord}
use Rattle.alp_pages.specs.Leader.{leader_page}
use Rattle.alp_pages.specs.declared.entry.Entry.{Entry}
use Rattle.alp_pages.specs.Naming.{Naming, IsNaming, number_or_0}
use Rattle.alp_pages.specs.Nodes.{Node, LeaderOf, IndexOf, DataOf, same_node}
use Rattle.alp_pages.specs.Pages.{Pages, header_page, entry_in, row_in, index_page, has_a_place}
use Rattle.alp_pages.specs.Volume.{Volume, IsShaped, Spells, StandFor, entry_for, record_for, props_cell, row_of_node}
use Rattle.alp_pages.specs.Damage.{Part, Header, Slot, OwnerRow, NodePage, Name, entry_there, owner_there, row_there, names_in, parts, is_read, is_right_row, is_right_node, is_owned, is_within, is_below, has_owner, is_named, charge_in, size_of, damage_of, has_node, are_new, added, leader_name, names_after}
use Rattle.alp_pages.proofs.NamingLaws.{Tells}
use Rattle.alp_pages.proofs.NodeTests.{same_node-itself}
use Rattle.alp_pages.proofs.FetchLaws.{there_is}
use Rattle.alp_pages.proofs.NodeLaws.{same_bits}
use Rattle.alp_pages.proofs.LeaderLaws.{reads_leader, row_length}
use Rattle.alp_pages.proofs.IndexLaws.{index_page_law}
use Rattle.alp_pages.proofs.Members.{In, in-enumerate, in-any, any-in, in-all, in-range, in-range-back, at_or_past, order_of}
use Rattle.alp_pages.proofs.NamesLaws.{AreRight, none_wrong, is_read_in, new_parts}
use Rattle.alp_pages.proofs.SearchLaws.{searched, search_finds, search_found, search_at, searched-is}
use Rattle.alp_pages.proofs.PartLaws.{Named, behind_slots, slot-part, row-part, leader_size_at, OfNode}
use Rattle.alp_pages.proofs.SpellLaws.{node_in, limit_in, node_file, node_number, HasEntry, spelled, spelled-is, origin_of, leader_entry, entry_placed, page_placed, page_of, named_child, spells_rows}
use Rattle.alp_pages.proofs.CellsLaws.{props_or, leader_cell, page_cell, row_name, row_cell, cells_of, got_leader, got_page, got_owner, cells_kinds, cells_cost}

files_tell : Tells same_file
files_tell = record { equal = same_file-true; itself = same_file-itself }

names_tell : Tells same_name
names_tell = record { equal = same_name-true; itself = same_name-itself }

-- the file in a slot
abbrev pub slot_file : Pages → ℕ → Option FileId
slot_file at s = option_map (λ (e : Entry). e.file) (entry_there (entry_in at s))

-- some place of an index page is not 0
a_place : (row : List ℕ) → has_a_place row ≡ true → (j : ℕ) × (j < length row) × (0 < slice_index_or row j 0)
a_place [] h = cc
a_place (p ∷ ps) h = go p (p == 0) refl (a_place ps) h
  where
    go : (q : ℕ) (t : Bool) → (q == 0) ≡ t → (has_a_place ps ≡ true → (j : ℕ) × (j < length ps) × (0 < slice_index_or ps j 0)) → (not t || has_a_place ps) ≡ true → (j : ℕ) × (j < length (q ∷ ps)) × (0 < slice_index_or (q ∷ ps) j 0)
    go q false e later h = let ne : q ≡ 0 → ⊥ = λ z. (let yes = eq-eqb q 0 z in cc) in (0, omega arith, omega (arith, ne))
    go q true e later h = let b = later h in (suc b.0, omega (arith, b.1), b.2)

-- an index page that is read names some place
index_place : (page row : List ℕ) → whole index_page page ≡ Some row → has_a_place row ≡ true
unfolding index_page
index_place page row e = (whole_spelled index_page index_page_law page row e).1.1

-- ---- no file has two entries

still_there : (k : Node) (before xs : List Name) → has_node k before ≡ true → has_node k (added before xs) ≡ true
still_there k before [] h = h
still_there k before (x ∷ xs) h = still_there k (x ∷ before) xs (go (same_node k x.0))
  where
    go : (t : Bool) → (t || has_node k before) ≡ true
    go true = refl
    go false = h

module _ (home : ℕ) (at : Pages) (rest : List Part) (f : FileId) where
  abbrev Slots : List Name → ℕ → ℕ → Type 0
  Slots before a n = AreRight home at before (list_map Slot (range_with_len a n) ++ rest)

  abbrev Has : ℕ → ℕ → Type 0
  Has s p = entry_there (entry_in at s) ≡ Some (record { file = f; place = p })

  -- a slot's file is not named before
  later_new : (before : List Name) (a n s p : ℕ) → Slots before a n → a ≤ s → s < a + n → Has s p → has_node (LeaderOf f) before ≡ true → ⊥
  later_new before a zero s p h low high is named = absurd (omega arith)
  later_new before a (suc n) s p h low high is named = elim (at_or_past a s low) [
    | inl e ↦ (
        let names : names_in at (Slot a) ≡ (LeaderOf f, p) ∷ [] = ap (λ (x : ℕ). names_in at (Slot x)) e ∙ ap (λ (o : Option Entry). option_to_list (leader_name o)) is in
        let new : are_new home before ((LeaderOf f, p) ∷ []) ≡ true = ap (are_new home before) (sym names) ∙ (and_parts _ _ h.0).1 in
        let node : has_node (LeaderOf f) before ≡ false = (new_parts home before (LeaderOf f, p) (and_parts _ _ new).0).node in
        absurd (let never : true ≡ false = sym named ∙ node in cc)
        )
    | inr more ↦ later_new (added before (names_in at (Slot a))) (a + 1) n s p h.1 more (omega arith) is (still_there (LeaderOf f) before (names_in at (Slot a)) named)
  ]

  pub two_slots : (before : List Name) (a n s t p q : ℕ) → Slots before a n → a ≤ s → s < t → t < a + n → Has s p → Has t q → ⊥
  two_slots before a zero s t p q h low order high one two = absurd (omega arith)
  two_slots before a (suc n) s t p q h low order high one two = elim (at_or_past a s low) [
    | inl e ↦ (
        let names : names_in at (Slot a) ≡ (LeaderOf f, p) ∷ [] = ap (λ (x : ℕ). names_in at (Slot x)) e ∙ ap (λ (o : Option Entry). option_to_list (leader_name o)) one in
        let there : has_node (LeaderOf f) ((LeaderOf f, p) ∷ before) ≡ true = ap (λ (t : Bool). t || has_node (LeaderOf f) before) (same_node-itself (LeaderOf f)) in
        later_new (added before (names_in at (Slot a))) (a + 1) n t q h.1 (omega arith) (omega arith) two (ap (λ (xs : List Name). has_node (LeaderOf f) (added before xs)) names ∙ there)
        )
    | inr more ↦ two_slots (added before (names_in at (Slot a))) (a + 1) n s t p q h.1 more order (omega arith) one two
  ]

module _ (home : ℕ) (at : Pages) (right : AreRight home at [] (parts at)) where
  abbrev pub pl : Naming Node
  pl = spelled home at right

  abbrev pub names : List Name
  names = names_after at [] (parts at)

  abbrev pub m : Cells
  m = cells_of at names

  reads : (part : Part) → In part (parts at) → is_read at part ≡ true
  reads part i = is_read_in home at [] (parts at) part right i

  rows_within : (k : Node) (limit p : ℕ) → In (NodePage k limit p) (parts at) → is_within limit (row_of_node k (at p)) ≡ true
  rows_within k limit p i = (and_parts (is_right_node at k p) (is_within limit (row_of_node k (at p))) (reads (NodePage k limit p) i)).1

  row_there_is : (k : Node) (limit p : ℕ) → In (NodePage k limit p) (parts at) → (row : List ℕ) × (row_of_node k (at p) ≡ Some row)
  row_there_is k limit p i = go (row_of_node k (at p)) refl (rows_within k limit p i)
    where
      go : (o : Option (List ℕ)) → row_of_node k (at p) ≡ o → is_within limit o ≡ true → (row : List ℕ) × (row_of_node k (at p) ≡ Some row)
      go None e h = cc
      go (Some row) e h = (row, e)

  -- ---- entries

  entry_is : (s : ℕ) → s < 4096 → entry_in at s ≡ Some (entry_there (entry_in at s))
  entry_is s low = go (entry_in at s) (reads (Slot s) (slot-part at s low))
    where
      go : (o : Option (Option Entry)) → is_some o ≡ true → o ≡ Some (entry_there o)
      go None h = cc
      go (Some e) h = refl

  has_entry : (s : ℕ) (f : FileId) → s < 4096 → slot_file at s ≡ Some f → (p : ℕ) × (entry_there (entry_in at s) ≡ Some (record { file = f; place = p }))
  has_entry s f low h = go (entry_there (entry_in at s)) refl h
    where
      go : (o : Option Entry) → entry_there (entry_in at s) ≡ o → option_map (λ (e : Entry). e.file) o ≡ Some f → (p : ℕ) × (entry_there (entry_in at s) ≡ Some (record { file = f; place = p }))
      go None e x = cc
      go (Some en) e x = let file : en.file ≡ f = cc in (en.place, e ∙ ap (λ (g : FileId). Some (record { file = g; place = en.place })) file)

  -- no file has two entries, and no owner two rows
  slots_right : AreRight home at [] (list_map Slot (range_with_len 0 4096) ++ behind_slots at)
  unfolding parts
  slots_right = right.1

  slot_before : (a b : ℕ) (f : FileId) → a < b → b < 4096 → slot_file at a ≡ Some f → slot_file at b ≡ Some f → ⊥
  slot_before a b f order few one two =
      let p = has_entry a f (omega arith) one in
      let q = has_entry b f few two in
      two_slots home at (behind_slots at) f [] 0 4096 a b p.0 q.0 slots_right (omega arith) order (omega arith) p.1 q.1

  slots_apart : (a b : ℕ) (f : FileId) → a < 4096 → b < 4096 → slot_file at a ≡ Some f → slot_file at b ≡ Some f → a ≡ b
  slots_apart a b f low few one two = elim (order_of a b) [
    | inl less ↦ absurd (slot_before a b f less few one two)
    | inr r ↦ elim r [ inl e ↦ e | inr more ↦ absurd (slot_before b a f more low two one) ]
  ]

  row_is : (r : ℕ) → r < 256 → is_right_row at r (row_in at r) ≡ true
  row_is r low = reads (OwnerRow r) (row-part at r low)

  -- a row is read, and where it has an owner its name is new and its charge right
  record RowSays (r : ℕ) (o : OwnerRecord) : Type 0 where
    pub new : has_owner at r o.name ≡ false
    pub charge : o.charge ≡ charge_in at o.name

  row_says : (r : ℕ) (o : OwnerRecord) → r < 256 → owner_there (row_in at r) ≡ Some o → RowSays r o
  row_says r o low h = go (row_in at r) (row_is r low) h
    where
      not_true : (t : Bool) → not t ≡ true → t ≡ false
      not_true true h = cc
      not_true false h = refl

      go : (x : Option (Option OwnerRecord)) → is_right_row at r x ≡ true → owner_there x ≡ Some o → RowSays r o
      go None h e = cc
      go (Some None) h e = cc
      go (Some (Some y)) h e =
          let same : y ≡ o = cc in
          let both = and_parts (not (has_owner at r y.name)) (y.charge == charge_in at y.name) h in
          subst (RowSays r) same (record { new = not_true _ both.0; charge = eqb-true _ _ both.1 })

  row_read : (r : ℕ) → r < 256 → row_in at r ≡ Some (owner_there (row_in at r))
  row_read r low = go (row_in at r) (row_is r low)
    where
      go : (x : Option (Option OwnerRecord)) → is_right_row at r x ≡ true → x ≡ Some (owner_there x)
      go None h = cc
      go (Some x) h = refl

  -- who stands in a row
  row_owner : (r : ℕ) (name : List ℕ) → row_name at r ≡ Some name → (o : OwnerRecord) × (owner_there (row_in at r) ≡ Some o) × (o.name ≡ name)
  row_owner r name h = go (owner_there (row_in at r)) refl h
    where
      go : (x : Option OwnerRecord) → owner_there (row_in at r) ≡ x → option_map (λ (o : OwnerRecord). o.name) x ≡ Some name → (o : OwnerRecord) × (owner_there (row_in at r) ≡ Some o) × (o.name ≡ name)
      go None e x = cc
      go (Some o) e x = (o, e, (let same : o.name ≡ name = cc in same))

  row_before : (a b : ℕ) (name : List ℕ) → a < b → b < 256 → row_name at a ≡ Some name → row_name at b ≡ Some name → ⊥
  row_before a b name order few one two =
      let first = row_owner a name one in
      let second = row_owner b name two in
      let new : has_owner at b second.0.name ≡ false = (row_says b second.0 few second.1).new in
      let same : first.0.name ≡ second.0.name = first.2 ∙ sym second.2 in
      let here : is_named second.0.name (owner_there (row_in at a)) ≡ true =
      ap (is_named second.0.name) first.1 ∙ ap (λ (x : List ℕ). same_name x second.0.name) same ∙ same_name-itself second.0.name in
      let yes : has_owner at b second.0.name ≡ true = in-any (λ r. is_named second.0.name (owner_there (row_in at r))) a (range_with_len 0 b) (in-range a 0 b (omega arith) (omega arith)) here in
      (let no : true ≡ false = sym yes ∙ new in cc)

  rows_apart : (a b : ℕ) (name : List ℕ) → a < 256 → b < 256 → row_name at a ≡ Some name → row_name at b ≡ Some name → a ≡ b
  rows_apart a b name low few one two = elim (order_of a b) [
    | inl less ↦ absurd (row_before a b name less few one two)
    | inr r ↦ elim r [ inl e ↦ e | inr more ↦ absurd (row_before b a name more low two one) ]
  ]

  -- ---- the volume

  abbrev pub the_volume : Volume
  the_volume = record { slots = searched same_file (slot_file at) 4096; rows = searched same_name (row_name at) 256; places = pl }

  slots-is : IsNaming 0 4096 the_volume.slots
  slots-is = searched-is files_tell (slot_file at) 4096 slots_apart

  rows-is : IsNaming 0 256 the_volume.rows
  rows-is = searched-is names_tell (row_name at) 256 rows_apart

  file_entry : (f : FileId) (s : ℕ) → the_volume.slots.of f ≡ Some s → (p : ℕ) × HasEntry at f p
  file_entry f s h =
      let t = search_found files_tell (slot_file at) 4096 slots_apart f s h in
      let p = has_entry s f t.0 t.1 in
      (p.0, record { slot = s; low = t.0; says = p.1 })

  entry_slot : (f : FileId) (p : ℕ) (e : HasEntry at f p) → the_volume.slots.of f ≡ Some e.slot
  entry_slot f p e = search_finds files_tell (slot_file at) 4096 slots_apart f e.slot e.low (ap (option_map (λ (x : Entry). x.file)) e.says)

  leader_read : (f : FileId) (p : ℕ) → pl.of (LeaderOf f) ≡ Some p → (l : LeaderRecord) × (whole leader_page (at p) ≡ Some l)
  leader_read f p h =
      let row = spells_rows home at right (LeaderOf f) p h in
      let read = reads_leader f (at p) row.row row.reads in
      (read.leader, read.reads)

  -- ---- what the cells have

  leader_there : (f : FileId) (p : ℕ) → pl.of (LeaderOf f) ≡ Some p → map.get m (Leader f) ≡ Some (leader_cell at p)
  leader_there f p h = got_leader at names f ∙ ap (option_map (leader_cell at)) h

  page_there : (f : FileId) (n p : ℕ) → pl.of (DataOf f n) ≡ Some p → map.get m (PageOf f n) ≡ Some (cell.Page (at p))
  page_there f n p h = got_page at names f n ∙ ap (option_map (page_cell at)) h

  owner_at_row : (r : ℕ) (o : OwnerRecord) → r < 256 → owner_there (row_in at r) ≡ Some o → map.get m (OwnerOf o.name) ≡ Some (cell.Owner o)
  owner_at_row r o low h =
      got_owner at names o.name
      ∙ ap (option_and_then (row_cell at)) (search_finds names_tell (row_name at) 256 rows_apart o.name r low (ap (option_map (λ (x : OwnerRecord). x.name)) h))
      ∙ ap (option_map cell.Owner) h

  -- an owner's cell is that of its row
  record OwnerRow_ (name : List ℕ) (c : Cell) : Type 0 where
    pub row : ℕ
    pub low : row < 256
    pub owner : OwnerRecord
    pub says : owner_there (row_in at row) ≡ Some owner
    pub name_is : owner.name ≡ name
    pub cell_is : cell.Owner owner ≡ c

  row_of_owner : (name : List ℕ) (c : Cell) → map.get m (OwnerOf name) ≡ Some c → OwnerRow_ name c
  row_of_owner name c h = go (the_volume.rows.of name) refl (sym (got_owner at names name) ∙ h)
    where
      go : (o : Option ℕ) → the_volume.rows.of name ≡ o → option_and_then (row_cell at) o ≡ Some c → OwnerRow_ name c
      go None e x = cc
      go (Some r) e x =
          let t = search_found names_tell (row_name at) 256 rows_apart name r e in
          let o = row_owner r name t.1 in
          let same : Some (cell.Owner o.0) ≡ Some c = sym (ap (option_map cell.Owner) o.1) ∙ x in
          record { row = r; low = t.0; owner = o.0; says = o.1; name_is = o.2; cell_is = (let one : cell.Owner o.0 ≡ c = cc in one) }

  -- ---- pages of data

  record DataParent (f : FileId) (n q : ℕ) : Type 0 where
    pub limit : ℕ
    pub place : ℕ
    pub part : In (NodePage (IndexOf f (n / 128)) limit place) (parts at)
    pub of : OfNode at (NodePage (IndexOf f (n / 128)) limit place)
    pub says : slice_index_or (row_there (row_of_node (IndexOf f (n / 128)) (at place))) (n % 128) 0 ≡ q
    pub some : 0 < q

  data_parent : (f : FileId) (n q : ℕ) → pl.of (DataOf f n) ≡ Some q → DataParent f n q
  data_parent f n q h = elim (origin_of home at right (DataOf f n) q h) [ inl l ↦ (let e = l.1 in cc) | inr x ↦ go x.parent x.limit x.place x.part x.of x.named ]
    where
      go : (k : Node) (limit place : ℕ) → In (NodePage k limit place) (parts at) → OfNode at (NodePage k limit place) → Named k (row_there (row_of_node k (at place))) (DataOf f n) q → DataParent f n q
      go (LeaderOf g) limit place i o d = let e = d.child in cc
      go (DataOf g c) limit place i o d = (let low = d.within in absurd (omega arith))
      go (IndexOf g c) limit place i o d =
          let row = row_there_is (IndexOf g c) limit place i in
          let low : d.j < 128 = omega (arith, subst (λ (o : Option (List ℕ)). d.j < length (row_there o)) row.1 d.within, row_length (IndexOf g c) (at place) row.0 row.1) in
          let file : g ≡ f = sym (ap node_file d.child) in
          let sum : n ≡ 128 * c + d.j = ap node_number d.child in
          let block : c ≡ n / 128 = omega (arith, sum, low) in
          let number : d.j ≡ n % 128 = omega (arith, sum, low) in
          let node : IndexOf g c ≡ IndexOf f (n / 128) = λ z. IndexOf (file z) (block z) in
          record {
            limit = limit;
            place = place;
            part = subst (λ (y : Node). In (NodePage y limit place) (parts at)) node i;
            of = subst (λ (y : Node). OfNode at (NodePage y limit place)) node o;
            says = ap (λ (y : Node). slice_index_or (row_there (row_of_node y (at place))) (n % 128) 0) (sym node)
                ∙ ap (λ (y : ℕ). slice_index_or (row_there (row_of_node (IndexOf g c) (at place))) y 0) (sym number) ∙ d.says;
            some = d.some;
          }

  block_there : (f : FileId) (n q : ℕ) → pl.of (DataOf f n) ≡ Some q → is_some (pl.of (IndexOf f (n / 128))) ≡ true
  block_there f n q h = let d = data_parent f n q h in ap is_some (page_placed home at right (IndexOf f (n / 128)) d.limit d.place d.of)

  block_page : (f : FileId) (b p : ℕ) → pl.of (IndexOf f b) ≡ Some p → (n : ℕ) × (n / 128 ≡ b) × (is_some (pl.of (DataOf f n)) ≡ true)
  block_page f b p h =
      let row = spells_rows home at right (IndexOf f b) p h in
      let page = page_of home at right (IndexOf f b) p tt h in
      let some = a_place row.row (index_place (at p) row.row row.reads) in
      let low : some.0 < 128 = omega (arith, some.1, row_length (IndexOf f b) (at p) row.row row.reads) in
      let says : slice_index_or (row_there (row_of_node (IndexOf f b) (at p))) some.0 0 ≡ slice_index_or row.row some.0 0 = ap (λ (o : Option (List ℕ)). slice_index_or (row_there o) some.0 0) row.reads in
      (128 * b + some.0, omega (arith, low), ap is_some (named_child home at right (IndexOf f b) p page.limit some.0 (slice_index_or row.row some.0 0) page.part says some.2))

  -- no page lies at or past the size
  page_below : (f : FileId) (n q : ℕ) → pl.of (DataOf f n) ≡ Some q → (p : ℕ) × (l : LeaderRecord) × (pl.of (LeaderOf f) ≡ Some p) × (whole leader_page (at p) ≡ Some l) × (n < l.props.size)
  page_below f n q h =
      let d = data_parent f n q h in
      let row = row_there_is (IndexOf f (n / 128)) d.limit d.place d.part in
      let says : slice_index_or row.0 (n % 128) 0 ≡ q = ap (λ (o : Option (List ℕ)). slice_index_or (row_there o) (n % 128) 0) (sym row.1) ∙ d.says in
      let few : n % 128 < d.limit = below d.limit row.0 (n % 128) q (subst (λ (o : Option (List ℕ)). is_within d.limit o ≡ true) row.1 (rows_within (IndexOf f (n / 128)) d.limit d.place d.part)) says d.some in
      elim d.of [
        | inl l ↦ (let e = ap node_in l.is in cc)
        | inr x ↦ (
            let file : x.entry.file ≡ f = sym (ap node_file (ap node_in x.is)) in
            let limit : d.limit ≡ leader_size_at at x.entry - 128 * x.block = ap limit_in x.is in
            let block : n / 128 ≡ x.block = ap node_number (ap node_in x.is) in
            let placed : pl.of (LeaderOf f) ≡ Some x.entry.place =
            ap (λ (y : FileId). pl.of (LeaderOf y)) (sym file) ∙ entry_placed home at right x.entry.file x.entry.place (record { slot = x.slot; low = x.low; says = x.says }) in
            let read = leader_read f x.entry.place placed in
            let size : leader_size_at at x.entry ≡ read.0.props.size = ap size_of read.1 in
            (x.entry.place, read.0, placed, read.1, omega (arith, few, limit, size, block))
            )
      ]
    where
      below : (limit : ℕ) (row : List ℕ) (j q : ℕ) → is_within limit (Some row) ≡ true → slice_index_or row j 0 ≡ q → 0 < q → j < limit
      below limit row j q h says some =
          let one : (q == 0 || nat_lt j limit) ≡ true = in-all (is_below limit) (j, q) (enumerate_from 0 row) h
          (subst (λ (z : ℕ). In (z, q) (enumerate_from 0 row)) (let z : 0 + j ≡ j = omega arith in z) (in-enumerate 0 j row q says some)) in
          go (q == 0) refl one
        where
          go : (t : Bool) → (q == 0) ≡ t → (t || nat_lt j limit) ≡ true → j < limit
          go true e x = (let zero_ : q ≡ 0 = eqb-true q 0 e in absurd (omega arith))
          go false e x = ltb-true j limit x

  -- ---- the pages spell the volume

  is_some_map : {A B : Type 0} (g : A → B) (o : Option A) → is_some o ≡ is_some (option_map g o)
  is_some_map g None = refl
  is_some_map g (Some x) = refl

  shaped : IsShaped home the_volume (map.get m)
  shaped = record {
    slots = slots-is;
    rows = rows-is;
    places = spelled-is home at right;
    files = λ f. same_bits _ _ (slot_leader f) (leader_slot f);
    owners = λ o. same_bits _ _ (row_there_cell o) (cell_there_row o);
    leaders = λ f. is_some_map (leader_cell at) (pl.of (LeaderOf f)) ∙ ap is_some (sym (got_leader at names f));
    pages = λ f n. is_some_map (page_cell at) (pl.of (DataOf f n)) ∙ ap is_some (sym (got_page at names f n));
    block = block_there;
    page = block_page;
  }
    where
      slot_leader : (f : FileId) → is_some (the_volume.slots.of f) ≡ true → is_some (map.get m (Leader f)) ≡ true
      slot_leader f h =
          let s = there_is (the_volume.slots.of f) h in
          let e = file_entry f s.0 s.1 in
          ap is_some (leader_there f e.0 (entry_placed home at right f e.0 e.1))

      leader_slot : (f : FileId) → is_some (map.get m (Leader f)) ≡ true → is_some (the_volume.slots.of f) ≡ true
      leader_slot f h =
          let p = there_is (pl.of (LeaderOf f)) (is_some_map (leader_cell at) (pl.of (LeaderOf f)) ∙ ap is_some (sym (got_leader at names f)) ∙ h) in
          let e = leader_entry home at right f p.0 p.1 in
          ap is_some (entry_slot f p.0 e)

      row_there_cell : (o : List ℕ) → is_some (the_volume.rows.of o) ≡ true → is_some (map.get m (OwnerOf o)) ≡ true
      row_there_cell o h =
          let r = there_is (the_volume.rows.of o) h in
          let t = search_found names_tell (row_name at) 256 rows_apart o r.0 r.1 in
          let own = row_owner r.0 o t.1 in
          ap is_some (ap (λ (x : List ℕ). map.get m (OwnerOf x)) (sym own.2) ∙ owner_at_row r.0 own.0 t.0 own.1)

      cell_there_row : (o : List ℕ) → is_some (map.get m (OwnerOf o)) ≡ true → is_some (the_volume.rows.of o) ≡ true
      cell_there_row o h =
          let c = there_is (map.get m (OwnerOf o)) h in
          let r = row_of_owner o c.0 c.1 in
          ap is_some (search_finds names_tell (row_name at) 256 rows_apart o r.row r.low (ap (option_map (λ (x : OwnerRecord). x.name)) r.says ∙ ap Some r.name_is))

  header_is : at 0 ≡ header_page
  unfolding parts
  header_is = same_name-true (at 0) header_page (reads Header (inl refl))

  directory_is : (slot : ℕ) → slot < 4096 → entry_in at slot ≡ Some (option_map (entry_for the_volume) (the_volume.slots.at slot))
  directory_is slot low = entry_is slot low ∙ ap Some (go (entry_there (entry_in at slot)) refl)
    where
      here : (o : Option Entry) → entry_there (entry_in at slot) ≡ o → the_volume.slots.at slot ≡ option_map (λ (e : Entry). e.file) o
      here o e = search_at files_tell (slot_file at) 4096 slots_apart slot low ∙ ap (option_map (λ (x : Entry). x.file)) e

      go : (o : Option Entry) → entry_there (entry_in at slot) ≡ o → o ≡ option_map (entry_for the_volume) (the_volume.slots.at slot)
      go None e = sym (ap (option_map (entry_for the_volume)) (here None e))
      go (Some x) e =
          let placed : pl.of (LeaderOf x.file) ≡ Some x.place = entry_placed home at right x.file x.place (record { slot = slot; low = low; says = e }) in
          let own : entry_for the_volume x.file ≡ x = ap (λ (q : Option ℕ). record { file = x.file; place = number_or_0 q }) placed in
          ap Some (sym own) ∙ sym (ap (option_map (entry_for the_volume)) (here (Some x) e))

  owners_are : (row : ℕ) → row < 256 → row_in at row ≡ Some (option_and_then (record_for (map.get m)) (the_volume.rows.at row))
  owners_are row low = row_read row low ∙ ap Some (go (owner_there (row_in at row)) refl)
    where
      here : (o : Option OwnerRecord) → owner_there (row_in at row) ≡ o → the_volume.rows.at row ≡ option_map (λ (x : OwnerRecord). x.name) o
      here o e = search_at names_tell (row_name at) 256 rows_apart row low ∙ ap (option_map (λ (x : OwnerRecord). x.name)) e

      go : (o : Option OwnerRecord) → owner_there (row_in at row) ≡ o → o ≡ option_and_then (record_for (map.get m)) (the_volume.rows.at row)
      go None e = sym (ap (option_and_then (record_for (map.get m))) (here None e))
      go (Some x) e = sym (ap (option_and_then (record_for (map.get m))) (here (Some x) e) ∙ ap owner_in (owner_at_row row x low e))

  leader_is : (f : FileId) (p : ℕ) (l : LeaderRecord) → pl.of (LeaderOf f) ≡ Some p → whole leader_page (at p) ≡ Some l → map.get m (Leader f) ≡ Some (cell.Leader l.props)
  leader_is f p l h e = leader_there f p h ∙ ap (λ (o : Option LeaderRecord). Some (cell.Leader (props_or o))) e

  leader_cells : (f : FileId) (p : ℕ) → pl.of (LeaderOf f) ≡ Some p → map.get m (Leader f) ≡ option_map props_cell (whole leader_page (at p))
  leader_cells f p h = let l = leader_read f p h in leader_is f p l.0 h l.1 ∙ sym (ap (option_map props_cell) l.1)

  pub spells : Spells home at the_volume (map.get m)
  spells = record {
    shape = shaped;
    header = header_is;
    directory = directory_is;
    owners = owners_are;
    rows = spells_rows home at right;
    leaders = leader_cells;
    pages = page_there;
  }

  -- ---- and the cells are sound

  owned : (f : FileId) (p : Props) → map.get m (Leader f) ≡ Some (cell.Leader p) → (o : OwnerRecord) × (map.get m (OwnerOf p.owner) ≡ Some (cell.Owner o))
  owned f p h =
      let q = there_is (pl.of (LeaderOf f)) (is_some_map (leader_cell at) (pl.of (LeaderOf f)) ∙ ap is_some (sym (got_leader at names f) ∙ h)) in
      let l = leader_read f q.0 q.1 in
      let page = page_of home at right (LeaderOf f) q.0 tt q.1 in
      let right_ : is_owned at (whole leader_page (at q.0)) ≡ true = (and_parts (is_owned at (whole leader_page (at q.0))) (is_within page.limit (row_of_node (LeaderOf f) (at q.0))) (reads (NodePage (LeaderOf f) page.limit q.0) page.part)).0 in
      let has : has_owner at 256 l.0.props.owner ≡ true = ap (is_owned at) (sym l.1) ∙ right_ in
      let r = any-in (λ r. is_named l.0.props.owner (owner_there (row_in at r))) (range_with_len 0 256) has in
      let o = named_owner l.0.props.owner (owner_there (row_in at r.0)) r.2 in
      let props : l.0.props ≡ p = (let one : Some (cell.Leader l.0.props) ≡ Some (cell.Leader p) = sym (leader_is f q.0 l.0 q.1 l.1) ∙ h in cc) in
      let name : o.0.name ≡ p.owner = o.2 ∙ ap (λ (x : Props). x.owner) props in
      (o.0, ap (λ (x : List ℕ). map.get m (OwnerOf x)) (sym name) ∙ owner_at_row r.0 o.0 (in-range-back r.0 0 256 r.1).1 o.1)
    where
      named_owner : (name : List ℕ) (x : Option OwnerRecord) → is_named name x ≡ true → (o : OwnerRecord) × (x ≡ Some o) × (o.name ≡ name)
      named_owner name None e = cc
      named_owner name (Some o) e = (o, refl, same_name-true o.name name e)

  paged : (f : FileId) (n : ℕ) (c : Cell) → map.get m (PageOf f n) ≡ Some c → (p : Props) × (map.get m (Leader f) ≡ Some (cell.Leader p)) × (n < p.size)
  paged f n c h =
      let q = there_is (pl.of (DataOf f n)) (is_some_map (page_cell at) (pl.of (DataOf f n)) ∙ ap is_some (sym (got_page at names f n) ∙ h)) in
      let below = page_below f n q.0 q.1 in
      (below.1.props, leader_is f below.0 below.1 below.2 below.3, below.4)

  charged : AreCharged m
  charged owner o h =
      let r = row_of_owner owner (cell.Owner o) h in
      let same : r.owner ≡ o = (let one : cell.Owner r.owner ≡ cell.Owner o = r.cell_is in cc) in
      let charge : r.owner.charge ≡ charge_in at r.owner.name = (row_says r.row r.owner r.low r.says).charge in
      ap (λ (x : OwnerRecord). x.charge) (sym same) ∙ charge ∙ ap (charge_in at) r.name_is ∙ sym (cells_cost at owner home right)

  pub stands : StandFor home at m
  stands = record { volume = the_volume; spells = spells; sound = (record { kinds = cells_kinds at names; owned = owned; paged = paged }, charged) }

-- pages without a damaged one stand for some cells
pub undamaged_stand : (home : ℕ) (at : Pages) → damage_of home at ≡ None → (m : Cells) × StandFor home at m
unfolding damage_of
undamaged_stand home at h = let right = none_wrong home at [] (parts at) h in (cells_of at (names_after at [] (parts at)), stands home at right)
