-- Pages that stand for cells have no damaged one: in the order of damage each part is right, and each name is new.
use Rattle.std.specs.Prelude.{Bool, true, false, cond, not, ◌||◌, ◌==◌, nat_lt, is_some, Option, None, Some, option_map, slice_index_or, map as list_map}
use Rattle.std.specs.Option.{option_and_then, option_to_list}
use Rattle.std.specs.List.{cons_option, list_all, flat_map, filter_map, enumerate_from, range_with_len}
use Rattle.std.specs.FinMap as map
use Rattle.std.proofs.Common.{◌≡◌, ℕ, zero, suc, ◌<◌, ◌≤◌, ◌+◌, ◌-◌, ◌*◌, List, [], ◌∷◌, ◌++◌, length, inl, inr, refl, sym, ◌∙◌, ap, subst, arith, eq-eqb}
use Rattle.std.proofs.lemmas.Bool.{eqb-true, and_from, le-leb, lt-ltb}
use Rattle.alp_base.specs.declared.ids.FileId.{FileId}
use Rattle.alp_base.specs.declared.key.Key.TheVariants.{Leader, PageOf, OwnerOf}
use Rattle.alp_fields.specs.Forms.{whole}
use Rattle.alp_base.specs.declared.cell.Cell.{Cell}
use Rattle.alp_base.specs.declared.cell.Cell.TheVariants as cell
use Rattle.alp_base.specs.declared.cell.Props.{Props}
use Rattle.alp_base.specs.declared.cell.OwnerRecord.{OwnerRecord}
use Rattle.alp_files.specs.Cells.{Cells, same_name, owner_in}
use Rattle.alp_files.specs.Sound.{AreSound}
use Rattle.alp_files.proofs.SameLemmas.{same_name-true, same_name-itself}
use Rattle.alp_pages.specs.declared.leader.Leader.{Leader as LeaderRecord}
use Rattle.alp_pages.specs.Leader.{leader_page}
use Rattle.alp_pages.specs.declared.entry.Entry.{Entry}
use Rattle.alp_pages.specs.Naming.{number_or_0}
use Rattle.alp_pages.specs.Nodes.{Node, LeaderOf, IndexOf, DataOf, same_node}
use Rattle.alp_pages.specs.Pages.{Pages, header_page, entry_in, row_in}
use Rattle.alp_pages.specs.Volume.{Volume, Spells, StandFor, entry_for, record_for, props_cell, row_of_node, width_of, child_of}
use Rattle.alp_pages.specs.Damage.{Part, Header, Slot, OwnerRow, NodePage, Name, entry_there, owner_there, row_there, leader_name, child_name, names_of, names_in, size_of, index_part, parts_of, parts, has_node, has_place, is_new, are_new, added, is_named, has_owner, is_right_row, is_owned, is_right_node, is_below, is_within, is_right, charge_in, damage_of}
use Rattle.alp_pages.proofs.NodeTests.{same_node-true}
use Rattle.alp_pages.proofs.FetchLaws.{there_is}
use Rattle.alp_pages.proofs.LeaderLaws.{row_length, reads_leader}
use Rattle.alp_pages.proofs.Members.{In, any-in, in-any, all-in, in-range, in-range-back, in-enumerate-back}
use Rattle.alp_pages.proofs.NamesLaws.{AreRight, right_none}
use Rattle.alp_pages.proofs.ChargeLaws.{charge_spelled, entry_of_slot}

not_false : (t : Bool) → (t ≡ true → ⊥) → not t ≡ true
not_false true never = absurd (never refl)
not_false false never = refl

module _ (home : ℕ) (at : Pages) (v : Volume) (m : Cells) (s : Spells home at v (map.get m)) (sound : AreSound m) where
  -- where a node stands in the order in which nodes are named
  abbrev slot_of : FileId → ℕ
  slot_of f = number_or_0 (v.slots.of f)

  abbrev rank : Node → ℕ
  rank (LeaderOf f) = slot_of f
  rank (IndexOf f b) = 4096 + 5000 * slot_of f + b
  rank (DataOf f n) = 4196 + 5000 * slot_of f + n

  -- names of the volume, all in front of that
  abbrev Known : List Name → ℕ → Type 0
  Known before hi = (k : Node) (p : ℕ) → In (k, p) before → (v.places.of k ≡ Some p) × (rank k < hi)

  more : (before : List Name) (lo hi : ℕ) → lo ≤ hi → Known before lo → Known before hi
  more before lo hi le known k p i = let one = known k p i in (one.0, omega (arith, one.1))

  one_more : (before : List Name) (lo : ℕ) (k : Node) (p : ℕ) → Known before lo → v.places.of k ≡ Some p → lo ≤ rank k → Known ((k, p) ∷ before) (rank k + 1)
  one_more before lo k p known here low j q i = elim i [
    | inl e ↦ (
        let node : j ≡ k = sym (ap (λ (x : Name). x.0) e) in
        let place : q ≡ p = sym (ap (λ (x : Name). x.1) e) in
        let same : rank j ≡ rank k = ap rank node in
        (ap v.places.of node ∙ here ∙ ap Some (sym place), omega (arith, same))
        )
    | inr r ↦ (let one = known j q r in (one.0, omega (arith, one.1)))
  ]

  -- a name behind all of them is new
  new_name : (before : List Name) (lo : ℕ) (k : Node) (p : ℕ) → Known before lo → v.places.of k ≡ Some p → lo ≤ rank k → is_new home before (k, p) ≡ true
  new_name before lo k p known here low =
      and_from _ _ (and_from _ _ (and_from _ _ (le-leb 257 p (s.shape.places.least k p here)) (lt-ltb p home (s.shape.places.most k p here))) (not_false _ no_node)) (not_false _ no_place)
    where
      no_node : has_node k before ≡ true → ⊥
      no_node h =
          let x = any-in (λ (x : Name). same_node k x.0) before h in
          let known_ = known x.0.0 x.0.1 x.1 in
          let same : rank k ≡ rank x.0.0 = ap rank (same_node-true k x.0.0 x.2) in
          omega (arith, same, known_.1, low)

      no_place : has_place p before ≡ true → ⊥
      no_place h =
          let x = any-in (λ (x : Name). x.1 == p) before h in
          let known_ = known x.0.0 x.0.1 x.1 in
          let place : x.0.1 ≡ p = eqb-true x.0.1 p x.2 in
          let one : v.places.at p ≡ Some x.0.0 = s.shape.places.there x.0.0 p (known_.0 ∙ ap Some place) in
          let two : v.places.at p ≡ Some k = s.shape.places.there k p here in
          let node : k ≡ x.0.0 = cc in
          let same : rank k ≡ rank x.0.0 = ap rank node in
          omega (arith, same, known_.1, low)

  -- ---- the names of a row

  -- where the first child of a node stands in that order
  abbrev base : Node → ℕ
  base (LeaderOf f) = 4096 + 5000 * slot_of f
  base (IndexOf f b) = 4196 + 5000 * slot_of f + 128 * b
  base (DataOf f n) = 0

  abbrev IsPage : Node → Type 0
  IsPage (LeaderOf f) = Unit {0}
  IsPage (IndexOf f b) = Unit {0}
  IsPage (DataOf f n) = ⊥

  child_rank : (k : Node) (j : ℕ) → IsPage k → rank (child_of k j) ≡ base k + j
  child_rank (LeaderOf f) j is = refl
  child_rank (IndexOf f b) j is = omega arith
  child_rank (DataOf f n) j is = absurd is

  -- what a row names from a number on is where it says
  abbrev Says : Node → ℕ → List ℕ → Type 0
  Says k a row = (j q : ℕ) → slice_index_or row j 0 ≡ q → 0 < q → v.places.of (child_of k (a + j)) ≡ Some q

  record Named (before : List Name) (xs : List Name) (hi : ℕ) : Type 0 where
    pub new : are_new home before xs ≡ true
    pub known : Known (added before xs) hi

  row_names : (k : Node) (is : IsPage k) (a : ℕ) (row : List ℕ) (before : List Name) → Says k a row → Known before (base k + a) → Named before (filter_map (child_name k) (enumerate_from a row)) (base k + (a + length row))
  row_names k is a [] before says known = record { new = refl; known = more before (base k + a) (base k + (a + 0)) (omega arith) known }
  row_names k is a (p ∷ ps) before says known = go (p == 0) refl (row_names k is (a + 1) ps)
    where
      later : Says k (a + 1) ps
      later j q e some =
          let number : a + suc j ≡ a + 1 + j = omega arith in
          ap (λ (x : ℕ). v.places.of (child_of k x)) (sym number) ∙ says (suc j) q e some

      long : base k + (a + 1 + length ps) ≡ base k + (a + suc (length ps))
      long = omega arith

      first_there : (p == 0) ≡ false → v.places.of (child_of k a) ≡ Some p
      first_there z =
          let ne : p ≡ 0 → ⊥ = λ e. (let yes = eq-eqb p 0 e in cc) in
          let number : a + 0 ≡ a = omega arith in
          ap (λ (x : ℕ). v.places.of (child_of k x)) (sym number) ∙ says 0 p refl (omega (arith, ne))

      go : (t : Bool) → (p == 0) ≡ t → ((b : List Name) → Says k (a + 1) ps → Known b (base k + (a + 1)) → Named b (filter_map (child_name k) (enumerate_from (a + 1) ps)) (base k + (a + 1 + length ps)))
          → Named before (cons_option (cond {A = Option Name} t None (Some (child_of k a, p))) (filter_map (child_name k) (enumerate_from (a + 1) ps))) (base k + (a + suc (length ps)))
      go true z rest = subst (λ (h : ℕ). Named before (filter_map (child_name k) (enumerate_from (a + 1) ps)) h) long (rest before later (more before (base k + a) (base k + (a + 1)) (omega arith) known))
      go false z rest =
          let here = first_there z in
          let place : rank (child_of k a) ≡ base k + a = child_rank k a is in
          let new : is_new home before (child_of k a, p) ≡ true = new_name before (base k + a) (child_of k a) p known here (omega (arith, place)) in
          let next : Known ((child_of k a, p) ∷ before) (base k + (a + 1)) =
          more ((child_of k a, p) ∷ before) (rank (child_of k a) + 1) (base k + (a + 1)) (omega (arith, place)) (one_more before (base k + a) (child_of k a) p known here (omega (arith, place))) in
          let others = rest ((child_of k a, p) ∷ before) later next in
          record { new = and_from _ _ new others.new; known = subst (λ (h : ℕ). Known (added ((child_of k a, p) ∷ before) (filter_map (child_name k) (enumerate_from (a + 1) ps))) h) long others.known }

  -- ---- the pages of nodes

  number_said : (o : Option ℕ) (q : ℕ) → number_or_0 o ≡ q → 0 < q → o ≡ Some q
  number_said None q h some = absurd (omega arith)
  number_said (Some p) q h some = ap Some h

  -- the row of a node that has a place, and that it names where its children stand
  record RowOf (k : Node) (p : ℕ) : Type 0 where
    pub row : List ℕ
    pub reads : row_of_node k (at p) ≡ Some row
    pub long : length row ≡ width_of k
    pub says : Says k 0 row

  past_end : (row : List ℕ) (j q : ℕ) → slice_index_or row j 0 ≡ q → 0 < q → j < length row
  past_end [] zero q e some = absurd (omega arith)
  past_end [] (suc j) q e some = absurd (omega arith)
  past_end (x ∷ xs) zero q e some = omega arith
  past_end (x ∷ xs) (suc j) q e some = let rest = past_end xs j q e some in omega (arith, rest)

  row_of : (k : Node) (p : ℕ) → v.places.of k ≡ Some p → RowOf k p
  row_of k p h =
      let spelled = s.rows k p h in
      let long = row_length k (at p) spelled.row spelled.reads in
      record {
        row = spelled.row;
        reads = spelled.reads;
        long = long;
        says = λ j q e some. (
            let few : j < width_of k = omega (arith, past_end spelled.row j q e some, long) in
            let number : 0 + j ≡ j = omega arith in
            ap (λ (x : ℕ). v.places.of (child_of k x)) number ∙ number_said (v.places.of (child_of k j)) q (sym (spelled.says j few) ∙ e) some
            );
      }

  -- a page of a node is right where it names nothing from the limit on
  page_right : (k : Node) (is : IsPage k) (limit p : ℕ) (before : List Name) (rest : List Part) → v.places.of k ≡ Some p → is_right_node at k p ≡ true
      → ((row : List ℕ) → row_of_node k (at p) ≡ Some row → (j q : ℕ) → slice_index_or row j 0 ≡ q → 0 < q → j < limit)
      → Known before (base k) → ((next : List Name) → Known next (base k + width_of k) → AreRight home at next rest) → AreRight home at before (NodePage k limit p ∷ rest)
  page_right k is limit p before rest h node below known later =
      let row = row_of k p h in
      let start : Known before (base k + 0) = more before (base k) (base k + 0) (omega arith) known in
      let named = row_names k is 0 row.row before row.says start in
      let names : names_in at (NodePage k limit p) ≡ filter_map (child_name k) (enumerate_from 0 row.row) = ap (λ (o : Option (List ℕ)). names_of k (row_there o)) row.reads in
      let within : is_within limit (row_of_node k (at p)) ≡ true = ap (is_within limit) row.reads ∙ all_in_row limit row.row (below row.row row.reads) in
      let last : Known (added before (filter_map (child_name k) (enumerate_from 0 row.row))) (base k + width_of k) =
      more (added before (filter_map (child_name k) (enumerate_from 0 row.row))) (base k + (0 + length row.row)) (base k + width_of k) (omega (arith, row.long)) named.known in (
        and_from _ _ (and_from _ _ node within) (ap (are_new home before) names ∙ named.new),
        later (added before (names_in at (NodePage k limit p))) (subst (λ (xs : List Name). Known (added before xs) (base k + width_of k)) (sym names) last),
      )
    where
      one_within : (limit j q : ℕ) → (0 < q → j < limit) → is_below limit (j, q) ≡ true
      one_within limit j zero h = refl
      one_within limit j (suc q) h = go (suc q == 0) (lt-ltb j limit (h (omega arith)))
        where
          go : (t : Bool) → nat_lt j limit ≡ true → (t || nat_lt j limit) ≡ true
          go true e = refl
          go false e = e

      all_in_row : (limit : ℕ) (row : List ℕ) → ((j q : ℕ) → slice_index_or row j 0 ≡ q → 0 < q → j < limit) → list_all (is_below limit) (enumerate_from 0 row) ≡ true
      all_in_row limit row h = all-in (is_below limit) (enumerate_from 0 row) (λ x i. (
          let b = in-enumerate-back 0 x.0 x.1 row i in
          let number : b.0 ≡ x.0 = omega (arith, b.1) in
          one_within limit x.0 x.1 (λ some. subst (λ (j : ℕ). j < limit) number (h b.0 x.1 b.3 some))))

  -- ---- index pages

  -- a file with its leader
  record FileAt (f : FileId) (p : ℕ) : Type 0 where
    pub leader : LeaderRecord
    pub placed : v.places.of (LeaderOf f) ≡ Some p
    pub reads : whole leader_page (at p) ≡ Some leader
    pub props : map.get m (Leader f) ≡ Some (cell.Leader leader.props)

  file_at : (f : FileId) (p : ℕ) → v.places.of (LeaderOf f) ≡ Some p → FileAt f p
  file_at f p h =
      let row = s.rows (LeaderOf f) p h in
      let read = reads_leader f (at p) row.row row.reads in
      record { leader = read.leader; placed = h; reads = read.reads; props = s.leaders f p h ∙ ap (option_map props_cell) read.reads }

  -- a page of data lies below the size
  below_size : (f : FileId) (p : ℕ) (file : FileAt f p) (n d : ℕ) → v.places.of (DataOf f n) ≡ Some d → n < file.leader.props.size
  below_size f p file n d h =
      let page = there_is (map.get m (PageOf f n)) (sym (s.shape.pages f n) ∙ ap is_some h) in
      let paged = sound.0.paged f n page.0 page.1 in
      let same : file.leader.props ≡ paged.0 = (let one : Some (cell.Leader file.leader.props) ≡ Some (cell.Leader paged.0) = sym file.props ∙ paged.1 in cc) in
      let size : file.leader.props.size ≡ paged.0.size = ap (λ (x : Props). x.size) same in
      omega (arith, paged.2, size)

  indices_right : (f : FileId) (p : ℕ) (file : FileAt f p) (a : ℕ) (row : List ℕ) (before : List Name) (rest : List Part) → a + length row ≤ 32 → Says (LeaderOf f) a row → Known before (base (IndexOf f a))
      → ((next : List Name) → Known next (4096 + 5000 * (slot_of f + 1)) → AreRight home at next rest)
      → AreRight home at before (filter_map (index_part f file.leader.props.size) (enumerate_from a row) ++ rest)
  indices_right f p file a [] before rest few says known later = later before (more before (base (IndexOf f a)) (4096 + 5000 * (slot_of f + 1)) (omega arith) known)
  indices_right f p file a (q ∷ qs) before rest few says known later = go (q == 0) refl (indices_right f p file (a + 1) qs)
    where
      others : Says (LeaderOf f) (a + 1) qs
      others j d e some =
          let number : a + suc j ≡ a + 1 + j = omega arith in
          ap (λ (x : ℕ). v.places.of (IndexOf f x)) (sym number) ∙ says (suc j) d e some

      there : (q == 0) ≡ false → v.places.of (IndexOf f a) ≡ Some q
      there z =
          let ne : q ≡ 0 → ⊥ = λ e. (let yes = eq-eqb q 0 e in cc) in
          let number : a + 0 ≡ a = omega arith in
          ap (λ (x : ℕ). v.places.of (IndexOf f x)) (sym number) ∙ says 0 q refl (omega (arith, ne))

      below : v.places.of (IndexOf f a) ≡ Some q → (row : List ℕ) → row_of_node (IndexOf f a) (at q) ≡ Some row → (j d : ℕ) → slice_index_or row j 0 ≡ d → 0 < d → j < file.leader.props.size - 128 * a
      below h row reads j d e some =
          let own = row_of (IndexOf f a) q h in
          let same : own.row ≡ row = (let one : Some own.row ≡ Some row = sym own.reads ∙ reads in cc) in
          let placed = own.says j d (ap (λ (r : List ℕ). slice_index_or r j 0) same ∙ e) some in
          let low = below_size f p file (128 * a + (0 + j)) d placed in
          omega (arith, low)

      go : (t : Bool) → (q == 0) ≡ t
          → ((b : List Name) (r : List Part) → a + 1 + length qs ≤ 32 → Says (LeaderOf f) (a + 1) qs → Known b (base (IndexOf f (a + 1)))
          → ((next : List Name) → Known next (4096 + 5000 * (slot_of f + 1)) → AreRight home at next r) → AreRight home at b (filter_map (index_part f file.leader.props.size) (enumerate_from (a + 1) qs) ++ r))
          → AreRight home at before (cons_option (cond {A = Option Part} t None (Some (NodePage (IndexOf f a) (file.leader.props.size - 128 * a) q))) (filter_map (index_part f file.leader.props.size) (enumerate_from (a + 1) qs)) ++ rest)
      go true z more_ = more_ before rest (omega arith) others (more before (base (IndexOf f a)) (base (IndexOf f (a + 1))) (omega arith) known) later
      go false z more_ =
          page_right (IndexOf f a) tt (file.leader.props.size - 128 * a) q before (filter_map (index_part f file.leader.props.size) (enumerate_from (a + 1) qs) ++ rest) (there z) refl (below (there z)) known
          (λ next known_. more_ next rest (omega arith) others (more next (base (IndexOf f a) + 128) (base (IndexOf f (a + 1))) (omega arith) known_) later)

  -- ---- leaders

  -- the owner of a leader has a row
  owner_there_is : (f : FileId) (p : ℕ) (file : FileAt f p) → is_owned at (whole leader_page (at p)) ≡ true
  owner_there_is f p file =
      let owned = sound.0.owned f file.leader.props file.props in
      let name : List ℕ = file.leader.props.owner in
      let row = there_is (v.rows.of name) (s.shape.owners name ∙ ap is_some owned.1) in
      let here : v.rows.at row.0 ≡ Some name = s.shape.rows.there name row.0 row.1 in
      let few : row.0 < 256 = s.shape.rows.most name row.0 row.1 in
      let says : owner_there (row_in at row.0) ≡ Some owned.0 = ap owner_there (s.owners row.0 few) ∙ ap (option_and_then (record_for (map.get m))) here ∙ ap owner_in owned.1 in
      let own : owned.0.name ≡ name = sound.0.kinds (OwnerOf name) (cell.Owner owned.0) owned.1 in
      let found : is_named name (owner_there (row_in at row.0)) ≡ true = ap (is_named name) says ∙ ap (λ (x : List ℕ). same_name x name) own ∙ same_name-itself name in
      ap (is_owned at) file.reads ∙ in-any (λ r. is_named name (owner_there (row_in at r))) row.0 (range_with_len 0 256) (in-range row.0 0 256 (omega arith) (omega arith)) found

  file_right : (f : FileId) (p a : ℕ) → v.slots.of f ≡ Some a → (file : FileAt f p) (before : List Name) (rest : List Part) → Known before (4096 + 5000 * a)
      → ((next : List Name) → Known next (4096 + 5000 * (a + 1)) → AreRight home at next rest) → AreRight home at before (parts_of at (Some (record { file = f; place = p })) ++ rest)
  file_right f p a slot file before rest known later =
      let row = row_of (LeaderOf f) p file.placed in
      let number : slot_of f ≡ a = ap number_or_0 slot in
      let size : size_of (whole leader_page (at p)) ≡ file.leader.props.size = ap size_of file.reads in
      let entries : row_there (row_of_node (LeaderOf f) (at p)) ≡ row.row = ap row_there row.reads in
      let start : Known before (base (LeaderOf f)) = more before (4096 + 5000 * a) (base (LeaderOf f)) (omega (arith, number)) known in
      let behind : (next : List Name) → Known next (base (LeaderOf f) + 32) → AreRight home at next (filter_map (index_part f file.leader.props.size) (enumerate_from 0 row.row) ++ rest) =
      λ next known_. indices_right f p file 0 row.row next rest (omega (arith, row.long)) row.says (more next (base (LeaderOf f) + 32) (base (IndexOf f 0)) (omega arith) known_)
      (λ last end. later last (more last (4096 + 5000 * (slot_of f + 1)) (4096 + 5000 * (a + 1)) (omega (arith, number)) end)) in
      page_right (LeaderOf f) tt 32 p before (filter_map (index_part f (size_of (whole leader_page (at p)))) (enumerate_from 0 (row_there (row_of_node (LeaderOf f) (at p)))) ++ rest) file.placed (owner_there_is f p file)
      (λ r reads j q e some. omega (arith, past_end r j q e some, row_length (LeaderOf f) (at p) r reads)) start
      (λ next known_. subst (λ (xs : List ℕ). AreRight home at next (filter_map (index_part f (size_of (whole leader_page (at p)))) (enumerate_from 0 xs) ++ rest)) (sym entries)
      (subst (λ (z : ℕ). AreRight home at next (filter_map (index_part f z) (enumerate_from 0 row.row) ++ rest)) (sym size) (behind next known_)))

  entry_right : (a : ℕ) → a < 4096 → (before : List Name) (rest : List Part) → Known before (4096 + 5000 * a) → ((next : List Name) → Known next (4096 + 5000 * (a + 1)) → AreRight home at next rest)
      → AreRight home at before (parts_of at (entry_there (entry_in at a)) ++ rest)
  entry_right a low before rest known later = go (v.slots.at a) refl
    where
      go : (o : Option FileId) → v.slots.at a ≡ o → AreRight home at before (parts_of at (entry_there (entry_in at a)) ++ rest)
      go None e =
          let none : entry_there (entry_in at a) ≡ None = entry_of_slot home at v m s [] a low ∙ ap (option_map (entry_for v)) e in
          subst (λ (o : Option Entry). AreRight home at before (parts_of at o ++ rest)) (sym none) (later before (more before (4096 + 5000 * a) (4096 + 5000 * (a + 1)) (omega arith) known))
      go (Some f) e =
          let slot : v.slots.of f ≡ Some a = s.shape.slots.back a f e in
          let p = there_is (v.places.of (LeaderOf f)) (s.shape.leaders f ∙ sym (s.shape.files f) ∙ ap is_some slot) in
          let entry : entry_there (entry_in at a) ≡ Some (record { file = f; place = p.0 }) =
          entry_of_slot home at v m s [] a low ∙ ap (option_map (entry_for v)) e ∙ ap (λ (o : Option ℕ). Some (record { file = f; place = number_or_0 o })) p.1 in
          subst (λ (o : Option Entry). AreRight home at before (parts_of at o ++ rest)) (sym entry) (file_right f p.0 a slot (file_at f p.0 p.1) before rest known later)

  entries_right : (n a : ℕ) (before : List Name) → a + n ≡ 4096 → Known before (4096 + 5000 * a) → AreRight home at before (flat_map (λ x. parts_of at (entry_there (entry_in at x))) (range_with_len a n))
  entries_right zero a before end known = tt
  entries_right (suc n) a before end known =
      entry_right a (omega arith) before (flat_map (λ x. parts_of at (entry_there (entry_in at x))) (range_with_len (a + 1) n)) known (λ next known_. entries_right n (a + 1) next (omega arith) known_)

  -- ---- the owners

  -- who stands in a row of the volume
  record RowAt (r : ℕ) (name : List ℕ) : Type 0 where
    pub owner : OwnerRecord
    pub reads : row_in at r ≡ Some (Some owner)
    pub cell_is : map.get m (OwnerOf name) ≡ Some (cell.Owner owner)
    pub name_is : owner.name ≡ name

  owner_cell : (name : List ℕ) (c : Cell) → map.get m (OwnerOf name) ≡ Some c → (o : OwnerRecord) × (map.get m (OwnerOf name) ≡ Some (cell.Owner o)) × (o.name ≡ name)
  owner_cell name (cell.Leader p) h = absurd (sound.0.kinds (OwnerOf name) (cell.Leader p) h)
  owner_cell name (cell.Page bytes) h = absurd (sound.0.kinds (OwnerOf name) (cell.Page bytes) h)
  owner_cell name (cell.Owner o) h = (o, h, sound.0.kinds (OwnerOf name) (cell.Owner o) h)

  row_at : (r : ℕ) (name : List ℕ) → r < 256 → v.rows.at r ≡ Some name → RowAt r name
  row_at r name low h =
      let row : v.rows.of name ≡ Some r = s.shape.rows.back r name h in
      let c = there_is (map.get m (OwnerOf name)) (sym (s.shape.owners name) ∙ ap is_some row) in
      let o = owner_cell name c.0 c.1 in
      record { owner = o.0; reads = s.owners r low ∙ ap (λ (x : Option (List ℕ)). Some (option_and_then (record_for (map.get m)) x)) h ∙ ap (λ (x : Option Cell). Some (owner_in x)) o.1; cell_is = o.1; name_is = o.2 }

  -- no row before has the name
  row_new : (r : ℕ) (name : List ℕ) → r < 256 → v.rows.of name ≡ Some r → (o : List ℕ) → o ≡ name → has_owner at r o ≡ true → ⊥
  row_new r name low row o same h =
      let x = any-in (λ q. is_named o (owner_there (row_in at q))) (range_with_len 0 r) h in
      let before : x.0 < r = (let b = in-range-back x.0 0 r x.1 in omega (arith, b.1)) in
      go x.0 before (v.rows.at x.0) refl x.2
    where
      go : (q : ℕ) → q < r → (n : Option (List ℕ)) → v.rows.at q ≡ n → is_named o (owner_there (row_in at q)) ≡ true → ⊥
      go q before None e is =
          let none : row_in at q ≡ Some None = s.owners q (omega arith) ∙ ap (λ (x : Option (List ℕ)). Some (option_and_then (record_for (map.get m)) x)) e in
          let never : is_named o (owner_there (row_in at q)) ≡ false = ap (λ (x : Option (Option OwnerRecord)). is_named o (owner_there x)) none in
          (let no_ : true ≡ false = sym is ∙ never in cc)
      go q before (Some n) e is =
          let other = row_at q n (omega arith) e in
          let named : same_name other.owner.name o ≡ true = sym (ap (λ (x : Option (Option OwnerRecord)). is_named o (owner_there x)) other.reads) ∙ is in
          let name_ : n ≡ name = sym other.name_is ∙ same_name-true other.owner.name o named ∙ same in
          let one : v.rows.of n ≡ Some q = s.shape.rows.back q n e in
          let two : v.rows.of n ≡ Some r = ap v.rows.of name_ ∙ row in
          let rows_same : q ≡ r = cc in
          omega (arith, rows_same, before)

  row_right : (r : ℕ) → r < 256 → is_right_row at r (row_in at r) ≡ true
  row_right r low = go (v.rows.at r) refl
    where
      go : (o : Option (List ℕ)) → v.rows.at r ≡ o → is_right_row at r (row_in at r) ≡ true
      go None e = ap (is_right_row at r) (s.owners r low ∙ ap (λ (x : Option (List ℕ)). Some (option_and_then (record_for (map.get m)) x)) e)
      go (Some name) e =
          let row = row_at r name low e in
          let charge : row.owner.charge ≡ charge_in at row.owner.name = sound.1 name row.owner row.cell_is ∙ charge_spelled home at v m s name sound.0.kinds ∙ ap (charge_in at) (sym row.name_is) in
          ap (is_right_row at r) row.reads ∙ and_from _ _ (not_false _ (row_new r name low (s.shape.rows.back r name e) row.owner.name row.name_is)) (eq-eqb row.owner.charge (charge_in at row.owner.name) charge)

  rows_right : (n a : ℕ) (before : List Name) (rest : List Part) → a + n ≡ 256 → AreRight home at before rest → AreRight home at before (list_map OwnerRow (range_with_len a n) ++ rest)
  rows_right zero a before rest end later = later
  rows_right (suc n) a before rest end later = (and_from _ _ (row_right a (omega arith)) refl, rows_right n (a + 1) before rest (omega arith) later)

  -- ---- the directory

  slot_right : (a : ℕ) → a < 4096 → (before : List Name) (rest : List Part) → Known before a → ((next : List Name) → Known next (a + 1) → AreRight home at next rest) → AreRight home at before (Slot a ∷ rest)
  slot_right a low before rest known later = go (v.slots.at a) refl
    where
      read : is_some (entry_in at a) ≡ true
      read = ap is_some (s.directory a low)

      go : (o : Option FileId) → v.slots.at a ≡ o → AreRight home at before (Slot a ∷ rest)
      go None e =
          let names : names_in at (Slot a) ≡ [] = ap (λ (o : Option Entry). option_to_list (leader_name o)) (entry_of_slot home at v m s [] a low ∙ ap (option_map (entry_for v)) e) in
          (and_from _ _ read (ap (are_new home before) names), later (added before (names_in at (Slot a))) (subst (λ (xs : List Name). Known (added before xs) (a + 1)) (sym names) (more before a (a + 1) (omega arith) known)))
      go (Some f) e =
          let slot : v.slots.of f ≡ Some a = s.shape.slots.back a f e in
          let p = there_is (v.places.of (LeaderOf f)) (s.shape.leaders f ∙ sym (s.shape.files f) ∙ ap is_some slot) in
          let entry : entry_there (entry_in at a) ≡ Some (record { file = f; place = p.0 }) =
          entry_of_slot home at v m s [] a low ∙ ap (option_map (entry_for v)) e ∙ ap (λ (o : Option ℕ). Some (record { file = f; place = number_or_0 o })) p.1 in
          let names : names_in at (Slot a) ≡ (LeaderOf f, p.0) ∷ [] = ap (λ (o : Option Entry). option_to_list (leader_name o)) entry in
          let number : slot_of f ≡ a = ap number_or_0 slot in
          let new : is_new home before (LeaderOf f, p.0) ≡ true = new_name before a (LeaderOf f) p.0 known p.1 (omega (arith, number)) in
          let next : Known ((LeaderOf f, p.0) ∷ before) (a + 1) =
          more ((LeaderOf f, p.0) ∷ before) (slot_of f + 1) (a + 1) (omega (arith, number)) (one_more before a (LeaderOf f) p.0 known p.1 (omega (arith, number))) in
          (and_from _ _ read (ap (are_new home before) names ∙ and_from _ _ new refl), later (added before (names_in at (Slot a))) (subst (λ (xs : List Name). Known (added before xs) (a + 1)) (sym names) next))

  slots_right : (n a : ℕ) (before : List Name) (rest : List Part) → a + n ≡ 4096 → Known before a → ((next : List Name) → Known next 4096 → AreRight home at next rest) → AreRight home at before (list_map Slot (range_with_len a n) ++ rest)
  slots_right zero a before rest end known later = later before (subst (Known before) (let last : a ≡ 4096 = omega arith in last) known)
  slots_right (suc n) a before rest end known later =
      slot_right a (omega arith) before (list_map Slot (range_with_len (a + 1) n) ++ rest) known (λ next known_. slots_right n (a + 1) next rest (omega arith) known_ later)

  -- ---- all parts

  header_right : is_right home at [] Header ≡ true
  header_right = and_from _ _ (ap (λ (x : List ℕ). same_name x header_page) s.header ∙ same_name-itself header_page) refl

  pub all_right : AreRight home at [] (parts at)
  unfolding parts
  all_right = (
    header_right,
    slots_right 4096 0 [] (list_map OwnerRow (range_with_len 0 256) ++ flat_map (λ x. parts_of at (entry_there (entry_in at x))) (range_with_len 0 4096)) (omega arith) (λ k p i. absurd i)
        (λ next known. rows_right 256 0 next (flat_map (λ x. parts_of at (entry_there (entry_in at x))) (range_with_len 0 4096)) (omega arith)
        (entries_right 4096 0 next (omega arith) (more next 4096 (4096 + 5000 * 0) (omega arith) known))),
  )

-- pages that stand for cells have no damaged one
pub standing_undamaged : (home : ℕ) (at : Pages) (m : Cells) → StandFor home at m → damage_of home at ≡ None
unfolding damage_of
standing_undamaged home at m stands = right_none home at [] (parts at) (all_right home at stands.volume m stands.spells stands.sound)
