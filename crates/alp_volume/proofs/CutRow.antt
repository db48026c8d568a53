-- What a block that loses pages makes of a draft: its index page stays with those that are left, or goes with the last.
use Rattle.std.specs.Prelude.{Bool, true, false, not, cond, ◌==◌, ◌&&◌, nat_le, nat_lt, is_some, Option, None, Some, option_map, slice_index_or, slice_index, slice_set}
use Rattle.std.specs.Int.{bit_at}
use Rattle.std.specs.FinMap as map
use Rattle.std.proofs.Common.{◌≡◌, ℕ, ◌+◌, ◌*◌, ◌<◌, ◌≤◌, ◌/◌, ◌%◌, List, [], ◌∷◌, length, refl, sym, ◌∙◌, ap, subst, arith, eq-eqb}
use Rattle.std.proofs.lemmas.Bool.{cond-true, cond-false, eqb-true, leb-true, leb-false, ltb-true, ltb-false}
use Rattle.std.proofs.lemmas.List.{get_or-set_same, get_or-set_other, get_or_past, length-set}
use Rattle.alp_base.specs.declared.ids.FileId.{FileId}
use Rattle.alp_base.specs.declared.key.Key.TheVariants.{PageOf}
use Rattle.alp_fields.specs.Forms.{whole}
use Rattle.alp_files.specs.Cells.{View, same_file}
use Rattle.alp_files.specs.Edits.{Cut, after}
use Rattle.alp_files.proofs.SameLemmas.{same_file-true, same_file-itself}
use Rattle.alp_pages.specs.declared.leader.Leader.{Leader as LeaderRecord}
use Rattle.alp_pages.specs.Leader.{leader_page}
use Rattle.alp_volume.specs.declared.catalog.Catalog.{Catalog}
use Rattle.alp_tables.specs.declared.file_slot.FileSlot.{FileSlot}
use Rattle.alp_pages.specs.Changes.{IsCutOff, volume_cut}
use Rattle.alp_pages.specs.Counted.{bit}
use Rattle.alp_volume.specs.Drafts.{Changed, HasNoneFrom, IsCutting, IsDraft, laid}
use Rattle.alp_volume.specs.Known.{IsCatalog, Knows}
use Rattle.alp_pages.specs.Naming.{Naming, number_or_0, unless, without}
use Rattle.alp_pages.specs.Nodes.{Node, LeaderOf, IndexOf, DataOf, same_node}
use Rattle.alp_pages.specs.Pages.{Pages, written, index_page, has_a_place}
use Rattle.alp_pages.specs.Rows.{SpellsRow}
use Rattle.alp_volume.specs.Undone.{AreFreed, with_file, with_place}
use Rattle.alp_pages.specs.Volume.{Volume, Spells, nodes, row_of_leader, row_of_node, props_cell}
use Rattle.alp_volume.proofs.CutDraft.{goes, same_turned, no_place, a_place, index_there, index_row, row_says, named_of, near_of, index_bounds, no_later_index, stays, pages_freed, children_stay, index_apart, page_stays}
use Rattle.alp_pages.proofs.CutLaws.{pages_cut}
use Rattle.alp_volume.proofs.DraftLaws.{put_laid}
use Rattle.alp_volume.proofs.KnowsLaws.{leader_file, leader_row, row_names, row_bits, knows_blocks}
use Rattle.alp_volume.proofs.LaidLaws.{laid_put}
use Rattle.alp_pages.proofs.NamingLaws.{eqb_other, apart}
use Rattle.alp_pages.proofs.UnnamedLaws.{written_same, written_other, low_page}
use Rattle.alp_pages.proofs.SpellLaws.{node_file, node_number}
use Rattle.alp_pages.proofs.UniqueLaws.{some_is}

module _ (home : ℕ) (at : Pages) (m : View) (c : Catalog) (f : FileId) (place : ℕ) (l : LeaderRecord) (cutting : IsCutting home at m c f place l) (sized : IsCatalog home c) (block first : ℕ) (few : block < 32) (low : first < 128) (none : HasNoneFrom f (128 * (block + 1)) m)
    (i : ℕ) (index_is : slice_index_or l.index block 0 ≡ i) (some : i ≡ 0 → ⊥) (row : List ℕ) (reads : whole index_page (at i) ≡ Some row) (left : List ℕ) (kept : (j : ℕ) → j < first → slice_index_or left j 0 ≡ slice_index_or row j 0) (gone : (j : ℕ) → first ≤ j → slice_index_or left j 0 ≡ 0)
    (places : List Bool) (long : length places ≡ length c.places) (freed : AreFreed first row c.places places) where
  abbrev v : Volume
  v = cutting.draft.volume

  abbrev s : Spells home at cutting.draft.volume m
  s = cutting.draft.spells

  abbrev from : ℕ
  from = 128 * block + first

  index_at : v.places.of (IndexOf f block) ≡ Some i
  index_at = index_there home at m c f place l cutting sized block first few low none i index_is some row reads

  -- a leader stands elsewhere than the index page
  leader_apart : (g : FileId) (p : ℕ) → v.places.of (LeaderOf g) ≡ Some p → p ≡ i → ⊥
  leader_apart g p there same =
      let back : Some (LeaderOf g) ≡ Some (IndexOf f block) = sym (s.shape.places.there (LeaderOf g) p there) ∙ ap v.places.at same ∙ s.shape.places.there (IndexOf f block) i index_at in
      cc

  page_apart : (g : FileId) (n p : ℕ) → v.places.of (DataOf g n) ≡ Some p → p ≡ i → ⊥
  page_apart g n p there same =
      let back : Some (DataOf g n) ≡ Some (IndexOf f block) = sym (s.shape.places.there (DataOf g n) p there) ∙ ap v.places.at same ∙ s.shape.places.there (IndexOf f block) i index_at in
      cc

  -- the index pages of other files and blocks
  other_index : (t : Bool) (g : FileId) (b p : ℕ) → v.places.of (IndexOf g b) ≡ Some p → (same_file f g && b == block) ≡ false → (bytes : List ℕ) → bytes ≡ at p → SpellsRow nodes (without (goes f from block t) v.places) bytes (IndexOf g b)
  other_index t g b p there other bytes same =
      let old = s.rows (IndexOf g b) p there in
      record {
        row = old.row;
        reads = ap (whole index_page) same ∙ old.reads;
        says = λ j near. old.says j near ∙ ap number_or_0 (sym (children_stay home at m c f place l cutting sized block first few low none i index_is some row reads g b p there other t j near));
      }

  data_row : (t : Bool) (g : FileId) (n : ℕ) (bytes : List ℕ) → SpellsRow nodes (without (goes f from block t) v.places) bytes (DataOf g n)
  data_row t g n bytes = record { row = []; reads = refl; says = λ j near. absurd (omega arith) }

  -- ---- some page of the block is left

  module _ (ix : List ℕ) (spelled : whole index_page ix ≡ Some left) (has : has_a_place left ≡ true) where
    new : Pages
    new = written i ix at

    same_at : (p : ℕ) → (p ≡ i → ⊥) → written i ix at p ≡ at p
    same_at p ne = written_other i ix at p (eqb_other p i ne)

    -- the block's own index page names what is left
    own_index : SpellsRow nodes (without (goes f from block false) v.places) ix (IndexOf f block)
    own_index = record { row = left; reads = spelled; says = λ j near. says j near (nat_le from (128 * block + j)) refl }
      where
        says : (j : ℕ) → j < 128 → (t : Bool) → nat_le from (128 * block + j) ≡ t → slice_index_or left j 0 ≡ number_or_0 ((without (goes f from block false) v.places).of (DataOf f (128 * block + j)))
        says j near true e =
            gone j (let past = leb-true from (128 * block + j) e in omega arith)
            ∙ sym (ap number_or_0 (cond-true (same_file f f && nat_le from (128 * block + j)) None (v.places.of (DataOf f (128 * block + j))) (ap (λ (t : Bool). t && nat_le from (128 * block + j)) (same_file-itself f) ∙ e)))
        says j near false e =
            kept j (let before = leb-false from (128 * block + j) e in omega arith)
            ∙ row_says home at m c f place l cutting sized block first few low none i index_is some row reads j near
            ∙ sym (ap number_or_0 (cond-false (same_file f f && nat_le from (128 * block + j)) None (v.places.of (DataOf f (128 * block + j))) (ap (λ (t : Bool). t && nat_le from (128 * block + j)) (same_file-itself f) ∙ e)))

    index_is_right : (g : FileId) (b p : ℕ) → v.places.of (IndexOf g b) ≡ Some p → (t : Bool) → (same_file f g && b == block) ≡ t → (u : Bool) → same_file f g ≡ u → SpellsRow nodes (without (goes f from block false) v.places) (written i ix at p) (IndexOf g b)
    index_is_right g b p there false e u d = other_index false g b p there e (written i ix at p) (same_at p (index_apart home at m c f place l cutting sized block first few low none i index_is some row reads g b p there e))
    index_is_right g b p there true e false d = (let wrong : (same_file f g && b == block) ≡ false = ap (λ (t : Bool). t && b == block) d in cc)
    index_is_right g b p there true e true d =
        let file_is : f ≡ g = same_file-true f g d in
        let block_is : b ≡ block = eqb-true b block (sym (ap (λ (t : Bool). t && b == block) d) ∙ e) in
        let node : IndexOf f block ≡ IndexOf g b = λ z. IndexOf (file_is z) (sym block_is z) in
        let place_is : i ≡ p = some_is i p (sym index_at ∙ ap v.places.of node ∙ there) in
        subst (λ (k : Node). SpellsRow nodes (without (goes f from block false) v.places) (written i ix at p) k) node
        (subst (λ (q : ℕ). SpellsRow nodes (without (goes f from block false) v.places) (written i ix at q) (IndexOf f block)) place_is
        (subst (λ (x : List ℕ). SpellsRow nodes (without (goes f from block false) v.places) x (IndexOf f block)) (sym (written_same i ix at)) own_index))

    row_is : (k : Node) (p : ℕ) → v.places.of k ≡ Some p → SpellsRow nodes (without (goes f from block false) v.places) (written i ix at p) k
    row_is (LeaderOf g) p there =
        let old = s.rows (LeaderOf g) p there in
        record { row = old.row; reads = ap (nodes.row_of (LeaderOf g)) (same_at p (leader_apart g p there)) ∙ old.reads; says = λ j near. old.says j near }
    row_is (IndexOf g b) p there = index_is_right g b p there (same_file f g && b == block) refl (same_file f g) refl
    row_is (DataOf g n) p there = data_row false g n (written i ix at p)

    page_left : (g : FileId) (b p : ℕ) → v.places.of (IndexOf g b) ≡ Some p → (t : Bool) → (same_file f g && b == block) ≡ t → (u : Bool) → same_file f g ≡ u → (n : ℕ) × (n / 128 ≡ b) × (is_some (v.places.of (DataOf g n)) ≡ true) × ((same_file f g && nat_le from n) ≡ false)
    page_left g b p there false e u d = page_stays home at m c f place l cutting sized block first few low none i index_is some row reads g b p there e
    page_left g b p there true e false d = (let wrong : (same_file f g && b == block) ≡ false = ap (λ (t : Bool). t && b == block) d in cc)
    page_left g b p there true e true d =
        let file_is : f ≡ g = same_file-true f g d in
        let block_is : b ≡ block = eqb-true b block (sym (ap (λ (t : Bool). t && b == block) d) ∙ e) in
        let j = a_place left has in
        let early : j.0 < first = before j.0 j.2 (nat_le first j.0) refl in
        let was : slice_index_or row j.0 0 ≡ 0 → ⊥ = λ z. j.2 (kept j.0 early ∙ z) in
        let placed = named_of home at m c f place l cutting sized block first few low none i index_is some row reads j.0 was in (
          128 * block + j.0,
          omega (arith, early, low, block_is),
          ap (λ (x : FileId). is_some (v.places.of (DataOf x (128 * block + j.0)))) (sym file_is) ∙ ap is_some placed,
          ap (λ (t : Bool). same_file f g && t) (after_it j.0 early) ∙ none_of (same_file f g),
        )
      where
        before : (j : ℕ) → (slice_index_or left j 0 ≡ 0 → ⊥) → (t : Bool) → nat_le first j ≡ t → j < first
        before j h true x = absurd (h (gone j (leb-true first j x)))
        before j h false x = leb-false first j x

        after_it : (j : ℕ) → j < first → nat_le from (128 * block + j) ≡ false
        after_it j early = go (nat_le from (128 * block + j)) refl
          where
            go : (t : Bool) → nat_le from (128 * block + j) ≡ t → t ≡ false
            go true x = (let past = leb-true from (128 * block + j) x in absurd (omega arith))
            go false x = refl

        none_of : (t : Bool) → (t && false) ≡ false
        none_of true = refl
        none_of false = refl

    pub cut_left : IsCutOff at (written i ix at) v f from (goes f from block false)
    cut_left = record {
      files = λ g. refl;
      data_ = λ g n. refl;
      block = λ g n p e there. refl;
      page = λ g b p e there. page_left g b p there (same_file f g && b == block) refl (same_file f g) refl;
      low = λ p below. low_page i ix at (index_bounds home at m c f place l cutting sized block first few low none i index_is some row reads).0 p below;
      rows = λ k p e there. row_is k p there;
      leaders = λ g p there. ap (λ (x : List ℕ). option_map props_cell (whole leader_page x)) (same_at p (leader_apart g p there));
      pages = λ g n p e there. same_at p (page_apart g n p there);
    }

    pub knows_left : Knows home (volume_cut (goes f from block false) v) (record c { places = places })
    knows_left = record {
      slots = cutting.draft.knows.slots;
      leaders = cutting.draft.knows.leaders;
      blocks = cutting.draft.knows.blocks;
      rows = cutting.draft.knows.rows;
      entries_taken = cutting.draft.knows.entries_taken;
      rows_taken = cutting.draft.knows.rows_taken;
      places_taken = pages_freed home at m c f place l cutting sized block first few low none i index_is some row reads places freed;
      head = λ p below. freed.head p below ∙ cutting.draft.knows.head p below;
    }

    pub cutting_left : IsCutting home (written i ix at) (after (Cut f from ∷ []) m) (record c { places = places }) f place l
    cutting_left = record {
      draft = record { volume = volume_cut (goes f from block false) v; spells = pages_cut home at (written i ix at) v m s f from (goes f from block false) cut_left; knows = knows_left };
      there = cutting.there;
      reads = ap (whole leader_page) (same_at place (leader_apart f place cutting.there)) ∙ cutting.reads;
    }

  -- ---- no page of the block is left

  module _ (empty : has_a_place left ≡ false) (lbytes : List ℕ) (spelled : whole leader_page lbytes ≡ Some (record l { index = slice_set l.index block 0 })) where
    abbrev less : LeaderRecord
    less = record l { index = slice_set l.index block 0 }

    at_other : (p : ℕ) → (p ≡ place → ⊥) → written place lbytes at p ≡ at p
    at_other p ne = written_other place lbytes at p (eqb_other p place ne)

    -- only the file's leader stands at its place
    alone : (k : Node) (p : ℕ) → v.places.of k ≡ Some p → same_node k (LeaderOf f) ≡ false → p ≡ place → ⊥
    alone k p there other same =
        let back : Some k ≡ Some (LeaderOf f) = sym (s.shape.places.there k p there) ∙ ap v.places.at same ∙ s.shape.places.there (LeaderOf f) place cutting.there in
        let node : k ≡ LeaderOf f = some_is k (LeaderOf f) back in
        let yes : same_node k (LeaderOf f) ≡ true = ap (λ (x : Node). same_node x (LeaderOf f)) node ∙ same_file-itself f in
        cc

    -- no page of the block stays
    nothing_left : (n p : ℕ) → n / 128 ≡ block → v.places.of (DataOf f n) ≡ Some p → nat_le from n ≡ false → ⊥
    nothing_left n p in_block there e =
        let before = leb-false from n e in
        let number_is : 128 * block + n % 128 ≡ n = omega (arith, in_block) in
        let row_at : slice_index_or row (n % 128) 0 ≡ p =
        row_says home at m c f place l cutting sized block first few low none i index_is some row reads (n % 128) (omega arith) ∙ ap (λ (x : ℕ). number_or_0 (v.places.of (DataOf f x))) number_is ∙ ap number_or_0 there in
        let zero_ : slice_index_or row (n % 128) 0 ≡ 0 = sym (kept (n % 128) (omega (arith, before, in_block))) ∙ no_place left (n % 128) empty in
        let least = s.shape.places.least (DataOf f n) p there in
        absurd (omega (arith, least, row_at, zero_))

    block_stays : (g : FileId) (n p : ℕ) → (same_file f g && nat_le from n) ≡ false → v.places.of (DataOf g n) ≡ Some p → (t : Bool) → same_file f g ≡ t → (u : Bool) → (n / 128 == block) ≡ u → (t && u) ≡ false
    block_stays g n p e there false a u b = refl
    block_stays g n p e there true a false b = refl
    block_stays g n p e there true a true b =
        absurd (nothing_left n p (eqb-true (n / 128) block b) (ap (λ (x : FileId). v.places.of (DataOf x n)) (same_file-true f g a) ∙ there) (sym (ap (λ (t : Bool). t && nat_le from n) a) ∙ e))

    own_leader : SpellsRow nodes (without (goes f from block true) v.places) lbytes (LeaderOf f)
    own_leader = record {
      row = slice_set l.index block 0;
      reads = ap (row_of_leader f) spelled ∙ cond-true (same_file l.file f) (Some (slice_set l.index block 0)) None (ap (λ (x : FileId). same_file x f) (leader_file home at v m s f place cutting.there l cutting.reads) ∙ same_file-itself f);
      says = λ j near. says j near (j == block) refl;
    }
      where
        says : (j : ℕ) → j < 32 → (t : Bool) → (j == block) ≡ t → slice_index_or (slice_set l.index block 0) j 0 ≡ number_or_0 (cond (same_file f f && j == block) None (v.places.of (IndexOf f j)))
        says j near true e =
            ap (λ (x : ℕ). slice_index_or (slice_set l.index block 0) x 0) (eqb-true j block e) ∙ set_zero l.index block
            ∙ sym (ap number_or_0 (cond-true (same_file f f && j == block) None (v.places.of (IndexOf f j)) (ap (λ (t : Bool). t && j == block) (same_file-itself f) ∙ e)))
          where
            set_zero : (xs : List ℕ) (b : ℕ) → ◌≡◌ {A = ℕ} (slice_index_or (slice_set xs b 0) b 0) 0
            set_zero xs b = go (nat_lt b (length xs)) refl
              where
                go : (t : Bool) → nat_lt b (length xs) ≡ t → ◌≡◌ {A = ℕ} (slice_index_or (slice_set xs b 0) b 0) 0
                go true x = get_or-set_same xs b 0 0 (ltb-true b (length xs) x)
                go false x = get_or_past (slice_set xs b 0) b 0 (let past = ltb-false b (length xs) x in omega (arith, length-set xs b 0))
        says j near false e =
            get_or-set_other l.index block j 0 0 (λ z. (let yes = eq-eqb j block z in cc)) ∙ row_names home at v m s f place cutting.there l cutting.reads j near
            ∙ sym (ap number_or_0 (cond-false (same_file f f && j == block) None (v.places.of (IndexOf f j)) (ap (λ (t : Bool). t && j == block) (same_file-itself f) ∙ e)))

    leader_is : (g : FileId) (p : ℕ) → v.places.of (LeaderOf g) ≡ Some p → (t : Bool) → same_file g f ≡ t → SpellsRow nodes (without (goes f from block true) v.places) (written place lbytes at p) (LeaderOf g)
    leader_is g p there true e =
        let file_is : g ≡ f = same_file-true g f e in
        let place_is : place ≡ p = some_is place p (sym cutting.there ∙ ap (λ (x : FileId). v.places.of (LeaderOf x)) (sym file_is) ∙ there) in
        subst (λ (x : FileId). SpellsRow nodes (without (goes f from block true) v.places) (written place lbytes at p) (LeaderOf x)) (sym file_is)
        (subst (λ (q : ℕ). SpellsRow nodes (without (goes f from block true) v.places) (written place lbytes at q) (LeaderOf f)) place_is
        (subst (λ (x : List ℕ). SpellsRow nodes (without (goes f from block true) v.places) x (LeaderOf f)) (sym (written_same place lbytes at)) own_leader))
    leader_is g p there false e =
        let old = s.rows (LeaderOf g) p there in
        record {
          row = old.row;
          reads = ap (nodes.row_of (LeaderOf g)) (at_other p (alone (LeaderOf g) p there e)) ∙ old.reads;
          says = λ j near. old.says j near ∙ sym (ap number_or_0 (cond-false (same_file f g && j == block) None (v.places.of (IndexOf g j)) (ap (λ (t : Bool). t && j == block) (same_turned f g e))));
        }

    row_kept : (k : Node) (p : ℕ) → goes f from block true k ≡ false → v.places.of k ≡ Some p → SpellsRow nodes (without (goes f from block true) v.places) (written place lbytes at p) k
    row_kept (LeaderOf g) p e there = leader_is g p there (same_file g f) refl
    row_kept (IndexOf g b) p e there = other_index true g b p there e (written place lbytes at p) (at_other p (alone (IndexOf g b) p there refl))
    row_kept (DataOf g n) p e there = data_row true g n (written place lbytes at p)

    props_kept : (g : FileId) (p : ℕ) → v.places.of (LeaderOf g) ≡ Some p → (t : Bool) → same_file g f ≡ t → option_map props_cell (whole leader_page (written place lbytes at p)) ≡ option_map props_cell (whole leader_page (at p))
    props_kept g p there true e =
        let place_is : place ≡ p = some_is place p (sym cutting.there ∙ ap (λ (x : FileId). v.places.of (LeaderOf x)) (sym (same_file-true g f e)) ∙ there) in
        ap (λ (q : ℕ). option_map props_cell (whole leader_page (written place lbytes at q))) (sym place_is) ∙ ap (λ (x : List ℕ). option_map props_cell (whole leader_page x)) (written_same place lbytes at) ∙ ap (option_map props_cell) spelled
        ∙ sym (ap (option_map props_cell) cutting.reads) ∙ ap (λ (q : ℕ). option_map props_cell (whole leader_page (at q))) place_is
    props_kept g p there false e = ap (λ (x : List ℕ). option_map props_cell (whole leader_page x)) (at_other p (alone (LeaderOf g) p there e))

    pub cut_all : IsCutOff at (written place lbytes at) v f from (goes f from block true)
    cut_all = record {
      files = λ g. refl;
      data_ = λ g n. refl;
      block = λ g n p e there. block_stays g n p e there (same_file f g) refl (n / 128 == block) refl;
      page = λ g b p e there. page_stays home at m c f place l cutting sized block first few low none i index_is some row reads g b p there e;
      low = λ p below. low_page place lbytes at (s.shape.places.least (LeaderOf f) place cutting.there) p below;
      rows = row_kept;
      leaders = λ g p there. props_kept g p there (same_file g f) refl;
      pages = λ g n p e there. at_other p (alone (DataOf g n) p there refl);
    }

    spells_all : Spells home (written place lbytes at) (volume_cut (goes f from block true) v) (after (Cut f from ∷ []) m)
    spells_all = pages_cut home at (written place lbytes at) v m s f from (goes f from block true) cut_all

    -- the index page is free too
    all_freed : (q : ℕ) → 257 ≤ q → q < home → slice_index_or (slice_set places i false) q true ≡ is_some (unless (goes f from block true) (v.places.at q))
    all_freed q least most = go (q == i) refl
      where
        other : (o : Option Node) → v.places.at q ≡ o → (q ≡ i → ⊥) → is_some (unless (goes f from block false) o) ≡ is_some (unless (goes f from block true) o)
        other None e ne = refl
        other (Some (LeaderOf g)) e ne = refl
        other (Some (DataOf g n)) e ne = refl
        other (Some (IndexOf g b)) e ne = split (same_file f g) refl (b == block) refl
          where
            split : (t : Bool) → same_file f g ≡ t → (u : Bool) → (b == block) ≡ u → true ≡ is_some (cond (t && u) None (Some (IndexOf g b)))
            split false x u y = refl
            split true x false y = refl
            split true x true y =
                let node : IndexOf g b ≡ IndexOf f block = ap (λ (k : FileId). IndexOf k b) (sym (same_file-true f g x)) ∙ ap (IndexOf f) (eqb-true b block y) in
                let here : v.places.of (IndexOf g b) ≡ Some q = s.shape.places.back q (IndexOf g b) e in
                absurd (ne (some_is q i (sym here ∙ ap v.places.of node ∙ index_at)))

        go : (t : Bool) → (q == i) ≡ t → slice_index_or (slice_set places i false) q true ≡ is_some (unless (goes f from block true) (v.places.at q))
        go true e =
            let same : q ≡ i = eqb-true q i e in
            let there : v.places.at q ≡ Some (IndexOf f block) = ap v.places.at same ∙ s.shape.places.there (IndexOf f block) i index_at in
            ap (λ (x : ℕ). slice_index_or (slice_set places i false) x true) same ∙ get_or-set_same places i false true within
            ∙ sym (ap (λ (o : Option Node). is_some (unless (goes f from block true) o)) there ∙ ap (λ (t : Bool). is_some (cond t None (Some (IndexOf f block)))) (ap (λ (t : Bool). t && block == block) (same_file-itself f) ∙ eq-eqb block block refl))
          where
            within : i < length places
            within = (let bounds = index_bounds home at m c f place l cutting sized block first few low none i index_is some row reads in omega (arith, long, bounds.1))
        go false e =
            get_or-set_other places i q false true (λ z. (let yes = eq-eqb q i z in cc)) ∙ pages_freed home at m c f place l cutting sized block first few low none i index_is some row reads places freed q least most
            ∙ other (v.places.at q) refl (λ z. (let yes = eq-eqb q i z in cc))

    pub cutting_all : (x : FileSlot) → map.get c.files f ≡ Some x → (blocks : ℕ) → ((b : ℕ) → b < 32 → bit_at blocks b ≡ bit (not (slice_index (slice_set l.index block 0) b == 0)))
        → IsCutting home (written place lbytes at) (after (Cut f from ∷ []) m) (with_file f (record x { blocks = blocks }) (with_place i false (record c { places = places }))) f place (record l { index = slice_set l.index block 0 })
    cutting_all x there blocks bits = record {
      draft = record {
        volume = volume_cut (goes f from block true) v;
        spells = spells_all;
        knows = knows_blocks home v c cutting.draft.knows f x there (without (goes f from block true) v.places) (slice_set places i false) blocks
            (λ g. refl)
            (λ g b other. cond-false (same_file f g && b == block) None (v.places.of (IndexOf g b)) (ap (λ (t : Bool). t && b == block) (same_turned f g other)))
            (λ b near. bits b near ∙ row_bits home (written place lbytes at) (volume_cut (goes f from block true) v) (after (Cut f from ∷ []) m) spells_all f place cutting.there less (ap (whole leader_page) (written_same place lbytes at) ∙ spelled) b near)
            all_freed
            (λ p below. get_or-set_other places i p false true (λ z. (let bounds = index_bounds home at m c f place l cutting sized block first few low none i index_is some row reads in omega (arith, bounds.0))) ∙ freed.head p below ∙ cutting.draft.knows.head p below);
      };
      there = cutting.there;
      reads = ap (whole leader_page) (written_same place lbytes at) ∙ spelled;
    }
