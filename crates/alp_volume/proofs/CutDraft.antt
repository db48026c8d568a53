-- What the pages of a block that go make of a draft.
use Rattle.std.specs.Prelude.{Bool, true, false, not, cond, ◌==◌, ◌&&◌, ◌||◌, nat_le, nat_lt, is_some, Option, None, Some, option_map, slice_index_or, slice_index, slice_set}
use Rattle.std.specs.Int.{bit_at}
use Rattle.std.specs.FinMap as map
use Rattle.std.proofs.Common.{◌≡◌, ℕ, zero, suc, ◌+◌, ◌*◌, ◌<◌, ◌≤◌, ◌/◌, ◌%◌, ◌-◌, List, [], ◌∷◌, length, refl, sym, ◌∙◌, ap, subst, arith, eq-eqb}
use Rattle.std.proofs.lemmas.Bool.{cond-true, cond-false, eqb-true, leb-true, leb-false, ltb-true, ltb-false}
use Rattle.std.proofs.lemmas.List.{get_or-set_same, get_or-set_other, get_or_past, length-set}
use Rattle.alp_base.specs.declared.ids.FileId.{FileId}
use Rattle.alp_base.specs.declared.key.Key.TheVariants.{Leader, PageOf, OwnerOf}
use Rattle.alp_fields.specs.Forms.{whole}
use Rattle.alp_base.specs.declared.cell.Cell.{Cell}
use Rattle.alp_files.specs.Cells.{View, same_file}
use Rattle.alp_files.specs.Edits.{Cut, after, is_past}
use Rattle.alp_files.proofs.SameLemmas.{same_file-true, same_file-itself}
use Rattle.alp_pages.specs.declared.leader.Leader.{Leader as LeaderRecord}
use Rattle.alp_pages.specs.Leader.{leader_page}
use Rattle.alp_volume.specs.declared.catalog.Catalog.{Catalog}
use Rattle.alp_tables.specs.declared.file_slot.FileSlot.{FileSlot}
use Rattle.alp_pages.specs.Changes.{IsCutOff, volume_cut}
use Rattle.alp_pages.specs.Counted.{bit}
use Rattle.alp_volume.specs.Drafts.{Changed, HasNoneFrom, IsCutting, IsDraft, laid}
use Rattle.alp_volume.specs.Known.{IsCatalog, Knows}
use Rattle.alp_pages.specs.Naming.{Naming, number_or_0, unless, without}
use Rattle.alp_pages.specs.Nodes.{Node, LeaderOf, IndexOf, DataOf}
use Rattle.alp_pages.specs.Pages.{Pages, written, index_page, has_a_place}
use Rattle.alp_pages.specs.Rows.{SpellsRow}
use Rattle.alp_volume.specs.Undone.{AreFreeable, AreFreed, with_file, with_place}
use Rattle.alp_pages.specs.Volume.{Volume, Spells, nodes, child_of, row_of_leader, row_of_node, props_cell}
use Rattle.alp_pages.proofs.CutLaws.{pages_cut}
use Rattle.alp_volume.proofs.DraftLaws.{put_laid}
use Rattle.alp_pages.proofs.FetchLaws.{is_none}
use Rattle.alp_pages.proofs.IndexLaws.{index_length}
use Rattle.alp_volume.proofs.KnowsLaws.{leader_file, leader_row, row_names, row_bits, knows_blocks, unplaced}
use Rattle.alp_volume.proofs.LaidLaws.{laid_put}
use Rattle.alp_pages.proofs.NamingLaws.{eqb_other, none_at, apart}
use Rattle.alp_pages.proofs.UnnamedLaws.{written_same, written_other}
use Rattle.alp_pages.proofs.SpellLaws.{node_file, node_number}
use Rattle.alp_pages.proofs.UniqueLaws.{some_is, number}

-- ---- cells

-- where no page stands from a number on, a cut there takes nothing away
pub cut_nothing : (m : View) (f : FileId) (from : ℕ) → HasNoneFrom f from m → after (Cut f from ∷ []) m ≡ m
cut_nothing m f from none = λ i q. at_key q i
  where
    at_page : (g : FileId) (n : ℕ) (s t : Bool) → same_file f g ≡ s → nat_le from n ≡ t → cond (s && t) None (m (PageOf g n)) ≡ m (PageOf g n)
    at_page g n true true e d = sym (ap (λ (x : FileId). m (PageOf x n)) (sym (same_file-true f g e)) ∙ none n (leb-true from n d))
    at_page g n true false e d = refl
    at_page g n false t e d = refl

    at_key : (q : _) → after (Cut f from ∷ []) m q ≡ m q
    at_key (Leader g) = refl
    at_key (PageOf g n) = at_page g n (same_file f g) (nat_le from n) refl refl
    at_key (OwnerOf o) = refl

-- a cut after one at a later number
pub cut_further : (m : View) (f : FileId) (from to : ℕ) → from ≤ to → after (Cut f from ∷ []) (after (Cut f to ∷ []) m) ≡ after (Cut f from ∷ []) m
cut_further m f from to below = λ i q. at_key q i
  where
    at_page : (g : FileId) (n : ℕ) (s t u : Bool) → same_file f g ≡ s → nat_le from n ≡ t → nat_le to n ≡ u → cond (s && t) None (cond (s && u) None (m (PageOf g n))) ≡ cond (s && t) None (m (PageOf g n))
    at_page g n true true u e d a = refl
    at_page g n true false true e d a = absurd (omega (arith, leb-false from n d, leb-true to n a))
    at_page g n true false false e d a = refl
    at_page g n false t u e d a = refl

    at_key : (q : _) → after (Cut f from ∷ []) (after (Cut f to ∷ []) m) q ≡ after (Cut f from ∷ []) m q
    at_key (Leader g) = refl
    at_key (PageOf g n) = at_page g n (same_file f g) (nat_le from n) (nat_le to n) refl refl refl
    at_key (OwnerOf o) = refl

-- nothing stands there afterwards
pub none_after : (m : View) (f : FileId) (from : ℕ) → HasNoneFrom f from (after (Cut f from ∷ []) m)
none_after m f from n least = cond-true (is_past f from (PageOf f n)) None (m (PageOf f n)) (ap (λ (t : Bool). t && nat_le from n) (same_file-itself f) ∙ is_le from n least)
  where
    is_le : (a b : ℕ) → a ≤ b → nat_le a b ≡ true
    is_le a b h = go (nat_le a b) refl
      where
        go : (t : Bool) → nat_le a b ≡ t → t ≡ true
        go true e = refl
        go false e = absurd (omega (arith, leb-false a b e))

-- ---- nodes

-- what goes: the file's pages from a number on, and the index page of the block where that goes too
abbrev pub goes : FileId → (from block : ℕ) → Bool → Node → Bool
goes f from block index (LeaderOf g) = false
goes f from block index (IndexOf g b) = index && (same_file f g && b == block)
goes f from block index (DataOf g n) = same_file f g && nat_le from n

pub same_turned : (f g : FileId) → same_file g f ≡ false → same_file f g ≡ false
same_turned f g h = go (same_file f g) refl
  where
    go : (t : Bool) → same_file f g ≡ t → t ≡ false
    go true e = let wrong : same_file g f ≡ true = ap (λ (x : FileId). same_file g x) (same_file-true f g e) ∙ same_file-itself g in cc
    go false e = refl

head_zero : (t b : Bool) → (not t || b) ≡ false → (t ≡ true) × (b ≡ false)
head_zero true b h = (refl, h)
head_zero false b h = cc

pub no_place : (ps : List ℕ) (j : ℕ) → has_a_place ps ≡ false → slice_index_or ps j 0 ≡ 0
no_place [] j h = refl
no_place (p ∷ ps) zero h = eqb-true p 0 (head_zero (p == 0) (has_a_place ps) h).0
no_place (p ∷ ps) (suc j) h = no_place ps j (head_zero (p == 0) (has_a_place ps) h).1

a_place_in : (p : ℕ) (ps : List ℕ) (t : Bool) → (p == 0) ≡ t → (not t || has_a_place ps) ≡ true → (has_a_place ps ≡ true → (j : ℕ) × (j < length ps) × (slice_index_or ps j 0 ≡ 0 → ⊥)) → (j : ℕ) × (j < length (p ∷ ps)) × (slice_index_or (p ∷ ps) j 0 ≡ 0 → ⊥)
a_place_in p ps true e h rest = (let found = rest h in (suc found.0, omega (arith, found.1), found.2))
a_place_in p ps false e h rest = (0, omega arith, λ z. (let yes = eq-eqb p 0 z in cc))

pub a_place : (ps : List ℕ) → has_a_place ps ≡ true → (j : ℕ) × (j < length ps) × (slice_index_or ps j 0 ≡ 0 → ⊥)
a_place [] h = cc
a_place (p ∷ ps) h = a_place_in p ps (p == 0) refl h (a_place ps)

-- ---- the block

module _ (home : ℕ) (at : Pages) (m : View) (c : Catalog) (f : FileId) (place : ℕ) (l : LeaderRecord) (cutting : IsCutting home at m c f place l) (sized : IsCatalog home c) (block first : ℕ) (few : block < 32) (low : first < 128) (none : HasNoneFrom f (128 * (block + 1)) m)
    (i : ℕ) (index_is : slice_index_or l.index block 0 ≡ i) (some : i ≡ 0 → ⊥) (row : List ℕ) (reads : whole index_page (at i) ≡ Some row) where
  abbrev v : Volume
  v = cutting.draft.volume

  abbrev s : Spells home at cutting.draft.volume m
  s = cutting.draft.spells

  abbrev from : ℕ
  from = 128 * block + first

  pub index_there : v.places.of (IndexOf f block) ≡ Some i
  index_there = number (v.places.of (IndexOf f block)) i (sym (row_names home at v m s f place cutting.there l cutting.reads block few) ∙ index_is) (omega (arith, some))

  abbrev pub index_row : SpellsRow nodes cutting.draft.volume.places (at i) (IndexOf f block)
  index_row = s.rows (IndexOf f block) i index_there

  pub row_says : (j : ℕ) → j < 128 → slice_index_or row j 0 ≡ number_or_0 (v.places.of (DataOf f (128 * block + j)))
  row_says j near =
      let same : index_row.row ≡ row = some_is index_row.row row (sym index_row.reads ∙ reads) in
      ap (λ (xs : List ℕ). slice_index_or xs j 0) (sym same) ∙ index_row.says j near

  pub near_of : (j : ℕ) → (slice_index_or row j 0 ≡ 0 → ⊥) → j < 128
  near_of j h = go (nat_lt j 128) refl
    where
      go : (t : Bool) → nat_lt j 128 ≡ t → j < 128
      go true e = ltb-true j 128 e
      go false e = absurd (h (get_or_past row j 0 (let past = ltb-false j 128 e in omega (arith, index_length (at i) row reads))))

  pub named_of : (j : ℕ) → (slice_index_or row j 0 ≡ 0 → ⊥) → v.places.of (DataOf f (128 * block + j)) ≡ Some (slice_index_or row j 0)
  named_of j h = number (v.places.of (DataOf f (128 * block + j))) (slice_index_or row j 0) (sym (row_says j (near_of j h))) (omega (arith, h))

  pub freeable : AreFreeable first row c.places
  freeable j late h =
      let there = named_of j h in
      (s.shape.places.least (DataOf f (128 * block + j)) (slice_index_or row j 0) there, subst (λ (n : ℕ). slice_index_or row j 0 < n) (sym sized.places) (s.shape.places.most (DataOf f (128 * block + j)) (slice_index_or row j 0) there))

  pub index_bounds : (257 ≤ i) × (i < length c.places)
  index_bounds = (s.shape.places.least (IndexOf f block) i index_there, subst (λ (n : ℕ). i < n) (sym sized.places) (s.shape.places.most (IndexOf f block) i index_there))

  -- no page of the file stands behind the block
  no_later : (n : ℕ) → 128 * (block + 1) ≤ n → v.places.of (DataOf f n) ≡ None
  no_later n late = is_none (v.places.of (DataOf f n)) (s.shape.pages f n ∙ ap is_some (none n late))

  pub no_later_index : (b p : ℕ) → block < b → v.places.of (IndexOf f b) ≡ Some p → ⊥
  no_later_index b p late there =
      let n = s.shape.page f b p there in
      let gone = no_later n.0 (omega (arith, n.1, late)) in
      let wrong : false ≡ true = sym (ap is_some gone) ∙ n.2 in
      cc

  -- a page of another block does not go
  pub stays : (g : FileId) (b p : ℕ) → v.places.of (IndexOf g b) ≡ Some p → (same_file f g && b == block) ≡ false → (n : ℕ) → n / 128 ≡ b → (same_file f g && nat_le from n) ≡ false
  stays g b p there other n in_block = go (same_file f g) refl (nat_le from n) refl
    where
      go : (t : Bool) → same_file f g ≡ t → (u : Bool) → nat_le from n ≡ u → (t && u) ≡ false
      go false e u d = refl
      go true e false d = refl
      go true e true d =
          let past = leb-true from n d in
          let apart_ : b ≡ block → ⊥ = λ z. (let yes : (same_file f g && b == block) ≡ true = ap (λ (t : Bool). t && b == block) e ∙ eq-eqb b block z in cc) in
          let same : f ≡ g = same_file-true f g e in
          absurd (no_later_index b p (omega (arith, past, in_block, apart_)) (ap (λ (x : FileId). v.places.of (IndexOf x b)) same ∙ there))

  -- ---- what is taken

  -- what stands at a place that the row names
  named_at : (q j : ℕ) → (q ≡ 0 → ⊥) → slice_index_or row j 0 ≡ q → v.places.at q ≡ Some (DataOf f (128 * block + j))
  named_at q j ne is = s.shape.places.there (DataOf f (128 * block + j)) q (named_of j (λ z. ne (sym is ∙ z)) ∙ ap Some is)

  pub pages_freed : (places : List Bool) → AreFreed first row c.places places → (q : ℕ) → 257 ≤ q → q < home → slice_index_or places q true ≡ is_some (unless (goes f from block false) (v.places.at q))
  pages_freed places freed q least most = go (v.places.at q) refl
    where
      ne : q ≡ 0 → ⊥
      ne z = omega arith

      was : (o : Option Node) → v.places.at q ≡ o → ((j : ℕ) → first ≤ j → o ≡ Some (DataOf f (128 * block + j)) → ⊥) → slice_index_or places q true ≡ is_some o
      was o e other = freed.stay q ne (λ j late is. other j late (sym e ∙ named_at q j ne is)) ∙ cutting.draft.knows.places_taken q least most ∙ ap is_some e

      page : (g : FileId) (n : ℕ) → v.places.at q ≡ Some (DataOf g n) → (t : Bool) → same_file f g ≡ t → (u : Bool) → nat_le from n ≡ u → slice_index_or places q true ≡ is_some (cond (t && u) None (Some (DataOf g n)))
      page g n e true a true b =
          let past = leb-true from n b in
          let here : v.places.of (DataOf f n) ≡ Some q = ap (λ (x : FileId). v.places.of (DataOf x n)) (same_file-true f g a) ∙ s.shape.places.back q (DataOf g n) e in
          let near : n < 128 * (block + 1) = before n here in
          let number_is : 128 * block + (n - 128 * block) ≡ n = omega (arith, past) in
          let names : slice_index_or row (n - 128 * block) 0 ≡ q = row_says (n - 128 * block) (omega (arith, near, past)) ∙ ap (λ (x : ℕ). number_or_0 (v.places.of (DataOf f x))) number_is ∙ ap number_or_0 here in
          ap (λ (x : ℕ). slice_index_or places x true) (sym names) ∙ freed.gone (n - 128 * block) (omega (arith, past)) (λ z. ne (sym names ∙ z))
        where
          before : (n : ℕ) → v.places.of (DataOf f n) ≡ Some q → n < 128 * (block + 1)
          before n h = split (nat_lt n (128 * (block + 1))) refl
            where
              split : (t : Bool) → nat_lt n (128 * (block + 1)) ≡ t → n < 128 * (block + 1)
              split true x = ltb-true n (128 * (block + 1)) x
              split false x = let gone = no_later n (ltb-false n (128 * (block + 1)) x) in let wrong : None ≡ Some q = sym gone ∙ h in cc
      page g n e true a false b = was (Some (DataOf g n)) e (λ j late is. (let number_is : n ≡ 128 * block + j = ap node_number (some_is (DataOf g n) (DataOf f (128 * block + j)) is) in absurd (omega (arith, leb-false from n b, number_is, late))))
      page g n e false a u b =
          was (Some (DataOf g n)) e (λ j late is. (let file_is : g ≡ f = ap node_file (some_is (DataOf g n) (DataOf f (128 * block + j)) is) in let yes : same_file f g ≡ true = ap (same_file f) file_is ∙ same_file-itself f in cc))

      go : (o : Option Node) → v.places.at q ≡ o → slice_index_or places q true ≡ is_some (unless (goes f from block false) o)
      go None e = was None e (λ j late is. cc)
      go (Some (LeaderOf g)) e = was (Some (LeaderOf g)) e (λ j late is. cc)
      go (Some (IndexOf g b)) e = was (Some (IndexOf g b)) e (λ j late is. cc)
      go (Some (DataOf g n)) e = page g n e (same_file f g) refl (nat_le from n) refl

  -- ---- nodes that stay

  -- the pages in front of a block's are all in front of what goes
  pub children_stay : (g : FileId) (b p : ℕ) → v.places.of (IndexOf g b) ≡ Some p → (same_file f g && b == block) ≡ false → (t : Bool) (j : ℕ) → j < 128 → (without (goes f from block t) v.places).of (DataOf g (128 * b + j)) ≡ v.places.of (DataOf g (128 * b + j))
  children_stay g b p there other t j near = cond-false (same_file f g && nat_le from (128 * b + j)) None (v.places.of (DataOf g (128 * b + j))) (stays g b p there other (128 * b + j) (omega arith))

  -- another index page than the block's stands elsewhere
  pub index_apart : (g : FileId) (b p : ℕ) → v.places.of (IndexOf g b) ≡ Some p → (same_file f g && b == block) ≡ false → p ≡ i → ⊥
  index_apart g b p there other same =
      let back : Some (IndexOf g b) ≡ Some (IndexOf f block) = sym (s.shape.places.there (IndexOf g b) p there) ∙ ap v.places.at same ∙ s.shape.places.there (IndexOf f block) i index_there in
      let node : IndexOf g b ≡ IndexOf f block = some_is (IndexOf g b) (IndexOf f block) back in
      let yes : (same_file f g && b == block) ≡ true = ap (λ (k : Node). same_file f (node_file k) && node_number k == block) node ∙ ap (λ (t : Bool). t && block == block) (same_file-itself f) ∙ eq-eqb block block refl in
      cc

  -- a block that is not this one keeps a page that stays
  pub page_stays : (g : FileId) (b p : ℕ) → v.places.of (IndexOf g b) ≡ Some p → (same_file f g && b == block) ≡ false → (n : ℕ) × (n / 128 ≡ b) × (is_some (v.places.of (DataOf g n)) ≡ true) × ((same_file f g && nat_le from n) ≡ false)
  page_stays g b p there other = (let n = s.shape.page g b p there in (n.0, n.1, n.2, stays g b p there other n.0 n.1))

-- a block without an index page has nothing to lose
pub no_block : (home : ℕ) (at : Pages) (m : View) (c : Catalog) (f : FileId) (place : ℕ) (l : LeaderRecord) → IsCutting home at m c f place l → (block first : ℕ) → block < 32 → HasNoneFrom f (128 * (block + 1)) m → slice_index_or l.index block 0 ≡ 0 → IsCutting home at (after (Cut f (128 * block + first) ∷ []) m) c f place l
no_block home at m c f place l cutting block first few none zero_ = subst (λ (k : View). IsCutting home at k c f place l) (sym (cut_nothing m f (128 * block + first) nothing)) cutting
  where
    no_index : cutting.draft.volume.places.of (IndexOf f block) ≡ None
    no_index = unplaced home at cutting.draft.volume m cutting.draft.spells (IndexOf f block) (sym (row_names home at cutting.draft.volume m cutting.draft.spells f place cutting.there l cutting.reads block few) ∙ zero_)

    none_there : (o : Option Cell) → is_some o ≡ false → o ≡ None
    none_there None h = refl
    none_there (Some x) h = cc

    in_block : (n : ℕ) → n / 128 ≡ block → m (PageOf f n) ≡ None
    in_block n same = none_there (m (PageOf f n)) (sym (cutting.draft.spells.shape.pages f n) ∙ go (cutting.draft.volume.places.of (DataOf f n)) refl)
      where
        go : (o : Option ℕ) → cutting.draft.volume.places.of (DataOf f n) ≡ o → is_some o ≡ false
        go None e = refl
        go (Some p) e =
            let yes = cutting.draft.spells.shape.block f n p e in
            let wrong : false ≡ true = sym (ap is_some no_index) ∙ ap (λ (b : ℕ). is_some (cutting.draft.volume.places.of (IndexOf f b))) (sym same) ∙ yes in
            cc

    nothing : HasNoneFrom f (128 * block + first) m
    nothing n late = go (nat_lt n (128 * (block + 1))) refl
      where
        go : (t : Bool) → nat_lt n (128 * (block + 1)) ≡ t → m (PageOf f n) ≡ None
        go true e = in_block n (let early = ltb-true n (128 * (block + 1)) e in omega arith)
        go false e = none n (ltb-false n (128 * (block + 1)) e)
