-- What memory knows of a volume whose places changed.
use Rattle.std.specs.Prelude.{Bool, true, false, not, cond, ◌==◌, is_some, Option, None, Some, option_map, slice_index_or, slice_index, slice_set}
use Rattle.std.specs.Int.{bit_at}
use Rattle.std.specs.FinMap as map
use Rattle.std.proofs.Common.{◌≡◌, ℕ, ◌<◌, ◌≤◌, List, length, refl, sym, ◌∙◌, ap, subst, arith, eq-eqb}
use Rattle.std.proofs.lemmas.Bool.{eqb-true, cond-true, cond-false}
use Rattle.std.proofs.lemmas.List.{get_or-set_same, get_or-set_other, length-set}
use Rattle.alp_base.specs.declared.ids.FileId.{FileId}
use Rattle.alp_fields.specs.Forms.{whole}
use Rattle.alp_files.specs.Cells.{View, same_file}
use Rattle.alp_files.proofs.SameLemmas.{same_file-true, same_file-itself}
use Rattle.alp_pages.specs.declared.leader.Leader.{Leader as LeaderRecord}
use Rattle.alp_pages.specs.Leader.{leader_page}
use Rattle.alp_volume.specs.declared.catalog.Catalog.{Catalog}
use Rattle.alp_tables.specs.declared.file_slot.FileSlot.{FileSlot}
use Rattle.alp_pages.specs.Counted.{bit}
use Rattle.alp_volume.specs.Known.{Knows, leader_of}
use Rattle.alp_pages.specs.Naming.{Naming, named, number_or_0}
use Rattle.alp_pages.specs.Nodes.{Node, LeaderOf, IndexOf, DataOf, same_node}
use Rattle.alp_pages.specs.Pages.{Pages}
use Rattle.alp_volume.specs.Reached.{Files, slot_of}
use Rattle.alp_pages.specs.Rows.{SpellsRow}
use Rattle.alp_pages.specs.Volume.{Volume, Spells, nodes, row_of_node}
use Rattle.alp_pages.proofs.LeaderLaws.{ReadsLeader, reads_leader}
use Rattle.alp_volume.proofs.ListLaws.{got}
use Rattle.alp_pages.proofs.NamingLaws.{eqb_other}
use Rattle.alp_pages.proofs.UniqueLaws.{some_is}

-- a number that is taken is that of what stands there now
pub named_taken : {K : Type 0} (same : K → K → Bool) (flags : List Bool) (n : Naming K) (k : K) (p q : ℕ) → p < length flags → slice_index_or flags q true ≡ is_some (n.at q) → slice_index_or (slice_set flags p true) q true ≡ is_some ((named same k p n).at q)
named_taken same flags n k p q within h = go (q == p) refl
  where
    go : (t : Bool) → (q == p) ≡ t → slice_index_or (slice_set flags p true) q true ≡ is_some (cond t (Some k) (n.at q))
    go true e = ap (λ (x : ℕ). slice_index_or (slice_set flags p true) x true) (eqb-true q p e) ∙ get_or-set_same flags p true true within
    go false e = get_or-set_other flags p q true true (λ z. let wrong : (q == p) ≡ true = eq-eqb q p z in cc) ∙ h

pub head_taken : (places : List Bool) (p q : ℕ) → 257 ≤ p → q < 257 → slice_index_or places q true ≡ true → slice_index_or (slice_set places p true) q true ≡ true
head_taken places p q least low h = get_or-set_other places p q true true (λ e. omega arith) ∙ h

-- the place of a leader that memory has
pub leader_there : (home : ℕ) (v : Volume) (c : Catalog) → Knows home v c → (f : FileId) (x : FileSlot) → map.get c.files f ≡ Some x → v.places.of (LeaderOf f) ≡ Some x.place
leader_there home v c knows f x there = sym (knows.leaders f) ∙ ap (option_map leader_of) there

pub slot_there : (home : ℕ) (v : Volume) (c : Catalog) → Knows home v c → (f : FileId) (x : FileSlot) → map.get c.files f ≡ Some x → v.slots.of f ≡ Some x.slot
slot_there home v c knows f x there = sym (knows.slots f) ∙ ap (option_map slot_of) there

-- A leader's row is that of its file, and names a place just for the blocks that have an index page.
module _ (home : ℕ) (at : Pages) (v : Volume) (m : View) (s : Spells home at v m) (f : FileId) (place : ℕ) (there : v.places.of (LeaderOf f) ≡ Some place) (l : LeaderRecord) (reads : whole leader_page (at place) ≡ Some l) where
  abbrev spelled : SpellsRow nodes v.places (at place) (LeaderOf f)
  spelled = s.rows (LeaderOf f) place there

  abbrev found : ReadsLeader f (at place) spelled.row
  found = reads_leader f (at place) spelled.row spelled.reads

  same : found.leader ≡ l
  same = some_is found.leader l (sym found.reads ∙ reads)

  pub leader_file : l.file ≡ f
  leader_file = ap (λ (x : LeaderRecord). x.file) (sym same) ∙ found.file

  pub leader_row : row_of_node (LeaderOf f) (at place) ≡ Some l.index
  leader_row = spelled.reads ∙ ap Some (sym found.row_is ∙ ap (λ (x : LeaderRecord). x.index) same)

  pub row_names : (b : ℕ) → b < 32 → slice_index_or l.index b 0 ≡ number_or_0 (v.places.of (IndexOf f b))
  row_names b low = ap (λ (xs : List ℕ). slice_index_or xs b 0) (ap (λ (x : LeaderRecord). x.index) (sym same) ∙ found.row_is) ∙ spelled.says b low

  pub row_bits : (b : ℕ) → b < 32 → bit (not (slice_index l.index b == 0)) ≡ bit (is_some (v.places.of (IndexOf f b)))
  row_bits b low = ap (λ (x : ℕ). bit (not (x == 0))) (row_names b low) ∙ go (v.places.of (IndexOf f b)) refl
    where
      go : (o : Option ℕ) → v.places.of (IndexOf f b) ≡ o → bit (not (number_or_0 o == 0)) ≡ bit (is_some o)
      go None e = refl
      go (Some p) e = ap (λ (t : Bool). bit (not t)) (eqb_other p 0 (λ z. (let least = s.shape.places.least (IndexOf f b) p e in omega arith)))

-- memory knows of places that changed, and of the blocks of the one file whose index pages did
module _ (home : ℕ) (v : Volume) (c : Catalog) (knows : Knows home v c) (f : FileId) (x : FileSlot) (there : map.get c.files f ≡ Some x) (pl : Naming Node) (places : List Bool) (blocks : ℕ) (leaders : (g : FileId) → pl.of (LeaderOf g) ≡ v.places.of (LeaderOf g))
    (others : (g : FileId) (b : ℕ) → same_file g f ≡ false → pl.of (IndexOf g b) ≡ v.places.of (IndexOf g b)) (own : (b : ℕ) → b < 32 → bit_at blocks b ≡ bit (is_some (pl.of (IndexOf f b)))) (taken : (q : ℕ) → 257 ≤ q → q < home → slice_index_or places q true ≡ is_some (pl.at q))
    (head : (q : ℕ) → q < 257 → slice_index_or places q true ≡ true) where
  abbrev kept : FileSlot
  kept = record x { blocks = blocks }

  abbrev files : Files
  files = map.insert c.files f (record x { blocks = blocks })

  pub knows_blocks : Knows home (record v { places = pl }) (record c { files = map.insert c.files f (record x { blocks = blocks }); places = places })
  knows_blocks = record {
    slots = λ g. ap (option_map slot_of) (got c.files f kept g) ∙ slots_are g (same_file g f) refl;
    leaders = λ g. ap (option_map leader_of) (got c.files f kept g) ∙ leaders_are g (same_file g f) refl ∙ sym (leaders g);
    blocks = λ g y b is low. blocks_are g y b low (same_file g f) refl (sym (got c.files f kept g) ∙ is);
    rows = knows.rows;
    entries_taken = knows.entries_taken;
    rows_taken = knows.rows_taken;
    places_taken = taken;
    head = head;
  }
    where
      slots_are : (g : FileId) (t : Bool) → same_file g f ≡ t → option_map slot_of (cond t (Some kept) (map.get c.files g)) ≡ v.slots.of g
      slots_are g true e = sym (slot_there home v c knows f x there) ∙ ap v.slots.of (sym (same_file-true g f e))
      slots_are g false e = knows.slots g

      leaders_are : (g : FileId) (t : Bool) → same_file g f ≡ t → option_map leader_of (cond t (Some kept) (map.get c.files g)) ≡ v.places.of (LeaderOf g)
      leaders_are g true e = sym (leader_there home v c knows f x there) ∙ ap (λ (y : FileId). v.places.of (LeaderOf y)) (sym (same_file-true g f e))
      leaders_are g false e = knows.leaders g

      blocks_are : (g : FileId) (y : FileSlot) (b : ℕ) → b < 32 → (t : Bool) → same_file g f ≡ t → cond t (Some kept) (map.get c.files g) ≡ Some y → bit_at y.blocks b ≡ bit (is_some (pl.of (IndexOf g b)))
      blocks_are g y b low true e is =
          ap (λ (z : FileSlot). bit_at z.blocks b) (sym (some_is kept y is)) ∙ own b low ∙ ap (λ (z : FileId). bit (is_some (pl.of (IndexOf z b)))) (sym (same_file-true g f e))
      blocks_are g y b low false e is = knows.blocks g y b is low ∙ ap (λ (o : Option ℕ). bit (is_some o)) (sym (others g b e))

-- what a page gives no place has none
pub unplaced : (home : ℕ) (at : Pages) (v : Volume) (m : View) → Spells home at v m → (k : Node) → number_or_0 (v.places.of k) ≡ 0 → v.places.of k ≡ None
unplaced home at v m s k zero_ = go (v.places.of k) refl zero_
  where
    go : (o : Option ℕ) → v.places.of k ≡ o → number_or_0 o ≡ 0 → o ≡ None
    go None e h = refl
    go (Some p) e h = let least = s.shape.places.least k p e in absurd (omega arith)
