-- What the first page of a block makes of a draft.
use Rattle.std.specs.Prelude.{Bool, true, false, not, cond, ◌==◌, ◌&&◌, is_some, Option, None, Some, option_map, slice_index_or, slice_index, slice_set}
use Rattle.std.specs.Int.{bit_at}
use Rattle.std.specs.FinMap as map
use Rattle.std.proofs.Common.{◌≡◌, ℕ, ◌<◌, ◌≤◌, ◌/◌, ◌%◌, List, [], ◌∷◌, length, refl, sym, ◌∙◌, ap, subst, arith, eq-eqb}
use Rattle.std.proofs.lemmas.List.{get_or-set_same, get_or-set_other, length-set}
use Rattle.alp_base.specs.declared.ids.FileId.{FileId}
use Rattle.alp_base.specs.declared.key.Key.TheVariants.{PageOf}
use Rattle.alp_fields.specs.Forms.{whole}
use Rattle.alp_base.specs.declared.cell.Cell.TheVariants as cell
use Rattle.alp_files.specs.Cells.{View, same_file}
use Rattle.alp_files.specs.Edits.{Put, after}
use Rattle.alp_files.proofs.SameLemmas.{same_file-itself}
use Rattle.alp_pages.specs.declared.leader.Leader.{Leader as LeaderRecord}
use Rattle.alp_pages.specs.Leader.{leader_page}
use Rattle.alp_volume.specs.declared.catalog.Catalog.{Catalog}
use Rattle.alp_tables.specs.declared.file_slot.FileSlot.{FileSlot}
use Rattle.alp_pages.specs.Changes.{NamesBlock, NamesOne, volume_with}
use Rattle.alp_pages.specs.Counted.{bit}
use Rattle.alp_volume.specs.Drafts.{Changed, IsDraft, laid}
use Rattle.alp_volume.specs.Known.{IsCatalog, Knows}
use Rattle.alp_pages.specs.Naming.{Naming, named}
use Rattle.alp_pages.specs.Nodes.{Node, LeaderOf, IndexOf, DataOf, same_node}
use Rattle.alp_pages.specs.Pages.{Pages, written}
use Rattle.alp_volume.specs.Undone.{with_file, with_place}
use Rattle.alp_pages.specs.Volume.{Volume, Spells, row_of_leader, row_of_node, props_cell}
use Rattle.alp_pages.proofs.BlockLaws.{block_added}
use Rattle.alp_volume.proofs.DraftLaws.{put_laid}
use Rattle.alp_pages.proofs.FetchLaws.{is_none}
use Rattle.alp_volume.proofs.KnowsLaws.{named_taken, head_taken, leader_there, leader_file, leader_row, row_bits, knows_blocks}
use Rattle.alp_volume.proofs.LaidLaws.{laid_put}
use Rattle.alp_tables.proofs.FreeLaws.{free_within}
use Rattle.alp_volume.proofs.PutLaws.{free_place, place_sized}
use Rattle.alp_pages.proofs.UnnamedLaws.{written_same}

-- a number that is free beside one that was taken
pub still_free : (xs : List Bool) (i p : ℕ) → i < length xs → slice_index_or (slice_set xs i true) p true ≡ false → (i ≡ p → ⊥) × (slice_index_or xs p true ≡ false)
still_free xs i p within free = (apart, sym (get_or-set_other xs i p true true (λ e. apart (sym e))) ∙ free)
  where
    apart : i ≡ p → ⊥
    apart e = let taken : slice_index_or (slice_set xs i true) p true ≡ true = ap (λ (x : ℕ). slice_index_or (slice_set xs i true) x true) (sym e) ∙ get_or-set_same xs i true true within in cc

module _ (home : ℕ) (base : Pages) (old : Changed) (m : View) (c : Catalog) (d : IsDraft home (laid old base) m c) (sized : IsCatalog home c) (f : FileId) (n : ℕ) (few : n < 4096) (x : FileSlot) (there : map.get c.files f ≡ Some x)
    (l : LeaderRecord) (reads : whole leader_page (laid old base x.place) ≡ Some l) (none : d.volume.places.of (IndexOf f (n / 128)) ≡ None) (i p : ℕ) (free_i : slice_index_or c.places i true ≡ false) (free_p : slice_index_or (slice_set c.places i true) p true ≡ false) where
  abbrev v : Volume
  v = d.volume

  abbrev at : Pages
  at = laid old base

  abbrev grown : Naming Node
  grown = named same_node (DataOf f n) p (named same_node (IndexOf f (n / 128)) i d.volume.places)

  in_i : (257 ≤ i) × (i < home)
  in_i = free_place home c i sized free_i

  one_taken : IsCatalog home (record c { places = slice_set c.places i true })
  one_taken = place_sized home c i sized in_i.0 (slice_set c.places i true) refl

  pub bounds_p : (257 ≤ p) × (p < home)
  bounds_p = free_place home (record c { places = slice_set c.places i true }) p one_taken free_p

  free_2 : (i ≡ p → ⊥) × (slice_index_or c.places p true ≡ false)
  free_2 = still_free c.places i p (free_within c.places i free_i) free_p

  at_i : v.places.at i ≡ None
  at_i = is_none (v.places.at i) (sym (d.knows.places_taken i in_i.0 in_i.1) ∙ free_i)

  at_p : v.places.at p ≡ None
  at_p = is_none (v.places.at p) (sym (d.knows.places_taken p bounds_p.0 bounds_p.1) ∙ free_2.1)

  leader : v.places.of (LeaderOf f) ≡ Some x.place
  leader = leader_there home v c d.knows f x there

  module _ (bytes ix lbytes : List ℕ) (one : NamesOne ix (n % 128) p) (after_reads : whole leader_page lbytes ≡ Some (record l { index = slice_set l.index (n / 128) i })) where
    names : NamesBlock f (at x.place) lbytes (n / 128) i
    names =
        let own : l.file ≡ f = leader_file home at v m d.spells f x.place leader l reads in
        record {
          old = l;
          old_reads = reads;
          old_row = leader_row home at v m d.spells f x.place leader l reads;
          row_is = ap (row_of_leader f) after_reads ∙ ap (λ (t : Bool). cond t (Some (slice_set l.index (n / 128) i)) None) (ap (λ (g : FileId). same_file g f) own ∙ same_file-itself f);
          props_are = ap (option_map props_cell) reads ∙ sym (ap (option_map props_cell) after_reads);
        }

    spells : Spells home (written x.place lbytes (written i ix (written p bytes at))) (record v { places = named same_node (DataOf f n) p (named same_node (IndexOf f (n / 128)) i v.places) }) (after (Put (PageOf f n) (cell.Page bytes) ∷ []) m)
    spells = block_added home at v m d.spells f n x.place i p leader few none at_i at_p free_2.0 in_i bounds_p bytes ix lbytes one names

    -- memory knows of the page and its index page
    knows : (blocks : ℕ) → ((b : ℕ) → b < 32 → bit_at blocks b ≡ bit (not (slice_index (slice_set l.index (n / 128) i) b == 0)))
        → Knows home (record v { places = named same_node (DataOf f n) p (named same_node (IndexOf f (n / 128)) i v.places) }) (record c { files = map.insert c.files f (record x { blocks = blocks }); places = slice_set (slice_set c.places i true) p true })
    knows blocks bits =
        knows_blocks home v c d.knows f x there (named same_node (DataOf f n) p (named same_node (IndexOf f (n / 128)) i v.places)) (slice_set (slice_set c.places i true) p true) blocks
        (λ g. refl)
        (λ g b other. ap (λ (t : Bool). cond (t && b == n / 128) (Some i) (v.places.of (IndexOf g b))) other)
        (λ b low. bits b low ∙ row_bits home (written x.place lbytes (written i ix (written p bytes at))) (record v { places = named same_node (DataOf f n) p (named same_node (IndexOf f (n / 128)) i v.places) }) (after (Put (PageOf f n) (cell.Page bytes) ∷ []) m) spells f x.place leader (record l { index = slice_set l.index (n / 128) i })
        (ap (whole leader_page) (written_same x.place lbytes (written i ix (written p bytes at))) ∙ after_reads) b low)
        (λ q low high. named_taken same_node (slice_set c.places i true) (named same_node (IndexOf f (n / 128)) i v.places) (DataOf f n) p q (free_within (slice_set c.places i true) p free_p)
        (named_taken same_node c.places v.places (IndexOf f (n / 128)) i q (free_within c.places i free_i) (d.knows.places_taken q low high)))
        (λ q low. head_taken (slice_set c.places i true) p q bounds_p.0 low (head_taken c.places i q in_i.0 low (d.knows.head q low)))

    pub block_made : (new : Changed) → new ≡ map.insert (map.insert (map.insert old p bytes) i ix) x.place lbytes → (blocks : ℕ) → ((b : ℕ) → b < 32 → bit_at blocks b ≡ bit (not (slice_index (slice_set l.index (n / 128) i) b == 0)))
        → (now : Catalog) → now ≡ with_file f (record x { blocks = blocks }) (with_place p true (with_place i true c)) → IsDraft home (laid new base) (after (Put (PageOf f n) (cell.Page bytes) ∷ []) m) now
    block_made new made blocks bits now is =
        subst (λ (k : Catalog). IsDraft home (laid new base) (after (Put (PageOf f n) (cell.Page bytes) ∷ []) m) k) (sym is)
        (put_laid home (map.insert (map.insert old p bytes) i ix) new base x.place lbytes (after (Put (PageOf f n) (cell.Page bytes) ∷ []) m) (with_file f (record x { blocks = blocks }) (with_place p true (with_place i true c))) made (record {
          volume = record v { places = named same_node (DataOf f n) p (named same_node (IndexOf f (n / 128)) i v.places) };
          spells = subst (λ (y : Pages). Spells home (written x.place lbytes y) (record v { places = named same_node (DataOf f n) p (named same_node (IndexOf f (n / 128)) i v.places) }) (after (Put (PageOf f n) (cell.Page bytes) ∷ []) m))
              (sym (laid_put (map.insert old p bytes) base i ix ∙ ap (written i ix) (laid_put old base p bytes))) spells;
          knows = knows blocks bits;
        }))
