-- What a new file makes of a draft.
use Rattle.std.specs.Prelude.{Bool, true, false, cond, is_some, Option, None, Some, option_map, slice_index_or, slice_set}
use Rattle.std.specs.Int.{bit_at}
use Rattle.std.specs.FinMap as map
use Rattle.std.proofs.Common.{◌≡◌, ℕ, ◌+◌, ◌<◌, ◌≤◌, ◌/◌, List, [], ◌∷◌, length, refl, sym, ◌∙◌, ap, subst, arith}
use Rattle.std.proofs.lemmas.Nat.Bits.{bit_at-zero}
use Rattle.alp_base.specs.declared.ids.FileId.{FileId}
use Rattle.alp_base.specs.declared.key.Key.TheVariants.{Leader, PageOf}
use Rattle.alp_fields.specs.Forms.{whole}
use Rattle.alp_base.specs.declared.cell.Cell.{Cell}
use Rattle.alp_base.specs.declared.cell.Cell.TheVariants as cell
use Rattle.alp_files.specs.Cells.{View, same_file}
use Rattle.alp_files.specs.Edits.{Put, after}
use Rattle.alp_files.proofs.SameLemmas.{same_file-true}
use Rattle.alp_pages.specs.declared.leader.Leader.{Leader as LeaderRecord}
use Rattle.alp_pages.specs.Leader.{leader_page}
use Rattle.alp_volume.specs.declared.catalog.Catalog.{Catalog}
use Rattle.alp_tables.specs.declared.file_slot.FileSlot.{FileSlot}
use Rattle.alp_pages.specs.Changes.{HasSlot, IsFree, volume_with_file}
use Rattle.alp_pages.specs.Counted.{bit}
use Rattle.alp_volume.specs.Drafts.{Changed, IsDraft, laid}
use Rattle.alp_volume.specs.Known.{IsCatalog, Knows, leader_of}
use Rattle.alp_pages.specs.Nodes.{LeaderOf, IndexOf, DataOf, same_node}
use Rattle.alp_pages.specs.Pages.{Pages, written}
use Rattle.alp_volume.specs.Reached.{slot_of}
use Rattle.alp_volume.specs.Undone.{with_file, with_place, with_slot}
use Rattle.alp_pages.specs.Volume.{Volume, Spells}
use Rattle.alp_volume.proofs.DraftLaws.{put_laid}
use Rattle.alp_pages.proofs.FetchLaws.{is_none}
use Rattle.alp_pages.proofs.FileLaws.{file_added}
use Rattle.alp_volume.proofs.KnowsLaws.{named_taken, head_taken}
use Rattle.alp_volume.proofs.LaidLaws.{laid_put}
use Rattle.alp_volume.proofs.ListLaws.{got}
use Rattle.alp_tables.proofs.FreeLaws.{free_within}
use Rattle.alp_volume.proofs.PutLaws.{free_place}
use Rattle.alp_pages.proofs.UniqueLaws.{some_is}

module _ (home : ℕ) (base : Pages) (old : Changed) (m : View) (c : Catalog) (d : IsDraft home (laid old base) m c) (sized : IsCatalog home c) (f : FileId) (none : map.get c.files f ≡ None) (p slot : ℕ) (free_p : slice_index_or c.places p true ≡ false) (free_s : slice_index_or c.slots slot true ≡ false)
    (no_pages : (n : ℕ) → m (PageOf f n) ≡ None) where
  abbrev v : Volume
  v = d.volume

  abbrev kept : FileSlot
  kept = record { slot = slot; place = p; blocks = 0 }

  in_p : (257 ≤ p) × (p < home)
  in_p = free_place home c p sized free_p

  few : slot < 4096
  few = subst (λ (n : ℕ). slot < n) sized.slots (free_within c.slots slot free_s)

  -- a file without a page has no index page
  no_index : (b : ℕ) → v.places.of (IndexOf f b) ≡ None
  no_index b = go (v.places.of (IndexOf f b)) refl
    where
      go : (o : Option ℕ) → v.places.of (IndexOf f b) ≡ o → o ≡ None
      go None e = refl
      go (Some q) e =
          let n = d.spells.shape.page f b q e in
          let wrong : false ≡ true = ap (λ (o : Option Cell). is_some o) (sym (no_pages n.0)) ∙ sym (d.spells.shape.pages f n.0) ∙ n.2 in
          cc

  knows : Knows home (volume_with_file f slot p v) (record c { files = map.insert c.files f kept; slots = slice_set c.slots slot true; places = slice_set c.places p true })
  knows = record {
    slots = λ g. ap (option_map slot_of) (got c.files f kept g) ∙ slots_are g (same_file g f);
    leaders = λ g. ap (option_map leader_of) (got c.files f kept g) ∙ leaders_are g (same_file g f);
    blocks = λ g y b is low. blocks_are g y b low (same_file g f) refl (sym (got c.files f kept g) ∙ is);
    rows = d.knows.rows;
    entries_taken = λ s low. named_taken same_file c.slots v.slots f slot s (free_within c.slots slot free_s) (d.knows.entries_taken s low);
    rows_taken = d.knows.rows_taken;
    places_taken = λ q low high. named_taken same_node c.places v.places (LeaderOf f) p q (free_within c.places p free_p) (d.knows.places_taken q low high);
    head = λ q low. head_taken c.places p q in_p.0 low (d.knows.head q low);
  }
    where
      slots_are : (g : FileId) (t : Bool) → option_map slot_of (cond t (Some kept) (map.get c.files g)) ≡ cond t (Some slot) (v.slots.of g)
      slots_are g true = refl
      slots_are g false = d.knows.slots g

      leaders_are : (g : FileId) (t : Bool) → option_map leader_of (cond t (Some kept) (map.get c.files g)) ≡ cond t (Some p) (v.places.of (LeaderOf g))
      leaders_are g true = refl
      leaders_are g false = d.knows.leaders g

      blocks_are : (g : FileId) (y : FileSlot) (b : ℕ) → b < 32 → (t : Bool) → same_file g f ≡ t → cond t (Some kept) (map.get c.files g) ≡ Some y → bit_at y.blocks b ≡ bit (is_some (v.places.of (IndexOf g b)))
      blocks_are g y b low true e is =
          ap (λ (z : FileSlot). bit_at z.blocks b) (sym (some_is kept y is)) ∙ bit_at-zero b ∙ sym (ap (λ (z : FileId). bit (is_some (v.places.of (IndexOf z b)))) (same_file-true g f e) ∙ ap (λ (o : Option ℕ). bit (is_some o)) (no_index b))
      blocks_are g y b low false e is = d.knows.blocks g y b is low

  pub file_made : (dbytes lbytes : List ℕ) (l : LeaderRecord) → HasSlot (laid old base) dbytes slot (Some (record { file = f; place = p })) → whole leader_page lbytes ≡ Some l → l.file ≡ f → ((j : ℕ) → slice_index_or l.index j 0 ≡ 0)
      → (new : Changed) → new ≡ map.insert (map.insert old p lbytes) (1 + slot / 32) dbytes → (now : Catalog) → now ≡ with_slot slot true (with_file f (record { slot = slot; place = p; blocks = 0 }) (with_place p true c)) → IsDraft home (laid new base) (after (Put (Leader f) (cell.Leader l.props) ∷ []) m) now
  file_made dbytes lbytes l has reads own empty new made now is =
      let unknown : v.slots.of f ≡ None = sym (d.knows.slots f) ∙ ap (option_map slot_of) none in
      let open_slot : v.slots.at slot ≡ None = is_none (v.slots.at slot) (sym (d.knows.entries_taken slot few) ∙ free_s) in
      let free : IsFree home v p = record { free = is_none (v.places.at p) (sym (d.knows.places_taken p in_p.0 in_p.1) ∙ free_p); least = in_p.0; most = in_p.1 } in
      subst (λ (k : Catalog). IsDraft home (laid new base) (after (Put (Leader f) (cell.Leader l.props) ∷ []) m) k) (sym is)
      (put_laid home (map.insert old p lbytes) new base (1 + slot / 32) dbytes (after (Put (Leader f) (cell.Leader l.props) ∷ []) m) (with_slot slot true (with_file f (record { slot = slot; place = p; blocks = 0 }) (with_place p true c))) made (record {
        volume = volume_with_file f slot p v;
        spells = subst (λ (y : Pages). Spells home (written (1 + slot / 32) dbytes y) (volume_with_file f slot p v) (after (Put (Leader f) (cell.Leader l.props) ∷ []) m)) (sym (laid_put old base p lbytes))
            (file_added home (laid old base) v m d.spells f slot p unknown open_slot few free no_pages dbytes lbytes l has reads own empty);
        knows = knows;
      }))
