-- What a file that goes makes of a draft, once it has no page.
use Rattle.std.specs.Prelude.{Bool, true, false, cond, ◌==◌, ◌&&◌, is_some, Option, None, Some, option_map, slice_index_or, slice_set}
use Rattle.std.specs.Int.{bit_at}
use Rattle.std.specs.FinMap as map
use Rattle.std.specs.FinMap.{get-remove}
use Rattle.std.specs.Cmp.{nat_cmp_total}
use Rattle.std.proofs.Common.{◌≡◌, ℕ, ◌+◌, ◌<◌, ◌≤◌, ◌/◌, List, [], ◌∷◌, length, refl, sym, ◌∙◌, ap, subst, arith, eq-eqb}
use Rattle.std.proofs.lemmas.Bool.{cond-true, cond-false, eqb-true}
use Rattle.std.proofs.lemmas.List.{get_or-set_same, get_or-set_other}
use Rattle.alp_base.specs.declared.ids.FileId.{FileId}
use Rattle.alp_base.specs.declared.key.Key.TheVariants.{Leader, PageOf}
use Rattle.alp_base.specs.declared.cell.Cell.{Cell}
use Rattle.alp_files.specs.Cells.{View, same_file}
use Rattle.alp_files.specs.Edits.{Drop, after}
use Rattle.alp_files.proofs.SameLemmas.{same_file-true, same_file-itself}
use Rattle.alp_volume.specs.declared.catalog.Catalog.{Catalog}
use Rattle.alp_tables.specs.declared.file_slot.FileSlot.{FileSlot}
use Rattle.alp_pages.specs.Changes.{HasSlot, is_of, volume_without}
use Rattle.alp_pages.specs.Counted.{bit}
use Rattle.alp_volume.specs.Drafts.{Changed, IsDraft, laid, page_or}
use Rattle.alp_volume.specs.Known.{IsCatalog, Knows, leader_of}
use Rattle.alp_pages.specs.Naming.{unless, without}
use Rattle.alp_pages.specs.Nodes.{Node, LeaderOf, IndexOf, DataOf, file_of}
use Rattle.alp_pages.specs.Pages.{Pages, written}
use Rattle.alp_volume.specs.Reached.{Files, slot_of}
use Rattle.alp_volume.specs.Undone.{with_place, with_slot, without_file}
use Rattle.alp_pages.specs.Volume.{Volume, Spells}
use Rattle.alp_pages.proofs.ChangeLaws.{file_gone}
use Rattle.alp_volume.proofs.CutDraft.{same_turned}
use Rattle.alp_volume.proofs.KnowsLaws.{leader_there, slot_there}
use Rattle.alp_volume.proofs.LaidLaws.{laid_put, numbers_alike}
use Rattle.alp_pages.proofs.NodeTests.{leaders_alike}
use Rattle.alp_tables.proofs.Tables.{files_total}
use Rattle.alp_pages.proofs.UniqueLaws.{some_is}
use Rattle.alp_pages.proofs.UnnamedLaws.{unnamed}

-- what a table of files has without one
pub got_without : (files : Files) (f g : FileId) → map.get (map.remove files f) g ≡ cond (same_file f g) None (map.get files g)
got_without files f g = get-remove files_total files f g ∙ ap (λ (t : Bool). cond t None (map.get files g)) (sym (leaders_alike g f) ∙ turned (same_file g f) refl (same_file f g) refl)
  where
    turned : (t : Bool) → same_file g f ≡ t → (u : Bool) → same_file f g ≡ u → t ≡ u
    turned true a true b = refl
    turned false a false b = refl
    turned true a false b = let wrong : same_file f g ≡ true = ap (same_file f) (same_file-true g f a) ∙ same_file-itself f in cc
    turned false a true b = let wrong : same_file g f ≡ true = ap (same_file g) (same_file-true f g b) ∙ same_file-itself g in cc

-- a page that a change forgets is what it was
pub laid_without : (m : Changed) (pages : Pages) (p : ℕ) → laid (map.remove m p) pages ≡ written p (pages p) (laid m pages)
laid_without m pages p = λ i q. laid_at q i
  where
    laid_at : (q : ℕ) → laid (map.remove m p) pages q ≡ written p (pages p) (laid m pages) q
    laid_at q =
        ap (λ (o : Option (List ℕ)). page_or o (pages q)) (get-remove nat_cmp_total m p q)
        ∙ ap (λ (t : Bool). page_or (cond t None (map.get m q)) (pages q)) (numbers_alike q p) ∙ go (q == p) refl
      where
        go : (t : Bool) → (q == p) ≡ t → page_or (cond t None (map.get m q)) (pages q) ≡ cond t (pages p) (page_or (map.get m q) (pages q))
        go true e = ap pages (eqb-true q p e)
        go false e = refl

module _ (home : ℕ) (base : Pages) (old : Changed) (m : View) (c : Catalog) (d : IsDraft home (laid old base) m c) (sized : IsCatalog home c) (f : FileId) (x : FileSlot) (there : map.get c.files f ≡ Some x) (none : (n : ℕ) → m (PageOf f n) ≡ None) where
  abbrev v : Volume
  v = d.volume

  slot_is : v.slots.of f ≡ Some x.slot
  slot_is = slot_there home v c d.knows f x there

  leader_is : v.places.of (LeaderOf f) ≡ Some x.place
  leader_is = leader_there home v c d.knows f x there

  no_page : (n p : ℕ) → v.places.of (DataOf f n) ≡ Some p → ⊥
  no_page n p h = let wrong : false ≡ true = sym (ap (λ (o : Option Cell). is_some o) (none n)) ∙ sym (d.spells.shape.pages f n) ∙ ap is_some h in cc

  no_index : (b p : ℕ) → v.places.of (IndexOf f b) ≡ Some p → ⊥
  no_index b p h =
      let n = d.spells.shape.page f b p h in
      let wrong : false ≡ true = sym (ap (λ (o : Option Cell). is_some o) (none n.0)) ∙ sym (d.spells.shape.pages f n.0) ∙ n.2 in
      cc

  -- all that the file has is its leader
  only_leader : (k : Node) (p : ℕ) → v.places.at p ≡ Some k → same_file f (file_of k) ≡ true → p ≡ x.place
  only_leader (LeaderOf g) p h e = some_is p x.place (sym (d.spells.shape.places.back p (LeaderOf g) h) ∙ ap (λ (y : FileId). v.places.of (LeaderOf y)) (sym (same_file-true f g e)) ∙ leader_is)
  only_leader (IndexOf g b) p h e = absurd (no_index b p (ap (λ (y : FileId). v.places.of (IndexOf y b)) (same_file-true f g e) ∙ d.spells.shape.places.back p (IndexOf g b) h))
  only_leader (DataOf g n) p h e = absurd (no_page n p (ap (λ (y : FileId). v.places.of (DataOf y n)) (same_file-true f g e) ∙ d.spells.shape.places.back p (DataOf g n) h))

  knows : Knows home (volume_without f v) (with_slot x.slot false (without_file f (with_place x.place false c)))
  knows = record {
    slots = λ g. ap (option_map slot_of) (got_without c.files f g) ∙ slots_are g (same_file f g);
    leaders = λ g. ap (option_map leader_of) (got_without c.files f g) ∙ leaders_are g (same_file f g);
    blocks = λ g y b is near. blocks_are g y b near (same_file f g) (sym (got_without c.files f g) ∙ is);
    rows = d.knows.rows;
    entries_taken = λ s few. entries_are s few (s == x.slot) refl;
    rows_taken = d.knows.rows_taken;
    places_taken = λ q least most. places_are q least most (q == x.place) refl;
    head = λ q below. get_or-set_other c.places x.place q false true (λ e. (let least = d.spells.shape.places.least (LeaderOf f) x.place leader_is in omega arith)) ∙ d.knows.head q below;
  }
    where
      slots_are : (g : FileId) (t : Bool) → option_map slot_of (cond t None (map.get c.files g)) ≡ cond t None (v.slots.of g)
      slots_are g true = refl
      slots_are g false = d.knows.slots g

      leaders_are : (g : FileId) (t : Bool) → option_map leader_of (cond t None (map.get c.files g)) ≡ cond t None (v.places.of (LeaderOf g))
      leaders_are g true = refl
      leaders_are g false = d.knows.leaders g

      blocks_are : (g : FileId) (y : FileSlot) (b : ℕ) → b < 32 → (t : Bool) → cond t None (map.get c.files g) ≡ Some y → bit_at y.blocks b ≡ bit (is_some (cond t None (v.places.of (IndexOf g b))))
      blocks_are g y b near true is = cc
      blocks_are g y b near false is = d.knows.blocks g y b is near

      entries_are : (s : ℕ) → s < 4096 → (t : Bool) → (s == x.slot) ≡ t → slice_index_or (slice_set c.slots x.slot false) s true ≡ is_some (unless (same_file f) (v.slots.at s))
      entries_are s few true e =
          let same : s ≡ x.slot = eqb-true s x.slot e in
          let at_slot : v.slots.at s ≡ Some f = ap v.slots.at same ∙ d.spells.shape.slots.there f x.slot slot_is in
          ap (λ (y : ℕ). slice_index_or (slice_set c.slots x.slot false) y true) same ∙ get_or-set_same c.slots x.slot false true (omega (arith, sized.slots, few, same))
          ∙ sym (ap (λ (o : Option FileId). is_some (unless (same_file f) o)) at_slot ∙ ap (λ (t : Bool). is_some (cond t None (Some f))) (same_file-itself f))
      entries_are s few false e = get_or-set_other c.slots x.slot s false true (λ z. (let yes = eq-eqb s x.slot z in cc)) ∙ d.knows.entries_taken s few ∙ go (v.slots.at s) refl
        where
          go : (o : Option FileId) → v.slots.at s ≡ o → is_some o ≡ is_some (unless (same_file f) o)
          go None h = refl
          go (Some g) h = split (same_file f g) refl
            where
              split : (t : Bool) → same_file f g ≡ t → true ≡ is_some (cond t None (Some g))
              split false a = refl
              split true a =
                  let same : s ≡ x.slot = some_is s x.slot (sym (d.spells.shape.slots.back s g h) ∙ ap v.slots.of (sym (same_file-true f g a)) ∙ slot_is) in
                  let yes = eq-eqb s x.slot same in
                  cc

      places_are : (q : ℕ) → 257 ≤ q → q < home → (t : Bool) → (q == x.place) ≡ t → slice_index_or (slice_set c.places x.place false) q true ≡ is_some (unless (is_of f) (v.places.at q))
      places_are q least most true e =
          let same : q ≡ x.place = eqb-true q x.place e in
          let at_place : v.places.at q ≡ Some (LeaderOf f) = ap v.places.at same ∙ d.spells.shape.places.there (LeaderOf f) x.place leader_is in
          ap (λ (y : ℕ). slice_index_or (slice_set c.places x.place false) y true) same ∙ get_or-set_same c.places x.place false true (omega (arith, sized.places, most, same))
          ∙ sym (ap (λ (o : Option Node). is_some (unless (is_of f) o)) at_place ∙ ap (λ (t : Bool). is_some (cond t None (Some (LeaderOf f)))) (same_file-itself f))
      places_are q least most false e = get_or-set_other c.places x.place q false true (λ z. (let yes = eq-eqb q x.place z in cc)) ∙ d.knows.places_taken q least most ∙ go (v.places.at q) refl
        where
          go : (o : Option Node) → v.places.at q ≡ o → is_some o ≡ is_some (unless (is_of f) o)
          go None h = refl
          go (Some k) h = split (same_file f (file_of k)) refl
            where
              split : (t : Bool) → same_file f (file_of k) ≡ t → true ≡ is_some (cond t None (Some k))
              split false a = refl
              split true a = let yes = eq-eqb q x.place (only_leader k q h a) in cc

  pub file_dropped : (bytes : List ℕ) → HasSlot (laid old base) bytes x.slot None → (new : Changed) → new ≡ map.remove (map.insert old (1 + x.slot / 32) bytes) x.place → (now : Catalog) → now ≡ with_slot x.slot false (without_file f (with_place x.place false c)) → IsDraft home (laid new base) (after (Drop f ∷ []) m) now
  file_dropped bytes has new made now is =
      let gone : Spells home (written (1 + x.slot / 32) bytes (laid old base)) (volume_without f v) (after (Drop f ∷ []) m) = file_gone home (laid old base) v m d.spells f x.slot slot_is bytes has in
      let least = d.spells.shape.places.least (LeaderOf f) x.place leader_is in
      let at_leader : v.places.at x.place ≡ Some (LeaderOf f) = d.spells.shape.places.there (LeaderOf f) x.place leader_is in
      let free : unless (is_of f) (v.places.at x.place) ≡ None = ap (unless (is_of f)) at_leader ∙ ap (λ (t : Bool). cond t None (Some (LeaderOf f))) (same_file-itself f) in
      let pages_are : laid new base ≡ written x.place (base x.place) (written (1 + x.slot / 32) bytes (laid old base)) =
      ap (λ (y : Changed). laid y base) made ∙ laid_without (map.insert old (1 + x.slot / 32) bytes) base x.place ∙ ap (written x.place (base x.place)) (laid_put old base (1 + x.slot / 32) bytes) in
      subst (λ (k : Catalog). IsDraft home (laid new base) (after (Drop f ∷ []) m) k) (sym is)
      (subst (λ (y : Pages). IsDraft home y (after (Drop f ∷ []) m) (with_slot x.slot false (without_file f (with_place x.place false c)))) (sym pages_are) (record {
        volume = volume_without f v;
        spells = unnamed home (written (1 + x.slot / 32) bytes (laid old base)) (volume_without f v) (after (Drop f ∷ []) m) gone x.place (base x.place) least free;
        knows = knows;
      }))
