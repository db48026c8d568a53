-- What a page of data that is put makes of a draft.
use Rattle.std.specs.Prelude.{Bool, true, false, not, cond, ◌||◌, ◌==◌, nat_lt, is_some, Option, None, Some, IfSome, slice_index, slice_index_or, slice_set}
use Rattle.std.specs.FinMap as map
use Rattle.std.proofs.Common.{◌≡◌, ℕ, zero, suc, ◌+◌, ◌*◌, ◌<◌, ◌≤◌, ◌/◌, ◌%◌, List, [], ◌∷◌, length, refl, sym, ◌∙◌, ap, subst, arith, eq-eqb}
use Rattle.std.proofs.lemmas.Bool.{eqb-true, ltb-true, ltb-false}
use Rattle.std.proofs.lemmas.List.{get_or-set_same, get_or-set_other, length-set}
use Rattle.alp_base.specs.declared.ids.FileId.{FileId}
use Rattle.alp_base.specs.declared.key.Key.TheVariants.{PageOf}
use Rattle.alp_fields.specs.Forms.{whole}
use Rattle.alp_base.specs.declared.cell.Cell.TheVariants as cell
use Rattle.alp_files.specs.Cells.{View}
use Rattle.alp_files.specs.Edits.{Put, after}
use Rattle.alp_volume.specs.declared.catalog.Catalog.{Catalog}
use Rattle.alp_pages.specs.Changes.{volume_with}
use Rattle.alp_volume.specs.Drafts.{Changed, IsDraft, laid}
use Rattle.alp_volume.specs.Known.{IsCatalog, Knows}
use Rattle.alp_pages.specs.Naming.{number_or_0}
use Rattle.alp_pages.specs.Nodes.{Node, LeaderOf, IndexOf, DataOf}
use Rattle.alp_pages.specs.Pages.{Pages, written, index_page, has_a_place}
use Rattle.alp_pages.specs.Rows.{SpellsRow}
use Rattle.alp_pages.specs.Volume.{Volume, Spells, nodes}
use Rattle.alp_pages.proofs.NamingLaws.{eqb_other}
use Rattle.alp_pages.proofs.FetchLaws.{is_none}
use Rattle.alp_pages.proofs.IndexLaws.{index_length}
use Rattle.alp_tables.proofs.FreeLaws.{free_within}
use Rattle.alp_pages.proofs.UniqueLaws.{some_is, number}
use Rattle.alp_pages.proofs.ChangeLaws.{page_put}
use Rattle.alp_pages.proofs.GrowLaws.{page_added}
use Rattle.alp_volume.proofs.DraftLaws.{put_laid}
use Rattle.alp_volume.proofs.LaidLaws.{laid_put}

-- a row into which a place is put names one
pub names_new : (ps : List ℕ) (slot place : ℕ) → slot < length ps → 0 < place → has_a_place (slice_set ps slot place) ≡ true
names_new [] slot place within some = absurd (omega arith)
names_new (p ∷ ps) zero zero within some = absurd (omega arith)
names_new (p ∷ ps) zero (suc n) within some = ap (λ (t : Bool). not t || has_a_place ps) (eqb_other (suc n) 0 (λ e. omega arith))
names_new (p ∷ ps) (suc slot) place within some = go (not (p == 0)) (names_new ps slot place (omega arith) some)
  where
    go : (t : Bool) → has_a_place (slice_set ps slot place) ≡ true → (t || has_a_place (slice_set ps slot place)) ≡ true
    go true h = refl
    go false h = h

pub long_row : (page : List ℕ) (o : Option (List ℕ)) → o ≡ whole index_page page → IfSome o (λ row. length row ≡ 128)
long_row page None e = tt
long_row page (Some row) e = index_length page row (sym e)

-- a place that is free lies behind the owners' pages
pub free_place : (home : ℕ) (c : Catalog) (p : ℕ) → IsCatalog home c → slice_index_or c.places p true ≡ false → (257 ≤ p) × (p < home)
free_place home c p sized free = (
  go (nat_lt p 257) refl,
  subst (λ (n : ℕ). p < n) sized.places (free_within c.places p free),
)
  where
    go : (t : Bool) → nat_lt p 257 ≡ t → 257 ≤ p
    go true e = let wrong = sized.head p (ltb-true p 257 e) in cc
    go false e = ltb-false p 257 e

-- what is kept once a place is taken
pub place_sized : (home : ℕ) (c : Catalog) (p : ℕ) → IsCatalog home c → 257 ≤ p → (places : List Bool) → places ≡ slice_set c.places p true → IsCatalog home (record c { places = places })
place_sized home c p sized least places is = record {
  slots = sized.slots;
  rows = sized.rows;
  places = ap length is ∙ length-set c.places p true ∙ sized.places;
  files = sized.files;
  owners = sized.owners;
  head = λ q low. ap (λ (xs : List Bool). slice_index_or xs q true) is ∙ get_or-set_other c.places p q true true (λ e. omega arith) ∙ sized.head q low;
}

module _ (home : ℕ) (at : Pages) (v : Volume) (m : View) (s : Spells home at v m) (f : FileId) (n index : ℕ) (here : v.places.of (IndexOf f (n / 128)) ≡ Some index) (row : List ℕ) (reads : whole index_page (at index) ≡ Some row) where
  -- what the index page says of the page
  says : slice_index_or row (n % 128) 0 ≡ number_or_0 (v.places.of (DataOf f n))
  says =
      let l : SpellsRow nodes v.places (at index) (IndexOf f (n / 128)) = s.rows (IndexOf f (n / 128)) index here in
      let same : l.row ≡ row = some_is l.row row (sym l.reads ∙ reads) in
      let whole_number : 128 * (n / 128) + n % 128 ≡ n = omega arith in
      ap (λ (x : List ℕ). slice_index_or x (n % 128) 0) (sym same) ∙ l.says (n % 128) (omega arith) ∙ ap (λ (x : ℕ). number_or_0 (v.places.of (DataOf f x))) whole_number

  pub known_place : (p : ℕ) → p ≡ slice_index row (n % 128) → (p ≡ 0 → ⊥) → v.places.of (DataOf f n) ≡ Some p
  known_place p is some = number (v.places.of (DataOf f n)) p (sym says ∙ sym is) (omega (arith, some))

  pub no_place : slice_index row (n % 128) ≡ 0 → v.places.of (DataOf f n) ≡ None
  no_place zero_ = go (v.places.of (DataOf f n)) refl (sym says ∙ zero_)
    where
      go : (o : Option ℕ) → v.places.of (DataOf f n) ≡ o → number_or_0 o ≡ 0 → o ≡ None
      go None e h = refl
      go (Some p) e h = let least = s.shape.places.least (DataOf f n) p e in absurd (omega arith)

-- memory knows of a page of data that has a new place
knows_page : (home : ℕ) (v : Volume) (c : Catalog) (f : FileId) (n p : ℕ) → Knows home v c → p < length c.places → 257 ≤ p → Knows home (volume_with (DataOf f n) p v) (record c { places = slice_set c.places p true })
knows_page home v c f n p knows long least = record {
  slots = knows.slots;
  leaders = knows.leaders;
  blocks = knows.blocks;
  rows = knows.rows;
  entries_taken = knows.entries_taken;
  rows_taken = knows.rows_taken;
  places_taken = λ q low high. go q low high (q == p) refl;
  head = λ q low. get_or-set_other c.places p q true true (λ e. omega arith) ∙ knows.head q low;
}
  where
    go : (q : ℕ) → 257 ≤ q → q < home → (t : Bool) → (q == p) ≡ t → slice_index_or (slice_set c.places p true) q true ≡ is_some (cond t (Some (DataOf f n)) (v.places.at q))
    go q low high true e = ap (λ (x : ℕ). slice_index_or (slice_set c.places p true) x true) (eqb-true q p e) ∙ get_or-set_same c.places p true true long
    go q low high false e = get_or-set_other c.places p q true true (λ same. let wrong : (q == p) ≡ true = eq-eqb q p same in cc) ∙ knows.places_taken q low high

module _ (home : ℕ) (base : Pages) (old new : Changed) (m : View) (c : Catalog) (d : IsDraft home (laid old base) m c) (f : FileId) (n index : ℕ) (here : d.volume.places.of (IndexOf f (n / 128)) ≡ Some index) (row : List ℕ) (reads : whole index_page (laid old base index) ≡ Some row) (bytes : List ℕ) where
  pub page_known : (p : ℕ) → p ≡ slice_index row (n % 128) → (p ≡ 0 → ⊥) → new ≡ map.insert old p bytes → IsDraft home (laid new base) (after (Put (PageOf f n) (cell.Page bytes) ∷ []) m) c
  page_known p is some made = put_laid home old new base p bytes (after (Put (PageOf f n) (cell.Page bytes) ∷ []) m) c made (record {
    volume = d.volume;
    spells = page_put home (laid old base) d.volume m d.spells f n p (known_place home (laid old base) d.volume m d.spells f n index here row reads p is some) bytes;
    knows = d.knows;
  })

  pub page_new : (p : ℕ) (ix : List ℕ) → slice_index row (n % 128) ≡ 0 → IsCatalog home c → slice_index_or c.places p true ≡ false → whole index_page ix ≡ Some (slice_set row (n % 128) p) → new ≡ map.insert (map.insert old p bytes) index ix
      → (places : List Bool) → places ≡ slice_set c.places p true → IsDraft home (laid new base) (after (Put (PageOf f n) (cell.Page bytes) ∷ []) m) (record c { places = places })
  page_new p ix zero_ sized free names made places taken =
      let bounds = free_place home c p sized free in
      let none : d.volume.places.at p ≡ None = is_none (d.volume.places.at p) (sym (d.knows.places_taken p bounds.0 bounds.1) ∙ free) in
      put_laid home (map.insert old p bytes) new base index ix (after (Put (PageOf f n) (cell.Page bytes) ∷ []) m) (record c { places = places }) made (record {
        volume = volume_with (DataOf f n) p d.volume;
        spells = subst (λ (x : Pages). Spells home (written index ix x) (volume_with (DataOf f n) p d.volume) (after (Put (PageOf f n) (cell.Page bytes) ∷ []) m)) (sym (laid_put old base p bytes))
            (page_added home (laid old base) d.volume m d.spells f n index p here (no_place home (laid old base) d.volume m d.spells f n index here row reads zero_) none bounds.0 bounds.1 bytes ix row reads names);
        knows = subst (λ (x : List Bool). Knows home (volume_with (DataOf f n) p d.volume) (record c { places = x })) (sym taken) (knows_page home d.volume c f n p d.knows (free_within c.places p free) bounds.0);
      })
