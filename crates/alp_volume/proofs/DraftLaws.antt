-- What a step of a change makes of a draft.
use Rattle.std.specs.Prelude.{Bool, true, false, not, cond, ◌==◌, is_some, Option, None, Some, option_map, slice_index_or, slice_set}
use Rattle.std.specs.FinMap as map
use Rattle.std.proofs.Common.{◌≡◌, ℕ, ◌+◌, ◌<◌, ◌≤◌, ◌/◌, ◌%◌, List, [], ◌∷◌, length, refl, sym, ◌∙◌, ap, subst, arith, eq-eqb}
use Rattle.std.proofs.lemmas.Bool.{eqb-true, cond-true, cond-false}
use Rattle.std.proofs.lemmas.List.{get_or-set_same, get_or-set_other, length-set}
use Rattle.alp_base.specs.declared.key.Key.TheVariants.{PageOf, Leader, OwnerOf}
use Rattle.alp_base.specs.declared.cell.Cell.TheVariants as cell
use Rattle.alp_base.specs.declared.cell.OwnerRecord.{OwnerRecord}
use Rattle.alp_files.specs.Cells.{View, same_name}
use Rattle.alp_files.specs.Edits.{Put, after}
use Rattle.alp_volume.specs.declared.catalog.Catalog.{Catalog}
use Rattle.alp_pages.specs.Changes.{HasRow}
use Rattle.alp_volume.specs.Drafts.{Changed, IsDraft, laid}
use Rattle.alp_volume.specs.Known.{IsCatalog, Knows}
use Rattle.alp_pages.specs.Naming.{named}
use Rattle.alp_pages.specs.Pages.{Pages, written}
use Rattle.alp_volume.specs.Reached.{Owners}
use Rattle.alp_pages.specs.Volume.{Volume, Spells}
use Rattle.alp_pages.proofs.ChangeLaws.{known_owner_put, new_owner_put}
use Rattle.alp_volume.proofs.LaidLaws.{laid_put}
use Rattle.alp_volume.proofs.RowLaws.{got}

-- a page that is put into a draft is written over the pages below
pub put_laid : (home : ℕ) (old new : Changed) (base : Pages) (p : ℕ) (bytes : List ℕ) (m : View) (c : Catalog) → new ≡ map.insert old p bytes → IsDraft home (written p bytes (laid old base)) m c → IsDraft home (laid new base) m c
put_laid home old new base p bytes m c is draft = subst (λ (x : Pages). IsDraft home x m c) (sym (ap (λ (x : Changed). laid x base) is ∙ laid_put old base p bytes)) draft

-- ---- owners

module _ (home : ℕ) (base : Pages) (old new : Changed) (m : View) (row : ℕ) (o : OwnerRecord) (bytes : List ℕ) (is : new ≡ map.insert old (129 + row / 2) bytes) (has : HasRow (laid old base) bytes row o) where
  pub known_owner : (c : Catalog) → IsDraft home (laid old base) m c → map.get c.owners o.name ≡ Some row → IsDraft home (laid new base) (after (Put (OwnerOf o.name) (cell.Owner o) ∷ []) m) c
  known_owner c draft there = put_laid home old new base (129 + row / 2) bytes (after (Put (OwnerOf o.name) (cell.Owner o) ∷ []) m) c is (record {
    volume = draft.volume;
    spells = known_owner_put home (laid old base) draft.volume m draft.spells row bytes o (sym (draft.knows.rows o.name) ∙ there) has;
    knows = draft.knows;
  })

  pub new_owner : (c : Catalog) → IsDraft home (laid old base) m c → map.get c.owners o.name ≡ None → row < 256 → row < length c.rows → slice_index_or c.rows row true ≡ false
      → IsDraft home (laid new base) (after (Put (OwnerOf o.name) (cell.Owner o) ∷ []) m) (record c { owners = map.insert c.owners o.name row; rows = slice_set c.rows row true })
  new_owner c draft none low long free = put_laid home old new base (129 + row / 2) bytes (after (Put (OwnerOf o.name) (cell.Owner o) ∷ []) m) (record c { owners = map.insert c.owners o.name row; rows = slice_set c.rows row true }) is (record {
    volume = record v { rows = named same_name o.name row v.rows };
    spells = new_owner_put home (laid old base) v m draft.spells row bytes o (sym (draft.knows.rows o.name) ∙ none) (open_row (v.rows.at row) (sym (draft.knows.rows_taken row low) ∙ free)) low has;
    knows = record {
      slots = draft.knows.slots;
      leaders = draft.knows.leaders;
      blocks = draft.knows.blocks;
      rows = λ name. got c.owners o.name row name ∙ row_of name (same_name name o.name);
      entries_taken = draft.knows.entries_taken;
      rows_taken = λ r few. taken_of r few (r == row) refl;
      places_taken = draft.knows.places_taken;
      head = draft.knows.head;
    };
  })
    where
      v : Volume
      v = draft.volume

      open_row : (x : Option (List ℕ)) → is_some x ≡ false → x ≡ None
      open_row None h = refl
      open_row (Some y) h = cc

      row_of : (name : List ℕ) (t : Bool) → cond t (Some row) (map.get c.owners name) ≡ cond t (Some row) (draft.volume.rows.of name)
      row_of name true = refl
      row_of name false = draft.knows.rows name

      taken_of : (r : ℕ) → r < 256 → (t : Bool) → (r == row) ≡ t → slice_index_or (slice_set c.rows row true) r true ≡ is_some (cond t (Some o.name) (draft.volume.rows.at r))
      taken_of r few true e = ap (λ (x : ℕ). slice_index_or (slice_set c.rows row true) x true) (eqb-true r row e) ∙ get_or-set_same c.rows row true true long
      taken_of r few false e = get_or-set_other c.rows row r true true (λ same. let wrong : (r == row) ≡ true = eq-eqb r row same in cc) ∙ draft.knows.rows_taken r few

-- the same, as the code makes it
pub owner_made : (home : ℕ) (base : Pages) (old new : Changed) (m : View) (row : ℕ) (o : OwnerRecord) (bytes : List ℕ) → new ≡ map.insert old (129 + row / 2) bytes → HasRow (laid old base) bytes row o
    → (c : Catalog) → IsDraft home (laid old base) m c → map.get c.owners o.name ≡ None → row < 256 → row < length c.rows → slice_index_or c.rows row true ≡ false
    → (owners : Owners) (rows : List Bool) → owners ≡ map.insert c.owners o.name row → rows ≡ slice_set c.rows row true → IsDraft home (laid new base) (after (Put (OwnerOf o.name) (cell.Owner o) ∷ []) m) (record c { owners = owners; rows = rows })
owner_made home base old new m row o bytes is has c draft none low long free owners rows inserted marked =
    subst (λ (x : Owners). IsDraft home (laid new base) (after (Put (OwnerOf o.name) (cell.Owner o) ∷ []) m) (record c { owners = x; rows = rows })) (sym inserted)
    (subst (λ (x : List Bool). IsDraft home (laid new base) (after (Put (OwnerOf o.name) (cell.Owner o) ∷ []) m) (record c { owners = map.insert c.owners o.name row; rows = x })) (sym marked)
    (new_owner home base old new m row o bytes is has c draft none low long free))

pub owner_sized : (home : ℕ) (c : Catalog) (name : List ℕ) (row : ℕ) → IsCatalog home c → row < 256 → (owners : Owners) (rows : List Bool) → owners ≡ map.insert c.owners name row → rows ≡ slice_set c.rows row true → IsCatalog home (record c { owners = owners; rows = rows })
owner_sized home c name row sized low owners rows inserted marked = record {
  slots = sized.slots;
  rows = ap length marked ∙ length-set c.rows row true ∙ sized.rows;
  places = sized.places;
  files = sized.files;
  owners = λ q r is. go q r (same_name q name) (sym (ap (λ (x : Owners). map.get x q) inserted ∙ got c.owners name row q) ∙ is);
  head = sized.head;
}
  where
    go : (q : List ℕ) (r : ℕ) (t : Bool) → cond t (Some row) (map.get c.owners q) ≡ Some r → r < 256
    go q r true is = let same : row ≡ r = cc in subst (λ (n : ℕ). n < 256) same low
    go q r false is = sized.owners q r is

pub new_name : (c : Catalog) (name : List ℕ) (r : Bool) → r ≡ not (is_some (map.get c.owners name)) → map.get c.owners name ≡ None → r ≡ true
new_name c name r is none = is ∙ ap (λ (o : Option ℕ). not (is_some o)) none
