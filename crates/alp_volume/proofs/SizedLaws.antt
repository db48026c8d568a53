-- What is kept of a volume has its sizes while it is read.
use Rattle.std.specs.Prelude.{Bool, true, false, cond, ◌==◌, nat_lt, is_some, not, Option, None, Some, replicate, slice_index_or, slice_set}
use Rattle.std.specs.FinMap as map
use Rattle.std.specs.FinMap.{get-empty, get-remove}
use Rattle.std.specs.Ordering.{eq_by_cmp}
use Rattle.std.proofs.Common.{◌≡◌, ℕ, ◌<◌, ◌≤◌, ◌-◌, List, ◌++◌, length, refl, sym, ◌∙◌, ap, subst, arith, eq-eqb}
use Rattle.std.proofs.lemmas.Bool.{eqb-true, ltb-true, ltb-false}
use Rattle.std.proofs.lemmas.List.{get_or-set_same, get_or-set_other, get_or_past, get_or_append_left, get_or-replicate, length-set, length-replicate}
use Rattle.alp_base.specs.KeyLaws.{file_cmp}
use Rattle.alp_base.specs.Notes.{text_cmp}
use Rattle.alp_base.specs.declared.ids.FileId.{FileId}
use Rattle.alp_files.specs.Cells.{same_file}
use Rattle.alp_volume.specs.declared.catalog.Catalog.{Catalog}
use Rattle.alp_tables.specs.declared.file_slot.FileSlot.{FileSlot}
use Rattle.alp_volume.specs.Known.{IsBlank, IsCatalog}
use Rattle.alp_volume.specs.Reached.{Files, Owners, IsKept}
use Rattle.alp_tables.specs.Bits.{Stays}
use Rattle.alp_volume.proofs.BlankLaws.{blank_long}
use Rattle.alp_volume.proofs.DraftLaws.{owner_sized}
use Rattle.alp_volume.proofs.ListLaws.{got}
use Rattle.alp_tables.proofs.FreeLaws.{free_within}
use Rattle.alp_tables.proofs.Tables.{files_total}

pub places_sized : (home : ℕ) (c : Catalog) → IsCatalog home c → (places : List Bool) → length places ≡ length c.places → Stays c.places places → IsCatalog home (record c { places = places })
places_sized home c sized places long stays = record {
  slots = sized.slots;
  rows = sized.rows;
  places = long ∙ sized.places;
  files = sized.files;
  owners = sized.owners;
  head = λ p low. stays p (sized.head p low);
}

-- a file with its entry and its place
pub insert_sized : (home : ℕ) (c : Catalog) (f : FileId) (x : FileSlot) → IsCatalog home c → x.slot < 4096 → x.place < home → IsCatalog home (record c { files = map.insert c.files f x })
insert_sized home c f x sized slot place = record {
  slots = sized.slots;
  rows = sized.rows;
  places = sized.places;
  files = λ g y is. go g y (same_file g f) (sym (got c.files f x g) ∙ is);
  owners = sized.owners;
  head = sized.head;
}
  where
    go : (g : FileId) (y : FileSlot) (t : Bool) → cond t (Some x) (map.get c.files g) ≡ Some y → (y.slot < 4096) × (y.place < home)
    go g y true is = let same : x ≡ y = cc in subst (λ (z : FileSlot). (z.slot < 4096) × (z.place < home)) same (slot, place)
    go g y false is = sized.files g y is

pub entry_sized : (home : ℕ) (c : Catalog) (f : FileId) (x : FileSlot) → IsCatalog home c → x.slot < 4096 → x.place < home → (files : Files) (slots : List Bool) → files ≡ map.insert c.files f x → length slots ≡ length c.slots → IsCatalog home (record c { files = files; slots = slots })
entry_sized home c f x sized slot place files slots is long =
    let one : IsCatalog home (record c { files = files }) = subst (λ (m : Files). IsCatalog home (record c { files = m })) (sym is) (insert_sized home c f x sized slot place) in
    record { slots = long ∙ sized.slots; rows = one.rows; places = one.places; files = one.files; owners = one.owners; head = one.head }

-- a file that is taken out, with its entry
pub removed_sized : (home : ℕ) (c : Catalog) (f : FileId) → IsCatalog home c → (files : Files) (slots : List Bool) → files ≡ map.remove c.files f → length slots ≡ length c.slots → IsCatalog home (record c { files = files; slots = slots })
removed_sized home c f sized files slots is long = record {
  slots = long ∙ sized.slots;
  rows = sized.rows;
  places = sized.places;
  files = λ g y there. go g y (eq_by_cmp file_cmp g f) (sym (ap (λ (m : Files). map.get m g) is ∙ get-remove files_total c.files f g) ∙ there);
  owners = sized.owners;
  head = sized.head;
}
  where
    go : (g : FileId) (y : FileSlot) (t : Bool) → cond t None (map.get c.files g) ≡ Some y → (y.slot < 4096) × (y.place < home)
    go g y true is = cc
    go g y false is = sized.files g y is

-- a file that is taken in, with its entry and its place
pub file_sized : (home : ℕ) (c : Catalog) (f : FileId) (x : FileSlot) → IsCatalog home c → x.slot < 4096 → slice_index_or c.places x.place true ≡ false → (places slots : List Bool) → length places ≡ length c.places → Stays c.places places → length slots ≡ length c.slots
    → (files : Files) (r : Bool) → (r ≡ true → files ≡ map.insert c.files f x) → (r ≡ false → files ≡ c.files) → IsCatalog home (record c { files = files; slots = slots; places = places })
file_sized home c f x sized slot free places slots long stays same files r here gone = go r refl
  where
    base : IsCatalog home (record c { slots = slots; places = places })
    base = record {
      slots = same ∙ sized.slots;
      rows = sized.rows;
      places = long ∙ sized.places;
      files = sized.files;
      owners = sized.owners;
      head = λ p low. stays p (sized.head p low);
    }

    within : x.place < home
    within = subst (λ (n : ℕ). x.place < n) sized.places (free_within c.places x.place free)

    go : (t : Bool) → r ≡ t → IsCatalog home (record c { files = files; slots = slots; places = places })
    go true e = subst (λ (m : Files). IsCatalog home (record c { files = m; slots = slots; places = places })) (sym (here e)) (insert_sized home (record c { slots = slots; places = places }) f x base slot within)
    go false e = subst (λ (m : Files). IsCatalog home (record c { files = m; slots = slots; places = places })) (sym (gone e)) base

-- a file whose blocks are kept, where places of it were marked
pub blocks_sized : (home : ℕ) (c : Catalog) (f : FileId) → IsCatalog home c → (row : List ℕ) (files : Files) → ((x : FileSlot) → map.get c.files f ≡ Some x → (y : FileSlot) × (files ≡ map.insert c.files f y) × IsKept x y row) → (map.get c.files f ≡ None → files ≡ c.files)
    → (places : List Bool) → length places ≡ length c.places → Stays c.places places → IsCatalog home (record c { files = files; places = places })
blocks_sized home c f sized row files there absent places long stays = places_sized home (record c { files = files }) (go (map.get c.files f) refl) places long stays
  where
    go : (o : Option FileSlot) → map.get c.files f ≡ o → IsCatalog home (record c { files = files })
    go None e = subst (λ (m : Files). IsCatalog home (record c { files = m })) (sym (absent e)) sized
    go (Some x) e =
        let k = there x e in
        let low = sized.files f x e in
        subst (λ (m : Files). IsCatalog home (record c { files = m })) (sym k.1) (insert_sized home c f k.0 sized (subst (λ (n : ℕ). n < 4096) (sym k.2.slot) low.0) (subst (λ (n : ℕ). n < home) (sym k.2.place) low.1))

-- an owner that is taken in with its row
pub owner_taken_sized : (home : ℕ) (c : Catalog) (name : List ℕ) (row : ℕ) → IsCatalog home c → row < 256 → (rows : List Bool) → length rows ≡ length c.rows → (owners : Owners) (r : Bool) → (r ≡ true → owners ≡ map.insert c.owners name row) → (r ≡ false → owners ≡ c.owners) → IsCatalog home (record c { owners = owners; rows = rows })
owner_taken_sized home c name row sized low rows long owners r here gone = rows_sized (go r refl)
  where
    rows_sized : IsCatalog home (record c { owners = owners }) → IsCatalog home (record c { owners = owners; rows = rows })
    rows_sized s = record { slots = s.slots; rows = long ∙ s.rows; places = s.places; files = s.files; owners = s.owners; head = s.head }

    unmarked : IsCatalog home (record c { owners = map.insert c.owners name row; rows = slice_set c.rows row true }) → IsCatalog home (record c { owners = map.insert c.owners name row })
    unmarked s = record { slots = s.slots; rows = sized.rows; places = s.places; files = s.files; owners = s.owners; head = s.head }

    go : (t : Bool) → r ≡ t → IsCatalog home (record c { owners = owners })
    go true e = subst (λ (m : Owners). IsCatalog home (record c { owners = m })) (sym (here e)) (unmarked (owner_sized home c name row sized low (map.insert c.owners name row) (slice_set c.rows row true) refl refl))
    go false e = subst (λ (m : Owners). IsCatalog home (record c { owners = m })) (sym (gone e)) sized

-- what is kept before anything is read
pub blank_sized : (home : ℕ) (c : Catalog) → IsBlank home c → 257 ≤ home → IsCatalog home c
blank_sized home c blank least = record {
  slots = ap length blank.slots ∙ length-replicate 4096 false;
  rows = ap length blank.rows ∙ length-replicate 256 false;
  places = blank_long home c blank least;
  files = λ f x is. (let none : map.get c.files f ≡ None = ap (λ (m : Files). map.get m f) blank.files ∙ get-empty file_cmp f in let wrong : None ≡ Some x = sym none ∙ is in cc);
  owners = λ name r is. (let none : map.get c.owners name ≡ None = ap (λ (m : Owners). map.get m name) blank.owners ∙ get-empty text_cmp name in let wrong : None ≡ Some r = sym none ∙ is in cc);
  head = λ p low. ap (λ (xs : List Bool). slice_index_or xs p true) blank.places ∙ get_or_append_left (replicate 257 true) (replicate (home - 257) false) true p (omega (arith, low, length-replicate 257 true)) ∙ get_or-replicate 257 p true true low;
}
