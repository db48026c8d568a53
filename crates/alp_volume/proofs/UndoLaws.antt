-- Changes of a catalog lead back to where they began.
use Rattle.std.specs.Prelude.{Bool, true, false, cond, is_some, Option, None, Some, IsSome, slice_index_or, slice_set}
use Rattle.std.specs.FinMap as map
use Rattle.std.specs.FinMap.{FinMap, IsAntisymmetric, get-insert, get-remove, same_map}
use Rattle.std.specs.Ordering.{eq_by_cmp}
use Rattle.std.specs.declared.cmp.Ordering.{Ordering}
use Rattle.std.specs.Cmp.{IsTotalOrder, eq_by_cmp_equiv}
use Rattle.std.specs.Cmp.Lexicographic.{nat_list_cmp_total}
use Rattle.std.proofs.Common.{◌≡◌, ℕ, ◌<◌, List, [], ◌∷◌, ◌++◌, length, refl, sym, ◌∙◌, ap, subst, arith}
use Rattle.std.proofs.lemmas.List.{get_or-set_same, set-set, set-get_or, length-set}
use Rattle.std.proofs.lemmas.Map.Lookups.{exact_bytes}
use Rattle.std.proofs.lemmas.Map.Views.{tells_apart}
use Rattle.alp_base.specs.KeyLaws.{exact_files}
use Rattle.alp_base.specs.declared.ids.FileId.{FileId}
use Rattle.alp_volume.specs.declared.catalog.Catalog.{Catalog}
use Rattle.alp_tables.specs.declared.file_slot.FileSlot.{FileSlot}
use Rattle.alp_volume.specs.declared.undo.Undo.{Undo}
use Rattle.alp_volume.specs.declared.undo.Undo.TheVariants.{PlaceTaken, PlaceFreed, FileKept, FileCame, FileWent, OwnerCame}
use Rattle.alp_volume.specs.Reached.{Files, Owners}
use Rattle.alp_volume.specs.Undone.{AreTakenBelow, CanUndo, Leads, LeadsOn, TookLowest, undo_one}
use Rattle.alp_tables.proofs.FreeLaws.{free_within}
use Rattle.alp_tables.proofs.Tables.{files_total}

-- ---- the list of changes

-- one change more
pub push_leads : (us : List Undo) (u : Undo) (old new first : Catalog) → Leads us old first → CanUndo u new → undo_one u new ≡ old → TookLowest u old → Leads (us ++ u ∷ []) new first
push_leads [] u old new first led can back low = (new, refl, can, back ∙ led, subst (TookLowest u) led low)
push_leads (x ∷ us) u old new first led can back low = (led.0, push_leads us u old new led.0 led.1 can back low, led.2, led.3, led.4)

-- the last of them
pub pop_leads : (us : List Undo) (u : Undo) (new first : Catalog) → Leads (us ++ u ∷ []) new first → CanUndo u new × Leads us (undo_one u new) first
pop_leads [] u new first led = (subst (CanUndo u) (sym led.1) led.2, ap (undo_one u) led.1 ∙ led.3)
pop_leads (x ∷ us) u new first led = (let rest = pop_leads us u new led.0 led.1 in (rest.0, (led.0, rest.1, led.2, led.3, led.4)))

pub led_on : (us reserved now : List Undo) (u : Undo) (c first : Catalog) → reserved ≡ us → now ≡ reserved ++ u ∷ [] → Leads (us ++ u ∷ []) c first → Leads now c first
led_on us reserved now u c first same pushed led = subst (λ (xs : List Undo). Leads xs c first) (sym (pushed ∙ ap (λ (xs : List Undo). xs ++ u ∷ []) same)) led

-- ---- numbers

pub taken_back : (xs : List Bool) (p : ℕ) → slice_index_or xs p true ≡ false → slice_set (slice_set xs p true) p false ≡ xs
taken_back xs p free = set-set xs p true false ∙ ap (slice_set xs p) (sym free) ∙ set-get_or xs p true

pub freed_back : (xs : List Bool) (p : ℕ) → slice_index_or xs p true ≡ true → slice_set (slice_set xs p false) p true ≡ xs
freed_back xs p taken = set-set xs p false true ∙ ap (slice_set xs p) (sym taken) ∙ set-get_or xs p true

-- ---- tables

module _ {K X : Type 0} {R : K → K → Ordering} (total : IsTotalOrder R) (exact : IsAntisymmetric R) (m : FinMap R X) (k : K) where
  pub put_back : (x y : X) → map.get m k ≡ Some y → map.insert (map.insert m k x) k y ≡ m
  put_back x y there = same_map total exact (map.insert (map.insert m k x) k y) m (λ q. get-insert total (map.insert m k x) k y q ∙ go q (eq_by_cmp R q k) refl)
    where
      go : (q : K) (t : Bool) → eq_by_cmp R q k ≡ t → cond t (Some y) (map.get (map.insert m k x) q) ≡ map.get m q
      go q true e = sym there ∙ ap (map.get m) (sym (tells_apart exact q k e))
      go q false e = get-insert total m k x q ∙ ap (λ (t : Bool). cond t (Some x) (map.get m q)) e

  pub remove_back : (x : X) → map.get m k ≡ None → map.remove (map.insert m k x) k ≡ m
  remove_back x none = same_map total exact (map.remove (map.insert m k x) k) m (λ q. get-remove total (map.insert m k x) k q ∙ go q (eq_by_cmp R q k) refl)
    where
      go : (q : K) (t : Bool) → eq_by_cmp R q k ≡ t → cond t None (map.get (map.insert m k x) q) ≡ map.get m q
      go q true e = sym none ∙ ap (map.get m) (sym (tells_apart exact q k e))
      go q false e = get-insert total m k x q ∙ ap (λ (t : Bool). cond t (Some x) (map.get m q)) e

  pub insert_back : (x : X) → map.get m k ≡ Some x → map.insert (map.remove m k) k x ≡ m
  insert_back x there = same_map total exact (map.insert (map.remove m k) k x) m (λ q. get-insert total (map.remove m k) k x q ∙ go q (eq_by_cmp R q k) refl)
    where
      go : (q : K) (t : Bool) → eq_by_cmp R q k ≡ t → cond t (Some x) (map.get (map.remove m k) q) ≡ map.get m q
      go q true e = sym there ∙ ap (map.get m) (sym (tells_apart exact q k e))
      go q false e = get-remove total m k q ∙ ap (λ (t : Bool). cond t None (map.get m q)) e

  pub inserted_there : (x : X) → is_some (map.get (map.insert m k x) k) ≡ true
  inserted_there x = ap is_some (get-insert total m k x k ∙ ap (λ (t : Bool). cond t (Some x) (map.get m k)) ((eq_by_cmp_equiv total).refl k))

  pub removed_gone : map.get (map.remove m k) k ≡ None
  removed_gone = get-remove total m k k ∙ ap (λ (t : Bool). cond t None (map.get m k)) ((eq_by_cmp_equiv total).refl k)

-- ---- single changes

module _ (us : List Undo) (c : Catalog) where
  -- the lowest place is taken
  pub place_taken : (p : ℕ) (places : List Bool) → slice_index_or c.places p true ≡ false → AreTakenBelow p c.places → places ≡ slice_set c.places p true → LeadsOn us c (us ++ PlaceTaken p ∷ []) (record c { places = places })
  place_taken p places free low is first led =
      push_leads us (PlaceTaken p) c (record c { places = places }) first led
      (subst (λ (n : ℕ). p < n) (sym (ap length is ∙ length-set c.places p true)) (free_within c.places p free))
      (ap (λ (xs : List Bool). record c { places = xs }) (ap (λ (xs : List Bool). slice_set xs p false) is ∙ taken_back c.places p free))
      low

  pub place_freed : (p : ℕ) (places : List Bool) → p < length c.places → slice_index_or c.places p true ≡ true → places ≡ slice_set c.places p false → LeadsOn us c (us ++ PlaceFreed p ∷ []) (record c { places = places })
  place_freed p places within taken is first led =
      push_leads us (PlaceFreed p) c (record c { places = places }) first led
      (ap (λ (xs : List Bool). slice_index_or xs p true) is ∙ get_or-set_same c.places p false true within)
      (ap (λ (xs : List Bool). record c { places = xs }) (ap (λ (xs : List Bool). slice_set xs p true) is ∙ freed_back c.places p taken))
      tt

  pub file_kept : (f : FileId) (old new : FileSlot) (files : Files) → map.get c.files f ≡ Some old → files ≡ map.insert c.files f new → LeadsOn us c (us ++ FileKept f old ∷ []) (record c { files = files })
  file_kept f old new files there is first led =
      push_leads us (FileKept f old) c (record c { files = files }) first led
      (ap (λ (m : Files). is_some (map.get m f)) is ∙ inserted_there files_total exact_files c.files f new)
      (ap (λ (m : Files). record c { files = m }) (ap (λ (m : Files). map.insert m f old) is ∙ put_back files_total exact_files c.files f new old there))
      tt

  pub file_came : (f : FileId) (x : FileSlot) (files : Files) (slots : List Bool) → map.get c.files f ≡ None → files ≡ map.insert c.files f x → slice_index_or c.slots x.slot true ≡ false → AreTakenBelow x.slot c.slots → slots ≡ slice_set c.slots x.slot true
      → LeadsOn us c (us ++ FileCame f x.slot ∷ []) (record c { files = files; slots = slots })
  file_came f x files slots none is free low marked first led =
      push_leads us (FileCame f x.slot) c (record c { files = files; slots = slots }) first led
      (subst (λ (n : ℕ). x.slot < n) (sym (ap length marked ∙ length-set c.slots x.slot true)) (free_within c.slots x.slot free))
      (λ i. record c {
        files = (ap (λ (m : Files). map.remove m f) is ∙ remove_back files_total exact_files c.files f x none) i;
        slots = (ap (λ (xs : List Bool). slice_set xs x.slot false) marked ∙ taken_back c.slots x.slot free) i;
      })
      low

  pub file_went : (f : FileId) (x : FileSlot) (files : Files) (slots : List Bool) → map.get c.files f ≡ Some x → files ≡ map.remove c.files f → map.len files < 4096 → x.slot < length c.slots → slice_index_or c.slots x.slot true ≡ true → slots ≡ slice_set c.slots x.slot false
      → LeadsOn us c (us ++ FileWent f x ∷ []) (record c { files = files; slots = slots })
  file_went f x files slots there is few within taken freed first led =
      push_leads us (FileWent f x) c (record c { files = files; slots = slots }) first led
      (few, ap (λ (m : Files). map.get m f) is ∙ removed_gone files_total exact_files c.files f, ap (λ (xs : List Bool). slice_index_or xs x.slot true) freed ∙ get_or-set_same c.slots x.slot false true within)
      (λ i. record c {
        files = (ap (λ (m : Files). map.insert m f x) is ∙ insert_back files_total exact_files c.files f x there) i;
        slots = (ap (λ (xs : List Bool). slice_set xs x.slot true) freed ∙ freed_back c.slots x.slot taken) i;
      })
      tt

  pub owner_came : (name : List ℕ) (row : ℕ) (owners : Owners) (rows : List Bool) → map.get c.owners name ≡ None → owners ≡ map.insert c.owners name row → slice_index_or c.rows row true ≡ false → AreTakenBelow row c.rows → rows ≡ slice_set c.rows row true
      → LeadsOn us c (us ++ OwnerCame name row ∷ []) (record c { owners = owners; rows = rows })
  owner_came name row owners rows none is free low marked first led =
      push_leads us (OwnerCame name row) c (record c { owners = owners; rows = rows }) first led
      (subst (λ (n : ℕ). row < n) (sym (ap length marked ∙ length-set c.rows row true)) (free_within c.rows row free))
      (λ i. record c {
        owners = (ap (λ (m : Owners). map.remove m name) is ∙ remove_back nat_list_cmp_total exact_bytes c.owners name row none) i;
        rows = (ap (λ (xs : List Bool). slice_set xs row false) marked ∙ taken_back c.rows row free) i;
      })
      low
