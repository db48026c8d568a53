-- what a note lists rises by its bytes
use Rattle.std.specs.Prelude.{Bool, true, false, ◌&&◌, map as list_map}
use Rattle.std.specs.List.{AllByRecursion}
use Rattle.std.specs.List.Sorted.{IsNonDecreasingBy, IsStableByKey}
use Rattle.std.specs.FinMap.{is_sorted}
use Rattle.std.specs.FinMap.Entries.{below_all}
use Rattle.std.specs.declared.cmp.Ordering.{Ordering}
use Rattle.std.specs.declared.cmp.Ordering.TheVariants.{Less, Equal, Greater}
use Rattle.std.specs.Ordering.{nat_cmp, is_lt, ordering_then}
use Rattle.std.specs.Cmp.Lexicographic.{slice_cmp}
use Rattle.std.proofs.Math.Dec.{T}
use Rattle.std.proofs.Common.{◌≡◌, ℕ, List, [], ◌∷◌, ◌++◌, append-nil, refl, sym, ◌∙◌, ap}
use Rattle.alp_base.specs.declared.ids.FileId.{FileId}
use Rattle.alp_base.specs.declared.key.Key.{Key}
use Rattle.alp_base.specs.declared.key.Key.TheVariants.{Leader, PageOf, OwnerOf}
use Rattle.alp_base.specs.declared.key.Resource.{Resource}
use Rattle.alp_base.specs.declared.key.Resource.TheVariants.{Whole, Leaf}
use Rattle.alp_base.specs.declared.cell.Cell.{Cell}
use Rattle.alp_base.specs.Keys.{key_cmp}
use Rattle.alp_base.specs.KeyLaws.{file_cmp}
use Rattle.alp_base.specs.Orders.{resource_cmp}
use Rattle.alp_modes.specs.declared.Mode.{Mode}
use Rattle.alp_fields.specs.Forms.{u8, u32}
use Rattle.alp_fields.specs.Fields.{file_id, key, resource, spell_key, FitsKey, spell_resource, FitsResource}
use Rattle.alp_fields.specs.ModeField.{mode}
use Rattle.alp_fields.specs.ChangeField.{cut, placed, spell_cell}
use Rattle.alp_fields.specs.ReadyNote.{lock}
use Rattle.alp_fields.specs.Rising.{rises_from, text_below, rise}
use Rattle.alp_ready.specs.NoteOrder.{AreRising, AreRisingKeys, put_number, lock_number}
use Rattle.alp_ready.proofs.BytesOrder.{file_order, key_order, resource_order}
use Rattle.alp_ready.proofs.StableSorts.{AreInOrder, by_number, sorted_anew}

-- ---- from entries to an order of them

first : (a b : Bool) → T (a && b) → T a
first true b h = tt
first false b h = absurd h

second : (a b : Bool) → T (a && b) → T b
second true b h = h
second false b h = absurd h

less : (o : Ordering) → T (is_lt o) → o ≡ Less
less Less h = refl
less Equal h = absurd h
less Greater h = absurd h

module _ {K X : Type 0} (R : K → K → Ordering) where
  -- entries by their keys
  abbrev pub by_key : K × X → K × X → Ordering
  by_key e f = R e.0 f.0

  below_each : (e : K × X) (es : List (K × X)) → T (below_all R e.0 es) → AllByRecursion (λ f. by_key e f ≡ Less) es
  below_each e [] h = tt
  below_each e (f ∷ es) h = (less (R e.0 f.0) (first (is_lt (R e.0 f.0)) (below_all R e.0 es) h), below_each e es (second (is_lt (R e.0 f.0)) (below_all R e.0 es) h))

  pub in_order : (es : List (K × X)) → T (is_sorted R es) → AreInOrder by_key es
  in_order [] h = tt
  in_order (e ∷ es) h = (below_each e es (first (below_all R e.0 es) (is_sorted R es) h), in_order es (second (below_all R e.0 es) (is_sorted R es) h))

  -- and of the keys alone
  below_keys : (e : K × X) (es : List (K × X)) → T (below_all R e.0 es) → AllByRecursion (λ k. R e.0 k ≡ Less) (list_map (λ (f : K × X). f.0) es)
  below_keys e [] h = tt
  below_keys e (f ∷ es) h = (less (R e.0 f.0) (first (is_lt (R e.0 f.0)) (below_all R e.0 es) h), below_keys e es (second (is_lt (R e.0 f.0)) (below_all R e.0 es) h))

  pub keys_in_order : (es : List (K × X)) → T (is_sorted R es) → AreInOrder R (list_map (λ (e : K × X). e.0) es)
  keys_in_order [] h = tt
  keys_in_order (e ∷ es) h = (below_keys e es (first (below_all R e.0 es) (is_sorted R es) h), keys_in_order es (second (below_all R e.0 es) (is_sorted R es) h))

-- ---- from an order to bytes that rise

module _ {X : Type 0} (spell : X → List ℕ) (Fits : X → Type 0) (R : X → X → Ordering) (some : (x : X) → text_below [] (spell x) ≡ true)
    (below : (x y : X) → Fits x → Fits y → R x y ≡ Less → text_below (spell x) (spell y) ≡ true) where
  rises_after : (x : X) (ys : List X) → Fits x → AllByRecursion Fits ys → AllByRecursion (λ y. R x y ≡ Less) ys → AreInOrder R ys → rises_from text_below (spell x) (list_map spell ys) ≡ true
  rises_after x [] fits all above order = refl
  rises_after x (y ∷ ys) fits all above order =
      ap (λ (b : Bool). b && rises_from text_below (spell y) (list_map spell ys)) (below x y fits all.0 above.0) ∙ rises_after y ys all.0 all.1 order.0 order.1

  pub rises : (ys : List X) → AllByRecursion Fits ys → AreInOrder R ys → rises_from text_below [] (list_map spell ys) ≡ true
  rises [] all order = refl
  rises (y ∷ ys) all order = ap (λ (b : Bool). b && rises_from text_below (spell y) (list_map spell ys)) (some y) ∙ rises_after y ys all.0 all.1 order.0 order.1

-- a text and a lesser one, whatever stands behind them
before_so : (a b : List ℕ) (o : Ordering) → slice_cmp nat_cmp a b ≡ o → o ≡ Less → text_below a b ≡ true
before_so a b o is h = ap is_lt (is ∙ h)

then_less : (o p : Ordering) → o ≡ Less → ordering_then o p ≡ Less
then_less o p h = ap (λ (q : Ordering). ordering_then q p) h

-- ---- files and cuts

-- nothing stands behind a file
alone : (f g : FileId) → slice_cmp nat_cmp (file_id.spell f) (file_id.spell g) ≡ slice_cmp nat_cmp (file_id.spell f ++ []) (file_id.spell g ++ [])
alone f g = λ i. slice_cmp nat_cmp (sym (append-nil (file_id.spell f)) i) (sym (append-nil (file_id.spell g)) i)

file_some : (f : FileId) → text_below [] (file_id.spell f) ≡ true
unfolding file_id u8
file_some f = refl

file_below : (f g : FileId) → file_id.Fits f → file_id.Fits g → file_cmp f g ≡ Less → text_below (file_id.spell f) (file_id.spell g) ≡ true
file_below f g a b h = before_so (file_id.spell f) (file_id.spell g) (ordering_then (file_cmp f g) Equal) (alone f g ∙ file_order f g [] [] a b) (then_less (file_cmp f g) Equal h)

pub files_rise : (fs : List FileId) → AllByRecursion file_id.Fits fs → AreInOrder file_cmp fs → rise file_id fs ≡ true
files_rise fs all order = rises file_id.spell file_id.Fits file_cmp file_some file_below fs all order

cut_some : (c : FileId × ℕ) → text_below [] (cut.spell c) ≡ true
unfolding cut file_id u8
cut_some c = refl

cut_below : (c d : FileId × ℕ) → cut.Fits c → cut.Fits d → by_key file_cmp c d ≡ Less → text_below (cut.spell c) (cut.spell d) ≡ true
unfolding cut
cut_below c d a b h =
    before_so (file_id.spell c.0 ++ u32.spell c.1) (file_id.spell d.0 ++ u32.spell d.1) (ordering_then (file_cmp c.0 d.0) (slice_cmp nat_cmp (u32.spell c.1) (u32.spell d.1)))
    (file_order c.0 d.0 (u32.spell c.1) (u32.spell d.1) a.0 b.0) (then_less (file_cmp c.0 d.0) (slice_cmp nat_cmp (u32.spell c.1) (u32.spell d.1)) h)

pub cuts_rise : (cs : List (FileId × ℕ)) → AllByRecursion cut.Fits cs → T (is_sorted file_cmp cs) → rise cut cs ≡ true
cuts_rise cs all sorted = rises cut.spell cut.Fits (by_key file_cmp) cut_some cut_below cs all (in_order file_cmp cs sorted)

-- ---- puts and locks

key_some : (k : Key) (x : List ℕ) → text_below [] (spell_key k ++ x) ≡ true
key_some (Leader f) x = refl
key_some (PageOf f n) x = refl
key_some (OwnerOf m) x = refl

put_some : (e : Key × Cell) → text_below [] (placed.spell e) ≡ true
unfolding placed key
put_some e = key_some e.0 (spell_cell e.1)

put_below : (d e : Key × Cell) → FitsKey d.0 → FitsKey e.0 → by_number put_number (by_key key_cmp) d e ≡ Less → text_below (placed.spell d) (placed.spell e) ≡ true
unfolding placed key
put_below d e a b h =
    before_so (spell_key d.0 ++ spell_cell d.1) (spell_key e.0 ++ spell_cell e.1) (ordering_then (by_number put_number (by_key key_cmp) d e) (slice_cmp nat_cmp (spell_cell d.1) (spell_cell e.1)))
    (key_order d.0 e.0 (spell_cell d.1) (spell_cell e.1) a b) (then_less (by_number put_number (by_key key_cmp) d e) (slice_cmp nat_cmp (spell_cell d.1) (spell_cell e.1)) h)

pub puts_rise : (es fs : List (Key × Cell)) → AllByRecursion (λ (e : Key × Cell). FitsKey e.0) fs → AreRisingKeys es → IsNonDecreasingBy put_number fs → IsStableByKey put_number nat_cmp es fs → rise placed fs ≡ true
puts_rise es fs all sorted low stable =
    rises placed.spell (λ (e : Key × Cell). FitsKey e.0) (by_number put_number (by_key key_cmp)) put_some put_below fs all (sorted_anew put_number (by_key key_cmp) es fs (in_order key_cmp es sorted) low stable)

resource_some : (r : Resource) (x : List ℕ) → text_below [] (spell_resource r ++ x) ≡ true
resource_some (Whole f) x = refl
resource_some (Leaf k) x = key_some k x

lock_some : (e : Resource × Mode) → text_below [] (lock.spell e) ≡ true
unfolding lock resource
lock_some e = resource_some e.0 (mode.spell e.1)

lock_below : (d e : Resource × Mode) → FitsResource d.0 → FitsResource e.0 → by_number lock_number (by_key resource_cmp) d e ≡ Less → text_below (lock.spell d) (lock.spell e) ≡ true
unfolding lock resource
lock_below d e a b h =
    before_so (spell_resource d.0 ++ mode.spell d.1) (spell_resource e.0 ++ mode.spell e.1) (ordering_then (by_number lock_number (by_key resource_cmp) d e) (slice_cmp nat_cmp (mode.spell d.1) (mode.spell e.1)))
    (resource_order d.0 e.0 (mode.spell d.1) (mode.spell e.1) a b) (then_less (by_number lock_number (by_key resource_cmp) d e) (slice_cmp nat_cmp (mode.spell d.1) (mode.spell e.1)) h)

pub locks_rise : (es fs : List (Resource × Mode)) → AllByRecursion (λ (e : Resource × Mode). FitsResource e.0) fs → AreRising es → IsNonDecreasingBy lock_number fs → IsStableByKey lock_number nat_cmp es fs → rise lock fs ≡ true
locks_rise es fs all sorted low stable =
    rises lock.spell (λ (e : Resource × Mode). FitsResource e.0) (by_number lock_number (by_key resource_cmp)) lock_some lock_below fs all (sorted_anew lock_number (by_key resource_cmp) es fs (in_order resource_cmp es sorted) low stable)
