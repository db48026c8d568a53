-- The pages of a change in two parts, by what the change took and freed.
use Rattle.std.specs.Prelude.{Bool, true, false, cond, not, is_some, ◌==◌, Option, None, Some, slice_index_or, slice_set, Result, Ok, Err, IfOk}
use Rattle.std.specs.Ordering.{nat_cmp}
use Rattle.std.specs.Cmp.{nat_cmp_total}
use Rattle.std.specs.FinMap as map
use Rattle.std.specs.FinMap.{get-insert}
use Rattle.std.proofs.Common.{◌≡◌, ℕ, ◌<◌, ◌≤◌, List, [], ◌∷◌, length, refl, sym, ◌∙◌, ap, subst, arith, eq-eqb}
use Rattle.std.proofs.lemmas.Bool.{eqb-true, not-true}
use Rattle.std.proofs.lemmas.List.{get_or-set_same, get_or-set_other}
use Rattle.alp_files.specs.Cells.{Cells}
use Rattle.alp_pages.specs.Pages.{Pages, written}
use Rattle.alp_pages.specs.Volume.{StandFor}
use Rattle.alp_pages.proofs.UnnamedLaws.{unnamed}
use Rattle.alp_volume.specs.declared.catalog.Catalog.{Catalog}
use Rattle.alp_volume.specs.declared.undo.Undo.{Undo}
use Rattle.alp_volume.specs.declared.undo.Undo.TheVariants.{PlaceTaken, PlaceFreed, FileKept, FileCame, FileWent, OwnerCame}
use Rattle.alp_volume.specs.Known.{IsCatalog, Knows}
use Rattle.alp_volume.specs.Parts.{Before, is_free, said, said_or, was_free, with_undo}
use Rattle.alp_volume.specs.Undone.{CanUndo, Leads, undo_one}
use Rattle.alp_volume.proofs.LaidLaws.{numbers_alike}
use Rattle.alp_tables.proofs.FreeLaws.{free_within}

-- what is known of all places before, by what is said of some and by the flags that are left for the others
abbrev pub Tells : Before → List Bool → List Bool → Type 0
Tells t left old = (p : ℕ) → said_or (map.get t p) (slice_index_or left p true) ≡ slice_index_or old p true

-- a place that was taken or freed, which now has the other flag
said_once : (t : Before) (q : ℕ) (x : Bool) (left mid old : List Bool) → q < length mid → left ≡ slice_set mid q x → Tells t left old → Tells (said q x t) mid old
said_once t q x left mid old within is tells p = go (map.get t q) refl
  where
    here : p ≡ q → slice_index_or left p true ≡ x
    here e = ap (λ (xs : List Bool). slice_index_or xs p true) is ∙ ap (λ (n : ℕ). slice_index_or (slice_set mid q x) n true) e ∙ get_or-set_same mid q x true within

    other : (p ≡ q → ⊥) → slice_index_or left p true ≡ slice_index_or mid p true
    other ne = ap (λ (xs : List Bool). slice_index_or xs p true) is ∙ get_or-set_other mid q p x true ne

    known : (y : Bool) → map.get t q ≡ Some y → (u : Bool) → (p == q) ≡ u → said_or (map.get t p) (slice_index_or mid p true) ≡ slice_index_or old p true
    known y e true d =
        let same : p ≡ q = eqb-true p q d in
        let got : map.get t p ≡ Some y = ap (map.get t) same ∙ e in
        ap (λ (o : Option Bool). said_or o (slice_index_or mid p true)) got ∙ ap (λ (o : Option Bool). said_or o (slice_index_or left p true)) (sym got) ∙ tells p
    known y e false d =
        let ne : p ≡ q → ⊥ = λ z. (let yes = eq-eqb p q z in cc) in
        ap (said_or (map.get t p)) (sym (other ne)) ∙ tells p

    new : map.get t q ≡ None → (u : Bool) → (p == q) ≡ u → said_or (cond u (Some x) (map.get t p)) (slice_index_or mid p true) ≡ slice_index_or old p true
    new e true d =
        let same : p ≡ q = eqb-true p q d in
        let got : map.get t p ≡ None = ap (map.get t) same ∙ e in
        sym (here same) ∙ ap (λ (o : Option Bool). said_or o (slice_index_or left p true)) (sym got) ∙ tells p
    new e false d =
        let ne : p ≡ q → ⊥ = λ z. (let yes = eq-eqb p q z in cc) in
        ap (said_or (map.get t p)) (sym (other ne)) ∙ tells p

    go : (o : Option Bool) → map.get t q ≡ o → said_or (map.get (cond (is_some o) t (map.insert t q x)) p) (slice_index_or mid p true) ≡ slice_index_or old p true
    go (Some y) e = known y e (p == q) refl
    go None e =
        ap (λ (o : Option Bool). said_or o (slice_index_or mid p true)) (get-insert nat_cmp_total t q x p ∙ ap (λ (b : Bool). cond b (Some x) (map.get t p)) (numbers_alike p q))
        ∙ new e (p == q) refl

same_tells : (t : Before) (left mid old : List Bool) → left ≡ mid → Tells t left old → Tells t mid old
same_tells t left mid old same tells = subst (λ (xs : List Bool). Tells t xs old) same tells

-- a change more is read
pub undo_said : (u : Undo) (t : Before) (c mid : Catalog) (old : List Bool) → CanUndo u mid → undo_one u mid ≡ c → Tells t c.places old → Tells (with_undo u t) mid.places old
undo_said (PlaceTaken q) t c mid old can is tells = said_once t q false c.places mid.places old can (sym (ap (λ (k : Catalog). k.places) is)) tells
undo_said (PlaceFreed q) t c mid old can is tells = said_once t q true c.places mid.places old (free_within mid.places q can) (sym (ap (λ (k : Catalog). k.places) is)) tells
undo_said (FileKept f x) t c mid old can is tells = same_tells t c.places mid.places old (sym (ap (λ (k : Catalog). k.places) is)) tells
undo_said (FileCame f s) t c mid old can is tells = same_tells t c.places mid.places old (sym (ap (λ (k : Catalog). k.places) is)) tells
undo_said (FileWent f x) t c mid old can is tells = same_tells t c.places mid.places old (sym (ap (λ (k : Catalog). k.places) is)) tells
undo_said (OwnerCame name r) t c mid old can is tells = same_tells t c.places mid.places old (sym (ap (λ (k : Catalog). k.places) is)) tells

-- what is told once some of the changes are read: they lead to a catalog by which the others are told
abbrev pub TellsBy : Before → List Undo → Catalog → Catalog → Type 0
TellsBy t rest now old = (mid : Catalog) × Leads rest now mid × Tells t mid.places old.places

pub none_said : (us : List Undo) (t : Before) → t ≡ map.empty → (now old : Catalog) → Leads us now old → TellsBy t us now old
none_said us t none now old led = (old, led, λ p. ap (λ (o : Option Bool). said_or o (slice_index_or old.places p true)) (ap (λ (m : Before). map.get m p) none ∙ map.get-empty nat_cmp p))

pub one_said : (u : Undo) (us : List Undo) (t : Before) (now old : Catalog) → TellsBy t (u ∷ us) now old → TellsBy (with_undo u t) us now old
one_said u us t now old told = (told.1.0, told.1.1, undo_said u t told.0 told.1.0 old.places told.1.2 told.1.3 told.2)

pub all_said : (t : Before) (now old : Catalog) → TellsBy t [] now old → Tells t now.places old.places
all_said t now old told = subst (λ (c : Catalog). Tells t c.places old.places) (sym told.1) told.2

-- ---- the two parts

pub free_then : (t : Before) (now old : Catalog) → Tells t now.places old.places → (p : ℕ) → was_free t now.places p ≡ is_free old p
free_then t now old tells p = ap not (tells p)

pub then_ok : {T E : Type 0} {P Q : T → Type 0} (r : Result T E) → ((x : T) → P x → Q x) → IfOk r P → IfOk r Q
then_ok (Ok x) f h = f x h
then_ok (Err e) f h = h

-- ---- free places

pub free_stands : (home : ℕ) (pages : Pages) (m : Cells) (c : Catalog) (stands : StandFor home pages m) (place : ℕ) (bytes : List ℕ) → Knows home stands.volume c → IsCatalog home c → is_free c place ≡ true → (after : StandFor home (written place bytes pages) m) × Knows home after.volume c
free_stands home pages m c stands place bytes knows sized free =
    let flag : slice_index_or c.places place true ≡ false = not-true (slice_index_or c.places place true) free in
    let within : place < home = subst (λ (n : ℕ). place < n) sized.places (free_within c.places place flag) in
    let least : 257 ≤ place = high flag in
    let none : is_some (stands.volume.places.at place) ≡ false = sym (knows.places_taken place least within) ∙ flag in (
      record {
        volume = stands.volume;
        spells = unnamed home pages stands.volume (map.get m) stands.spells place bytes least (nothing (stands.volume.places.at place) none);
        sound = stands.sound;
      },
      knows,
    )
  where
    high : slice_index_or c.places place true ≡ false → 257 ≤ place
    high flag = let ne : place < 257 → ⊥ = (λ low. (let yes = sized.head place low in cc)) in omega (arith, ne)

    nothing : {K : Type 0} (o : Option K) → is_some o ≡ false → o ≡ None
    nothing None e = refl
    nothing (Some k) e = cc
