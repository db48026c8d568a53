-- The pages of a plan, laid over those of a volume, are those that the log holds after its batch.
use Rattle.std.specs.Prelude.{Bool, true, false, cond, ◌&&◌, ◌==◌, slice_set, Option, None, Some, map as list_map}
use Rattle.std.specs.List.{AllByRecursion}
use Rattle.std.specs.Ordering.{nat_cmp, is_lt, is_eq}
use Rattle.std.specs.declared.cmp.Ordering.{Ordering}
use Rattle.std.specs.declared.cmp.Ordering.TheVariants.{Less, Equal, Greater}
use Rattle.std.specs.FinMap as map
use Rattle.std.specs.FinMap.{entries_sorted, find, get-entries}
use Rattle.std.specs.FinMap.Entries.{below_all}
use Rattle.std.proofs.Math.Dec.{T}
use Rattle.std.proofs.Common.{◌≡◌, ℕ, List, [], ◌∷◌, length, refl, sym, ◌∙◌, ap, subst, eq-eqb}
use Rattle.std.proofs.lemmas.Bool.{eqb-true}
use Rattle.std.proofs.lemmas.List.{get_or-set_same, get_or-set_other, length-set}
use Rattle.alp_base.specs.declared.bytes.NoteChange.{NoteChange}
use Rattle.alp_batch.specs.declared.batch.PageImage.{PageImage}
use Rattle.alp_disk.specs.Disk.{Image, page}
use Rattle.alp_volume.specs.Drafts.{Changed, page_or, laid}
use Rattle.alp_volume.proofs.LaidLaws.{numbers_alike}
use Rattle.alp_wal.specs.State.{State, IsBelow, overlaid, applied}
use Rattle.alp_store.specs.Batches.{image_of, batch_of, AreBelow}
use Rattle.alp_store.specs.Told.{pages_of}

abbrev Entries : Type 0
Entries = List (ℕ × List ℕ)

first : (a b : Bool) → T (a && b) → T a
first true b h = tt
first false b h = absurd h

second : (a b : Bool) → T (a && b) → T b
second true b h = h
second false b h = absurd h

not_first : (r : Ordering) → T (is_lt r) → is_eq r ≡ false
not_first Less h = refl
not_first Equal h = absurd h
not_first Greater h = absurd h

none_below : (q : ℕ) (es : Entries) → T (below_all nat_cmp q es) → find nat_cmp q es ≡ None
none_below q [] h = refl
none_below q (e ∷ es) h = ap (λ (t : Bool). cond t (Some e.1) (find nat_cmp q es)) (not_first (nat_cmp q e.0) (first _ _ h)) ∙ none_below q es (second _ _ h)

-- one page after the images of these entries
page_after : (es : Entries) (image : Image) (q : ℕ) → AllByRecursion (IsBelow (length image)) (list_map image_of es) → T (map.is_sorted nat_cmp es) → page (overlaid image (list_map image_of es)) q ≡ page_or (find nat_cmp q es) (page image q)
page_after [] image q below sorted = refl
page_after (e ∷ es) image q below sorted =
    page_after es (slice_set image e.0 e.1) q (subst (λ (n : ℕ). AllByRecursion (IsBelow n) (list_map image_of es)) (sym (length-set image e.0 e.1)) below.1) (second _ _ sorted)
    ∙ go (q == e.0) refl
    ∙ ap (λ (t : Bool). page_or (cond t (Some e.1) (find nat_cmp q es)) (page image q)) (sym (numbers_alike q e.0))
  where
    go : (t : Bool) → (q == e.0) ≡ t → page_or (find nat_cmp q es) (page (slice_set image e.0 e.1) q) ≡ page_or (cond t (Some e.1) (find nat_cmp q es)) (page image q)
    go true d =
        let same : q ≡ e.0 = eqb-true q e.0 d in
        let none : find nat_cmp q es ≡ None = ap (λ (x : ℕ). find nat_cmp x es) same ∙ none_below e.0 es (first _ _ sorted) in
        ap (λ (o : Option (List ℕ)). page_or o (page (slice_set image e.0 e.1) q)) none
        ∙ ap (λ (x : ℕ). page (slice_set image e.0 e.1) x) same ∙ get_or-set_same image e.0 e.1 [] below.0
    go false d =
        let ne : q ≡ e.0 → ⊥ = λ z. (let yes = eq-eqb q e.0 z in cc) in
        ap (page_or (find nat_cmp q es)) (get_or-set_other image e.0 q e.1 [] ne)

pub laid_held : (home : ℕ) (pages : Changed) (s : State) (notes : List NoteChange) → length s.pages ≡ home → AreBelow home pages → laid pages (pages_of s) ≡ pages_of (applied s (batch_of pages notes))
laid_held home pages s notes long below = λ i q. one q i
  where
    one : (q : ℕ) → laid pages (pages_of s) q ≡ pages_of (applied s (batch_of pages notes)) q
    one q =
        ap (λ (o : Option (List ℕ)). page_or o (page s.pages q)) (get-entries pages q)
        ∙ sym (page_after (map.entries pages) s.pages q (subst (λ (n : ℕ). AllByRecursion (IsBelow n) (list_map image_of (map.entries pages))) (sym long) below) (entries_sorted pages))

pub length-overlaid : (images : List PageImage) (image : Image) → length (overlaid image images) ≡ length image
length-overlaid [] image = refl
length-overlaid (i ∷ is) image = length-overlaid is (slice_set image i.at i.page) ∙ length-set image i.at i.page
