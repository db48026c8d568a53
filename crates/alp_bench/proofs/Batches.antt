-- Images of pages that rise, one more at a time.
use Rattle.std.proofs.Common.{◌≡◌, ◌<◌, ◌≤◌, ℕ, Bool, true, false, ◌&&◌, List, [], ◌∷◌, ◌++◌, refl, ap, ◌∙◌, arith}
use Rattle.std.specs.List.{AllByRecursion}
use Rattle.std.proofs.lemmas.Bool.Decides.{nat_tests}
use Rattle.alp_batch.specs.Batch.{page_below}
use Rattle.alp_fields.specs.Rising.{rises_from, is_rising}
use Rattle.alp_batch.specs.declared.batch.PageImage.{PageImage}
use Rattle.alp_wal.specs.State.{IsBelow}

both : (a b : Bool) → (a && b) ≡ true → (a ≡ true) × (b ≡ true)
both true b e = (refl, e)
both false b e = absurd cc

joined : (a b : Bool) → a ≡ true → b ≡ true → (a && b) ≡ true
joined a b p q = ap (λ (x : Bool). x && b) p ∙ q

is_below : (x y : PageImage) → x.at < y.at → page_below x y ≡ true
is_below x y low = grind (arith, nat_tests, low)

rises-push : (x : PageImage) (xs : List PageImage) (y : PageImage) → rises_from page_below x xs ≡ true → x.at < y.at → AllByRecursion (IsBelow y.at) xs → rises_from page_below x (xs ++ y ∷ []) ≡ true
rises-push x [] y up low all = joined (page_below x y) true (is_below x y low) refl
rises-push x (z ∷ zs) y up low all =
    let parts = both (page_below x z) (rises_from page_below z zs) up in
    joined (page_below x z) (rises_from page_below z (zs ++ y ∷ [])) parts.0 (rises-push z zs y parts.1 all.0 all.1)

-- an image of a page above them all
pub rising-push : (xs : List PageImage) (y : PageImage) → is_rising page_below xs ≡ true → AllByRecursion (IsBelow y.at) xs → is_rising page_below (xs ++ y ∷ []) ≡ true
rising-push [] y up all = refl
rising-push (x ∷ xs) y up all = rises-push x xs y up all.0 all.1

pub below-more : (m n : ℕ) (xs : List PageImage) → m ≤ n → AllByRecursion (IsBelow m) xs → AllByRecursion (IsBelow n) xs
below-more m n [] more all = tt
below-more m n (x ∷ xs) more all = (omega (arith, more, all.0), below-more m n xs more all.1)

pub below-push : (m n : ℕ) (xs : List PageImage) (y : PageImage) → m ≤ n → AllByRecursion (IsBelow m) xs → y.at < n → AllByRecursion (IsBelow n) (xs ++ y ∷ [])
below-push m n [] y more all low = (low, tt)
below-push m n (x ∷ xs) y more all low = (omega (arith, more, all.0), below-push m n xs y more all.1 low)
