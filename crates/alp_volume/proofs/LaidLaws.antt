-- A page that is put among those that a change made.
use Rattle.std.specs.Prelude.{Bool, true, false, cond, Option, None, Some, ◌==◌}
use Rattle.std.specs.Ordering.{nat_cmp, eq_by_cmp}
use Rattle.std.specs.Cmp.{nat_cmp_total}
use Rattle.std.specs.FinMap as map
use Rattle.std.specs.FinMap.{get-insert, nat_cmp-IsAntisymmetric}
use Rattle.std.proofs.Common.{◌≡◌, ℕ, List, refl, sym, ◌∙◌, ap, eq-eqb}
use Rattle.std.proofs.lemmas.Bool.{eqb-true}
use Rattle.std.proofs.lemmas.Cmp.{eq_by_cmp_equiv}
use Rattle.std.proofs.lemmas.Map.Views.{tells_apart}
use Rattle.alp_pages.specs.Pages.{Pages, written}
use Rattle.alp_volume.specs.Drafts.{Changed, laid, page_or}

pub numbers_alike : (a b : ℕ) → eq_by_cmp nat_cmp a b ≡ (a == b)
numbers_alike a b = go (eq_by_cmp nat_cmp a b) refl (a == b) refl
  where
    go : (t : Bool) → eq_by_cmp nat_cmp a b ≡ t → (u : Bool) → (a == b) ≡ u → t ≡ u
    go true e true d = refl
    go false e false d = refl
    go true e false d = let same : a ≡ b = tells_apart nat_cmp-IsAntisymmetric a b e in let yes = eq-eqb a b same in cc
    go false e true d =
        let same : a ≡ b = eqb-true a b d in
        let yes : eq_by_cmp nat_cmp a b ≡ true = ap (eq_by_cmp nat_cmp a) (sym same) ∙ (eq_by_cmp_equiv nat_cmp_total).refl a in cc

laid_at : (m : Changed) (pages : Pages) (p : ℕ) (bytes : List ℕ) (q : ℕ) → laid (map.insert m p bytes) pages q ≡ written p bytes (laid m pages) q
laid_at m pages p bytes q =
    ap (λ (o : Option (List ℕ)). page_or o (pages q)) (get-insert nat_cmp_total m p bytes q)
    ∙ ap (λ (t : Bool). page_or (cond t (Some bytes) (map.get m q)) (pages q)) (numbers_alike q p) ∙ go (q == p)
  where
    go : (t : Bool) → page_or (cond t (Some bytes) (map.get m q)) (pages q) ≡ cond t bytes (page_or (map.get m q) (pages q))
    go true = refl
    go false = refl

pub laid_put : (m : Changed) (pages : Pages) (p : ℕ) (bytes : List ℕ) → laid (map.insert m p bytes) pages ≡ written p bytes (laid m pages)
laid_put m pages p bytes = λ i q. laid_at m pages p bytes q i
