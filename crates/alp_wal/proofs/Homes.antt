-- What is shown of home pages of which images are brought home.
use Rattle.std.proofs.Common.{◌≡◌, ℕ, suc, ◌<◌, List, [], ◌∷◌, length, Some, None, refl, ap, ◌∙◌, arith}
use Rattle.std.specs.Prelude.{slice_index_or}
use Rattle.alp_disk.specs.Disk.{Image, page}
use Rattle.alp_wal.specs.Home.{Index}
use Rattle.alp_wal.proofs.Bringing.{no_some}
use Rattle.alp_wal.specs.Wal.{shown}

pub shown_unlogged : (old new : Image) (index : Index) → length new ≡ length old → ((k : ℕ) → slice_index_or index k None ≡ None → page new k ≡ page old k) → shown new index ≡ shown old index
shown_unlogged [] [] index long same = refl
shown_unlogged [] (q ∷ new) index long same = absurd (omega (arith, long))
shown_unlogged (p ∷ old) [] index long same = absurd (omega (arith, long))
shown_unlogged (p ∷ old) (q ∷ new) [] long same = ap (λ (x : List ℕ). x ∷ shown new []) (same 0 refl) ∙ ap (λ (l : Image). p ∷ l) (shown_unlogged old new [] (omega (arith, long)) (λ k none. same (suc k) refl))
shown_unlogged (p ∷ old) (q ∷ new) (None ∷ index) long same = ap (λ (x : List ℕ). x ∷ shown new index) (same 0 refl) ∙ ap (λ (l : Image). p ∷ l) (shown_unlogged old new index (omega (arith, long)) (λ k none. same (suc k) none))
shown_unlogged (p ∷ old) (q ∷ new) (Some x ∷ index) long same = ap (λ (l : Image). x ∷ l) (shown_unlogged old new index (omega (arith, long)) (λ k none. same (suc k) none))

-- pages that are home are what was shown
pub shown_home : (old new : Image) (index : Index) → length new ≡ length old → ((k : ℕ) → slice_index_or index k None ≡ None → page new k ≡ page old k)
    → ((k : ℕ) (image : List ℕ) → k < length old → slice_index_or index k None ≡ Some image → page new k ≡ image) → new ≡ shown old index
shown_home [] [] index long same home = refl
shown_home [] (q ∷ new) index long same home = absurd (omega (arith, long))
shown_home (p ∷ old) [] index long same home = absurd (omega (arith, long))
shown_home (p ∷ old) (q ∷ new) [] long same home =
    ap (λ (x : List ℕ). x ∷ new) (same 0 refl) ∙ ap (λ (l : Image). p ∷ l) (shown_home old new [] (omega (arith, long)) (λ k none. same (suc k) refl) (λ k image low is. absurd (no_some image is)))
shown_home (p ∷ old) (q ∷ new) (None ∷ index) long same home =
    ap (λ (x : List ℕ). x ∷ new) (same 0 refl) ∙ ap (λ (l : Image). p ∷ l) (shown_home old new index (omega (arith, long)) (λ k none. same (suc k) none) (λ k image low is. home (suc k) image (omega (arith, low)) is))
shown_home (p ∷ old) (q ∷ new) (Some x ∷ index) long same home =
    ap (λ (y : List ℕ). y ∷ new) (home 0 x (omega arith) refl) ∙ ap (λ (l : Image). x ∷ l) (shown_home old new index (omega (arith, long)) (λ k none. same (suc k) none) (λ k image low is. home (suc k) image (omega (arith, low)) is))
