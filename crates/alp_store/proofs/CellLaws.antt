-- What a fetch gives is what the pages stand for.
use Rattle.std.specs.Prelude.{Option, None, Some, is_some}
use Rattle.std.specs.FinMap as map
use Rattle.std.proofs.Common.{◌≡◌, ◌≤◌, ◌<◌, ℕ, List, refl, sym, ap, arith}
use Rattle.alp_base.specs.declared.faults.Sizes.{Sizes}
use Rattle.alp_base.specs.declared.ids.FileId.{FileId}
use Rattle.alp_base.specs.declared.key.Key.TheVariants.{Leader, PageOf, OwnerOf}
use Rattle.alp_base.specs.declared.cell.Cell.{Cell}
use Rattle.alp_base.specs.declared.cell.Cell.TheVariants as cell
use Rattle.alp_base.specs.declared.cell.OwnerRecord.{OwnerRecord}
use Rattle.alp_base.specs.declared.cell.Props.{Props}
use Rattle.alp_files.specs.Cells.{Cells, owner_in}
use Rattle.alp_files.specs.Files.{AreFiles}
use Rattle.alp_pages.specs.Pages.{Pages}
use Rattle.alp_pages.specs.Volume.{StandFor}
use Rattle.alp_volume.proofs.PlanLaws.{starts_paged}
use Rattle.alp_store.proofs.Standing.{standing_volume}

-- a leader that stands has no size past the limit
pub no_large : (s : Sizes) (at : Pages) (m : Cells) (f : FileId) (p : Props) → 257 ≤ s.home → StandFor s.home at m → map.get m (Leader f) ≡ Some (cell.Leader p) → 4096 < p.size → ⊥
no_large s at m f p least standing is large = let small = (standing_volume s at m least standing).fits.sizes f p is in omega (arith, small, large)

-- no page stands past the limit
pub no_late : (home : ℕ) (at : Pages) (m : Cells) (f : FileId) (n : ℕ) → StandFor home at m → 4096 ≤ n → None ≡ map.get m (PageOf f n)
no_late home at m f n standing late = go (map.get m (PageOf f n)) refl
  where
    go : (o : Option Cell) → map.get m (PageOf f n) ≡ o → None ≡ o
    go None e = refl
    go (Some c) e = let low = (starts_paged home at m standing f n (ap is_some e)).0 in absurd (omega (arith, low, late))

pub an_owner : (o : Option Cell) (r : OwnerRecord) → Some r ≡ owner_in o → Some (cell.Owner r) ≡ o
an_owner None r e = cc
an_owner (Some (cell.Owner x)) r e = let same : r ≡ x = cc in ap (λ (y : OwnerRecord). Some (cell.Owner y)) same
an_owner (Some (cell.Page b)) r e = cc
an_owner (Some (cell.Leader p)) r e = cc

pub no_owner : (m : Cells) (n : List ℕ) → AreFiles (map.get m) → None ≡ owner_in (map.get m (OwnerOf n)) → None ≡ map.get m (OwnerOf n)
no_owner m n files e = go (map.get m (OwnerOf n)) refl e
  where
    go : (o : Option Cell) → map.get m (OwnerOf n) ≡ o → None ≡ owner_in o → None ≡ o
    go None is h = refl
    go (Some (cell.Owner x)) is h = cc
    go (Some (cell.Page b)) is h = absurd (files.kinds (OwnerOf n) (cell.Page b) is)
    go (Some (cell.Leader p)) is h = absurd (files.kinds (OwnerOf n) (cell.Leader p) is)

-- an owner's cell stands under its own name
pub own_name : (m : Cells) (n : List ℕ) (r : OwnerRecord) → AreFiles (map.get m) → Some r ≡ owner_in (map.get m (OwnerOf n)) → r.name ≡ n
own_name m n r files e = files.kinds (OwnerOf n) (cell.Owner r) (sym (an_owner (map.get m (OwnerOf n)) r e))
