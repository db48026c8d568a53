-- Images go to the buffers one by one.
use Rattle.std.specs.Prelude.{slice_set}
use Rattle.std.specs.List.{AllByRecursion}
use Rattle.std.proofs.Common.{◌≡◌, List, [], ◌∷◌, length, refl, sym, ◌∙◌, ap, subst, arith}
use Rattle.std.proofs.lemmas.List.{length-set}
use Rattle.alp_disk.specs.Disk.{Image}
use Rattle.alp_batch.specs.declared.batch.PageImage.{PageImage}
use Rattle.alp_wal.specs.State.{IsBelow, overlaid}
use Rattle.alp_pool.specs.Buffers.{Buffers, AreBuffersOf}

-- the buffers hold some of the images, and the rest leads where all lead
pub record Renewed (pages : Image) (images : List PageImage) (held : Buffers) (rest : List PageImage) : Type 0 where
  pub mid : Image
  pub below : AllByRecursion (IsBelow (length mid)) rest
  pub leads : overlaid mid rest ≡ overlaid pages images
  pub buffers : AreBuffersOf mid held

pub begin_renewing : (pages : Image) (images : List PageImage) (held : Buffers) → AllByRecursion (IsBelow (length pages)) images → AreBuffersOf pages held → Renewed pages images held images
begin_renewing pages images held below buffers = record { mid = pages; below = below; leads = refl; buffers = buffers }

-- one more
pub renew_one : (pages : Image) (images : List PageImage) (old new : Buffers) (i : PageImage) (rest : List PageImage)
    → ((mid : Image) → IsBelow (length mid) i → AreBuffersOf mid old → AreBuffersOf (slice_set mid i.at i.page) new)
    → Renewed pages images old (i ∷ rest) → Renewed pages images new rest
renew_one pages images old new i rest step r = record {
  mid = slice_set r.mid i.at i.page;
  below = subst (λ n. AllByRecursion (IsBelow n) rest) (sym (length-set r.mid i.at i.page)) r.below.1;
  leads = r.leads;
  buffers = step r.mid r.below.0 r.buffers;
}

pub none_left : (is : List PageImage) → length is ≡ 0 → is ≡ []
none_left [] none = refl
none_left (i ∷ is) none = absurd (omega (arith, none))

pub end_renewing : (pages : Image) (images : List PageImage) (held : Buffers) (rest : List PageImage) → rest ≡ [] → Renewed pages images held rest → AreBuffersOf (overlaid pages images) held
end_renewing pages images held rest none r = subst (λ (l : Image). AreBuffersOf l held) (ap (λ (l : List PageImage). overlaid r.mid l) (sym none) ∙ r.leads) r.buffers
