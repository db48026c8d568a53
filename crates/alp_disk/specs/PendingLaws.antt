-- What is read is one of the outcomes of a crash. These laws stand here because the disk's own laws cite them.
use Rattle.std.proofs.Common.{◌≡◌, ℕ, List, [], ◌∷◌, length, inl, inr, refl, sym, subst, arith, length-take}
use Rattle.std.proofs.lemmas.Bool.{cases_lt}
use Rattle.alp_disk.specs.Disk.{Image, IsImage, with_bytes, Torn}
use Rattle.alp_disk.specs.Images.{is_image-with_bytes, torn-with_bytes, with_bytes-past, torn_same}
use Rattle.alp_disk.specs.Pending.{written_bytes, replay, Reaches, MayLeave}
use Rattle.alp_disk.specs.declared.pending_write.PendingWrite.{PendingWrite}

-- any bytes of that length in the place of those that were written
pub one_torn : (n : ℕ) (image : Image) (w : PendingWrite) (bytes : List ℕ) → length bytes ≡ w.len → IsImage n image → IsImage n (with_bytes image w.at w.offset bytes) × Torn w.at w.offset w.len image (with_bytes image w.at w.offset bytes)
one_torn n image w bytes size is = elim (cases_lt w.at n) [
  | inl within ↦ (
    is_image-with_bytes n image w.at w.offset bytes is within (omega (arith, size, w.fits)),
    subst (λ k. Torn w.at w.offset k image (with_bytes image w.at w.offset bytes)) size (torn-with_bytes n image w.at w.offset bytes is within (omega (arith, size, w.fits))),
  )
  | inr past ↦ let same = with_bytes-past image w.at w.offset bytes (omega (arith, is.count)) in
      (subst (IsImage n) (sym same) is, subst (λ d. Torn w.at w.offset w.len image d) (sym same) (torn_same w.at w.offset w.len image))
]

pub replay_one : (n : ℕ) (image : Image) (w : PendingWrite) → IsImage n image → IsImage n (with_bytes image w.at w.offset (written_bytes w)) × Torn w.at w.offset w.len image (with_bytes image w.at w.offset (written_bytes w))
replay_one n image w is = one_torn n image w (written_bytes w) (omega (arith, length-take w.len w.page, w.fits, w.full)) is

pub is_image-replay : (n : ℕ) (image : Image) (ws : List PendingWrite) → IsImage n image → IsImage n (replay image ws)
is_image-replay n image [] is = is
is_image-replay n image (w ∷ ws) is = is_image-replay n (with_bytes image w.at w.offset (written_bytes w)) ws (replay_one n image w is).0

pub reaches-replay : (n : ℕ) (image : Image) (ws : List PendingWrite) → IsImage n image → Reaches n image ws (replay image ws)
reaches-replay n image [] is = refl
reaches-replay n image (w ∷ ws) is =
    let one = replay_one n image w is in
    (with_bytes image w.at w.offset (written_bytes w), one.0, one.1, reaches-replay n (with_bytes image w.at w.offset (written_bytes w)) ws one.0)

pub read_is_left : (n : ℕ) (image : Image) (ws : List PendingWrite) → IsImage n image → MayLeave n image ws (replay image ws)
read_is_left n image ws is = (is_image-replay n image ws is, reaches-replay n image ws is)
