-- What a write makes of an image. These laws stand here because the disks' own laws cite them.
use Rattle.std.proofs.Common.{◌≡◌, ◌≢◌, inl, inr, ℕ, ◌+◌, ◌<◌, ◌≤◌, List, ◌++◌, length, take, drop, refl, sym, ◌∙◌, append_assoc, ap, arith, length-append, length-drop, length-take}
use Rattle.std.proofs.lemmas.List.{get_or-set_same, get_or-set_other, length-set, set_past, take_at, drop_at}
use Rattle.std.proofs.lemmas.Bool.{cases_eq}
use Rattle.alp_base.specs.Pages.{overwritten}
use Rattle.alp_disk.specs.Disk.{Image, page, IsImage, with_bytes, Torn}

pub length-with_bytes : (image : Image) (at offset : ℕ) (bytes : List ℕ) → length (with_bytes image at offset bytes) ≡ length image
unfolding with_bytes
length-with_bytes image at offset bytes = length-set image at _

pub page-with_bytes : (image : Image) (at offset : ℕ) (bytes : List ℕ) → at < length image → page (with_bytes image at offset bytes) at ≡ overwritten (page image at) offset bytes
unfolding with_bytes
page-with_bytes image at offset bytes within = get_or-set_same image at _ _ within

pub page-with_bytes_other : (image : Image) (at offset q : ℕ) (bytes : List ℕ) → q ≢ at → page (with_bytes image at offset bytes) q ≡ page image q
unfolding with_bytes
page-with_bytes_other image at offset q bytes other = get_or-set_other image at q _ _ other

pub with_bytes-past : (image : Image) (at offset : ℕ) (bytes : List ℕ) → length image ≤ at → with_bytes image at offset bytes ≡ image
unfolding with_bytes
with_bytes-past image at offset bytes past = set_past image at _ past

pub length-overwritten : (p : List ℕ) (offset : ℕ) (bytes : List ℕ) → offset + length bytes ≤ length p → length (overwritten p offset bytes) ≡ length p
length-overwritten p offset bytes fits =
    omega (arith, length-append (take offset p) (bytes ++ drop (offset + length bytes) p), length-append bytes (drop (offset + length bytes) p), length-take offset p, length-drop (offset + length bytes) p)

-- before and behind the bytes the page is the same
pub take-overwritten : (p : List ℕ) (offset : ℕ) (bytes : List ℕ) → offset ≤ length p → take offset (overwritten p offset bytes) ≡ take offset p
take-overwritten p offset bytes fits =
    take_at (take offset p) (bytes ++ drop (offset + length bytes) p) offset (omega (arith, length-take offset p))

pub drop-overwritten : (p : List ℕ) (offset : ℕ) (bytes : List ℕ) → offset ≤ length p → drop (offset + length bytes) (overwritten p offset bytes) ≡ drop (offset + length bytes) p
drop-overwritten p offset bytes fits =
    ap (λ (l : List ℕ). drop (offset + length bytes) l) (sym (append_assoc (take offset p) bytes (drop (offset + length bytes) p)))
    ∙ drop_at (take offset p ++ bytes) (drop (offset + length bytes) p) (offset + length bytes) (omega (arith, length-take offset p, length-append (take offset p) bytes))

pub is_image-with_bytes : (n : ℕ) (image : Image) (at offset : ℕ) (bytes : List ℕ) → IsImage n image → at < n → offset + length bytes ≤ 512 → IsImage n (with_bytes image at offset bytes)
is_image-with_bytes n image at offset bytes is within fits = record {
  count = length-with_bytes image at offset bytes ∙ is.count;
  whole = λ q low. elim (cases_eq q at) [
    | inl same ↦ ap (λ k. length (page (with_bytes image at offset bytes) k)) same ∙ ap length (page-with_bytes image at offset bytes (omega (arith, is.count)))
        ∙ length-overwritten (page image at) offset bytes (omega (arith, is.whole at within)) ∙ is.whole at within
    | inr other ↦ ap length (page-with_bytes_other image at offset q bytes other) ∙ is.whole q low
  ];
}

-- A write is one way to tear.
pub torn-with_bytes : (n : ℕ) (image : Image) (at offset : ℕ) (bytes : List ℕ) → IsImage n image → at < n → offset + length bytes ≤ 512 → Torn at offset (length bytes) image (with_bytes image at offset bytes)
torn-with_bytes n image at offset bytes is within fits =
    let there = page-with_bytes image at offset bytes (omega (arith, is.count)) in
    let low : offset ≤ length (page image at) = omega (arith, is.whole at within) in
    record {
      others = λ q other. page-with_bytes_other image at offset q bytes other;
      before = ap (λ (l : List ℕ). take offset l) there ∙ take-overwritten (page image at) offset bytes low;
      after = ap (λ (l : List ℕ). drop (offset + length bytes) l) there ∙ drop-overwritten (page image at) offset bytes low;
    }

-- So is no write at all.
pub torn_same : (at offset n : ℕ) (image : Image) → Torn at offset n image image
torn_same at offset n image = record { others = λ q ne. refl; before = refl; after = refl }
