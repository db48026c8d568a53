-- One more page of a run.
use Rattle.std.proofs.Common.{◌≡◌, ◌≢◌, inl, inr, ℕ, ◌+◌, ◌-◌, ◌*◌, ◌<◌, List, ◌++◌, length, take, drop, refl, sym, ◌∙◌, ap, arith, length-drop, length-take}
use Rattle.std.proofs.lemmas.List.{drop_all, append-nil}
use Rattle.std.proofs.lemmas.Bool.{cases_eq}
use Rattle.alp_base.specs.Pages.{overwritten}
use Rattle.alp_disk.specs.Disk.{Image, page, IsImage, with_bytes, Torn}
use Rattle.alp_base.specs.Crashes.{Follows}
use Rattle.alp_disk.specs.Images.{page-with_bytes, page-with_bytes_other}
use Rattle.alp_disk.specs.Runs.{SameOutside, Holds}

overwritten_whole : (p bytes : List ℕ) → length p ≡ 512 → length bytes ≡ 512 → overwritten p 0 bytes ≡ bytes
overwritten_whole p bytes whole size = ap (λ (l : List ℕ). bytes ++ l) (drop_all (0 + length bytes) p (omega (arith, whole, size))) ∙ append-nil bytes

pub same_at_first : (first n : ℕ) (image : Image) → SameOutside first n image image
same_at_first first n image = record { before = λ q low. refl; behind = λ q high. refl }

outside_torn : (first n k size : ℕ) (a b c : Image) → k < n → SameOutside first n a b → Torn (first + k) 0 size b c → SameOutside first n a c
outside_torn first n k size a b c within same torn = record {
  before = λ q low. torn.others q (λ e. omega (arith, low, e)) ∙ same.before q low;
  behind = λ q high. torn.others q (λ e. omega (arith, high, e, within)) ∙ same.behind q high;
}

pub follows_torn : (first n k size : ℕ) (old mid new : Image → Type 0) → k < n → Follows (SameOutside first n) old mid → Follows (Torn (first + k) 0 size) mid new → Follows (SameOutside first n) old new
follows_torn first n k size old mid new within so_far torn c left =
    let b = torn c left in
    let a = so_far b.0 b.1 in
    (a.0, a.1, outside_torn first n k size a.0 b.0 c within a.2 b.2)

pub holds_next : (first k size : ℕ) (bytes chunk : List ℕ) (old mid new : Image) → Holds first k bytes old mid → IsImage size mid → first + k < size → chunk ≡ take 512 (drop (512 * k) bytes) → length chunk ≡ 512
    → new ≡ with_bytes mid (first + k) 0 chunk → Holds first (k + 1) bytes old new
holds_next first k size bytes chunk old mid new so_far is within chunk_is whole written = record {
  each = λ j low. elim (cases_eq j k) [
    | inl last ↦ ap (λ i. page new (first + i)) last ∙ ap (λ (c : Image). page c (first + k)) written ∙ page-with_bytes mid (first + k) 0 chunk (omega (arith, is.count, within))
        ∙ overwritten_whole (page mid (first + k)) chunk (is.whole (first + k) within) whole ∙ chunk_is ∙ ap (λ i. take 512 (drop (512 * i) bytes)) (sym last)
    | inr earlier ↦ other (first + j) (λ e. omega (arith, e, earlier)) ∙ so_far.each j (omega (arith, low, earlier))
  ];
  outside = record {
    before = λ q low. other q (λ e. omega (arith, low, e)) ∙ so_far.outside.before q low;
    behind = λ q high. other q (λ e. omega (arith, high, e)) ∙ so_far.outside.behind q (omega (arith, high));
  };
}
  where
    other : (q : ℕ) → q ≢ first + k → page new q ≡ page mid q
    other q ne = ap (λ (c : Image). page c q) written ∙ page-with_bytes_other mid (first + k) 0 q chunk ne

pub chunk_of : (bytes : List ℕ) (n : ℕ) → take (n + 512 - n) (drop n bytes) ≡ take 512 (drop n bytes)
chunk_of bytes n = let e : n + 512 - n ≡ 512 = omega arith in ap (λ (k : ℕ). take k (drop n bytes)) e

pub length-chunk : (bytes : List ℕ) (k count : ℕ) → k < count → length bytes ≡ 512 * count → length (take (512 * k + 512 - 512 * k) (drop (512 * k) bytes)) ≡ 512
length-chunk bytes k count within size = omega (arith, length-take (512 * k + 512 - 512 * k) (drop (512 * k) bytes), length-drop (512 * k) bytes)
