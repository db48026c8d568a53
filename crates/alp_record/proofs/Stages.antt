-- A record before its gate opens.
use Rattle.std.proofs.Common.{◌≡◌, ◌≢◌, ℕ, ◌+◌, ◌-◌, ◌<◌, List, length, take, drop, slice_index, sym, ◌∙◌, ap, arith, length-drop, length-take}
use Rattle.std.proofs.lemmas.List.{take_all, drop_at}
use Rattle.alp_disk.specs.Disk.{Image, page, IsImage, with_bytes, Torn}
use Rattle.alp_base.specs.Crashes.{Follows, After}
use Rattle.alp_disk.specs.Images.{page-with_bytes, page-with_bytes_other}
use Rattle.alp_disk.specs.Runs.{SameOutside, Holds}
use Rattle.alp_disk.proofs.GateLemmas.{overwritten_rest, still_closed}
use Rattle.alp_record.specs.Record.{body_pages, padded, header}
use Rattle.alp_record.specs.Adding.{Behind, Staged}

pub slice_rest : (r p : List ℕ) → r ≡ p → take (length r - 1) (drop 1 r) ≡ drop 1 p
slice_rest r p same = take_all (length r - 1) (drop 1 r) (omega (arith, length-drop 1 r)) ∙ ap (λ (l : List ℕ). drop 1 l) same

pub slice_whole : (r : List ℕ) → length r ≡ 512 → length (take (length r - 1) (drop 1 r)) ≡ 511
slice_whole r whole = omega (arith, whole, length-take (length r - 1) (drop 1 r), length-drop 1 r)

-- the body, and the header behind its gate
pub behind_gate : (at n m : ℕ) (old mid c : Image) → SameOutside (at + 1) n old mid → Torn at 1 m mid c → Behind at (1 + n) old c
behind_gate at n m old mid c same torn = record {
  others = record {
    before = λ q low. torn.others q (λ e. omega (arith, low, e)) ∙ same.before q (omega (arith, low));
    behind = λ q high. torn.others q (λ e. omega (arith, high, e)) ∙ same.behind q (omega (arith, high));
  };
  gate = λ closed. still_closed at m mid c torn (λ one. closed (ap (λ (p : List ℕ). slice_index p 0) (sym (same.before at (omega arith))) ∙ one));
}

pub behind_body : (at n : ℕ) (old c : Image) → SameOutside (at + 1) n old c → Behind at (1 + n) old c
behind_body at n old c same = record {
  others = record { before = λ q low. same.before q (omega (arith, low)); behind = λ q high. same.behind q (omega (arith, high)) };
  gate = λ closed one. closed (ap (λ (p : List ℕ). slice_index p 0) (sym (same.before at (omega arith))) ∙ one);
}

pub after_body : (at n : ℕ) (left : Image → Type 0) (c : Image) → After (SameOutside (at + 1) n) left c → After (Behind at (1 + n)) left c
after_body at n left c (d, was, same) = (d, was, behind_body at n d c same)

pub after_header : (at n m : ℕ) (old mid new : Image → Type 0) → Follows (SameOutside (at + 1) n) old mid → Follows (Torn at 1 m) mid new → (c : Image) → new c → After (Behind at (1 + n)) old c
after_header at n m old mid new body head c left =
    let e = head c left in
    let d = body e.0 e.1 in
    (d.0, d.1, behind_gate at n m d.0 e.0 c d.2 e.2)

module _ (generation at size : ℕ) (body rest : List ℕ) (old mid new : Image) (is : IsImage size mid) (within : at < size) (span : Holds (at + 1) (body_pages (length body)) (padded body) old mid) (rest_is : rest ≡ drop 1 (header generation (length body))) (whole : length rest ≡ 511) (written : new ≡ with_bytes mid at 1 rest) where
  other : (q : ℕ) → q ≢ at → page new q ≡ page mid q
  other q ne = ap (λ (c : Image). page c q) written ∙ page-with_bytes_other mid at 1 q rest ne

  pub staged_is : Staged generation at body new
  staged_is = record {
    head = ap (λ (c : Image). drop 1 (page c at)) written
        ∙ ap (λ (p : List ℕ). drop 1 p) (page-with_bytes mid at 1 rest (omega (arith, is.count, within)) ∙ overwritten_rest (page mid at) rest (omega (arith, is.whole at within, whole)))
        ∙ drop_at (take 1 (page mid at)) rest 1 (omega (arith, length-take 1 (page mid at), is.whole at within)) ∙ rest_is;
    pages = λ k low. other (at + 1 + k) (λ e. omega (arith, e)) ∙ span.each k low;
  }
