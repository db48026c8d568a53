-- What a crash leaves while a gate is closed or opened.
use Rattle.std.proofs.Common.{◌≡◌, ◌≢◌, inl, inr, ℕ, ◌+◌, ◌<◌, List, [], ◌∷◌, ◌++◌, length, get_or, take, drop, slice_index, refl, sym, ◌∙◌, ap, subst, arith, length-drop, length-take}
use Rattle.std.proofs.lemmas.List.{get_or-take, drop_all, drop_at, append-nil}
use Rattle.std.proofs.lemmas.Bool.{cases_eq}
use Rattle.std.specs.Prelude.{OnOk, Result, Ok, Err}
use Rattle.alp_base.specs.Pages.{overwritten}
use Rattle.alp_disk.specs.Disk.{Image, page, IsImage, with_bytes, Torn}
use Rattle.alp_base.specs.Crashes.{Only, After, NoMore}
use Rattle.alp_disk.specs.Images.{page-with_bytes, page-with_bytes_other, is_image-with_bytes}
use Rattle.alp_disk.specs.Gates.{IsClosed}
use Rattle.alp_disk.proofs.GateLemmas.{overwritten_gate, overwritten_rest, opened, still_closed}
use Rattle.alp_anchor.specs.Gate.{Shutting, Closing, Closed, Opening, Opened}

pub is_closed : (n : ℕ) (old new : Image) (at : ℕ) (may_leave : Image → Type 0) → IsImage n old → at < n → Only new may_leave → new ≡ with_bytes old at 0 (0 ∷ []) → Closed at old new may_leave
is_closed n old new at may_leave is within only written = record {
  gate = λ one. let gate_is : slice_index (page new at) 0 ≡ 0 = ap (λ (c : Image). slice_index (page c at) 0) written ∙ ap (λ (p : List ℕ). slice_index p 0) (page-with_bytes old at 0 (0 ∷ []) (omega (arith, is.count)) ∙ overwritten_gate (page old at) 0) in
      absurd (omega (arith, gate_is, one));
  others = λ q other. ap (λ (c : Image). page c q) written ∙ page-with_bytes_other old at 0 q (0 ∷ []) other;
  durable = only;
}

pub on_ok_both : {T E : Type 0} (r : Result T E) (P Q R : Type 0) → (P → Q → R) → OnOk r P → OnOk r Q → OnOk r R
on_ok_both (Ok a) P Q R f p q = f p q
on_ok_both (Err e) P Q R f p q = tt

-- ---- what a crash leaves while a gate is shut

pub shut_before : (at : ℕ) (seen : Image) (old now : Image → Type 0) → Only seen old → NoMore old now → (c : Image) → now c → Shutting at seen c
shut_before at seen old now only same c left = inl (only c (same c left))

pub shut_torn : (at : ℕ) (seen : Image) (old now : Image → Type 0) → Only seen old → NoMore old now → slice_index (page seen at) 0 ≡ 165 → (c : Image) → After (Torn at 0 1) now c → Shutting at seen c
shut_torn at seen old now only same gate c (d, left, torn) = inr (gate, subst (λ (i : Image). Torn at 0 1 i c) (only d (same d left)) torn)

pub left_shut : (at : ℕ) (new : Image) (may_leave : Image → Type 0) → slice_index (page new at) 0 ≢ 165 → Only new may_leave → (old : Image) → new ≡ old → Closed at old new may_leave
left_shut at new may_leave shut only old same = record { gate = shut; others = λ q ne. ap (λ (i : Image). page i q) same; durable = only }

pub closing_of : (at : ℕ) (before : Image → Type 0) (seen : Image) → before seen → (c : Image) → Shutting at seen c → Closing at before seen c
closing_of at before seen as_read c (inl same) = inl (subst before (sym same) as_read)
closing_of at before seen as_read c (inr torn) = inr torn

-- ---- what a crash leaves while a gate is opened

module _ (n : ℕ) (old : Image) (at : ℕ) (full : List ℕ) (is : IsImage n old) (within : at < n) (whole : length full ≡ 512) (gate : slice_index full 0 ≡ 165) (closed : IsClosed (page old at)) where
  full_is : full ≡ 165 ∷ drop 1 full
  full_is = opened full gate

  -- all but the gate is written
  abbrev pub staged : Image
  staged = with_bytes old at 1 (drop 1 full)

  length_rest : length (drop 1 full) ≡ 511
  length_rest = omega (arith, length-drop 1 full, whole)

  staged_rest : drop 1 (page staged at) ≡ drop 1 full
  staged_rest =
      ap (λ (l : List ℕ). drop 1 l) (page-with_bytes old at 1 (drop 1 full) (omega (arith, is.count)) ∙ overwritten_rest (page old at) (drop 1 full) (omega (arith, is.whole at within, length_rest)))
      ∙ drop_at (take 1 (page old at)) (drop 1 full) 1 (omega (arith, length-take 1 (page old at), is.whole at within))

  staged_is : IsImage n staged
  staged_is = is_image-with_bytes n old at 1 (drop 1 full) is within (omega (arith, length_rest))

  torn_stage : (c : Image) → Torn at 1 511 old c → Opening at full old c
  torn_stage c torn = record {
    others = torn.others;
    whole = inl (still_closed at 511 old c torn closed);
  }

  torn_gate : (c : Image) → Torn at 0 1 staged c → Opening at full old c
  torn_gate c torn = record {
    others = λ q other. torn.others q other ∙ page-with_bytes_other old at 1 q (drop 1 full) other;
    whole = elim (cases_eq (slice_index (page c at) 0) 165) [
      | inl one ↦ inr (opened (page c at) one ∙ ap (λ (l : List ℕ). 165 ∷ l) (torn.after ∙ staged_rest) ∙ sym full_is)
      | inr shut ↦ inl shut
    ];
  }

  -- what a crash leaves of the bytes
  pub stage_crash : (before : Image → Type 0) → Only old before → (c : Image) → After (Torn at 1 511) before c → Opening at full old c
  stage_crash before only c (d, left, torn) = torn_stage c (subst (λ (i : Image). Torn at 1 511 i c) (only d left) torn)

  -- and of the gate
  pub gate_crash : (now : Image) (before : Image → Type 0) → now ≡ staged → Only now before → (c : Image) → After (Torn at 0 1) before c → Opening at full old c
  gate_crash now before same only c (d, left, torn) = torn_gate c (subst (λ (i : Image). Torn at 0 1 i c) (only d left ∙ same) torn)

  pub is_opened : (may_leave : Image → Type 0) (now new : Image) → Only new may_leave → now ≡ staged → new ≡ with_bytes now at 0 (165 ∷ []) → Opened at full old new may_leave
  is_opened may_leave now new only same put =
      let written : new ≡ with_bytes staged at 0 (165 ∷ []) = put ∙ ap (λ (i : Image). with_bytes i at 0 (165 ∷ [])) same in
      record {
        whole = ap (λ (c : Image). page c at) written ∙ page-with_bytes staged at 0 (165 ∷ []) (omega (arith, staged_is.count)) ∙ overwritten_gate (page staged at) 165 ∙ ap (λ (l : List ℕ). 165 ∷ l) staged_rest ∙ sym full_is;
        others = λ q other. ap (λ (c : Image). page c q) written ∙ page-with_bytes_other staged at 0 q (165 ∷ []) other ∙ page-with_bytes_other old at 1 q (drop 1 full) other;
        durable = only;
      }
