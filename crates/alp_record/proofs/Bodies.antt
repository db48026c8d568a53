-- Bodies in pages.
use Rattle.std.proofs.Common.{◌≡◌, ◌↔◌, inl, inr, ℕ, ◌+◌, ◌-◌, ◌*◌, ◌/◌, ◌<◌, ◌≤◌, Bool, true, false, List, ◌++◌, length, take, drop, replicate, IsTrue, nat_eq, refl, sym, ◌∙◌, ap, subst, arith, length-append, length-drop}
use Rattle.std.specs.Prelude.{OnOk, Result, Ok, Err}
use Rattle.std.specs.Cmp.Lexicographic.{pointwise, same_text, other_text}
use Rattle.std.proofs.lemmas.List.{length-replicate, length-take-le, take-append-drop, take_all, take-take, take-append-le, drop-append-le, drop-drop, drop-take, drop_at, take_rest, take-replicate}
use Rattle.std.proofs.lemmas.Bool.{cases_lt}
use Rattle.alp_base.specs.Pages.{page_of, zero_page}
use Rattle.alp_disk.specs.Disk.{Image, page, IsImage, with_bytes}
use Rattle.alp_disk.specs.Runs.{Holds}
use Rattle.alp_disk.proofs.RunLemmas.{same_at_first, holds_next}
use Rattle.alp_record.specs.Record.{body_pages, padded, Hold}

pub on_ok : {T E : Type 0} (r : Result T E) (P Q : Type 0) → (P → Q) → OnOk r P → OnOk r Q
on_ok (Ok a) P Q f p = f p
on_ok (Err e) P Q f p = tt

-- ---- the rest of a body, shorter than a page

one_page : (n : ℕ) → 0 < n → n < 512 → body_pages n ≡ 1
one_page n some small = omega (arith, some, small)

short_padded : (rest : List ℕ) → 0 < length rest → length rest < 512 → padded rest ≡ page_of rest
unfolding padded
short_padded rest some small = ap (λ (n : ℕ). rest ++ replicate (512 * n - length rest) 0) (one_page (length rest) some small)

length_page : (rest : List ℕ) → length rest < 512 → length (page_of rest) ≡ 512
length_page rest small = omega (arith, length-append rest (replicate (512 - length rest) 0), length-replicate {A = ℕ} (512 - length rest) 0, small)

pub rest_written : (at size : ℕ) (rest : List ℕ) (old new : Image) → IsImage size old → at < size → 0 < length rest → length rest < 512 → new ≡ with_bytes old at 0 (page_of rest)
    → Holds at (body_pages (length rest)) (padded rest) old new
rest_written at size rest old new is within some small written =
    let here : at ≡ at + 0 = omega arith in
    let none : Holds at 0 (padded rest) old old = record { each = λ k low. absurd (omega (arith, low)); outside = same_at_first at 0 old } in
    let chunk : page_of rest ≡ take 512 (drop (512 * 0) (padded rest)) = sym (ap (λ (l : List ℕ). take 512 l) (short_padded rest some small) ∙ take_all 512 (page_of rest) (omega (arith, length_page rest small))) in
    let one : Holds at (0 + 1) (padded rest) old new = holds_next at 0 size (padded rest) (page_of rest) old old new none is (omega (arith, within)) chunk (length_page rest small) (subst (λ k. new ≡ with_bytes old k 0 (page_of rest)) here written) in
    subst (λ n. Holds at n (padded rest) old new) (sym (one_page (length rest) some small)) one

-- ---- the whole pages of a body, and the rest

pages_split : (n whole : ℕ) → whole ≡ n / 512 → body_pages n ≡ whole + body_pages (n - 512 * whole)
pages_split n whole is = omega (arith, is)

front_chunk : (body zeros : List ℕ) (k n : ℕ) → k < n → 512 * n ≤ length body → take 512 (drop (512 * k) (take (512 * n) body)) ≡ take 512 (drop (512 * k) (body ++ zeros))
front_chunk body zeros k n early fits =
    let m : ℕ = 512 * n - 512 * k in
    let split : 512 * n ≡ 512 * k + m = omega (arith, early) in
    ap (λ (j : ℕ). take 512 (drop (512 * k) (take j body))) split
    ∙ ap (λ (l : List ℕ). take 512 l) (drop-take (512 * k) m body)
    ∙ take-take 512 m (drop (512 * k) body) (omega (arith, early))
    ∙ sym (ap (λ (l : List ℕ). take 512 l) (drop-append-le (512 * k) body zeros (omega (arith, early, fits))) ∙ take-append-le 512 (drop (512 * k) body) zeros (omega (arith, early, fits, length-drop (512 * k) body)))

rest_padded : (body : List ℕ) (whole : ℕ) → whole ≡ length body / 512 → drop (512 * whole) (padded body) ≡ padded (drop (512 * whole) body)
unfolding padded
rest_padded body whole is =
    let long : length (drop (512 * whole) body) ≡ length body - 512 * whole = length-drop (512 * whole) body in
    let zeros : 512 * body_pages (length body) - length body ≡ 512 * body_pages (length (drop (512 * whole) body)) - length (drop (512 * whole) body) = omega (arith, is, long) in
    drop-append-le (512 * whole) body (replicate (512 * body_pages (length body) - length body) 0) (omega (arith, is)) ∙ ap (λ (n : ℕ). drop (512 * whole) body ++ replicate n 0) zeros

early_chunk : (body : List ℕ) (k whole : ℕ) → whole ≡ length body / 512 → k < whole → take 512 (drop (512 * k) (take (512 * whole) body)) ≡ take 512 (drop (512 * k) (padded body))
unfolding padded
early_chunk body k whole is early = front_chunk body (replicate (512 * body_pages (length body) - length body) 0) k whole early (omega (arith, is))

late_chunk : (body : List ℕ) (j whole : ℕ) → whole ≡ length body / 512 → take 512 (drop (512 * j) (padded (drop (512 * whole) body))) ≡ take 512 (drop (512 * (whole + j)) (padded body))
late_chunk body j whole is =
    let n : 512 * whole + 512 * j ≡ 512 * (whole + j) = omega arith in
    ap (λ (l : List ℕ). take 512 (drop (512 * j) l)) (sym (rest_padded body whole is)) ∙ ap (λ (l : List ℕ). take 512 l) (drop-drop (512 * j) (512 * whole) (padded body)) ∙ ap (λ (k : ℕ). take 512 (drop k (padded body))) n

pub body_written : (first whole : ℕ) (body : List ℕ) (old mid new : Image) → whole ≡ length body / 512 → Holds first whole (take (512 * whole) body) old mid
    → Holds (first + whole) (body_pages (length (drop (512 * whole) body))) (padded (drop (512 * whole) body)) mid new → Holds first (body_pages (length body)) (padded body) old new
body_written first whole body old mid new is front rest =
    let long : length (drop (512 * whole) body) ≡ length body - 512 * whole = length-drop (512 * whole) body in
    let split = pages_split (length body) whole is in
    record {
      each = λ k low. elim (cases_lt k whole) [
        | inl early ↦ rest.outside.before (first + k) (omega (arith, early)) ∙ front.each k early ∙ early_chunk body k whole is early
        | inr late ↦
            let j : ℕ = k - whole in
            let there : k ≡ whole + j = omega (arith, late) in
            ap (λ (i : ℕ). page new i) (omega (arith, late)) ∙ rest.each j (omega (arith, low, late, split, long)) ∙ late_chunk body j whole is ∙ ap (λ (i : ℕ). take 512 (drop (512 * i) (padded body))) (sym there)
      ];
      outside = record {
        before = λ q low. rest.outside.before q (omega (arith, low)) ∙ front.outside.before q low;
        behind = λ q high. rest.outside.behind q (omega (arith, high, split, long)) ∙ front.outside.behind q (omega (arith, high, split));
      };
    }

-- ---- what is read back

pub zero_test : (bytes p : List ℕ) (r : Bool) → p ≡ zero_page → length bytes ≤ 512 → r ≡ pointwise nat_eq bytes (take (length bytes) p) → IsTrue r ↔ (bytes ≡ replicate (length bytes) 0)
zero_test bytes p true is small e = (λ yes. same_text bytes (take (length bytes) p) e ∙ ap (λ (l : List ℕ). take (length bytes) l) is ∙ take-replicate (length bytes) 512 0 small, λ same. refl)
zero_test bytes p false is small e = (λ no. absurd cc, λ same. absurd (other_text bytes (take (length bytes) p) e (same ∙ sym (ap (λ (l : List ℕ). take (length bytes) l) is ∙ take-replicate (length bytes) 512 0 small))))

abbrev tail_of : List ℕ → ℕ → List ℕ
tail_of bytes size = take (length bytes - size) (drop size bytes)

pub zeros_stand : (d bytes body : List ℕ) (size : ℕ) → d ≡ bytes → length body ≡ size → bytes ≡ padded body → tail_of d size ≡ replicate (length (tail_of d size)) 0
unfolding padded
zeros_stand d bytes body size same long is =
    let n : ℕ = 512 * body_pages (length body) - length body in
    let tail : tail_of d size ≡ replicate n 0 = take_rest d size ∙ ap (λ (l : List ℕ). drop size l) (same ∙ is) ∙ drop_at body (replicate n 0) size long in
    tail ∙ ap (λ (k : ℕ). replicate k 0) (sym (ap length tail ∙ length-replicate {A = ℕ} n 0))

pub unpadded_is : (d bytes : List ℕ) (size : ℕ) → d ≡ bytes → length bytes ≡ 512 * body_pages size → tail_of d size ≡ replicate (length (tail_of d size)) 0 → (length (take size bytes) ≡ size) × (bytes ≡ padded (take size bytes))
unfolding padded
unpadded_is d bytes size same long zeros =
    let front : length (take size bytes) ≡ size = length-take-le size bytes (omega (arith, long)) in
    let rest : drop size d ≡ replicate (length (tail_of d size)) 0 = sym (take_rest d size) ∙ zeros in
    let count : length (tail_of d size) ≡ 512 * body_pages (length (take size bytes)) - length (take size bytes) = omega (arith, ap length (take_rest d size), length-drop size d, ap length same, long, front) in
    (front, sym (take-append-drop size bytes) ∙ ap (λ (l : List ℕ). take size bytes ++ drop size l) (sym same) ∙ ap (λ (l : List ℕ). take size bytes ++ l) (rest ∙ ap (λ (k : ℕ). replicate k 0) count))

-- one more page is read
pub hold_more : (image : Image) (first k size : ℕ) (bytes p : List ℕ) → IsImage size image → first + k < size → Hold image first k bytes → length bytes ≡ 512 * k → p ≡ page image (first + k) → Hold image first (k + 1) (bytes ++ p)
hold_more image first k size bytes p is within so_far long read j low = elim (cases_lt j k) [
  | inl early ↦ so_far j early ∙ sym (ap (λ (l : List ℕ). take 512 l) (drop-append-le (512 * j) bytes p (omega (arith, early, long))) ∙ take-append-le 512 (drop (512 * j) bytes) p (omega (arith, early, long, length-drop (512 * j) bytes)))
  | inr last ↦
      let e : j ≡ k = omega (arith, low, last) in
      let whole : length p ≡ 512 = ap length read ∙ is.whole (first + k) within in
      ap (λ (i : ℕ). page image (first + i)) e ∙ sym read ∙ sym (ap (λ (i : ℕ). take 512 (drop (512 * i) (bytes ++ p))) e ∙ ap (λ (l : List ℕ). take 512 l) (drop_at bytes p (512 * k) long) ∙ take_all 512 p (omega (arith, whole)))
]
