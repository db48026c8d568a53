-- An area has its records in one way.
use Rattle.std.proofs.Common.{◌≡◌, inl, inr, ℕ, ◌+◌, ◌-◌, ◌*◌, ◌/◌, ◌%◌, ◌<◌, ◌^◌, List, [], ◌∷◌, length, get_or, take, drop, replicate, slice_index, refl, sym, ◌∙◌, ap, subst, arith, length-append}
use Rattle.std.proofs.lemmas.List.{ext_get_or, get_or-take, get_or-drop, take_at, length-replicate}
use Rattle.alp_disk.specs.Disk.{Image, page}
use Rattle.alp_record.specs.Record.{body_pages, padded, header, Hold, next_of, RecordAt, Stand, behind, IsEnd, Records, IsDamaged}
use Rattle.alp_record.proofs.Headers.{one_size, header_gate}

length_padded : (body : List ℕ) → length (padded body) ≡ 512 * body_pages (length body)
unfolding padded
length_padded body =
    let n : ℕ = 512 * body_pages (length body) - length body in
    omega (arith, length-append body (replicate n 0), length-replicate {A = ℕ} n 0)

front_of_padded : (body : List ℕ) → take (length body) (padded body) ≡ body
unfolding padded
front_of_padded body = take_at body (replicate (512 * body_pages (length body) - length body) 0) (length body) refl

-- a byte of a list, by its chunk of 512
by_chunk : (bytes : List ℕ) (i : ℕ) → get_or bytes i 0 ≡ get_or (take 512 (drop (512 * (i / 512)) bytes)) (i % 512) 0
by_chunk bytes i =
    let split : 512 * (i / 512) + i % 512 ≡ i = omega arith in
    ap (λ (k : ℕ). get_or bytes k 0) (sym split) ∙ sym (get_or-drop (512 * (i / 512)) bytes (i % 512) 0) ∙ sym (get_or-take 512 (drop (512 * (i / 512)) bytes) (i % 512) 0 (omega arith))

-- pages hold one list of their length
hold_once : (image : Image) (first n : ℕ) (a b : List ℕ) → Hold image first n a → Hold image first n b → length a ≡ 512 * n → length b ≡ 512 * n → a ≡ b
hold_once image first n a b held_a held_b long_a long_b = ext_get_or 0 a b (long_a ∙ sym long_b) (λ i low.
    let k : i / 512 < n = omega (arith, low, long_a) in
    by_chunk a i ∙ ap (λ (p : List ℕ). get_or p (i % 512) 0) (sym (held_a (i / 512) k) ∙ held_b (i / 512) k) ∙ sym (by_chunk b i))

pub body_once : (image : Image) (generation end at : ℕ) (a b : List ℕ) → RecordAt image generation end at a → RecordAt image generation end at b → a ≡ b
body_once image generation end at a b is_a is_b =
    let long : length a ≡ length b = one_size generation (length a) (length b) is_a.size is_b.size (sym is_a.head ∙ is_b.head) in
    let n : ℕ = body_pages (length a) in
    let same : padded a ≡ padded b = hold_once image (at + 1) n (padded a) (padded b) is_a.pages (subst (λ m. Hold image (at + 1) (body_pages m) (padded b)) (sym long) is_b.pages) (length_padded a) (length_padded b ∙ ap (λ m. 512 * body_pages m) (sym long)) in
    sym (front_of_padded a) ∙ ap (λ (l : List ℕ). take (length a) l) same ∙ ap (λ m. take m (padded b)) long ∙ front_of_padded b

pub no_end : (image : Image) (generation end at : ℕ) (body : List ℕ) → RecordAt image generation end at body → IsEnd image end at → ⊥
no_end image generation end at body is (inl past) = omega (arith, past, is.fits)
no_end image generation end at body is (inr closed) = closed (ap (λ (p : List ℕ). slice_index p 0) is.head ∙ header_gate generation (length body))

once : (image : Image) (generation end at : ℕ) (a b : List (List ℕ)) → Stand image generation end at a → IsEnd image end (behind at a) → Stand image generation end at b → IsEnd image end (behind at b) → a ≡ b
once image generation end at [] [] stand_a end_a stand_b end_b = refl
once image generation end at [] (y ∷ ys) stand_a end_a stand_b end_b = absurd (no_end image generation end at y stand_b.0 end_a)
once image generation end at (x ∷ xs) [] stand_a end_a stand_b end_b = absurd (no_end image generation end at x stand_a.0 end_b)
once image generation end at (x ∷ xs) (y ∷ ys) stand_a end_a stand_b end_b =
    let same : x ≡ y = body_once image generation end at x y stand_a.0 stand_b.0 in
    let rest : xs ≡ ys = once image generation end (next_of at x) xs ys stand_a.1 end_a (subst (λ b. Stand image generation end (next_of at b) ys) (sym same) stand_b.1) (subst (λ b. IsEnd image end (behind (next_of at b) ys)) (sym same) end_b) in
    ap (λ b. b ∷ xs) same ∙ ap (λ bs. y ∷ bs) rest

pub records_once : (image : Image) (generation end at : ℕ) (a b : List (List ℕ)) → Records image generation end at a → Records image generation end at b → a ≡ b
records_once image generation end at a b is_a is_b = once image generation end at a b is_a.stand is_a.ends is_b.stand is_b.ends

-- ---- why an open gate is damage

pub past_area : (image : Image) (generation end at size : ℕ) → at < end → page image at ≡ header generation size → size < 2 ^ 32 → end - at < 1 + body_pages size → IsDamaged image generation end at
past_area image generation end at size inside head small past = record {
  inside = inside;
  open_gate = ap (λ (p : List ℕ). slice_index p 0) head ∙ header_gate generation size;
  none = λ body is.
      let long : size ≡ length body = one_size generation size (length body) small is.size (sym head ∙ is.head) in
      omega (arith, past, is.fits, ap body_pages long);
}

pub bad_padding : (image : Image) (generation end at size : ℕ) (bytes : List ℕ) → at < end → page image at ≡ header generation size → size < 2 ^ 32 → Hold image (at + 1) (body_pages size) bytes → length bytes ≡ 512 * body_pages size
    → ((body : List ℕ) → length body ≡ size → bytes ≡ padded body → ⊥) → IsDamaged image generation end at
bad_padding image generation end at size bytes inside head small held long bad = record {
  inside = inside;
  open_gate = ap (λ (p : List ℕ). slice_index p 0) head ∙ header_gate generation size;
  none = λ body is.
      let same : length body ≡ size = one_size generation (length body) size is.size small (sym is.head ∙ head) in
      bad body same (hold_once image (at + 1) (body_pages size) bytes (padded body) held (subst (λ n. Hold image (at + 1) (body_pages n) (padded body)) same is.pages) long (length_padded body ∙ ap (λ n. 512 * body_pages n) same));
}
