-- Histories that grow: what becomes of their entries, of the turns in them, and of their beginnings.
use Rattle.std.proofs.Common.{◌≡◌, ◌≢◌, ℕ, suc, ◌+◌, ◌<◌, eqb, List, [], ◌∷◌, ◌++◌, length, map, drop, Bool, true, false, refl, sym, ap, ◌∙◌, inl, inr, arith, ne_eqb, eq-eqb}
use Rattle.std.specs.Prelude.{if◌then◌else◌}
use mathlib.Core.Option.{some}
use mathlib.Core.List.{IsPrefix, map-append, append-nil, append_assoc}
use lib.ListN.{get_elem?, length-map}
use lib.Seq.{drop-length, drop-append_seam}
use Rattle.alp_monitor.specs.History.{entries_in, entry_of, turns_from, turns_of, AddsAtMostOne}
use Rattle.alp_monitor.specs.Steps.{made_by, grown}

module _ {E : Type 0} where
  if-append : (b : Bool) (x : ℕ × E) (xs ys : List (ℕ × E)) → (if b then x ∷ (xs ++ ys) else xs ++ ys) ≡ (if b then x ∷ xs else xs) ++ ys
  if-append true x xs ys = refl
  if-append false x xs ys = refl

  pub turns_from-append : (n k : ℕ) (xs ys : List (ℕ × E)) → turns_from n k (xs ++ ys) ≡ turns_from n k xs ++ turns_from (n + length xs) k ys
  turns_from-append n k [] ys = ap (λ m. turns_from m k ys) (omega arith)
  turns_from-append n k (x ∷ xs) ys =
      let e : suc n + length xs ≡ n + suc (length xs) = omega arith in
      let t : turns_from (suc n) k (xs ++ ys) ≡ turns_from (suc n) k xs ++ turns_from (n + suc (length xs)) k ys = turns_from-append (suc n) k xs ys ∙ ap (λ m. turns_from (suc n) k xs ++ turns_from m k ys) e in
      ap (λ l. if eqb x.0 k then (n, x.1) ∷ l else l) t ∙ if-append (eqb x.0 k) (n, x.1) (turns_from (suc n) k xs) (turns_from (n + suc (length xs)) k ys)

  -- one entry more is one turn more of the pass that made it
  pub turns_of-own : (k : ℕ) (h : List (ℕ × E)) (e : E) → turns_of k (h ++ (k, e) ∷ []) ≡ turns_of k h ++ (length h, e) ∷ []
  turns_of-own k h e =
      let n : 0 + length h ≡ length h = omega arith in
      turns_from-append 0 k h ((k, e) ∷ []) ∙ ap (λ (m : ℕ × Bool). turns_of k h ++ (if m.1 then (m.0, e) ∷ [] else [])) (λ i. (n i, eq-eqb k k refl i))

  -- and no turn of any other
  pub turns_of-else : (k i : ℕ) (h : List (ℕ × E)) (e : E) → i ≢ k → turns_of k (h ++ (i, e) ∷ []) ≡ turns_of k h
  turns_of-else k i h e ne =
      turns_from-append 0 k h ((i, e) ∷ []) ∙ (ap (λ (b : Bool). turns_of k h ++ (if b then (0 + length h, e) ∷ [] else [])) (ne_eqb i k ne) ∙ append-nil (turns_of k h))

  -- a pass that no entry names has no turns
  pub turns_from-unnamed : (h : List (ℕ × E)) (n made : ℕ) → ((k : ℕ) (x : ℕ × E) → get_elem? h k ≡ some x → x.0 < made) → turns_from n made h ≡ []
  turns_from-unnamed [] n made named = refl
  turns_from-unnamed (x ∷ xs) n made named =
      let l : x.0 < made = named 0 x refl in
      ap (λ (b : Bool). if b then (n, x.1) ∷ turns_from (suc n) made xs else turns_from (suc n) made xs) (ne_eqb x.0 made (λ e. omega arith)) ∙ turns_from-unnamed xs (suc n) made (λ k y e. named (suc k) y e)

  pub grown-none : (k : ℕ) (h : List (ℕ × E)) (es : List E) → es ≡ entries_in h → grown k h es ≡ h
  grown-none k h es e =
      let n : length h ≡ length es = sym (length-map h entry_of) ∙ ap length (sym e) in
      let d : drop (length h) es ≡ [] = ap (λ m. drop m es) n ∙ drop-length es in
      ap (λ l. h ++ map (made_by k) l) d ∙ append-nil h

  pub grown-one : (k : ℕ) (h : List (ℕ × E)) (es : List E) (x : E) → es ≡ entries_in h ++ x ∷ [] → grown k h es ≡ h ++ (k, x) ∷ []
  grown-one k h es x e =
      let d : drop (length h) es ≡ x ∷ [] = ap (drop (length h)) e ∙ (ap (λ m. drop m (entries_in h ++ x ∷ [])) (sym (length-map h entry_of)) ∙ drop-append_seam (entries_in h) (x ∷ [])) in
      ap (λ l. h ++ map (made_by k) l) d

  pub entries_in-grown : (k : ℕ) (h : List (ℕ × E)) (es : List E) → AddsAtMostOne (entries_in h) es → entries_in (grown k h es) ≡ es
  entries_in-grown k h es (inl e) = ap entries_in (grown-none k h es e) ∙ sym e
  entries_in-grown k h es (inr (small, (x, e))) = ap entries_in (grown-one k h es x e) ∙ (map-append entry_of h ((k, x) ∷ []) ∙ sym e)

  pub prefix_more : (xs ys zs : List (ℕ × E)) → IsPrefix xs ys → IsPrefix xs (ys ++ zs)
  prefix_more xs ys zs p = (p.0 ++ zs, sym (append_assoc xs p.0 zs) ∙ ap (λ l. l ++ zs) p.1)
