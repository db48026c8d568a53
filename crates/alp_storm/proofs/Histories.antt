-- entries of a history and turns of a pass
use Rattle.std.proofs.Common.{◌≡◌, ℕ, zero, suc, ◌+◌, Bool, true, false, eqb, List, [], ◌∷◌, Some, None, refl, sym, ap, ◌∙◌, subst, arith, eq-eqb}
use Rattle.std.specs.Prelude.{slice_get, if◌then◌else◌}
use Rattle.alp_monitor.specs.History.{turns_from, turns_of}
use Rattle.alp_storm.proofs.Lists.{same_some}

module _ {E : Type 0} where
  skip : (b : Bool) (z : ℕ × E) (l : List (ℕ × E)) (j : ℕ) (v : ℕ × E) → slice_get l j ≡ Some v → (k : ℕ) × (slice_get (if b then z ∷ l else l) k ≡ Some v)
  skip true z l j v e = (suc j, e)
  skip false z l j v e = (j, e)

  -- each entry of a history is a turn of the pass that made it
  turn_from : (h : List (ℕ × E)) (n i : ℕ) (x : ℕ × E) → slice_get h i ≡ Some x → (j : ℕ) × (slice_get (turns_from n x.0 h) j ≡ Some (n + i, x.1))
  turn_from [] n i x e = absurd (let g : None ≡ Some x = e in cc)
  turn_from (y ∷ ys) n zero x e =
      let same : y ≡ x = same_some y x e in
      let here : ℕ × E = (n, y.1) in
      let m : n + 0 ≡ n = omega arith in
      (0, ap (λ (b : Bool). slice_get (if b then here ∷ turns_from (suc n) x.0 ys else turns_from (suc n) x.0 ys) 0) (eq-eqb y.0 x.0 (ap (λ z. z.0) same)) ∙ ap (λ (z : ℕ × E). Some z) (λ i. (sym m i, (same i).1)))
  turn_from (y ∷ ys) n (suc i) x e =
      let r = turn_from ys (suc n) i x e in
      let m : suc n + i ≡ n + suc i = omega arith in
      skip (eqb y.0 x.0) (n, y.1) (turns_from (suc n) x.0 ys) r.0 (n + suc i, x.1) (subst (λ k. slice_get (turns_from (suc n) x.0 ys) r.0 ≡ Some (k, x.1)) m r.1)

  pub turn_at : (h : List (ℕ × E)) (i : ℕ) (x : ℕ × E) → slice_get h i ≡ Some x → (j : ℕ) × (slice_get (turns_of x.0 h) j ≡ Some (i, x.1))
  turn_at h i x e = let m : 0 + i ≡ i = omega arith in let r = turn_from h 0 i x e in (r.0, subst (λ k. slice_get (turns_of x.0 h) r.0 ≡ Some (k, x.1)) m r.1)
