-- The last of some new passes.
use Rattle.std.proofs.Common.{◌≡◌, ℕ, zero, suc, List, [], ◌∷◌, ◌++◌, length, Some, None, refl, ap, ◌∙◌}
use Rattle.std.specs.Prelude.{slice_get}
use Rattle.alp_monitor.specs.Passes.{AreFresh, IsHeld, number}
use Rattle.alp_monitor.specs.declared.monitor.Monitor.{Monitor}
use Rattle.alp_monitor.specs.declared.monitor.Pass.{Pass}

module _ {A : Type 0} where
  get_last : (xs : List A) (y : A) → slice_get (xs ++ y ∷ []) (length xs) ≡ Some y
  get_last [] y = refl
  get_last (x ∷ xs) y = get_last xs y

  get_longer : (xs ys : List A) (n : ℕ) (x : A) → slice_get xs n ≡ Some x → slice_get (xs ++ ys) n ≡ Some x
  get_longer [] ys n x e = absurd (let f : None ≡ Some x = e in cc)
  get_longer (z ∷ xs) ys zero x e = e
  get_longer (z ∷ xs) ys (suc n) x e = get_longer xs ys n x e

module _ {S B E : Type 0} (base_of : S → B) (m : Monitor S B E) where
  pub last_fresh : (ps others : List (Pass S B E)) (p : Pass S B E) → AreFresh base_of m ps → ps ≡ others ++ p ∷ [] → IsHeld base_of m (number p) p × AreFresh base_of m others
  last_fresh ps others p fresh is =
      let f = fresh (length others) p (ap (λ l. slice_get l (length others)) is ∙ get_last others p) in (
        record { ready = record { own = f.own; outside = f.outside; number_is = refl }; base = f.base },
        (λ k q e. fresh k q (ap (λ l. slice_get l k) is ∙ get_longer others (p ∷ []) k q e)),
      )
