-- Four passes: as they are taken from a list of new ones, and in the list that goes back.
use Rattle.std.proofs.Common.{◌≡◌, ℕ, zero, suc, ◌+◌, ◌<◌, List, [], ◌∷◌, ◌++◌, length, Some, refl, sym, ap, ◌∙◌, subst, arith, length-append}
use Rattle.std.specs.Prelude.{slice_get}
use mathlib.Core.Option.{some, some-ne-none, some-injective}
use lib.ListN.{get_elem?}
use Rattle.atomic_table.proofs.Lists.{at_longer, at_last}
use Rattle.alp_monitor.specs.Passes.{IsPassOf, IsOutside, IsReady, AreFresh, HasNumber}
use Rattle.alp_monitor.specs.declared.monitor.Monitor.{Monitor}
use Rattle.alp_monitor.specs.declared.monitor.Pass.{Pass}
use Rattle.alp_monitor.proofs.Passes.{elem_from_get, get_from_elem}

module _ {S B E : Type 0} (m : Monitor S B E) where
  pub record AreFour (a b c d : Pass S B E) (left : List (Pass S B E)) : Type 0 where
    pub first : IsReady m 0 a
    pub second : IsReady m 1 b
    pub third : IsReady m 2 c
    pub fourth : IsReady m 3 d
    pub none : left ≡ []

module _ {S B E : Type 0} (base_of : S → B) (m : Monitor S B E) where
  -- the last of some new passes, and the others
  last_fresh : (ps others : List (Pass S B E)) (p : Pass S B E) (n : ℕ) → AreFresh base_of m ps → length ps ≡ n + 1 → ps ≡ others ++ p ∷ [] → IsReady m n p × AreFresh base_of m others × (length others ≡ n)
  last_fresh ps others p n fresh long is =
      let len : length others ≡ n = omega (arith, ap length is, length-append others (p ∷ [])) in
      let f = fresh n p (get_from_elem ps n p (ap (λ l. get_elem? l n) is ∙ at_last others p n len)) in (
        record { own = f.own; outside = f.outside; number_is = f.number },
        (λ k q e. fresh k q (get_from_elem ps k q (ap (λ l. get_elem? l k) is ∙ at_longer others (p ∷ []) k q (elem_from_get others k q e)))),
        len,
      )

  pub four_fresh : (ps p3 p2 p1 p0 : List (Pass S B E)) (a b c d : Pass S B E) → AreFresh base_of m ps → length ps ≡ 4 → ps ≡ p3 ++ d ∷ [] → p3 ≡ p2 ++ c ∷ [] → p2 ≡ p1 ++ b ∷ [] → p1 ≡ p0 ++ a ∷ [] → AreFour m a b c d p0
  four_fresh ps p3 p2 p1 p0 a b c d fresh long is3 is2 is1 is0 =
      let t3 = last_fresh ps p3 d 3 fresh long is3 in let t2 = last_fresh p3 p2 c 2 t3.1 t3.2 is2 in let t1 = last_fresh p2 p1 b 1 t2.1 t2.2 is1 in let t0 = last_fresh p1 p0 a 0 t1.1 t1.2 is0 in
      record { first = t0.0; second = t1.0; third = t2.0; fourth = t3.0; none = empty p0 t0.2 }
    where
      empty : (l : List (Pass S B E)) → length l ≡ 0 → l ≡ []
      empty [] e = refl
      empty (x ∷ xs) e = absurd (omega arith)

module _ {S B E : Type 0} (m : Monitor S B E) where
  pub own_four : (a b c d : Pass S B E) → IsReady m 0 a → IsReady m 1 b → IsReady m 2 c → IsReady m 3 d → (i : ℕ) (p : Pass S B E) → slice_get (a ∷ b ∷ c ∷ d ∷ []) i ≡ Some p → IsPassOf m p × IsOutside p
  own_four a b c d ra rb rc rd i p e = of i p (elem_from_get (a ∷ b ∷ c ∷ d ∷ []) i p e)
    where
      both : (q r : Pass S B E) (k : ℕ) → IsReady m k q → q ≡ r → IsPassOf m r × IsOutside r
      both q r k ready same = subst (λ (x : Pass S B E). IsPassOf m x × IsOutside x) same (ready.own, ready.outside)

      of : (i : ℕ) (p : Pass S B E) → get_elem? (a ∷ b ∷ c ∷ d ∷ []) i ≡ some p → IsPassOf m p × IsOutside p
      of zero p e = both a p 0 ra (some-injective a p e)
      of (suc zero) p e = both b p 1 rb (some-injective b p e)
      of (suc (suc zero)) p e = both c p 2 rc (some-injective c p e)
      of (suc (suc (suc zero))) p e = both d p 3 rd (some-injective d p e)
      of (suc (suc (suc (suc i)))) p e = absurd (some-ne-none p (sym e))

  pub all_four : (a b c d : Pass S B E) → IsReady m 0 a → IsReady m 1 b → IsReady m 2 c → IsReady m 3 d → (k : ℕ) → k < 4 → HasNumber (a ∷ b ∷ c ∷ d ∷ []) k
  all_four a b c d ra rb rc rd zero l = (0, a, refl, ra.number_is)
  all_four a b c d ra rb rc rd (suc zero) l = (1, b, refl, rb.number_is)
  all_four a b c d ra rb rc rd (suc (suc zero)) l = (2, c, refl, rc.number_is)
  all_four a b c d ra rb rc rd (suc (suc (suc zero))) l = (3, d, refl, rd.number_is)
  all_four a b c d ra rb rc rd (suc (suc (suc (suc k)))) l = absurd (omega arith)

module _ {A : Type 0} where
  pub pushed_four : (l0 l1 l2 l3 l4 : List A) (a b c d : A) → l0 ≡ [] → l1 ≡ l0 ++ a ∷ [] → l2 ≡ l1 ++ b ∷ [] → l3 ≡ l2 ++ c ∷ [] → l4 ≡ l3 ++ d ∷ [] → l4 ≡ a ∷ b ∷ c ∷ d ∷ []
  pushed_four l0 l1 l2 l3 l4 a b c d e0 e1 e2 e3 e4 = e4 ∙ ap (λ l. l ++ d ∷ []) (e3 ∙ ap (λ l. l ++ c ∷ []) (e2 ∙ ap (λ l. l ++ b ∷ []) (e1 ∙ ap (λ l. l ++ a ∷ []) e0)))
