-- what stands at the number of a server behind a change
use Rattle.std.specs.Prelude.{Bool, true, false, cond, ◌≢◌, Option, None, Some}
use Rattle.std.specs.declared.cmp.Ordering.{Ordering}
use Rattle.std.specs.declared.cmp.Ordering.TheVariants.{Less, Equal, Greater}
use Rattle.std.specs.Cmp.{nat_cmp_total, eq_by_cmp_equiv}
use Rattle.std.specs.Ordering.{nat_cmp, eq_by_cmp, is_eq}
use Rattle.std.specs.FinMap as map
use Rattle.std.specs.FinMap.{get-insert, get-remove}
use Rattle.std.proofs.Common.{◌≡◌, ℕ, refl, sym, ◌∙◌, ap}
use Rattle.std.proofs.lemmas.Map.Lookups.{exact_unsigned}
use Rattle.alp_session.specs.Maps.{SessionMap}
use Rattle.alp_session.specs.declared.greeted.Greeted.{Greeted}

itself : (n : ℕ) → eq_by_cmp nat_cmp n n ≡ true
itself n = (eq_by_cmp_equiv nat_cmp_total).refl n

other : (m n : ℕ) → m ≢ n → eq_by_cmp nat_cmp m n ≡ false
other m n away = go (nat_cmp m n) refl
  where
    go : (o : Ordering) → nat_cmp m n ≡ o → is_eq o ≡ false
    go Less e = refl
    go Equal e = absurd (away (exact_unsigned m n e))
    go Greater e = refl

pub put_there : (n : ℕ) (m : SessionMap) (g : Greeted) → map.get (map.insert m n g) n ≡ Some g
put_there n m g = get-insert nat_cmp_total m n g n ∙ ap (λ (b : Bool). cond {A = Option Greeted} b (Some g) (map.get m n)) (itself n)

pub put_elsewhere : (n k : ℕ) (m : SessionMap) (g : Greeted) → k ≢ n → map.get (map.insert m n g) k ≡ map.get m k
put_elsewhere n k m g away = get-insert nat_cmp_total m n g k ∙ ap (λ (b : Bool). cond {A = Option Greeted} b (Some g) (map.get m k)) (other k n away)

pub taken_there : (n : ℕ) (m : SessionMap) → map.get (map.remove m n) n ≡ None
taken_there n m = get-remove nat_cmp_total m n n ∙ ap (λ (b : Bool). cond {A = Option Greeted} b None (map.get m n)) (itself n)

pub taken_elsewhere : (n k : ℕ) (m : SessionMap) → k ≢ n → map.get (map.remove m n) k ≡ map.get m k
taken_elsewhere n k m away = get-remove nat_cmp_total m n k ∙ ap (λ (b : Bool). cond {A = Option Greeted} b None (map.get m k)) (other k n away)
