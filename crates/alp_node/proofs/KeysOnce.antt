-- each key of a map is among its keys once
use Rattle.std.specs.Prelude.{Bool, true, false, ◌||◌, ◌&&◌, map as list_map}
use Rattle.std.specs.List.{list_any}
use Rattle.std.specs.FinMap as map
use Rattle.std.specs.FinMap.{entries_sorted}
use Rattle.std.specs.FinMap.Entries.{is_sorted, below_all}
use Rattle.std.specs.Ordering.{eq_by_cmp, is_lt, is_eq}
use Rattle.std.specs.declared.cmp.Ordering.{Ordering}
use Rattle.std.specs.declared.cmp.Ordering.TheVariants.{Less, Equal, Greater}
use Rattle.std.proofs.Math.Dec.{T}
use Rattle.std.proofs.Common.{◌≡◌, List, [], ◌∷◌, refl}

abbrev pub AreOnce : {K : Type 0} → (K → K → Bool) → List K → Type 0
AreOnce same [] = Unit {0}
AreOnce same (k ∷ ks) = (list_any (same k) ks ≡ false) × AreOnce same ks

left_of : (a b : Bool) → T (a && b) → T a
left_of true b h = tt
left_of false b h = absurd h

right_of : (a b : Bool) → T (a && b) → T b
right_of true b h = h
right_of false b h = absurd h

less_apart : (o : Ordering) → T (is_lt o) → is_eq o ≡ false
less_apart Less h = refl
less_apart Equal h = absurd h
less_apart Greater h = absurd h

module _ {K X : Type 0} (R : K → K → Ordering) where
  abbrev keys_of : List (K × X) → List K
  keys_of es = list_map (λ (e : K × X). e.0) es

  none_later : (k : K) (es : List (K × X)) → T (below_all R k es) → list_any (eq_by_cmp R k) (keys_of es) ≡ false
  none_later k [] h = refl
  none_later k (e ∷ es) h = λ i. less_apart (R k e.0) (left_of (is_lt (R k e.0)) (below_all R k es) h) i || none_later k es (right_of (is_lt (R k e.0)) (below_all R k es) h) i

  sorted_once : (es : List (K × X)) → T (is_sorted R es) → AreOnce (eq_by_cmp R) (keys_of es)
  sorted_once [] h = tt
  sorted_once (e ∷ es) h = (none_later e.0 es (left_of (below_all R e.0 es) (is_sorted R es) h), sorted_once es (right_of (below_all R e.0 es) (is_sorted R es) h))

  pub keys_once : (m : map.FinMap R X) → AreOnce (eq_by_cmp R) (map.keys m)
  keys_once m = sorted_once (map.entries m) (entries_sorted m)
