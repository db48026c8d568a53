-- courses at their ids, and what became of transactions at their counters
use Rattle.std.specs.Prelude.{cond, Bool, true, false, ◌==◌, ◌&&◌, nat_lt, Option, None, Some, slice_get, slice_set}
use Rattle.std.specs.FinMap as map
use Rattle.std.specs.FinMap.{get-insert, get-remove}
use Rattle.std.specs.declared.cmp.Ordering.{Ordering}
use Rattle.std.specs.declared.cmp.Ordering.TheVariants.{Less, Equal, Greater}
use Rattle.std.specs.Ordering.{eq_by_cmp, is_eq}
use Rattle.std.specs.Cmp.{eq_by_cmp_equiv}
use Rattle.std.proofs.Common.{◌≡◌, ℕ, zero, suc, ◌+◌, ◌-◌, ◌<◌, ◌≤◌, List, [], ◌∷◌, ◌++◌, length, refl, sym, ◌∙◌, ap, subst, arith, eq-eqb}
use Rattle.std.proofs.lemmas.Bool.{eqb-true, and_parts, ltb-true, ltb-false}
use Rattle.std.proofs.lemmas.Option.{slice_get_past, slice_get_within}
use Rattle.alp_base.specs.declared.ids.TransId.{TransId}
use Rattle.alp_base.specs.Orders.{trans_cmp, transactions_total, exact_transactions}
use Rattle.alp_journal.specs.Ids.{same_trans}
use Rattle.alp_journal.proofs.IdLemmas.{same_trans-itself, same_trans-true}
use Rattle.alp_coord.specs.declared.course.Course.{Course}
use Rattle.alp_coord.specs.Courses.{CourseMap, put_changed, changed_at}

-- ---- courses

equal_of : (r : Ordering) → is_eq r ≡ true → r ≡ Equal
equal_of Less h = cc
equal_of Equal h = refl
equal_of Greater h = cc

-- two ids are the same where the order ties them
pub tied_same : (t u : TransId) → eq_by_cmp trans_cmp u t ≡ same_trans t u
tied_same t u = go (eq_by_cmp trans_cmp u t) (same_trans t u) refl refl
  where
    go : (a b : Bool) → eq_by_cmp trans_cmp u t ≡ a → same_trans t u ≡ b → a ≡ b
    go true true p q = refl
    go false false p q = refl
    go true false p q =
        let one : u ≡ t = exact_transactions u t (equal_of (trans_cmp u t) p) in
        let wrong : true ≡ false = sym (ap (same_trans t) one ∙ same_trans-itself t) ∙ q in
        cc
    go false true p q =
        let one : t ≡ u = same_trans-true t u q in
        let wrong : true ≡ false = sym (ap (eq_by_cmp trans_cmp u) one ∙ (eq_by_cmp_equiv transactions_total).refl u) ∙ p in
        cc

pub get-put : (m : CourseMap) (t : TransId) (c : Course) (u : TransId) → map.get (map.insert m t c) u ≡ cond {A = Option Course} (same_trans t u) (Some c) (map.get m u)
get-put m t c u = get-insert transactions_total m t c u ∙ ap (λ (b : Bool). cond {A = Option Course} b (Some c) (map.get m u)) (tied_same t u)

pub get-gone : (m : CourseMap) (t u : TransId) → map.get (map.remove m t) u ≡ cond {A = Option Course} (same_trans t u) None (map.get m u)
get-gone m t u = get-remove transactions_total m t u ∙ ap (λ (b : Bool). cond {A = Option Course} b None (map.get m u)) (tied_same t u)

pub put-there : (m : CourseMap) (t : TransId) (c : Course) → map.get (map.insert m t c) t ≡ Some c
put-there m t c = get-put m t c t ∙ ap (λ (b : Bool). cond {A = Option Course} b (Some c) (map.get m t)) (same_trans-itself t)

pub gone-there : (m : CourseMap) (t : TransId) → map.get (map.remove m t) t ≡ None
gone-there m t = get-gone m t t ∙ ap (λ (b : Bool). cond {A = Option Course} b None (map.get m t)) (same_trans-itself t)

pub put-elsewhere : (m : CourseMap) (t : TransId) (c : Course) (u : TransId) → same_trans t u ≡ false → map.get (map.insert m t c) u ≡ map.get m u
put-elsewhere m t c u away = get-put m t c u ∙ ap (λ (b : Bool). cond {A = Option Course} b (Some c) (map.get m u)) away

pub gone-elsewhere : (m : CourseMap) (t u : TransId) → same_trans t u ≡ false → map.get (map.remove m t) u ≡ map.get m u
gone-elsewhere m t u away = get-gone m t u ∙ ap (λ (b : Bool). cond {A = Option Course} b None (map.get m u)) away

-- a course goes on
pub changed-there : (f : Course → Course) (m : CourseMap) (t : TransId) (c : Course) → map.get m t ≡ Some c → map.get (changed_at f m t) t ≡ Some (f c)
changed-there f m t c is = ap (λ (x : Option Course). map.get (put_changed f m t x) t) is ∙ put-there m t (f c)

pub changed-elsewhere : (f : Course → Course) (m : CourseMap) (t u : TransId) → same_trans t u ≡ false → map.get (changed_at f m t) u ≡ map.get m u
changed-elsewhere f m t u away = go (map.get m t)
  where
    go : (x : Option Course) → map.get (put_changed f m t x) u ≡ map.get m u
    go None = refl
    go (Some c) = put-elsewhere m t (f c) u away

-- ---- places of a list

module _ {X : Type 0} where
  pub at_same : (xs : List X) (i : ℕ) (y : X) → i < length xs → slice_get (slice_set xs i y) i ≡ Some y
  at_same [] i y h = absurd (omega arith)
  at_same (x ∷ xs) zero y h = refl
  at_same (x ∷ xs) (suc i) y h = at_same xs i y (omega arith)

  pub at_other : (xs : List X) (i j : ℕ) (y : X) → (j ≡ i → ⊥) → slice_get (slice_set xs i y) j ≡ slice_get xs j
  at_other [] zero j y away = refl
  at_other [] (suc i) j y away = refl
  at_other (x ∷ xs) zero zero y away = absurd (away refl)
  at_other (x ∷ xs) zero (suc j) y away = refl
  at_other (x ∷ xs) (suc i) zero y away = refl
  at_other (x ∷ xs) (suc i) (suc j) y away = at_other xs i j y (λ e. away (ap suc e))

  pub length_set : (xs : List X) (i : ℕ) (y : X) → length (slice_set xs i y) ≡ length xs
  length_set [] zero y = refl
  length_set [] (suc i) y = refl
  length_set (x ∷ xs) zero y = refl
  length_set (x ∷ xs) (suc i) y = ap suc (length_set xs i y)

  -- one more at the end
  pub at_last : (xs : List X) (y : X) → slice_get (xs ++ y ∷ []) (length xs) ≡ Some y
  at_last [] y = refl
  at_last (x ∷ xs) y = at_last xs y

  pub at_before : (xs : List X) (y : X) (i : ℕ) → (i ≡ length xs → ⊥) → slice_get (xs ++ y ∷ []) i ≡ slice_get xs i
  at_before [] y zero away = absurd (away refl)
  at_before [] y (suc i) away = refl
  at_before (x ∷ xs) y zero away = refl
  at_before (x ∷ xs) y (suc i) away = at_before xs y i (λ e. away (ap suc e))

-- the last of some
pub record IsSplit {X : Type 0} (xs : List X) : Type 0 where
  pub before : List X
  pub last : X
  pub is : xs ≡ before ++ last ∷ []
  pub count : length before ≡ length xs - 1

pub split_last : {X : Type 0} (xs : List X) → 0 < length xs → IsSplit xs
split_last [] h = absurd (omega (arith, h))
split_last {X} (x ∷ []) h = record { before = []; last = x; is = refl; count = refl }
split_last {X} (x ∷ y ∷ ys) h =
    let r = split_last (y ∷ ys) (omega arith) in
    record { before = x ∷ r.before; last = r.last; is = ap (λ (zs : List X). x ∷ zs) r.is; count = omega (arith, r.count) }

-- two ids of one server and epoch are told apart by their counters
pub apart : (t u : TransId) → t.server ≡ u.server → t.epoch ≡ u.epoch → same_trans t u ≡ false → u.counter ≡ t.counter → ⊥
apart t u server epoch away same =
    let wrong : true ≡ false = sym (λ i. eq-eqb t.server u.server server i && eq-eqb t.epoch u.epoch epoch i && eq-eqb t.counter u.counter (sym same) i) ∙ away in
    cc
