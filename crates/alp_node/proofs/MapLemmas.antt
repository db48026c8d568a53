-- sessions at their clients' numbers, and transactions by their ids
use Rattle.std.specs.Prelude.{cond, Bool, true, false, ◌==◌, Option, None, Some, slice_get, slice_set, is_some}
use Rattle.std.specs.Option.{option_and_then}
use Rattle.std.specs.FinMap as map
use Rattle.std.specs.FinMap.{get-insert, get-remove, len-insert, len-remove, same_map}
use Rattle.std.specs.Ordering.{eq_by_cmp}
use Rattle.std.specs.Cmp.{eq_by_cmp_equiv}
use Rattle.std.proofs.Common.{◌≡◌, ℕ, zero, suc, ◌+◌, ◌-◌, ◌<◌, ◌≤◌, List, [], ◌∷◌, length, refl, sym, ◌∙◌, ap, subst, arith, eq-eqb}
use Rattle.std.proofs.lemmas.Bool.{eqb-true}
use Rattle.alp_base.specs.declared.ids.TransId.{TransId}
use Rattle.alp_base.specs.Orders.{trans_cmp, transactions_total, exact_transactions}
use Rattle.alp_locks.proofs.HeldLemmas.{tied}
use Rattle.alp_journal.specs.Ids.{same_trans}
use Rattle.alp_journal.proofs.IdLemmas.{same_trans-itself, same_trans-true}
use Rattle.alp_node.specs.Sessions.{session_at, with_session}
use Rattle.alp_journal.specs.Desk.{Session}
use Rattle.alp_node.specs.declared.sessions.Sessions.{Sessions}

-- ---- sessions

-- what stands at a place of a list in which one is set
pub at_same : {X : Type 0} (xs : List X) (i : ℕ) (y : X) → i < length xs → slice_get (slice_set xs i y) i ≡ Some y
at_same [] i y h = absurd (omega arith)
at_same (x ∷ xs) zero y h = refl
at_same (x ∷ xs) (suc i) y h = at_same xs i y (omega arith)

pub at_other : {X : Type 0} (xs : List X) (i j : ℕ) (y : X) → (j ≡ i → ⊥) → slice_get (slice_set xs i y) j ≡ slice_get xs j
at_other [] zero j y away = refl
at_other [] (suc i) j y away = refl
at_other (x ∷ xs) zero zero y away = absurd (away refl)
at_other (x ∷ xs) zero (suc j) y away = refl
at_other (x ∷ xs) (suc i) zero y away = refl
at_other (x ∷ xs) (suc i) (suc j) y away = at_other xs i j y (λ e. away (ap suc e))

at_set : {X : Type 0} (xs : List X) (i j : ℕ) (y : X) → i < length xs → slice_get (slice_set xs i y) j ≡ cond {A = Option X} (j == i) (Some y) (slice_get xs j)
at_set {X} xs i j y h = go (j == i) refl
  where
    go : (b : Bool) → (j == i) ≡ b → slice_get (slice_set xs i y) j ≡ cond {A = Option X} b (Some y) (slice_get xs j)
    go true e = ap (slice_get (slice_set xs i y)) (eqb-true j i e) ∙ at_same xs i y h
    go false e = at_other xs i j y (λ same. let wrong : true ≡ false = sym (eq-eqb j i same) ∙ e in cc)

at_cond : (b : Bool) (w : Session) (x : Option (Option Session)) → option_and_then (λ z. z) (cond {A = Option (Option Session)} b (Some (Some w)) x) ≡ cond {A = Option Session} b (Some w) (option_and_then (λ z. z) x)
at_cond true w x = refl
at_cond false w x = refl

pub session_kept : (s : Sessions) (client : ℕ) (w : Session) (c : ℕ) → length s.places ≡ 17 → client ≤ 16 → session_at (with_session s client w) c ≡ cond {A = Option Session} (c == client) (Some w) (session_at s c)
session_kept s client w c full le =
    ap (option_and_then (λ z. z)) (at_set s.places client c (Some w) (omega (arith, full, le))) ∙ at_cond (c == client) w (slice_get s.places c)

pub length_set : {X : Type 0} (xs : List X) (i : ℕ) (y : X) → length (slice_set xs i y) ≡ length xs
length_set [] zero y = refl
length_set [] (suc i) y = refl
length_set (x ∷ xs) zero y = refl
length_set (x ∷ xs) (suc i) y = ap suc (length_set xs i y)

pub places_set : (s : Sessions) (client : ℕ) (w : Session) → length s.places ≡ 17 → length (with_session s client w).places ≡ 17
places_set s client w full = length_set s.places client (Some w) ∙ full

-- ---- transactions

-- two ids are the same where the order ties them
pub tied_same : (t u : TransId) → eq_by_cmp trans_cmp t u ≡ same_trans t u
tied_same t u = go (eq_by_cmp trans_cmp t u) (same_trans t u) refl refl
  where
    go : (a b : Bool) → eq_by_cmp trans_cmp t u ≡ a → same_trans t u ≡ b → a ≡ b
    go true true p q = refl
    go false false p q = refl
    go true false p q =
        let one : t ≡ u = exact_transactions t u (tied (trans_cmp t u) p) in
        let wrong : true ≡ false = sym (ap (same_trans t) (sym one) ∙ same_trans-itself t) ∙ q in
        cc
    go false true p q =
        let one : t ≡ u = same_trans-true t u q in
        let wrong : true ≡ false = sym (ap (eq_by_cmp trans_cmp t) (sym one) ∙ (eq_by_cmp_equiv transactions_total).refl t) ∙ p in
        cc

pub get_put : {X : Type 0} (m : map.FinMap trans_cmp X) (t : TransId) (x : X) (u : TransId) → map.get (map.insert m t x) u ≡ cond {A = Option X} (same_trans u t) (Some x) (map.get m u)
get_put m t x u = get-insert transactions_total m t x u ∙ ap (λ (b : Bool). cond {A = Option _} b (Some x) (map.get m u)) (tied_same u t)

pub get_gone : {X : Type 0} (m : map.FinMap trans_cmp X) (t u : TransId) → map.get (map.remove m t) u ≡ cond {A = Option X} (same_trans u t) None (map.get m u)
get_gone m t u = get-remove transactions_total m t u ∙ ap (λ (b : Bool). cond {A = Option _} b None (map.get m u)) (tied_same u t)

cond_twice : {A : Type 0} (b : Bool) (x y z : A) → cond b x (cond b y z) ≡ cond b x z
cond_twice true x y z = refl
cond_twice false x y z = refl

-- what was put before does not count
pub put_twice : {X : Type 0} (m : map.FinMap trans_cmp X) (t : TransId) (x y : X) → map.insert (map.insert m t x) t y ≡ map.insert m t y
put_twice m t x y = same_map transactions_total exact_transactions _ _ (λ u.
    get_put (map.insert m t x) t y u ∙ ap (cond {A = Option _} (same_trans u t) (Some y)) (get_put m t x u) ∙ cond_twice {A = Option _} (same_trans u t) (Some y) (Some x) (map.get m u) ∙ sym (get_put m t y u))

-- what was new goes without a trace
pub put_gone : {X : Type 0} (m : map.FinMap trans_cmp X) (t : TransId) (x : X) → map.get m t ≡ None → map.remove (map.insert m t x) t ≡ m
put_gone m t x none = same_map transactions_total exact_transactions _ _ (λ u. get_gone (map.insert m t x) t u ∙ go u (same_trans u t) refl)
  where
    go : (u : TransId) (b : Bool) → same_trans u t ≡ b → cond {A = Option _} b None (map.get (map.insert m t x) u) ≡ map.get m u
    go u true e = sym (ap (map.get m) (same_trans-true u t e) ∙ none)
    go u false e = get_put m t x u ∙ ap (λ (b : Bool). cond {A = Option _} b (Some x) (map.get m u)) e

pub put_there : {X : Type 0} (m : map.FinMap trans_cmp X) (t : TransId) (x : X) → map.get (map.insert m t x) t ≡ Some x
put_there m t x = get_put m t x t ∙ ap (λ (b : Bool). cond {A = Option _} b (Some x) (map.get m t)) (same_trans-itself t)

-- ---- how many

pub put_length : {X : Type 0} (m : map.FinMap trans_cmp X) (t : TransId) (x : X) → is_some (map.get m t) ≡ true → map.len (map.insert m t x) ≡ map.len m
put_length m t x there = len-insert transactions_total m t x ∙ ap (λ (b : Bool). cond b (map.len m) (map.len m + 1)) there

most_of : (b : Bool) (n : ℕ) → cond b n (n + 1) ≤ n + 1
most_of true n = omega arith
most_of false n = omega arith

pub put_most : {X : Type 0} (m : map.FinMap trans_cmp X) (t : TransId) (x : X) → map.len (map.insert m t x) ≤ map.len m + 1
put_most m t x = subst (λ (n : ℕ). n ≤ map.len m + 1) (sym (len-insert transactions_total m t x)) (most_of (is_some (map.get m t)) (map.len m))

fewer_of : (b : Bool) (n : ℕ) → cond b (n - 1) n ≤ n
fewer_of true n = omega arith
fewer_of false n = omega arith

pub gone_length : {X : Type 0} (m : map.FinMap trans_cmp X) (t : TransId) → map.len (map.remove m t) ≤ map.len m
gone_length m t = subst (λ (n : ℕ). n ≤ map.len m) (sym (len-remove transactions_total m t)) (fewer_of (is_some (map.get m t)) (map.len m))
