-- how many bytes all notes of a server take, and how many notes there are
use Rattle.std.specs.Prelude.{Bool, true, false, cond, sum_by, Option, None, Some, map as list_map}
use Rattle.std.specs.FinMap as map
use Rattle.std.specs.FinMap.{get-insert, get-remove, len-entries, same_map}
use Rattle.std.specs.Cmp.Lexicographic.{nat_list_cmp_total}
use Rattle.std.specs.Cmp.{eq_by_cmp_equiv}
use Rattle.std.specs.Ordering.{eq_by_cmp}
use Rattle.std.proofs.lemmas.Map.Lookups.{exact_bytes}
use Rattle.std.proofs.lemmas.Map.Views.{tells_apart}
use Rattle.std.proofs.Common.{◌≡◌, ℕ, suc, ◌+◌, ◌*◌, ◌≤◌, List, [], ◌∷◌, ◌++◌, length, refl, sym, ◌∙◌, ap, subst, arith, inl, inr, ◌⊎◌}
use Rattle.alp_base.specs.Notes.{Notes, text_cmp}
use Rattle.alp_base.specs.declared.ids.JoinNo.{JoinNo}
use Rattle.alp_base.specs.declared.ids.TransId.{TransId}
use Rattle.alp_fields.specs.ClockNote.{clock_name}
use Rattle.alp_fields.specs.ReadyNote.{ready_name}
use Rattle.alp_fields.specs.DecisionNote.{decision_name}
use Rattle.alp_files.proofs.SumLemmas.{sum_of, weight_at, sum-insert, sum_of-nothing}
use Rattle.std.proofs.lemmas.List.Sums.{sum_by-cons}
use Rattle.alp_vault.specs.Volumes.{put_bytes, live_bytes}

-- ---- what is bounded name by name is bounded as a whole

-- one of these names, and no more than is said of it
abbrev pub HasBound : List (List ℕ × ℕ) → List ℕ → ℕ → Type 0
HasBound [] name n = ⊥
HasBound (x ∷ xs) name n = ((name ≡ x.0) × (n ≤ x.1)) ⊎ HasBound xs name n

abbrev pub total_of : List (List ℕ × ℕ) → ℕ
total_of [] = 0
total_of (x ∷ xs) = x.1 + total_of xs

pub bound_left : (xs ys : List (List ℕ × ℕ)) (name : List ℕ) (n : ℕ) → HasBound xs name n → HasBound (xs ++ ys) name n
bound_left [] ys name n h = absurd h
bound_left (x ∷ xs) ys name n h = elim h [ inl y ↦ inl y | inr y ↦ inr (bound_left xs ys name n y) ]

pub bound_right : (xs ys : List (List ℕ × ℕ)) (name : List ℕ) (n : ℕ) → HasBound ys name n → HasBound (xs ++ ys) name n
bound_right [] ys name n h = h
bound_right (x ∷ xs) ys name n h = inr (bound_right xs ys name n h)

pub total_both : (xs ys : List (List ℕ × ℕ)) → total_of (xs ++ ys) ≡ total_of xs + total_of ys
total_both [] ys = omega arith
total_both (x ∷ xs) ys = (let rest : total_of (xs ++ ys) ≡ total_of xs + total_of ys = total_both xs ys in omega (arith, rest))

some_value : (x y : List ℕ) → Some x ≡ Some y → x ≡ y
some_value x y e = ap from e
  where
    from : Option (List ℕ) → List ℕ
    from None = x
    from (Some z) = z

name_same : (n : List ℕ) → eq_by_cmp text_cmp n n ≡ true
name_same n = (eq_by_cmp_equiv nat_list_cmp_total).refl n

-- without it, and with it again
gone_now : (m : Notes) (k : List ℕ) → map.get (map.remove m k) k ≡ None
gone_now m k = get-remove nat_list_cmp_total m k k ∙ ap (λ (b : Bool). cond {A = Option (List ℕ)} b None (map.get m k)) (name_same k)

back_again : (m : Notes) (k v : List ℕ) → map.get m k ≡ Some v → map.insert (map.remove m k) k v ≡ m
back_again m k v is = same_map nat_list_cmp_total exact_bytes _ _ (λ q.
    get-insert nat_list_cmp_total (map.remove m k) k v q ∙ ap (cond {A = Option (List ℕ)} (eq_by_cmp text_cmp q k) (Some v)) (get-remove nat_list_cmp_total m k q) ∙ go q (eq_by_cmp text_cmp q k) refl)
  where
    go : (q : List ℕ) (b : Bool) → eq_by_cmp text_cmp q k ≡ b → cond {A = Option (List ℕ)} b (Some v) (cond {A = Option (List ℕ)} b None (map.get m q)) ≡ map.get m q
    go q true e = sym is ∙ ap (map.get m) (sym (tells_apart exact_bytes q k e))
    go q false e = refl

module _ (w : List ℕ × List ℕ → ℕ) where
  one_less : (m : Notes) (k v : List ℕ) → map.get m k ≡ Some v → sum_of w m ≡ sum_of w (map.remove m k) + w (k, v)
  one_less m k v is =
      let all : sum_of w (map.insert (map.remove m k) k v) + weight_at w k (map.get (map.remove m k) k) ≡ sum_of w (map.remove m k) + w (k, v) = sum-insert nat_list_cmp_total exact_bytes w (map.remove m k) k v in
      let none : weight_at w k (map.get (map.remove m k) k) ≡ 0 = ap (weight_at w k) (gone_now m k) in
      let same : sum_of w (map.insert (map.remove m k) k v) ≡ sum_of w m = ap (sum_of w) (back_again m k v is) in
      omega (arith, all, none, same)

  -- with one name more
  first_bounded : (x : List ℕ × ℕ) (xs : List (List ℕ × ℕ)) → ((m : Notes) → ((name value : List ℕ) → map.get m name ≡ Some value → HasBound xs name (w (name, value))) → sum_of w m ≤ total_of xs)
      → (m : Notes) → ((name value : List ℕ) → map.get m name ≡ Some value → HasBound (x ∷ xs) name (w (name, value))) → sum_of w m ≤ total_of (x ∷ xs)
  first_bounded x xs rec m h = go (map.get m x.0) refl
    where
      -- of another name
      other : (name value : List ℕ) → (name ≡ x.0 → ⊥) → map.get m name ≡ Some value → HasBound xs name (w (name, value))
      other name value differ is = elim (h name value is) [ inl y ↦ absurd (differ y.0) | inr y ↦ y ]

      go : (o : Option (List ℕ)) → map.get m x.0 ≡ o → sum_of w m ≤ x.1 + total_of xs
      go None is =
          let rest : sum_of w m ≤ total_of xs = rec m (λ name value at. other name value (λ same. (let wrong : None ≡ Some value = sym is ∙ ap (map.get m) (sym same) ∙ at in cc)) at) in
          omega (arith, rest)
      go (Some v) is = elim (h x.0 v is) [ inl y ↦ taken y.1 | inr y ↦ passed y ]
        where
          m_then : Notes
          m_then = map.remove m x.0

          behind : (name value : List ℕ) (b : Bool) → eq_by_cmp text_cmp name x.0 ≡ b → map.get m_then name ≡ Some value → HasBound xs name (w (name, value))
          behind name value true e at = let wrong : None ≡ Some value = sym (gone_now m x.0) ∙ ap (map.get m_then) (sym (tells_apart exact_bytes name x.0 e)) ∙ at in cc
          behind name value false e at =
              other name value (λ same. (let wrong : true ≡ false = sym (name_same x.0) ∙ ap (λ (n : List ℕ). eq_by_cmp text_cmp n x.0) (sym same) ∙ e in cc))
              (sym (get-remove nat_list_cmp_total m x.0 name ∙ ap (λ (b : Bool). cond {A = Option (List ℕ)} b None (map.get m name)) e) ∙ at)

          taken : w (x.0, v) ≤ x.1 → sum_of w m ≤ x.1 + total_of xs
          taken first =
              let rest : sum_of w m_then ≤ total_of xs = rec m_then (λ name value at. behind name value (eq_by_cmp text_cmp name x.0) refl at) in
              let all : sum_of w m ≡ sum_of w m_then + w (x.0, v) = one_less m x.0 v is in
              omega (arith, rest, first, all)

          -- the name stands among the others once more
          again : HasBound xs x.0 (w (x.0, v)) → (name value : List ℕ) → map.get m name ≡ Some value → (b : Bool) → eq_by_cmp text_cmp name x.0 ≡ b → HasBound xs name (w (name, value))
          again y name value at true e =
              let same : name ≡ x.0 = tells_apart exact_bytes name x.0 e in
              let worth : v ≡ value = some_value v value (sym is ∙ ap (map.get m) (sym same) ∙ at) in
              subst (λ (u : List ℕ). HasBound xs name (w (name, u))) worth (subst (λ (n : List ℕ). HasBound xs n (w (n, v))) (sym same) y)
          again y name value at false e = other name value (λ same. (let wrong : true ≡ false = sym (name_same x.0) ∙ ap (λ (n : List ℕ). eq_by_cmp text_cmp n x.0) (sym same) ∙ e in cc)) at

          passed : HasBound xs x.0 (w (x.0, v)) → sum_of w m ≤ x.1 + total_of xs
          passed y =
              let rest : sum_of w m ≤ total_of xs = rec m (λ name value at. again y name value at (eq_by_cmp text_cmp name x.0) refl) in
              omega (arith, rest)

  -- all that stand are of these names, and none comes to more than is said of it
  pub bounded : (xs : List (List ℕ × ℕ)) (m : Notes) → ((name value : List ℕ) → map.get m name ≡ Some value → HasBound xs name (w (name, value))) → sum_of w m ≤ total_of xs
  bounded [] m h = (let none : sum_of w m ≡ 0 = sum_of-nothing nat_list_cmp_total exact_bytes w m (λ k v is. absurd (h k v is)) in omega (arith, none))
  bounded (x ∷ xs) m h = first_bounded x xs (bounded xs) m h

some_len : (es : List (List ℕ × List ℕ)) → sum_by (λ (e : List ℕ × List ℕ). 1) es ≡ length es
some_len [] = refl
some_len (e ∷ es) = (let rest : sum_by (λ (e : List ℕ × List ℕ). 1) es ≡ length es = some_len es in let first : sum_by (λ (e : List ℕ × List ℕ). 1) (e ∷ es) ≡ 1 + sum_by (λ (e : List ℕ × List ℕ). 1) es = sum_by-cons (λ (e : List ℕ × List ℕ). 1) e es in omega (arith, rest, first))

-- there are no more than so many names
pub few_notes : (xs : List (List ℕ × ℕ)) (m : Notes) → ((name value : List ℕ) → map.get m name ≡ Some value → HasBound xs name (put_bytes (name, value))) → map.len m ≤ length xs
few_notes xs m h =
    let ones : sum_of (λ (e : List ℕ × List ℕ). 1) m ≤ total_of (list_map (λ (x : List ℕ × ℕ). (x.0, 1)) xs) = bounded (λ (e : List ℕ × List ℕ). 1) (list_map (λ (x : List ℕ × ℕ). (x.0, 1)) xs) m (λ name value is. each xs name (put_bytes (name, value)) (h name value is)) in
    omega (arith, ones, total_ones xs, some_len (map.entries m), len-entries m)
  where
    each : (xs : List (List ℕ × ℕ)) (name : List ℕ) (n : ℕ) → HasBound xs name n → HasBound (list_map (λ (x : List ℕ × ℕ). (x.0, 1)) xs) name 1
    each [] name n h = absurd h
    each (x ∷ xs) name n h = elim h [ inl y ↦ inl (y.0, omega arith) | inr y ↦ inr (each xs name n y) ]

    total_ones : (xs : List (List ℕ × ℕ)) → total_of (list_map (λ (x : List ℕ × ℕ). (x.0, 1)) xs) ≡ length xs
    total_ones [] = refl
    total_ones (x ∷ xs) = (let rest : total_of (list_map (λ (x : List ℕ × ℕ). (x.0, 1)) xs) ≡ length xs = total_ones xs in omega (arith, rest))

-- and their record has no more bytes than that
pub live_most : (xs : List (List ℕ × ℕ)) (m : Notes) → ((name value : List ℕ) → map.get m name ≡ Some value → HasBound xs name (put_bytes (name, value))) → live_bytes m ≤ 4 + total_of xs
live_most xs m h = (let all : sum_of put_bytes m ≤ total_of xs = bounded put_bytes xs m h in omega (arith, all))

-- ---- the notes of a server

-- the clock's, those of ready parts by their locks and cells, and those of decisions
abbrev pub parts_bounds : List (JoinNo × (ℕ × ℕ)) → List (List ℕ × ℕ)
parts_bounds ps = list_map (λ (p : JoinNo × (ℕ × ℕ)). (ready_name.spell p.0, 42 + p.1.1 * 27 + p.1.0 * 538)) ps

abbrev pub decided_bounds : List TransId → List (List ℕ × ℕ)
decided_bounds ts = list_map (λ (t : TransId). (decision_name.spell t, 88)) ts

abbrev pub server_bounds : List (JoinNo × (ℕ × ℕ)) → List TransId → List (List ℕ × ℕ)
server_bounds ps ts = (clock_name, 19) ∷ (parts_bounds ps ++ decided_bounds ts)
