-- what is said of those that are not settled is what is said of all
use Rattle.std.specs.Prelude.{cond, Bool, true, false, not, ◌&&◌, ◌||◌, filter, flat_map, Option, None, Some, map as list_map, is_some}
use Rattle.std.specs.List.{list_any, AllByRecursion}
use Rattle.std.specs.List.Sorted.{IsPermutation, IsStrictlySortedBy}
use Rattle.std.specs.FinMap as map
use Rattle.std.specs.FinMap.{contains_key-keys}
use Rattle.std.specs.declared.cmp.Ordering.{Ordering}
use Rattle.std.specs.declared.cmp.Ordering.TheVariants.{Less, Equal, Greater}
use Rattle.std.specs.Ordering.{is_eq, eq_by_cmp}
use Rattle.std.specs.Cmp.{eq_by_cmp_equiv}
use Rattle.std.proofs.Common.{◌≡◌, ℕ, suc, List, [], ◌∷◌, ◌++◌, length, refl, sym, ◌∙◌, ap, subst}
use Rattle.std.proofs.lemmas.List.{append_assoc}
use Rattle.std.proofs.lemmas.List.Sorted.{IsPermutation-refl, IsPermutation-sym, IsPermutation-trans, IsPermutation-append_left, IsPermutation-append_right, IsPermutation-append_comm, length_permutation}
use Rattle.alp_base.specs.declared.ids.TransId.{TransId}
use Rattle.alp_base.specs.Orders.{trans_cmp, transactions_total}
use Rattle.alp_journal.specs.Ids.{same_trans}
use Rattle.alp_journal.specs.Coordinator.{Fate, Undrawn}
use Rattle.alp_journal.specs.Messages.{Mail, ask_again, commit_again}
use Rattle.alp_journal.specs.Answers.{is_counted}
use Rattle.alp_journal.proofs.IdLemmas.{same_trans-itself, same_trans-true}
use Rattle.alp_coord.specs.declared.course.Course.{Course}
use Rattle.alp_coord.specs.declared.begun.Settled.{Settled}
use Rattle.alp_coord.specs.declared.coordinator.Coordinator.{Coordinator}
use Rattle.alp_coord.specs.Begun.{fate_settled}
use Rattle.alp_coord.specs.Courses.{CourseMap}
use Rattle.alp_coord.specs.Coordinators.{settled_in, course_in, fate_in, open_ids, asks_of, commits_of, counted_of}
use Rattle.alp_coord.specs.Ticks.{has_trans, AreOnce, AreAll, SaysAll}
use Rattle.alp_coord.proofs.MapLemmas.{tied_same}
use Rattle.alp_coord.proofs.FateLemmas.{fate_by, none_by, fate_none}
use Rattle.alp_coord.proofs.WordLemmas.{settled_asks, settled_commits, settled_counts}

-- ---- ids that rise stand once

pub never : {A : Type 0} (b : Bool) → b ≡ false → b ≡ true → A
never true e i = cc
never false e i = cc

less_apart : (t : TransId) (ts : List TransId) → AllByRecursion (λ y. trans_cmp t y ≡ Less) ts → has_trans t ts ≡ false
less_apart t [] h = refl
less_apart t (u ∷ ts) h = go (same_trans u t) refl (less_apart t ts h.1)
  where
    go : (b : Bool) → same_trans u t ≡ b → has_trans t ts ≡ false → (b || has_trans t ts) ≡ false
    go false e k = k
    go true e k =
        let itself : is_eq (trans_cmp t t) ≡ true = (eq_by_cmp_equiv transactions_total).refl t in
        let less : trans_cmp t t ≡ Less = subst (λ (v : TransId). trans_cmp t v ≡ Less) (same_trans-true u t e) h.0 in
        let wrong : false ≡ true = sym (ap is_eq less) ∙ itself in
        cc

pub rising_once : (ts : List TransId) → IsStrictlySortedBy trans_cmp ts → AreOnce ts
unfolding IsStrictlySortedBy
rising_once [] h = tt
rising_once (t ∷ ts) h = (less_apart t ts h.0, rising_once ts h.1)

-- ---- one is taken out

abbrev without : TransId → List TransId → List TransId
without t ts = filter (λ u. not (same_trans u t)) ts

without_none : (t : TransId) (ts : List TransId) → has_trans t ts ≡ false → without t ts ≡ ts
without_none t [] h = refl
without_none t (u ∷ ts) h = go (same_trans u t) h (without_none t ts)
  where
    go : (b : Bool) → (b || has_trans t ts) ≡ false → (has_trans t ts ≡ false → without t ts ≡ ts) → cond {A = List TransId} (not b) (u ∷ without t ts) (without t ts) ≡ u ∷ ts
    go true i k = cc
    go false i k = ap (λ (us : List TransId). u ∷ us) (k i)

-- whether one is left
left_other : (t v : TransId) (ts : List TransId) → same_trans t v ≡ false → has_trans v (without t ts) ≡ has_trans v ts
left_other t v [] away = refl
left_other t v (u ∷ ts) away = go (same_trans u t) refl (left_other t v ts away)
  where
    go : (b : Bool) → same_trans u t ≡ b → has_trans v (without t ts) ≡ has_trans v ts → has_trans v (cond {A = List TransId} (not b) (u ∷ without t ts) (without t ts)) ≡ (same_trans u v || has_trans v ts)
    go false e k = ap (λ (b : Bool). same_trans u v || b) k
    go true e k =
        let gone : same_trans u v ≡ false = ap (λ (w : TransId). same_trans w v) (same_trans-true u t e) ∙ away in
        k ∙ ap (λ (b : Bool). b || has_trans v ts) (sym gone)

second_false : (a b : Bool) → (a || b) ≡ false → b ≡ false
second_false true b h = cc
second_false false b h = h

left_less : (t v : TransId) (ts : List TransId) → has_trans v ts ≡ false → has_trans v (without t ts) ≡ false
left_less t v [] h = refl
left_less t v (u ∷ ts) h = go (same_trans u t) (left_less t v ts (second_false (same_trans u v) (has_trans v ts) h))
  where
    here : (d : Bool) → (d || has_trans v ts) ≡ false → has_trans v (without t ts) ≡ false → (d || has_trans v (without t ts)) ≡ false
    here true j k = cc
    here false j k = k

    go : (b : Bool) → has_trans v (without t ts) ≡ false → has_trans v (cond {A = List TransId} (not b) (u ∷ without t ts) (without t ts)) ≡ false
    go true k = k
    go false k = here (same_trans u v) h k

left_once : (t : TransId) (ts : List TransId) → AreOnce ts → AreOnce (without t ts)
left_once t [] h = tt
left_once t (u ∷ ts) h = go (same_trans u t) (left_once t ts h.1)
  where
    go : (b : Bool) → AreOnce (without t ts) → AreOnce (cond {A = List TransId} (not b) (u ∷ without t ts) (without t ts))
    go true k = k
    go false k = (left_less t u ts h.0, k)

-- itself it is not
left_itself : (t : TransId) (ts : List TransId) → has_trans t (without t ts) ≡ false
left_itself t [] = refl
left_itself t (u ∷ ts) = go (same_trans u t) refl (left_itself t ts)
  where
    go : (b : Bool) → same_trans u t ≡ b → has_trans t (without t ts) ≡ false → has_trans t (cond {A = List TransId} (not b) (u ∷ without t ts) (without t ts)) ≡ false
    go true e k = k
    go false e k = ap (λ (b : Bool). b || has_trans t (without t ts)) e ∙ k

later : (a b : Bool) → b ≡ true → (a || b) ≡ true
later true b h = refl
later false b h = h

module _ {X : Type 0} (f : TransId → List X) where
  abbrev all : List TransId → List X
  all ts = flat_map f ts

  taken : (t : TransId) (ts : List TransId) → AreOnce ts → has_trans t ts ≡ true → IsPermutation (all ts) (f t ++ all (without t ts))
  taken t [] once there = cc
  taken t (u ∷ ts) once there = go (same_trans u t) refl there (taken t ts once.1)
    where
      go : (b : Bool) → same_trans u t ≡ b → (b || has_trans t ts) ≡ true → (has_trans t ts ≡ true → IsPermutation (all ts) (f t ++ all (without t ts)))
          → IsPermutation (f u ++ all ts) (f t ++ all (cond {A = List TransId} (not b) (u ∷ without t ts) (without t ts)))
      go true e i k =
          let one : u ≡ t = same_trans-true u t e in
          let none : has_trans t ts ≡ false = ap (λ (v : TransId). has_trans v ts) (sym one) ∙ once.0 in
          let alike : f u ++ all ts ≡ f t ++ all (without t ts) = ap (λ (v : TransId). f v ++ all ts) one ∙ ap (λ (us : List TransId). f t ++ all us) (sym (without_none t ts none)) in
          subst (λ (ys : List X). IsPermutation (f u ++ all ts) ys) alike (IsPermutation-refl (f u ++ all ts))
      go false e i k =
          IsPermutation-trans (f u ++ all ts) (f u ++ (f t ++ all (without t ts))) (f t ++ (f u ++ all (without t ts)))
          (IsPermutation-append_right (f u) (all ts) (f t ++ all (without t ts)) (k i))
          (subst (λ (xs : List X). IsPermutation xs (f t ++ (f u ++ all (without t ts)))) (append_assoc (f u) (f t) (all (without t ts)))
          (subst (λ (ys : List X). IsPermutation ((f u ++ f t) ++ all (without t ts)) ys) (append_assoc (f t) (f u) (all (without t ts)))
          (IsPermutation-append_left (all (without t ts)) (f u ++ f t) (f t ++ f u) (IsPermutation-append_comm (f u) (f t)))))

  none_said : (ts : List TransId) → ((t : TransId) → has_trans t ts ≡ true → f t ≡ []) → all ts ≡ []
  none_said [] none = refl
  none_said (t ∷ ts) none =
      ap (λ (xs : List X). xs ++ all ts) (none t (ap (λ (b : Bool). b || has_trans t ts) (same_trans-itself t)))
      ∙ none_said ts (λ u h. none u (later (same_trans t u) (has_trans u ts) h))

  -- two lists of ids, each once, that differ only in those of which nothing is said
  pub same_said : (ts os : List TransId) → AreOnce ts → AreOnce os → ((t : TransId) → has_trans t os ≡ true → has_trans t ts ≡ false → f t ≡ []) → ((t : TransId) → has_trans t ts ≡ true → has_trans t os ≡ false → f t ≡ []) → IsPermutation (all ts) (all os)
  same_said [] os once other here there = subst (λ (ys : List X). IsPermutation [] ys) (sym (none_said os (λ t h. here t h refl))) (IsPermutation-refl [])
  same_said (t ∷ ts) os once other here there = go (has_trans t os) refl (same_said ts)
    where
      apart : (u : TransId) → has_trans u ts ≡ true → same_trans t u ≡ false
      apart u h = at (same_trans t u) refl
        where
          at : (b : Bool) → same_trans t u ≡ b → b ≡ false
          at false e = refl
          at true e = never (has_trans t ts) once.0 (ap (λ (v : TransId). has_trans v ts) (same_trans-true t u e) ∙ h)

      -- of those left in the other list, none is the first
      left : (u : TransId) → has_trans u (without t os) ≡ true → same_trans t u ≡ false
      left u h = at (same_trans t u) refl
        where
          at : (b : Bool) → same_trans t u ≡ b → b ≡ false
          at false e = refl
          at true e = never (has_trans t (without t os)) (left_itself t os) (ap (λ (v : TransId). has_trans v (without t os)) (same_trans-true t u e) ∙ h)

      away : (u : TransId) → has_trans u os ≡ true → has_trans t os ≡ false → same_trans t u ≡ false
      away u h none = at (same_trans t u) refl
        where
          at : (b : Bool) → same_trans t u ≡ b → b ≡ false
          at false e = refl
          at true e = never (has_trans t os) none (ap (λ (v : TransId). has_trans v os) (same_trans-true t u e) ∙ h)

      go : (b : Bool) → has_trans t os ≡ b
          → ((xs : List TransId) → AreOnce ts → AreOnce xs → ((v : TransId) → has_trans v xs ≡ true → has_trans v ts ≡ false → f v ≡ []) → ((v : TransId) → has_trans v ts ≡ true → has_trans v xs ≡ false → f v ≡ []) → IsPermutation (all ts) (all xs))
          → IsPermutation (f t ++ all ts) (all os)
      go true e more =
          let rest : IsPermutation (all ts) (all (without t os)) =
          more (without t os) once.1 (left_once t os other)
          (λ u h k. here u (sym (left_other t u os (left u h)) ∙ h) (ap (λ (b : Bool). b || has_trans u ts) (left u h) ∙ k))
          (λ u h k. there u (later (same_trans t u) (has_trans u ts) h) (sym (left_other t u os (apart u h)) ∙ k)) in
          IsPermutation-trans (f t ++ all ts) (f t ++ all (without t os)) (all os)
          (IsPermutation-append_right (f t) (all ts) (all (without t os)) rest)
          (IsPermutation-sym (all os) (f t ++ all (without t os)) (taken t os other e))
      go false e more =
          let first : f t ≡ [] = there t (ap (λ (b : Bool). b || has_trans t ts) (same_trans-itself t)) e in
          let rest : IsPermutation (all ts) (all os) =
          more os once.1 other
          (λ u h k. here u h (ap (λ (b : Bool). b || has_trans u ts) (away u h e) ∙ k))
          (λ u h k. there u (later (same_trans t u) (has_trans u ts) h) k) in
          subst (λ (xs : List X). IsPermutation (xs ++ all ts) (all os)) (sym first) rest

-- ---- of a coordinator

-- one that is not among those that are open has no course
closed : (s : Coordinator) (t : TransId) → has_trans t (open_ids s) ≡ false → map.get s.courses t ≡ None
closed s t h = go (map.get s.courses t) refl
  where
    same_any : (ts : List TransId) → list_any (eq_by_cmp trans_cmp t) ts ≡ has_trans t ts
    same_any [] = refl
    same_any (u ∷ ts) = λ i. tied_same u t i || same_any ts i

    go : (x : Option Course) → map.get s.courses t ≡ x → x ≡ None
    go None e = refl
    go (Some c) e = never (has_trans t (open_ids s)) h (sym (same_any (open_ids s)) ∙ sym (contains_key-keys s.courses t) ∙ ap is_some e)

pub closed_fate : (s : Coordinator) (t : TransId) → has_trans t (open_ids s) ≡ false → fate_in s t ≡ fate_settled t (settled_in s t)
closed_fate s t h = ap (fate_by s t) (closed s t h) ∙ none_by s t

filtered : {X : Type 0} (p : X → Bool) (xs : List X) → filter p xs ≡ flat_map (λ x. cond {A = List X} (p x) (x ∷ []) []) xs
filtered p [] = refl
filtered {X} p (x ∷ xs) = go (p x) (filtered p xs)
  where
    go : (b : Bool) → filter p xs ≡ flat_map (λ y. cond {A = List X} (p y) (y ∷ []) []) xs → cond {A = List X} b (x ∷ filter p xs) (filter p xs) ≡ cond {A = List X} b (x ∷ []) [] ++ flat_map (λ y. cond {A = List X} (p y) (y ∷ []) []) xs
    go true h = ap (λ (ys : List X). x ∷ ys) h
    go false h = h

-- itself, if it counts
abbrev one_counted : Coordinator → TransId → List TransId
one_counted s t = cond {A = List TransId} (is_counted (fate_in s t)) (t ∷ []) []

pub says_all : (s : Coordinator) (ts : List TransId) → IsStrictlySortedBy trans_cmp (open_ids s) → AreAll s ts → SaysAll s ts
says_all s ts rising a = record {
  asks = same_said (λ t. ask_again t (fate_in s t)) ts (open_ids s) a.once once (λ t h k. ap (ask_again t) (a.all t k)) (λ t h k. ap (ask_again t) (closed_fate s t k) ∙ settled_asks t (settled_in s t));
  commits = same_said (λ t. commit_again t (fate_in s t)) ts (open_ids s) a.once once (λ t h k. ap (commit_again t) (a.all t k)) (λ t h k. ap (commit_again t) (closed_fate s t k) ∙ settled_commits t (settled_in s t));
  counted =
      ap (λ (us : List TransId). length us) (filtered (λ t. is_counted (fate_in s t)) ts)
      ∙ sym (length_permutation (flat_map (one_counted s) ts) (flat_map (one_counted s) (open_ids s))
      (same_said (one_counted s) ts (open_ids s) a.once once (λ t h k. ap (λ (f : Fate). cond {A = List TransId} (is_counted f) (t ∷ []) []) (a.all t k))
      (λ t h k. ap (λ (b : Bool). cond {A = List TransId} b (t ∷ []) []) (ap is_counted (closed_fate s t k) ∙ settled_counts t (settled_in s t)))))
      ∙ sym (ap (λ (us : List TransId). length us) (filtered (λ t. is_counted (fate_in s t)) (open_ids s)));
}
  where
    once : AreOnce (open_ids s)
    once = rising_once (open_ids s) rising
