-- Which errand is whose: a worker for each job, and a carrier for each pair of servers.
use Rattle.std.specs.Prelude.{◌==◌, ◌||◌, ◌&&◌, Bool, true, false, IsTrue, map as list_map, slice_get, Option, None, Some, if◌then◌else◌}
use Rattle.std.proofs.Common.{◌≡◌, ◌≢◌, ◌⊎◌, ℕ, zero, suc, ◌+◌, ◌-◌, ◌<◌, ◌≤◌, List, [], ◌∷◌, ◌++◌, length, inl, inr, refl, sym, ◌∙◌, ap, subst, arith, eq-eqb, ne_eqb}
use Rattle.std.proofs.lemmas.Bool.{cases_eq}
use Rattle.alp_carrier.specs.declared.route.Pair.{Pair}
use Rattle.alp_jobs.specs.States.{JobState}
use Rattle.alp_merge.specs.Storms.{is_worker, is_carrier}
use Rattle.alp_merge.specs.Turns.{Who, worker, carrier}
use Rattle.alp_storm.specs.Storms.{work, carriers_to, carriers_from}
use Rattle.alp_storm.specs.declared.errand.Task.{Task}
use Rattle.alp_storm.specs.declared.errand.Task.TheVariants.{Work, Carry}
use Rattle.alp_storm.specs.declared.fault.StormFault.{StormFault}
use Rattle.alp_storm_course.specs.Joins.{is_job_of}

-- ---- places of a list

module _ {A : Type 0} where
  pub same_some : (x y : A) → Some x ≡ Some y → x ≡ y
  same_some x y e = cc

  pub none_some : (x : A) (o : Option A) → o ≡ None → o ≡ Some x → ⊥
  none_some x o none some = (let wrong : None ≡ Some x = sym none ∙ some in cc)

  pub get_at : (xs : List A) (i : ℕ) → i < length xs → (x : A) × (slice_get xs i ≡ Some x)
  get_at [] i less = absurd (omega (arith, less))
  get_at (x ∷ xs) zero less = (x, refl)
  get_at (x ∷ xs) (suc i) less = get_at xs i (omega (arith, less))

  pub get_within : (xs : List A) (i : ℕ) (x : A) → slice_get xs i ≡ Some x → i < length xs
  get_within [] i x is = absurd (none_some x None refl is)
  get_within (y ∷ xs) zero x is = omega arith
  get_within (y ∷ xs) (suc i) x is = (let less : i < length xs = get_within xs i x is in omega (arith, less))

  pub get_first : (xs ys : List A) (i : ℕ) → i < length xs → slice_get (xs ++ ys) i ≡ slice_get xs i
  get_first [] ys i less = absurd (omega (arith, less))
  get_first (x ∷ xs) ys zero less = refl
  get_first (x ∷ xs) ys (suc i) less = get_first xs ys i (omega (arith, less))

  pub get_second : (xs ys : List A) (i : ℕ) → slice_get (xs ++ ys) (length xs + i) ≡ slice_get ys i
  get_second [] ys i = ap (slice_get ys) (let same : 0 + i ≡ i = omega arith in same)
  get_second (x ∷ xs) ys i = ap (slice_get (x ∷ (xs ++ ys))) (let same : suc (length xs) + i ≡ suc (length xs + i) = omega arith in same) ∙ get_second xs ys i

  -- one of both stands in the first or in the second
  pub get_either : (xs ys : List A) (i : ℕ) (x : A) → slice_get (xs ++ ys) i ≡ Some x → (slice_get xs i ≡ Some x) ⊎ ((k : ℕ) × (i ≡ length xs + k) × (slice_get ys k ≡ Some x))
  get_either [] ys i x is = inr (i, omega arith, is)
  get_either (y ∷ xs) ys zero x is = inl is
  get_either (y ∷ xs) ys (suc i) x is = elim (get_either xs ys i x is) [ inl first ↦ inl first | inr second ↦ inr (second.0, (let same : i ≡ length xs + second.0 = second.1 in omega (arith, same)), second.2) ]

pub get_map : {A C : Type 0} (f : A → C) (xs : List A) (i : ℕ) (x : A) → slice_get xs i ≡ Some x → slice_get (list_map f xs) i ≡ Some (f x)
get_map f [] i x is = absurd (none_some x None refl is)
get_map f (y ∷ xs) zero x is = ap (λ z. Some (f z)) (same_some y x is)
get_map f (y ∷ xs) (suc i) x is = get_map f xs i x is

pub get_mapped : {A C : Type 0} (f : A → C) (xs : List A) (i : ℕ) (y : C) → slice_get (list_map f xs) i ≡ Some y → (x : A) × (slice_get xs i ≡ Some x) × (f x ≡ y)
get_mapped f [] i y is = absurd (none_some y None refl is)
get_mapped f (x ∷ xs) zero y is = (x, refl, same_some (f x) y is)
get_mapped f (x ∷ xs) (suc i) y is = get_mapped f xs i y is

-- ---- jobs

abbrev pub index_of : List JobState → ℕ → ℕ
index_of [] k = 0
index_of (j ∷ js) k = if j.number == k then 0 else suc (index_of js k)

-- it stands there
pub job_at : (js : List JobState) (k : ℕ) → IsTrue (is_job_of js k) → (j : JobState) × (slice_get js (index_of js k) ≡ Some j) × (j.number ≡ k)
job_at [] k is = absurd (let wrong : false ≡ true = is in cc)
job_at (j ∷ js) k is = elim (cases_eq j.number k) [
  | inl same ↦ (j, ap (λ (b : Bool). slice_get (j ∷ js) (if b then 0 else suc (index_of js k))) (eq-eqb j.number k same), same)
  | inr away ↦
      let rest = job_at js k (subst (λ (b : Bool). IsTrue (b || is_job_of js k)) (ne_eqb j.number k away) is) in
      (rest.0, ap (λ (b : Bool). slice_get (j ∷ js) (if b then 0 else suc (index_of js k))) (ne_eqb j.number k away) ∙ rest.1, rest.2)
]

-- ---- pairs

-- it carries between these two
abbrev pub IsOfPair : ℕ → ℕ → Task → Type 0
IsOfPair from to (Work j f) = ⊥
IsOfPair from to (Carry pair next lost) = (pair.from ≡ from) × (pair.to ≡ to)

abbrev is_of : ℕ → ℕ → Task → Bool
is_of from to (Work j f) = false
is_of from to (Carry pair next lost) = is_carrier from to (carrier pair.from pair.to)

abbrev pub pair_index : List Task → (from to : ℕ) → ℕ
pair_index [] from to = 0
pair_index (t ∷ ts) from to = if is_of from to t then 0 else suc (pair_index ts from to)

both_true : (a b c d : ℕ) → (a == b) ≡ true → (c == d) ≡ true → is_carrier b d (carrier a c) ≡ true
both_true a b c d one two = λ i. one i && two i

is_of_pair : (from to : ℕ) (t : Task) → IsOfPair from to t → is_of from to t ≡ true
is_of_pair from to (Work j f) h = absurd h
is_of_pair from to (Carry pair next lost) h = both_true pair.from from pair.to to (eq-eqb pair.from from h.0) (eq-eqb pair.to to h.1)

of_pair_is : (from to : ℕ) (t : Task) → is_of from to t ≡ true → IsOfPair from to t
of_pair_is from to (Work j f) h = absurd (let wrong : false ≡ true = h in cc)
of_pair_is from to (Carry pair next lost) h = go (cases_eq pair.from from) (cases_eq pair.to to)
  where
    go : (pair.from ≡ from) ⊎ (pair.from ≡ from → ⊥) → (pair.to ≡ to) ⊎ (pair.to ≡ to → ⊥) → (pair.from ≡ from) × (pair.to ≡ to)
    go (inl one) (inl two) = (one, two)
    go (inr one) two = absurd (let wrong : false ≡ true = sym (ap (λ (x : Bool). x && (pair.to == to)) (ne_eqb pair.from from one)) ∙ h in cc)
    go (inl one) (inr two) = absurd (let wrong : false ≡ true = sym (λ i. eq-eqb pair.from from one i && ne_eqb pair.to to two i) ∙ h in cc)

-- one of that pair is found
pub pair_found : (ts : List Task) (from to i : ℕ) (t : Task) → slice_get ts i ≡ Some t → IsOfPair from to t → (u : Task) × (slice_get ts (pair_index ts from to) ≡ Some u) × IsOfPair from to u
pair_found [] from to i t is of = absurd (none_some t None refl is)
pair_found (x ∷ ts) from to i t is of = go (is_of from to x) refl i is (λ k at. pair_found ts from to k t at of)
  where
    Found : Type 0
    Found = (u : Task) × (slice_get ts (pair_index ts from to) ≡ Some u) × IsOfPair from to u

    go : (b : Bool) → is_of from to x ≡ b → (i : ℕ) → slice_get (x ∷ ts) i ≡ Some t → ((k : ℕ) → slice_get ts k ≡ Some t → Found) → (u : Task) × (slice_get (x ∷ ts) (if is_of from to x then 0 else suc (pair_index ts from to)) ≡ Some u) × IsOfPair from to u
    go true e i at more = (x, ap (λ (b : Bool). slice_get (x ∷ ts) (if b then 0 else suc (pair_index ts from to))) e, of_pair_is from to x e)
    go false e zero at more = absurd (let same : x ≡ t = same_some x t at in let wrong : false ≡ true = sym e ∙ is_of_pair from to x (subst (IsOfPair from to) (sym same) of) in cc)
    go false e (suc i) at more = (let rest = more i at in (rest.0, ap (λ (b : Bool). slice_get (x ∷ ts) (if b then 0 else suc (pair_index ts from to))) e ∙ rest.1, rest.2))

-- no two are of one pair
abbrev pub AreApart : List Task → Type 0
AreApart ts = (i k from to : ℕ) (t u : Task) → slice_get ts i ≡ Some t → slice_get ts k ≡ Some u → IsOfPair from to t → IsOfPair from to u → i ≡ k

apart_both : (xs ys : List Task) → AreApart xs → AreApart ys → ((i k from to : ℕ) (t u : Task) → slice_get xs i ≡ Some t → slice_get ys k ≡ Some u → IsOfPair from to t → IsOfPair from to u → ⊥) → AreApart (xs ++ ys)
apart_both xs ys one two away i k from to t u at bt a b = go (get_either xs ys i t at) (get_either xs ys k u bt)
  where
    go : (slice_get xs i ≡ Some t) ⊎ ((n : ℕ) × (i ≡ length xs + n) × (slice_get ys n ≡ Some t)) → (slice_get xs k ≡ Some u) ⊎ ((n : ℕ) × (k ≡ length xs + n) × (slice_get ys n ≡ Some u)) → i ≡ k
    go (inl p) (inl q) = one i k from to t u p q a b
    go (inl p) (inr q) = absurd (away i q.0 from to t u p q.2 a b)
    go (inr p) (inl q) = absurd (away k p.0 from to u t q p.2 b a)
    go (inr p) (inr q) = (let same : p.0 ≡ q.0 = two p.0 q.0 from to t u p.2 q.2 a b in let first : i ≡ length xs + p.0 = p.1 in let second : k ≡ length xs + q.0 = q.1 in omega (arith, same, first, second))

-- those from one server
to_within : (from first n i : ℕ) (f u : ℕ) (t : Task) → slice_get (carriers_to from first n) i ≡ Some t → IsOfPair f u t → (f ≡ from) × (u ≤ n)
to_within from first zero i f u t is of = absurd (none_some t None refl is)
to_within from first (suc n) i f u t is of = elim (get_either (carriers_to from first n) (if suc n == from then [] else Carry (record { from = from; to = suc n; first = first }) 0 0 ∷ []) i t is) [
  | inl before ↦ (let known = to_within from first n i f u t before of in (known.0, omega (arith, known.1)))
  | inr last ↦ at_last (suc n == from) last.0 last.2
]
  where
    at_last : (b : Bool) (k : ℕ) → slice_get (if b then [] else Carry (record { from = from; to = suc n; first = first }) 0 0 ∷ []) k ≡ Some t → (f ≡ from) × (u ≤ suc n)
    at_last true k at = absurd (none_some t None refl at)
    at_last false zero at =
        let same : Carry (record { from = from; to = suc n; first = first }) 0 0 ≡ t = same_some (Carry (record { from = from; to = suc n; first = first }) 0 0) t at in
        let both : IsOfPair f u (Carry (record { from = from; to = suc n; first = first }) 0 0) = subst (IsOfPair f u) (sym same) of in
        (sym both.0, (let two : suc n ≡ u = both.1 in omega (arith, two)))
    at_last false (suc k) at = absurd (none_some t None refl at)

to_apart : (from first n : ℕ) → AreApart (carriers_to from first n)
to_apart from first zero i k f u t v is at a b = absurd (none_some t None refl is)
to_apart from first (suc n) i k f u t v is at a b =
    apart_both (carriers_to from first n) (if suc n == from then [] else Carry (record { from = from; to = suc n; first = first }) 0 0 ∷ []) (to_apart from first n) (alone (suc n == from)) (λ i k f u t v is at a b. others (suc n == from) i k f u t v is at a b) i k f u t v is at a b
  where
    alone : (b : Bool) → AreApart (if b then [] else Carry (record { from = from; to = suc n; first = first }) 0 0 ∷ [])
    alone true i k f u t v is at a b = absurd (none_some t None refl is)
    alone false zero zero f u t v is at a b = refl
    alone false zero (suc k) f u t v is at a b = absurd (none_some v None refl at)
    alone false (suc i) k f u t v is at a b = absurd (none_some t None refl is)

    others : (b : Bool) (i k f u : ℕ) (t v : Task) → slice_get (carriers_to from first n) i ≡ Some t → slice_get (if b then [] else Carry (record { from = from; to = suc n; first = first }) 0 0 ∷ []) k ≡ Some v → IsOfPair f u t → IsOfPair f u v → ⊥
    others true i k f u t v is at a b = none_some v None refl at
    others false i zero f u t v is at a b =
        let same : Carry (record { from = from; to = suc n; first = first }) 0 0 ≡ v = same_some (Carry (record { from = from; to = suc n; first = first }) 0 0) v at in
        let both : IsOfPair f u (Carry (record { from = from; to = suc n; first = first }) 0 0) = subst (IsOfPair f u) (sym same) b in
        let low : u ≤ n = (to_within from first n i f u t is a).1 in
        let two : suc n ≡ u = both.1 in
        omega (arith, low, two)
    others false i (suc k) f u t v is at a b = none_some v None refl at

-- and there is one to each other server
to_has : (from first n to : ℕ) → 1 ≤ to → to ≤ n → to ≢ from → (i : ℕ) × (slice_get (carriers_to from first n) i ≡ Some (Carry (record { from = from; to = to; first = first }) 0 0))
to_has from first zero to some low away = absurd (omega (arith, some, low))
to_has from first (suc n) to some low away = elim (cases_eq to (suc n)) [
  | inl same ↦ (
    length (carriers_to from first n) + 0,
    get_second (carriers_to from first n) (if suc n == from then [] else Carry (record { from = from; to = suc n; first = first }) 0 0 ∷ []) 0
        ∙ (ap (λ (b : Bool). slice_get (if b then [] else Carry (record { from = from; to = suc n; first = first }) 0 0 ∷ []) 0) (ne_eqb (suc n) from (λ is. away (same ∙ is)))
        ∙ ap (λ (k : ℕ). Some (Carry (record { from = from; to = k; first = first }) 0 0)) (sym same)),
  )
  | inr other ↦
      let (i, is) = to_has from first n to some (omega (arith, low, other)) away in
      (i, get_first (carriers_to from first n) (if suc n == from then [] else Carry (record { from = from; to = suc n; first = first }) 0 0 ∷ []) i (get_within (carriers_to from first n) i (Carry (record { from = from; to = to; first = first }) 0 0) is) ∙ is)
]

-- those from all servers
from_within : (n k : ℕ) (firsts : List ℕ) (i f u : ℕ) (t : Task) → slice_get (carriers_from n k firsts) i ≡ Some t → IsOfPair f u t → k < f
from_within n k [] i f u t is of = absurd (none_some t None refl is)
from_within n k (first ∷ firsts) i f u t is of = elim (get_either (carriers_to (k + 1) first n) (carriers_from n (k + 1) firsts) i t is) [
  | inl here ↦ (let same : f ≡ k + 1 = (to_within (k + 1) first n i f u t here of).0 in omega (arith, same))
  | inr later ↦ (let up : k + 1 < f = from_within n (k + 1) firsts later.0 f u t later.2 of in omega (arith, up))
]

pub from_apart : (n k : ℕ) (firsts : List ℕ) → AreApart (carriers_from n k firsts)
from_apart n k [] i j f u t v is at a b = absurd (none_some t None refl is)
from_apart n k (first ∷ firsts) x y g w s o is at a b = apart_both (carriers_to (k + 1) first n) (carriers_from n (k + 1) firsts) (to_apart (k + 1) first n) (from_apart n (k + 1) firsts)
    (λ i j f u t v is at a b. (let one : f ≡ k + 1 = (to_within (k + 1) first n i f u t is a).0 in let up : k + 1 < f = from_within n (k + 1) firsts j f u v at b in omega (arith, one, up))) x y g w s o is at a b

pub from_has : (n k : ℕ) (firsts : List ℕ) (from to : ℕ) → k < from → from ≤ k + length firsts → 1 ≤ to → to ≤ n → to ≢ from
    → (i : ℕ) × (first : ℕ) × (slice_get (carriers_from n k firsts) i ≡ Some (Carry (record { from = from; to = to; first = first }) 0 0)) × (slice_get firsts (from - (k + 1)) ≡ Some first)
from_has n k [] from to up low some last away = absurd (let none : from ≤ k + 0 = low in omega (arith, up, none))
from_has n k (first ∷ firsts) from to up low some last away = elim (cases_eq from (k + 1)) [
  | inl same ↦
      let (i, is) = to_has (k + 1) first n to some last (λ e. away (e ∙ sym same)) in (
        i,
        first,
        get_first (carriers_to (k + 1) first n) (carriers_from n (k + 1) firsts) i (get_within (carriers_to (k + 1) first n) i (Carry (record { from = k + 1; to = to; first = first }) 0 0) is) ∙ (is ∙ ap (λ (m : ℕ). Some (Carry (record { from = m; to = to; first = first }) 0 0)) (sym same)),
        ap (slice_get (first ∷ firsts)) (let none : from - (k + 1) ≡ 0 = omega (arith, same) in none),
      )
  | inr other ↦
      let (i, later, is, there) = from_has n (k + 1) firsts from to (omega (arith, up, other)) (let all : from ≤ k + suc (length firsts) = low in omega (arith, all)) some last away in (
        length (carriers_to (k + 1) first n) + i,
        later,
        get_second (carriers_to (k + 1) first n) (carriers_from n (k + 1) firsts) i ∙ is,
        ap (slice_get (first ∷ firsts)) (let one : from - (k + 1) ≡ suc (from - (k + 1 + 1)) = omega (arith, up, other) in one) ∙ there,
      )
]

-- the jobs come first
works_of_none : (from to i : ℕ) (js : List JobState) (t : Task) → slice_get (list_map work js) i ≡ Some t → IsOfPair from to t → ⊥
works_of_none from to i js t is of = (let (j, there, same) = get_mapped work js i t is in subst (λ (u : Task). IsOfPair from to u → ⊥) same (λ none. none) of)

pub tasks_apart : (js : List JobState) (n : ℕ) (firsts : List ℕ) → AreApart (list_map work js ++ carriers_from n 0 firsts)
tasks_apart js n firsts = apart_both (list_map work js) (carriers_from n 0 firsts) (λ i k from to t u is at a b. absurd (works_of_none from to i js t is a)) (from_apart n 0 firsts) (λ i k from to t u is at a b. works_of_none from to i js t is a)

-- what is known of a carrier
abbrev pub IsKnown : (n k : ℕ) → List ℕ → Task → Type 0
IsKnown n k firsts (Work j f) = ⊥
IsKnown n k firsts (Carry pair next lost) = (k < pair.from) × (1 ≤ pair.to) × (pair.to ≤ n) × (pair.to ≢ pair.from) × (slice_get firsts (pair.from - (k + 1)) ≡ Some pair.first)

-- one from this server, with this place
abbrev IsFromThere : (from first n : ℕ) → Task → Type 0
IsFromThere from first n (Work j f) = ⊥
IsFromThere from first n (Carry pair next lost) = (pair.from ≡ from) × (pair.first ≡ first) × (1 ≤ pair.to) × (pair.to ≤ n) × (pair.to ≢ pair.from)

there_more : (from first n : ℕ) (t : Task) → IsFromThere from first n t → IsFromThere from first (suc n) t
there_more from first n (Work j f) h = h
there_more from first n (Carry pair next lost) h = (h.0, h.1, h.2, (let low : pair.to ≤ n = h.3 in omega (arith, low)), h.4)

to_there : (from first n i : ℕ) (t : Task) → slice_get (carriers_to from first n) i ≡ Some t → IsFromThere from first n t
to_there from first zero i t is = absurd (none_some t None refl is)
to_there from first (suc n) i t is = elim (get_either (carriers_to from first n) (if suc n == from then [] else Carry (record { from = from; to = suc n; first = first }) 0 0 ∷ []) i t is) [
  | inl before ↦ there_more from first n t (to_there from first n i t before)
  | inr last ↦ at_last (suc n == from) refl last.0 last.2
]
  where
    at_last : (b : Bool) → (suc n == from) ≡ b → (k : ℕ) → slice_get (if b then [] else Carry (record { from = from; to = suc n; first = first }) 0 0 ∷ []) k ≡ Some t → IsFromThere from first (suc n) t
    at_last true e k at = absurd (none_some t None refl at)
    at_last false e zero at =
        subst (IsFromThere from first (suc n)) (same_some (Carry (record { from = from; to = suc n; first = first }) 0 0) t at)
        (refl, refl, omega arith, omega arith, λ same. (let wrong : true ≡ false = sym (eq-eqb (suc n) from same) ∙ e in cc))
    at_last false e (suc k) at = absurd (none_some t None refl at)

known_there : (n k : ℕ) (first : ℕ) (firsts : List ℕ) (t : Task) → IsFromThere (k + 1) first n t → IsKnown n k (first ∷ firsts) t
known_there n k first firsts (Work j f) h = h
known_there n k first firsts (Carry pair next lost) h =
    let from : pair.from ≡ k + 1 = h.0 in
    (omega (arith, from), h.2, h.3, h.4, ap (slice_get (first ∷ firsts)) (let none : pair.from - (k + 1) ≡ 0 = omega (arith, from) in none) ∙ ap (λ (m : ℕ). Some m) (sym h.1))

known_later : (n k : ℕ) (first : ℕ) (firsts : List ℕ) (t : Task) → IsKnown n (k + 1) firsts t → IsKnown n k (first ∷ firsts) t
known_later n k first firsts (Work j f) h = h
known_later n k first firsts (Carry pair next lost) h =
    let up : k + 1 < pair.from = h.0 in
    (omega (arith, up), h.1, h.2, h.3, ap (slice_get (first ∷ firsts)) (let one : pair.from - (k + 1) ≡ suc (pair.from - (k + 1 + 1)) = omega (arith, up) in one) ∙ h.4)

pub from_known : (n k : ℕ) (firsts : List ℕ) (i : ℕ) (t : Task) → slice_get (carriers_from n k firsts) i ≡ Some t → IsKnown n k firsts t
from_known n k [] i t is = absurd (none_some t None refl is)
from_known n k (first ∷ firsts) i t is = elim (get_either (carriers_to (k + 1) first n) (carriers_from n (k + 1) firsts) i t is) [
  | inl here ↦ known_there n k first firsts t (to_there (k + 1) first n i t here)
  | inr later ↦ known_later n k first firsts t (from_known n (k + 1) firsts later.0 t later.2)
]

-- a worker's task is that of the job at its place
pub job_task : (js : List JobState) (n : ℕ) (firsts : List ℕ) (i : ℕ) (j : JobState) (f : Option StormFault) → slice_get (list_map work js ++ carriers_from n 0 firsts) i ≡ Some (Work j f) → slice_get js i ≡ Some j
job_task js n firsts i j f is = elim (get_either (list_map work js) (carriers_from n 0 firsts) i (Work j f) is) [
  | inl first ↦ (let (x, there, same) = get_mapped work js i (Work j f) first in there ∙ ap (λ (y : JobState). Some y) (same_job x j None f same))
  | inr second ↦ absurd (from_known n 0 firsts second.0 (Work j f) second.2)
]
  where
    job_or : JobState → Task → JobState
    job_or d (Work x g) = x
    job_or d (Carry pair next lost) = d

    same_job : (x y : JobState) (g h : Option StormFault) → Work x g ≡ Work y h → x ≡ y
    same_job x y g h e = ap (job_or x) e

-- and a carrier's is one of those behind
pub carry_task : (js : List JobState) (n : ℕ) (firsts : List ℕ) (i : ℕ) (pair : Pair) (x y : ℕ) → slice_get (list_map work js ++ carriers_from n 0 firsts) i ≡ Some (Carry pair x y) → IsKnown n 0 firsts (Carry pair x y)
carry_task js n firsts i pair x y is = elim (get_either (list_map work js) (carriers_from n 0 firsts) i (Carry pair x y) is) [
  | inl first ↦ absurd (works_of_none pair.from pair.to i js (Carry pair x y) first (refl, refl))
  | inr second ↦ from_known n 0 firsts second.0 (Carry pair x y) second.2
]

-- a job of the list is a job
pub is_job : (js : List JobState) (i : ℕ) (j : JobState) → slice_get js i ≡ Some j → IsTrue (is_job_of js j.number)
is_job [] i j is = absurd (none_some j None refl is)
is_job (x ∷ js) zero j is = subst (λ (b : Bool). IsTrue (b || is_job_of js j.number)) (sym (eq-eqb x.number j.number (ap (λ (y : JobState). y.number) (same_some x j is)))) refl
is_job (x ∷ js) (suc i) j is = go (x.number == j.number) (is_job js i j is)
  where
    go : (b : Bool) → IsTrue (is_job_of js j.number) → IsTrue (b || is_job_of js j.number)
    go true more = refl
    go false more = more

-- ---- whose they are

abbrev pub who_for : Task → Who
who_for (Work j f) = worker j.number
who_for (Carry pair next lost) = carrier pair.from pair.to

-- one that there is not is nobody's
abbrev pub who_of : Option Task → Who
who_of None = carrier 0 0
who_of (Some t) = who_for t

-- no carrier brings what is for a worker
pub only_worker : (c k : ℕ) (ts : List Task) (pass : ℕ) (j : JobState) (f : Option StormFault) → slice_get ts pass ≡ Some (Work j f) → j.number ≡ k
    → ((i : ℕ) (x : JobState) (g : Option StormFault) → slice_get ts i ≡ Some (Work x g) → x.number ≡ k → i ≡ pass) → is_worker k (who_of (slice_get ts c)) ≡ (c == pass)
only_worker c k ts pass j f is number only = elim (cases_eq c pass) [
  | inl same ↦ ap (λ (n : ℕ). is_worker k (who_of (slice_get ts n))) same ∙ (ap (λ (o : Option Task). is_worker k (who_of o)) is ∙ (eq-eqb j.number k number ∙ sym (eq-eqb c pass same)))
  | inr away ↦ go away (slice_get ts c) refl ∙ sym (ne_eqb c pass away)
]
  where
    go : c ≢ pass → (o : Option Task) → slice_get ts c ≡ o → is_worker k (who_of o) ≡ false
    go away None at = refl
    go away (Some (Carry pair next lost)) at = refl
    go away (Some (Work x g)) at = ne_eqb x.number k (λ same. away (only c x g at same))

pub only_carrier : (c from to : ℕ) (ts : List Task) (pass : ℕ) (t : Task) → 1 ≤ from → slice_get ts pass ≡ Some t → IsOfPair from to t → AreApart ts → is_carrier from to (who_of (slice_get ts c)) ≡ (c == pass)
only_carrier c from to ts pass t some is of apart = elim (cases_eq c pass) [
  | inl same ↦ ap (λ (n : ℕ). is_carrier from to (who_of (slice_get ts n))) same ∙ (ap (λ (o : Option Task). is_carrier from to (who_of o)) is ∙ (its t of ∙ sym (eq-eqb c pass same)))
  | inr away ↦ go away (slice_get ts c) refl ∙ sym (ne_eqb c pass away)
]
  where
    its : (u : Task) → IsOfPair from to u → is_carrier from to (who_for u) ≡ true
    its (Work j f) h = absurd h
    its (Carry pair next lost) h = both_true pair.from from pair.to to (eq-eqb pair.from from h.0) (eq-eqb pair.to to h.1)

    other : (b : Bool) (u : Task) → is_of from to u ≡ b → (IsOfPair from to u → ⊥) → is_carrier from to (who_for u) ≡ false
    other b (Work j f) e none = refl
    other true (Carry pair next lost) e none = absurd (none (of_pair_is from to (Carry pair next lost) e))
    other false (Carry pair next lost) e none = e

    go : c ≢ pass → (o : Option Task) → slice_get ts c ≡ o → is_carrier from to (who_of o) ≡ false
    go away None at = ap (λ (x : Bool). x && (0 == to)) (ne_eqb 0 from (λ same. omega (arith, same, some)))
    go away (Some u) at = other (is_of from to u) u refl (λ both. away (apart c pass from to u t at is both of))
