-- Which jobs came back.
use Rattle.std.specs.Prelude.{◌==◌, ◌||◌, Bool, true, false, IsTrue, map as list_map, slice_get, Option, None, Some, if◌then◌else◌}
use Rattle.std.proofs.Common.{◌≡◌, ◌⊎◌, ℕ, zero, suc, ◌<◌, List, [], ◌∷◌, ◌++◌, length, inl, inr, refl, sym, ◌∙◌, ap, subst, arith, eq-eqb, ne_eqb}
use Rattle.std.proofs.lemmas.Bool.{cases_eq}
use Rattle.alp_jobs.specs.States.{JobState}
use Rattle.alp_storm.specs.Storms.{work, jobs_in}
use Rattle.alp_storm.specs.declared.errand.Task.{Task}
use Rattle.alp_storm.specs.declared.errand.Task.TheVariants.{Work, Carry}
use Rattle.alp_storm.specs.declared.fault.StormFault.{StormFault}
use Rattle.alp_storm_course.specs.Joins.{number_of, is_job_of}
use Rattle.alp_storm_course.proofs.TaskLemmas.{same_some, none_some, index_of}

-- a client that has no job stands at none
pub at_none : (js : List JobState) (k : ℕ) (j : JobState) → (IsTrue (is_job_of js k) → ⊥) → slice_get js (index_of js k) ≡ Some j → ⊥
at_none [] k j none_so at = none_some j None refl at
at_none (x ∷ js) k j none_so at = go (cases_eq x.number k) (λ less. at_none js k j less)
  where
    go : (x.number ≡ k) ⊎ (x.number ≡ k → ⊥) → ((IsTrue (is_job_of js k) → ⊥) → slice_get js (index_of js k) ≡ Some j → ⊥) → ⊥
    go (inl same) more = none_so (ap (λ (b : Bool). b || is_job_of js k) (eq-eqb x.number k same))
    go (inr away) more =
        more (λ is. none_so (ap (λ (b : Bool). b || is_job_of js k) (ne_eqb x.number k away) ∙ is))
        (sym (ap (λ (b : Bool). slice_get (x ∷ js) (if b then 0 else suc (index_of js k))) (ne_eqb x.number k away)) ∙ at)

-- both are a worker's, or both a carrier's
abbrev pub AreAlike : Task → Task → Type 0
AreAlike (Work i f) (Work j g) = Unit {0}
AreAlike (Carry x n l) (Carry y m k) = Unit {0}
AreAlike t u = ⊥

abbrev pub HasNoWork : List Task → Type 0
HasNoWork us = (k : ℕ) (j : JobState) (f : Option StormFault) → slice_get us k ≡ Some (Work j f) → ⊥

abbrev pub AreAllAlike : List Task → List Task → Type 0
AreAllAlike us ts = (k : ℕ) (u t : Task) → slice_get us k ≡ Some u → slice_get ts k ≡ Some t → AreAlike u t

none_in : (us ts : List Task) → HasNoWork us → length ts ≡ length us → AreAllAlike us ts → jobs_in ts ≡ []
none_in [] [] none_so long alike = refl
none_in [] (t ∷ ts) none_so long alike = absurd (omega (arith, long))
none_in (u ∷ us) [] none_so long alike = absurd (omega (arith, long))
none_in (u ∷ us) (t ∷ ts) none_so long alike = go u t (alike 0 u t refl refl) (λ j f is. none_so 0 j f (ap (λ (x : Task). Some x) is)) (none_in us ts (λ k j f at. none_so (suc k) j f at) (omega (arith, long)) (λ k x y a b. alike (suc k) x y a b))
  where
    go : (x y : Task) → AreAlike x y → ((j : JobState) (f : Option StormFault) → x ≡ Work j f → ⊥) → jobs_in ts ≡ [] → jobs_in (y ∷ ts) ≡ []
    go (Work i f) y both never more = absurd (never i f refl)
    go (Carry pair n l) (Carry to m k) both never more = more
    go (Carry pair n l) (Work i f) both never more = absurd both

-- the jobs stand before all carriers, and so they do when they come back
pub job_back : (js : List JobState) (us ts : List Task) → HasNoWork us → length ts ≡ length (list_map work js ++ us) → AreAllAlike (list_map work js ++ us) ts → (k : ℕ) (x : JobState) → slice_get (jobs_in ts) k ≡ Some x
    → (g : Option StormFault) × (slice_get ts k ≡ Some (Work x g))
job_back [] us ts none_so long alike k x at = absurd (none_some x None refl (sym (ap (λ (l : List JobState). slice_get l k) (none_in us ts none_so long alike)) ∙ at))
job_back (j ∷ js) us [] none_so long alike k x at = absurd (none_some x None refl at)
job_back (j ∷ js) us (t ∷ ts) none_so long alike k x at = go t (alike 0 (work j) t refl refl) k at (λ i e. job_back js us ts none_so (omega (arith, long)) (λ n u v a b. alike (suc n) u v a b) i x e)
  where
    go : (y : Task) → AreAlike (work j) y → (i : ℕ) → slice_get (jobs_in (y ∷ ts)) i ≡ Some x → ((n : ℕ) → slice_get (jobs_in ts) n ≡ Some x → (g : Option StormFault) × (slice_get ts n ≡ Some (Work x g))) → (g : Option StormFault) × (slice_get (y ∷ ts) i ≡ Some (Work x g))
    go (Carry pair n l) both i e more = absurd both
    go (Work now g) both zero e more = (g, ap (λ (z : JobState). Some (Work z g)) (same_some now x e))
    go (Work now g) both (suc i) e more = more i e

-- with the same numbers
pub numbers_back : (js : List JobState) (us ts : List Task) → HasNoWork us → length ts ≡ length (list_map work js ++ us) → AreAllAlike (list_map work js ++ us) ts
    → ((k : ℕ) (j : JobState) (x : JobState) (g : Option StormFault) → slice_get js k ≡ Some j → slice_get ts k ≡ Some (Work x g) → x.number ≡ j.number) → list_map number_of (jobs_in ts) ≡ list_map number_of js
numbers_back [] us ts none_so long alike same = ap (list_map number_of) (none_in us ts none_so long alike)
numbers_back (j ∷ js) us [] none_so long alike same = absurd (omega (arith, long))
numbers_back (j ∷ js) us (t ∷ ts) none_so long alike same = go t (alike 0 (work j) t refl refl) (λ x g is. same 0 j x g refl (ap (λ (y : Task). Some y) is)) (numbers_back js us ts none_so (omega (arith, long)) (λ n u v a b. alike (suc n) u v a b) (λ n i x g a b. same (suc n) i x g a b))
  where
    go : (y : Task) → AreAlike (work j) y → ((x : JobState) (g : Option StormFault) → y ≡ Work x g → x.number ≡ j.number) → list_map number_of (jobs_in ts) ≡ list_map number_of js → list_map number_of (jobs_in (y ∷ ts)) ≡ list_map number_of (j ∷ js)
    go (Carry pair n l) both one more = absurd both
    go (Work now g) both one more = λ i. one now g refl i ∷ more i
