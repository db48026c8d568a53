-- jobs and faults, errand by errand
use Rattle.std.specs.Prelude.{Option, None, Some, map, drop, slice_index_or, Bool, true, false}
use Rattle.std.proofs.Common.{inl, inr, ◌≡◌, ℕ, zero, suc, ◌+◌, ◌<◌, ◌≤◌, List, [], ◌∷◌, ◌++◌, length, refl, sym, ap, ◌∙◌, subst, arith, length-append}
use mathlib.Core.List.{append-nil, append_assoc}
use Rattle.alp_jobs.specs.States.{JobState}
use Rattle.alp_carrier.specs.Sights.{Sight}
use Rattle.alp_storm.specs.Logs.{Log}
use Rattle.alp_storm.specs.Storms.{task_of, work, job_in, jobs_in, fault_in, or_else, first_fault, is_down, IsDownFault}
use Rattle.alp_storm.specs.declared.errand.Errand.{Errand}
use Rattle.alp_storm.specs.declared.errand.Task.{Task}
use Rattle.alp_storm.specs.declared.fault.StormFault.{StormFault}
use Rattle.alp_storm.specs.declared.fault.StormFault.TheVariants as fault

pub or_none : (f : Option StormFault) → or_else f None ≡ f
or_none None = refl
or_none (Some f) = refl

pub or_through : (f g h : Option StormFault) → or_else (or_else f g) h ≡ or_else f (or_else g h)
or_through None g h = refl
or_through (Some f) g h = refl

module _ {S B E : Type 0} where
  -- one more errand
  pub jobs_step : (all rest more : List (Errand S B E)) (e : Errand S B E) (xs ys zs : List JobState) → rest ≡ e ∷ more → ys ≡ xs ++ job_in e.task → xs ++ jobs_in (map task_of rest) ≡ zs → ys ++ jobs_in (map task_of more) ≡ zs
  jobs_step all rest more e xs ys zs is added was =
      ap (λ l. l ++ jobs_in (map task_of more)) added ∙ (append_assoc xs (job_in e.task) (jobs_in (map task_of more)) ∙ (ap (λ (l : List (Errand S B E)). xs ++ jobs_in (map task_of l)) (sym is) ∙ was))

  pub first_step : (rest more : List (Errand S B E)) (e : Errand S B E) (f g h : Option StormFault) → rest ≡ e ∷ more → g ≡ or_else f (fault_in e.task) → or_else f (first_fault (map task_of rest)) ≡ h → or_else g (first_fault (map task_of more)) ≡ h
  first_step rest more e f g h is added was =
      ap (λ x. or_else x (first_fault (map task_of more))) added ∙ (or_through f (fault_in e.task) (first_fault (map task_of more)) ∙ (ap (λ (l : List (Errand S B E)). or_else f (first_fault (map task_of l))) (sym is) ∙ was))

  pub room_step : (rest more : List (Errand S B E)) (e : Errand S B E) → rest ≡ e ∷ more → length (jobs_in (map task_of rest)) ≡ length (job_in e.task) + length (jobs_in (map task_of more))
  room_step rest more e is = ap (λ (l : List (Errand S B E)). length (jobs_in (map task_of l))) is ∙ length-append (job_in e.task) (jobs_in (map task_of more))

-- one more job
pub works_step : {T : Type 0} (xs ys zs : List T) (f : JobState → T) (rest more : List JobState) (j : JobState) → rest ≡ j ∷ more → ys ≡ xs ++ f j ∷ [] → xs ++ map f rest ≡ zs → ys ++ map f more ≡ zs
works_step xs ys zs f rest more j is added was = ap (λ l. l ++ map f more) added ∙ (append_assoc xs (f j ∷ []) (map f more) ∙ (ap (λ l. xs ++ map f l) (sym is) ∙ was))

module _ {A : Type 0} where
  drop_at : (xs : List A) (i : ℕ) (x : A) → i < length xs → slice_index_or xs i x ≡ x → drop i xs ≡ x ∷ drop (i + 1) xs
  drop_at [] i x low is = absurd (omega (arith, low))
  drop_at (y ∷ ys) zero x low is = ap (λ z. z ∷ ys) is
  drop_at (y ∷ ys) (suc i) x low is = (let m : suc i + 1 ≡ suc (i + 1) = omega arith in drop_at ys i x (omega (arith, low)) is ∙ ap (λ n. x ∷ drop n (y ∷ ys)) (sym m))

  pub drop_end : (xs : List A) (i : ℕ) → length xs ≤ i → drop i xs ≡ []
  drop_end [] zero low = refl
  drop_end [] (suc i) low = refl
  drop_end (x ∷ xs) zero low = absurd (omega (arith, low))
  drop_end (x ∷ xs) (suc i) low = drop_end xs i (omega (arith, low))

module _ {S B E : Type 0} (base_of : S → B) (entries_of : S → List E) (log : Log B E) (sight : Sight B E) (ys : List S) (i : ℕ) (y : S) (low : i < length ys) (is : slice_index_or ys i y ≡ y) where
  -- the server at the place is down, or it is not
  pub down_here : (f : Option StormFault) → is_down base_of entries_of log sight y ≡ true → f ≡ Some (fault.DiskFault (log.server (base_of y))) → IsDownFault base_of entries_of log sight (drop i ys) f
  down_here f down named = subst (λ (l : List S). IsDownFault base_of entries_of log sight l f) (sym (drop_at ys i y low is)) (inl (down, named))

  pub up_here : (f : Option StormFault) → is_down base_of entries_of log sight y ≡ false → IsDownFault base_of entries_of log sight (drop (i + 1) ys) f → IsDownFault base_of entries_of log sight (drop i ys) f
  up_here f up later = subst (λ (l : List S). IsDownFault base_of entries_of log sight l f) (sym (drop_at ys i y low is)) (inr (up, later))
