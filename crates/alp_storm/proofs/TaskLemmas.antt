-- the tasks of a storm
use Rattle.std.specs.Prelude.{slice_get, min, map, Bool, true, false, cond, Option, Some, None, ◌==◌, if◌then◌else◌}
use Rattle.std.specs.List.{AllByRecursion}
use Rattle.std.proofs.Common.{inl, inr, ◌⊎◌, ◌≡◌, ◌≢◌, ℕ, zero, suc, ◌+◌, ◌<◌, ◌≤◌, List, [], ◌∷◌, ◌++◌, length, refl, sym, ap, ◌∙◌, subst, arith, length-append}
use Rattle.std.proofs.lemmas.Bool.Decides.{eqb_tells}
use mathlib.Core.List.{append-nil, append_assoc, map-append}
use lib.ListN.{length-map}
use Rattle.alp_session.specs.Crowds.{client_at}
use Rattle.alp_session.specs.Frames.{IsReady}
use Rattle.alp_jobs.specs.States.{JobState}
use Rattle.alp_monitor.specs.History.{entries_in}
use Rattle.alp_monitor.specs.Passes.{front, first_base}
use Rattle.alp_monitor.specs.declared.monitor.Monitor.{Monitor}
use Rattle.alp_monitor.specs.declared.monitor.Pass.{Pass}
use Rattle.alp_carrier.specs.Sights.{Sight}
use Rattle.alp_carrier.specs.Takes.{sent_before}
use Rattle.alp_carrier.specs.declared.route.Pair.{Pair}
use Rattle.alp_storm.specs.Errands.{IsPairOf, IsFirst, FitsTask, IsDue, AreDue}
use Rattle.alp_storm.specs.Storms.{AreFirst, AreOf, HaveTasks, IsOpen, AreOpen, AreReady, work, carrier_to, carriers_to, carriers_from, job_in, jobs_in, end_of, tasks_for, task_of}
use Rattle.alp_storm.specs.declared.errand.Errand.{Errand}
use Rattle.alp_storm.specs.declared.errand.Task.{Task}
use Rattle.alp_storm.specs.declared.errand.Task.TheVariants.{Work, Carry}
use Rattle.alp_storm.proofs.Lists.{get_at, get_within, same_some}

module _ {A : Type 0} where
  all_both : (P : A → Type 0) (xs ys : List A) → AllByRecursion P xs → AllByRecursion P ys → AllByRecursion P (xs ++ ys)
  all_both P [] ys a b = b
  all_both P (x ∷ xs) ys a b = (a.0, all_both P xs ys a.1 b)

  all_at : (P : A → Type 0) (xs : List A) (i : ℕ) (x : A) → slice_get xs i ≡ Some x → AllByRecursion P xs → P x
  all_at P [] i x e all = absurd (let f : None ≡ Some x = e in cc)
  all_at P (y ∷ ys) zero x e all = subst P (same_some y x e) all.0
  all_at P (y ∷ ys) (suc i) x e all = all_at P ys i x e all.1

  all_of : (P Q : A → Type 0) (xs : List A) → ((x : A) → P x → Q x) → AllByRecursion P xs → AllByRecursion Q xs
  all_of P Q [] f all = tt
  all_of P Q (x ∷ xs) f all = (f x all.0, all_of P Q xs f all.1)

-- a carrier between two of so many servers, from one of these firsts on
abbrev IsCarrier : (servers k : ℕ) → List ℕ → Task → Type 0
IsCarrier n k firsts (Carry pair next lost) = (i : ℕ) × (pair.from ≡ k + i + 1) × (slice_get firsts i ≡ Some pair.first) × (1 ≤ pair.to) × (pair.to ≤ n) × (pair.from ≢ pair.to)
IsCarrier n k firsts (Work j f) = ⊥

-- one from that server to one of so many others
abbrev IsFrom : (from first to : ℕ) → Task → Type 0
IsFrom from first to (Carry pair next lost) = (pair.from ≡ from) × (pair.first ≡ first) × (1 ≤ pair.to) × (pair.to ≤ to) × (pair.from ≢ pair.to)
IsFrom from first to (Work j f) = ⊥

further : (from first a b : ℕ) → a ≤ b → (t : Task) → IsFrom from first a t → IsFrom from first b t
further from first a b low (Carry pair next lost) h = (h.0, h.1, h.2, omega (arith, h.3, low), h.4)
further from first a b low (Work j f) h = h

to_all : (from first n : ℕ) → AllByRecursion (IsFrom from first n) (carriers_to from first n)
to_all from first zero = tt
to_all from first (suc n) =
    all_both (IsFrom from first (suc n)) (carriers_to from first n) _ (all_of (IsFrom from first n) (IsFrom from first (suc n)) (carriers_to from first n) (further from first n (suc n) (omega arith)) (to_all from first n)) (elim (eqb_tells (suc n) from) [
      | inl same ↦ subst (λ (b : Bool). AllByRecursion (IsFrom from first (suc n)) (if b then [] else Carry (record { from = from; to = suc n; first = first }) 0 0 ∷ [])) (sym same.0) tt
      | inr away ↦ subst (λ (b : Bool). AllByRecursion (IsFrom from first (suc n)) (if b then [] else Carry (record { from = from; to = suc n; first = first }) 0 0 ∷ [])) (sym away.0)
          ((refl, refl, omega arith, omega arith, λ is. away.1 (sym is)), tt)
    ])

from_here : (n k first : ℕ) (firsts : List ℕ) (t : Task) → IsFrom (k + 1) first n t → IsCarrier n k (first ∷ firsts) t
from_here n k first firsts (Carry pair next lost) h = (0, omega (arith, h.0), ap Some (sym h.1), h.2, h.3, h.4)
from_here n k first firsts (Work j f) h = h

from_there : (n k first : ℕ) (firsts : List ℕ) (t : Task) → IsCarrier n (k + 1) firsts t → IsCarrier n k (first ∷ firsts) t
from_there n k first firsts (Carry pair next lost) (i, from, at, some, within, apart) = (suc i, omega (arith, from), at, some, within, apart)
from_there n k first firsts (Work j f) h = h

from_all : (n k : ℕ) (firsts : List ℕ) → AllByRecursion (IsCarrier n k firsts) (carriers_from n k firsts)
from_all n k [] = tt
from_all n k (first ∷ firsts) =
    all_both (IsCarrier n k (first ∷ firsts)) (carriers_to (k + 1) first n) (carriers_from n (k + 1) firsts)
    (all_of (IsFrom (k + 1) first n) (IsCarrier n k (first ∷ firsts)) (carriers_to (k + 1) first n) (from_here n k first firsts) (to_all (k + 1) first n))
    (all_of (IsCarrier n (k + 1) firsts) (IsCarrier n k (first ∷ firsts)) (carriers_from n (k + 1) firsts) (from_there n k first firsts) (from_all n (k + 1) firsts))

-- ---- more of them

pub from_more : (n k first : ℕ) (firsts : List ℕ) → carriers_from n k (firsts ++ first ∷ []) ≡ carriers_from n k firsts ++ carriers_to (k + length firsts + 1) first n
from_more n k first [] = (let m : k + 1 ≡ k + 0 + 1 = omega arith in append-nil (carriers_to (k + 1) first n) ∙ ap (λ i. carriers_to i first n) m)
from_more n k first (f ∷ fs) =
    ap (λ l. carriers_to (k + 1) f n ++ l) (from_more n (k + 1) first fs ∙ (let m : (k + 1) + length fs + 1 ≡ k + suc (length fs) + 1 = omega arith in ap (λ i. carriers_from n (k + 1) fs ++ carriers_to i first n) m))
    ∙ sym (append_assoc (carriers_to (k + 1) f n) (carriers_from n (k + 1) fs) (carriers_to (k + suc (length fs) + 1) first n))

-- ---- jobs

jobs_both : (ts us : List Task) → jobs_in (ts ++ us) ≡ jobs_in ts ++ jobs_in us
jobs_both [] us = refl
jobs_both (t ∷ ts) us = ap (λ l. job_in t ++ l) (jobs_both ts us) ∙ sym (append_assoc (job_in t) (jobs_in ts) (jobs_in us))

works_jobs : (jobs : List JobState) → jobs_in (map work jobs) ≡ jobs
works_jobs [] = refl
works_jobs (j ∷ js) = ap (λ l. j ∷ l) (works_jobs js)

no_jobs : (n k : ℕ) (firsts : List ℕ) (ts : List Task) → AllByRecursion (IsCarrier n k firsts) ts → jobs_in ts ≡ []
no_jobs n k firsts [] all = refl
no_jobs n k firsts (Carry pair next lost ∷ ts) all = no_jobs n k firsts ts all.1
no_jobs n k firsts (Work j f ∷ ts) all = absurd all.0

module _ {S B E : Type 0} (base_of : S → B) (sight : Sight B E) (ys : List S) (jobs : List JobState) where
  pub tasks_jobs : jobs_in (tasks_for base_of sight ys jobs) ≡ jobs
  tasks_jobs =
      jobs_both (map work jobs) (carriers_from (length ys) 0 (map (end_of base_of sight) ys))
      ∙ ((λ i. works_jobs jobs i ++ no_jobs (length ys) 0 (map (end_of base_of sight) ys) (carriers_from (length ys) 0 (map (end_of base_of sight) ys)) (from_all (length ys) 0 (map (end_of base_of sight) ys)) i) ∙ append-nil jobs)

  -- a worker of one of the jobs, or a carrier
  abbrev IsTask : Task → Type 0
  IsTask (Work j f) = IsReady j.number (client_at j.crowd j.number)
  IsTask (Carry pair next lost) = IsCarrier (length ys) 0 (map (end_of base_of sight) ys) (Carry pair next lost)

  works_ready : (js : List JobState) → AreReady js → AllByRecursion IsTask (map work js)
  works_ready [] ready = tt
  works_ready (j ∷ js) ready = (ready 0 j refl, works_ready js (λ k x e. ready (suc k) x e))

  carrier_task : (t : Task) → IsCarrier (length ys) 0 (map (end_of base_of sight) ys) t → IsTask t
  carrier_task (Carry pair next lost) h = h
  carrier_task (Work j f) h = absurd h

  tasks_all : AreReady jobs → AllByRecursion IsTask (tasks_for base_of sight ys jobs)
  tasks_all ready =
      all_both IsTask (map work jobs) (carriers_from (length ys) 0 (map (end_of base_of sight) ys)) (works_ready jobs ready)
      (all_of (IsCarrier (length ys) 0 (map (end_of base_of sight) ys)) IsTask (carriers_from (length ys) 0 (map (end_of base_of sight) ys)) carrier_task (from_all (length ys) 0 (map (end_of base_of sight) ys)))

  -- what stands in a list of ends
  end_at : (xs : List S) (i n : ℕ) → slice_get (map (end_of base_of sight) xs) i ≡ Some n → (y : S) × (slice_get xs i ≡ Some y) × (n ≡ end_of base_of sight y)
  end_at [] i n e = absurd (let f : None ≡ Some n = e in cc)
  end_at (x ∷ xs) zero n e = (x, refl, sym (same_some (end_of base_of sight x) n e))
  end_at (x ∷ xs) (suc i) n e = end_at xs i n e

  module _ (ms : List (Monitor S B E)) (long : length ms ≡ length ys) (of : AreOf base_of ms ys) where
    fits : (t : Task) (ps : List (Pass S B E)) → AreFirst ps → IsTask t → FitsTask base_of sight ms ps t
    fits (Work j f) ps first h = h
    fits (Carry pair next lost) ps first (i, from, at, some, within, apart) = (
      record { sender = (omega (arith, from), omega (arith, from, here, many, long)); receiver = (some, omega (arith, within, long)); apart = apart },
      begins,
    )
      where
        many : length (map (end_of base_of sight) ys) ≡ length ys
        many = length-map ys (end_of base_of sight)

        here : i < length (map (end_of base_of sight) ys)
        here = get_within (map (end_of base_of sight) ys) i pair.first at

        begins : IsFirst base_of sight ms pair ps
        begins j m p is m_at p_at =
            let same : i ≡ j = omega (arith, from, is) in
            let y = end_at ys i pair.first at in
            let base : first_base base_of m ≡ base_of y.0 = of j m y.0 m_at (ap (λ n. slice_get ys n) (sym same) ∙ y.1) in
            let none : front p ≡ [] = (first j p p_at).1 in
            let sent : length (sent_before base_of sight m p) ≡ length (sight.sent (base_of y.0) []) = (λ n. length (sight.sent (base n) (entries_in (none n)))) in
            let end : pair.first ≡ min (length (sight.sent (base_of y.0) [])) 4294967295 = y.2 in
            omega (arith, sent, end)

  -- errands with these tasks and new passes are due
  pub are_due : (ms : List (Monitor S B E)) (before ds : List (Errand S B E)) → length ms ≡ length ys → AreOf base_of ms ys → AreOpen base_of (length ys) ms ds → HaveTasks before ds → length ds ≡ length before → map task_of before ≡ tasks_for base_of sight ys jobs → AreReady jobs → AreDue base_of sight ms ds
  are_due ms before ds long of opened same many tasks ready k d e =
      let b = get_at before k (let w = get_within ds k d e in omega (arith, w, many)) in
      let task : d.task ≡ b.0.task = same k b.0 d b.1 e in
      let o = opened k d e in
      record {
        ring_is = o.ring;
        fits = fits ms long of d.task d.ring.items o.fresh (subst IsTask (sym task) (all_at IsTask (tasks_for base_of sight ys jobs) k b.0.task (ap (λ l. slice_get l k) (sym tasks) ∙ mapped before k b.0 b.1) (tasks_all ready)));
      }
    where
      mapped : (xs : List (Errand S B E)) (i : ℕ) (x : Errand S B E) → slice_get xs i ≡ Some x → slice_get (map task_of xs) i ≡ Some x.task
      mapped [] i x e = absurd (let f : None ≡ Some x = e in cc)
      mapped (y ∷ ys) zero x e = ap (λ (z : Errand S B E). Some z.task) (same_some y x e)
      mapped (y ∷ ys) (suc i) x e = mapped ys i x e
