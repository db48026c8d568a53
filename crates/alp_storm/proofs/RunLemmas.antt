-- what errands came to, and the servers behind them
use Rattle.std.specs.Prelude.{slice_get, map, Option, Some, None}
use Rattle.std.proofs.Common.{◌≡◌, ℕ, zero, suc, ◌+◌, ◌<◌, ◌≤◌, List, [], ◌∷◌, ◌++◌, length, refl, sym, ap, ◌∙◌, subst, arith, length-append}
use Rattle.alp_monitor.specs.Passes.{first_base}
use Rattle.alp_monitor.specs.declared.monitor.Monitor.{Monitor}
use Rattle.alp_monitor.specs.declared.monitor.Pass.{Pass}
use Rattle.alp_carrier.specs.Sights.{Sight}
use Rattle.alp_storm.specs.Logs.{Log}
use Rattle.alp_storm.specs.Errands.{DidTask, AreDone}
use Rattle.alp_jobs.specs.States.{JobState}
use Rattle.alp_storm.specs.Storms.{task_of, job_in, jobs_in, tasks_for, HaveTasks, AreRings, AreOf, AreClosed, KeepBases}
use Rattle.alp_storm.specs.declared.errand.Errand.{Errand}
use Rattle.alp_storm.specs.declared.errand.Task.{Task}
use Rattle.alp_storm.specs.declared.errand.Task.TheVariants.{Work, Carry}
use Rattle.alp_storm.proofs.Lists.{get_within, get_at}
use Rattle.alp_storm.proofs.TaskLemmas.{tasks_jobs}

module _ {S B E : Type 0} where
  pub same_tasks : (ds es : List (Errand S B E)) → HaveTasks ds es → length es ≡ length ds → map task_of es ≡ map task_of ds
  same_tasks [] [] have many = refl
  same_tasks [] (e ∷ es) have many = absurd (omega (arith, many))
  same_tasks (d ∷ ds) [] have many = absurd (omega (arith, many))
  same_tasks (d ∷ ds) (e ∷ es) have many =
      let rest : map task_of es ≡ map task_of ds = same_tasks ds es (λ k x y a b. have (suc k) x y a b) (omega (arith, many)) in
      (λ i. have 0 d e refl refl i ∷ rest i)

  pub kept_jobs : (ds es : List (Errand S B E)) → length es ≡ length ds → ((k : ℕ) (d e : Errand S B E) → slice_get ds k ≡ Some d → slice_get es k ≡ Some e → length (job_in e.task) ≡ length (job_in d.task)) → length (jobs_in (map task_of es)) ≡ length (jobs_in (map task_of ds))
  kept_jobs [] [] many each = refl
  kept_jobs [] (e ∷ es) many each = absurd (omega (arith, many))
  kept_jobs (d ∷ ds) [] many each = absurd (omega (arith, many))
  kept_jobs (d ∷ ds) (e ∷ es) many each =
      let rest : length (jobs_in (map task_of es)) ≡ length (jobs_in (map task_of ds)) = kept_jobs ds es (omega (arith, many)) (λ k x y a b. each (suc k) x y a b) in
      let one : length (job_in e.task) ≡ length (job_in d.task) = each 0 d e refl refl in
      let here = length-append (job_in e.task) (jobs_in (map task_of es)) in
      let there = length-append (job_in d.task) (jobs_in (map task_of ds)) in
      omega (arith, rest, one, here, there)

module _ {S B E : Type 0} (base_of : S → B) (log : Log B E) (sight : Sight B E) (seed : ℕ) (ms : List (Monitor S B E)) where
  one_job : (k : ℕ) (t u : Task) (r s : List (Pass S B E)) → DidTask base_of log sight seed ms k t r u s → length (job_in u) ≡ length (job_in t)
  one_job k (Work j f) (Work i h) r s did = refl
  one_job k (Carry pair next lost) (Carry to n l) r s did = refl
  one_job k (Work j f) (Carry to n l) r s did = absurd did
  one_job k (Carry pair next lost) (Work i h) r s did = absurd did

  pub done_jobs : (before now : List (Errand S B E)) → AreDone base_of log sight seed ms before now → length (jobs_in (map task_of now)) ≡ length (jobs_in (map task_of before))
  done_jobs before now d = kept_jobs before now d.long (λ k x y a b. one_job k x.task y.task x.ring.items y.ring.items (d.each k x y a b).did)

  pub done_rings : (before now : List (Errand S B E)) → AreDone base_of log sight seed ms before now → AreRings base_of ms now
  done_rings before now d k y at =
      let long = d.long in
      let b = get_at before k (let w = get_within now k y at in omega (arith, w, long)) in
      (d.each k b.0 y b.1 at).ring_is

module _ {S B E : Type 0} (base_of : S → B) (entries_of : S → List E) where
  pub kept_bases : (ms : List (Monitor S B E)) (ds : List (Errand S B E)) (ys zs : List S) → AreOf base_of ms ys → length ms ≡ length ys → AreClosed base_of entries_of ms ds zs → KeepBases base_of ys zs
  kept_bases ms ds ys zs of long closed i y z y_at z_at =
      let m = get_at ms i (let w = get_within ys i y y_at in omega (arith, w, long)) in
      (closed i m.0 z m.1 z_at).base_is ∙ of i m.0 y m.1 y_at

module _ {S B E : Type 0} (base_of : S → B) (sight : Sight B E) where
  -- the jobs of errands that were put for them
  pub begun_jobs : (ys : List S) (jobs : List JobState) (before ds : List (Errand S B E)) → HaveTasks before ds → length ds ≡ length before → map task_of before ≡ tasks_for base_of sight ys jobs → jobs_in (map task_of ds) ≡ jobs
  begun_jobs ys jobs before ds have many tasks = ap jobs_in (same_tasks before ds have many ∙ tasks) ∙ tasks_jobs base_of sight ys jobs
