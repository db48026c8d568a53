-- How often a message comes.
use Rattle.std.specs.Prelude.{◌*◌, drop, map as list_map, take}
use Rattle.std.proofs.Common.{◌≡◌, ℕ, ◌+◌, ◌≤◌, List, [], ◌∷◌, ◌++◌, refl, ◌∙◌, ap, arith}
use Rattle.alp_carrier.specs.Claims.{weight_of}
use Rattle.alp_carrier.specs.Plans.{planned}
use Rattle.alp_carrier.specs.Takes.{addressed_to, message_of}
use Rattle.alp_carrier.specs.declared.taken.Taken.{Taken}
use Rattle.alp_carrier.proofs.PlanLemmas.{weigh, few_planned}
use Rattle.alp_journal.specs.declared.message.Message.{Message}
use Rattle.alp_course.specs.Courses.{Occurrence}
use Rattle.alp_merge.specs.Carried.{sent_in, AreBroughtTo, nothing, one_came, one_missed, AreCarriedBy, messages_by}
use Rattle.alp_merge.specs.Served.{Ranked}

-- what came weighs at most what was to come
brought_weight : (Starved : ℕ → Message → Type 0) (from to : ℕ) (base entries : List Ranked) (w : Message → ℕ) (place : ℕ) (xs : List Taken) (os : List Occurrence) → AreBroughtTo Starved from to base entries place xs os
    → weight_of w (messages_by os) ≤ weigh (λ (x : Taken). w x.message) xs
brought_weight Starved from to base entries w place xs os (nothing k) = omega arith
brought_weight Starved from to base entries w place xs os (one_came k at_place x e ys qs above at came more) =
    let rest : weight_of w (messages_by qs) ≤ weigh (λ (y : Taken). w y.message) ys = brought_weight Starved from to base entries w (at_place + 1) ys qs more in
    omega (arith, rest)
brought_weight Starved from to base entries w place xs os (one_missed k behind x ys qs above low why more) =
    let rest : weight_of w (messages_by qs) ≤ weigh (λ (y : Taken). w y.message) ys = brought_weight Starved from to base entries w behind ys qs more in
    omega (arith, rest)

taken_weight : (w : Message → ℕ) (xs : List Taken) → weigh (λ (x : Taken). w x.message) xs ≡ weight_of w (list_map message_of xs)
taken_weight w [] = refl
taken_weight w (x ∷ xs) = ap (λ (n : ℕ). w x.message + n) (taken_weight w xs)

pub come_twice : (Starved : ℕ → Message → Type 0) (seed first from to : ℕ) (there here there_more here_more : List Ranked) (taken : List Taken) (done : List Occurrence) → (h : AreCarriedBy Starved seed first from to there here there_more here_more taken done)
    (w : Message → ℕ) → weight_of w (messages_by done) ≤ 2 * weight_of w (addressed_to to (drop first (take h.next (sent_in (there ++ there_more)))))
come_twice Starved seed first from to there here there_more here_more taken done h w =
    let came : weight_of w (messages_by done) ≤ weigh (λ (x : Taken). w x.message) (planned seed taken) = brought_weight Starved from to here here_more w 0 (planned seed taken) done h.brought in
    let few : weigh (λ (x : Taken). w x.message) (planned seed taken) ≤ 2 * weigh (λ (x : Taken). w x.message) taken = few_planned (λ (x : Taken). w x.message) seed taken in
    let are : weigh (λ (x : Taken). w x.message) taken ≡ weight_of w (addressed_to to (drop first (take h.next (sent_in (there ++ there_more))))) = taken_weight w taken ∙ ap (weight_of w) h.are in
    omega (arith, came, few, are)
