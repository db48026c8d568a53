-- The rolls of messages, one after the other.
use Rattle.std.proofs.Common.{◌≡◌, ℕ, ◌+◌, ◌*◌, ◌≤◌, List, [], ◌∷◌, ◌++◌, Option, None, Some, sym, ap, ◌∙◌, arith}
use Rattle.std.specs.Prelude.{IfSome, option_to_list}
use Rattle.std.specs.List.{AllByRecursion}
use mathlib.Core.List.{append-nil, append_assoc}
use Rattle.rand_pcg.specs.Lcg.{Lcg}
use Rattle.alp_carrier.specs.Plans.{dice_of, roll, fate_of, brought_by, delayed_by, plan_step, plan_steps, planned}
use Rattle.alp_carrier.specs.declared.plan.Fate.{Fate}
use Rattle.alp_carrier.specs.declared.plan.Fate.TheVariants.{Lost, Twice, Delayed, Once}

module _ {X : Type 0} where
  -- one roll more
  pub steps_after : (way : Lcg × Option X) (xs : List X) (x : X) → plan_steps way (xs ++ x ∷ []) ≡ ((plan_steps way xs).0 ++ (plan_step (plan_steps way xs).1 x).0, (plan_step (plan_steps way xs).1 x).1)
  steps_after way [] x = ap (λ l. (l, (plan_step way x).1)) (append-nil (plan_step way x).0)
  steps_after way (y ∷ xs) x =
      let more = steps_after (plan_step way y).1 xs x in
      ap (λ (r : List X × (Lcg × Option X)). ((plan_step way y).0 ++ r.0, r.1)) more
      ∙ ap (λ l. (l, (plan_step (plan_steps (plan_step way y).1 xs).1 x).1)) (sym (append_assoc (plan_step way y).0 (plan_steps (plan_step way y).1 xs).0 (plan_step (plan_steps (plan_step way y).1 xs).1 x).0))

module _ {X : Type 0} (P : X → Type 0) where
  all_both : (xs ys : List X) → AllByRecursion P xs → AllByRecursion P ys → AllByRecursion P (xs ++ ys)
  all_both [] ys a b = b
  all_both (x ∷ xs) ys a b = (a.0, all_both xs ys a.1 b)

  all_by : (f : Fate) (x : X) → P x → AllByRecursion P (brought_by f x)
  all_by Lost x p = tt
  all_by Twice x p = (p, (p, tt))
  all_by Delayed x p = tt
  all_by Once x p = (p, tt)

  pub some_by : (f : Fate) (x : X) → P x → IfSome (delayed_by f x) P
  some_by Lost x p = tt
  some_by Twice x p = tt
  some_by Delayed x p = p
  some_by Once x p = tt

  all_delayed : (o : Option X) → IfSome o P → AllByRecursion P (option_to_list o)
  all_delayed None p = tt
  all_delayed (Some x) p = (p, tt)

  all_steps : (way : Lcg × Option X) (xs : List X) → IfSome way.1 P → AllByRecursion P xs → AllByRecursion P (plan_steps way xs).0 × IfSome (plan_steps way xs).1.1 P
  all_steps way [] delayed all = (tt, delayed)
  all_steps way (x ∷ xs) delayed all =
      let f : Fate = fate_of (roll way.0).0 in
      let more = all_steps (plan_step way x).1 xs (some_by f x all.0) all.1 in
      (all_both (plan_step way x).0 (plan_steps (plan_step way x).1 xs).0 (all_both (brought_by f x) (option_to_list way.1) (all_by f x all.0) (all_delayed way.1 delayed)) more.0, more.1)

  -- what holds of all messages holds of those that the plan brings
  pub all_planned : (seed : ℕ) (xs : List X) → AllByRecursion P xs → AllByRecursion P (planned seed xs)
  all_planned seed xs all =
      let h = all_steps (dice_of seed, None) xs tt all in
      all_both (plan_steps (dice_of seed, None) xs).0 (option_to_list (plan_steps (dice_of seed, None) xs).1.1) h.0 (all_delayed (plan_steps (dice_of seed, None) xs).1.1 h.1)

-- what messages weigh, in what is brought and in what is delayed
module _ {X : Type 0} (w : X → ℕ) where
  abbrev pub weigh : List X → ℕ
  weigh [] = 0
  weigh (x ∷ xs) = w x + weigh xs

  weigh_both : (xs ys : List X) → weigh (xs ++ ys) ≡ weigh xs + weigh ys
  weigh_both [] ys = omega arith
  weigh_both (x ∷ xs) ys = (let more : weigh (xs ++ ys) ≡ weigh xs + weigh ys = weigh_both xs ys in omega (arith, more))

  few_by : (f : Fate) (x : X) → weigh (brought_by f x) + weigh (option_to_list (delayed_by f x)) ≤ 2 * w x
  few_by Lost x = omega arith
  few_by Twice x = omega arith
  few_by Delayed x = omega arith
  few_by Once x = omega arith

  few_steps : (way : Lcg × Option X) (xs : List X) → weigh (plan_steps way xs).0 + weigh (option_to_list (plan_steps way xs).1.1) ≤ weigh (option_to_list way.1) + 2 * weigh xs
  few_steps way [] = omega arith
  few_steps way (x ∷ xs) =
      let f : Fate = fate_of (roll way.0).0 in
      let own : weigh (brought_by f x) + weigh (option_to_list (delayed_by f x)) ≤ 2 * w x = few_by f x in
      let more : weigh (plan_steps (plan_step way x).1 xs).0 + weigh (option_to_list (plan_steps (plan_step way x).1 xs).1.1) ≤ weigh (option_to_list (delayed_by f x)) + 2 * weigh xs = few_steps (plan_step way x).1 xs in
      let one : weigh ((plan_step way x).0 ++ (plan_steps (plan_step way x).1 xs).0) ≡ weigh (plan_step way x).0 + weigh (plan_steps (plan_step way x).1 xs).0 = weigh_both (plan_step way x).0 (plan_steps (plan_step way x).1 xs).0 in
      let two : weigh (plan_step way x).0 ≡ weigh (brought_by f x) + weigh (option_to_list way.1) = weigh_both (brought_by f x) (option_to_list way.1) in
      omega (arith, own, more, one, two)

  -- all that is brought weighs at most twice what was taken
  pub few_planned : (seed : ℕ) (xs : List X) → weigh (planned seed xs) ≤ 2 * weigh xs
  few_planned seed xs =
      let few : weigh (plan_steps (dice_of seed, None) xs).0 + weigh (option_to_list (plan_steps (dice_of seed, None) xs).1.1) ≤ 0 + 2 * weigh xs = few_steps (dice_of seed, None) xs in
      let both : weigh (planned seed xs) ≡ weigh (plan_steps (dice_of seed, None) xs).0 + weigh (option_to_list (plan_steps (dice_of seed, None) xs).1.1) = weigh_both (plan_steps (dice_of seed, None) xs).0 (option_to_list (plan_steps (dice_of seed, None) xs).1.1) in
      omega (arith, few, both)
