-- What the plan of a pair of servers makes of the messages of one to the other.
use Rattle.std.specs.Prelude.{ℕ, ◌%◌, ◌==◌, List, [], ◌∷◌, ◌++◌, Option, None, Some, option_to_list, if◌then◌else◌}
use Rattle.rand_core.specs.Pcg32Seed.{pcg32_seed}
use Rattle.rand_pcg.specs.Lcg.{Lcg}
use Rattle.rand_pcg.specs.Pcg.{pcg32, pcg32_of_seed}
use Rattle.alp_carrier.specs.declared.plan.Fate.{Fate}
use Rattle.alp_carrier.specs.declared.plan.Fate.TheVariants.{Lost, Twice, Delayed, Once}

-- the dice of a seed, before the first roll
unfoldable pub dice_of : ℕ → Lcg
dice_of seed = pcg32_of_seed (pcg32_seed 16 seed)

-- one roll: a number below 8, and the dice after it
unfoldable pub roll : Lcg → ℕ × Lcg
roll dice = ((pcg32 dice).0 % 8, (pcg32 dice).1)

abbrev pub fate_of : ℕ → Fate
fate_of n = if n == 0 then Lost else (if n == 1 then Twice else (if n == 2 then Delayed else Once))

module _ {X : Type 0} where
  -- what a message with this fate brings at its own roll
  abbrev pub brought_by : Fate → X → List X
  brought_by Lost x = []
  brought_by Twice x = x ∷ x ∷ []
  brought_by Delayed x = []
  brought_by Once x = x ∷ []

  -- the message that is delayed from then on
  abbrev pub delayed_by : Fate → X → Option X
  delayed_by Delayed x = Some x
  delayed_by f x = None

  -- A message's roll, from dice and a message that is delayed. What it brings comes first, then the one that was delayed.
  abbrev pub plan_step : Lcg × Option X → X → List X × (Lcg × Option X)
  plan_step way x = (brought_by (fate_of (roll way.0).0) x ++ option_to_list way.1, ((roll way.0).1, delayed_by (fate_of (roll way.0).0) x))

  -- the rolls of these messages, one after the other
  abbrev pub plan_steps : Lcg × Option X → List X → List X × (Lcg × Option X)
  plan_steps way [] = ([], way)
  plan_steps way (x ∷ xs) = ((plan_step way x).0 ++ (plan_steps (plan_step way x).1 xs).0, (plan_steps (plan_step way x).1 xs).1)

  -- All that the plan of this seed brings of these messages. What is delayed by the last one comes at the end.
  abbrev pub planned : ℕ → List X → List X
  planned seed xs = (plan_steps (dice_of seed, None) xs).0 ++ option_to_list (plan_steps (dice_of seed, None) xs).1.1
