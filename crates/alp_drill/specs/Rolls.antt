-- what is rolled for a drill
use Rattle.std.specs.Prelude.{ℕ, ◌%◌, List, [], ◌∷◌, ◌++◌}
use Rattle.rand_core.specs.Pcg32Seed.{pcg32_seed}
use Rattle.rand_pcg.specs.Pcg.{pcg32, pcg32_of_seed}
use Rattle.alp_drill.specs.declared.dice.Dice.{Dice}

-- the generator of a seed; no server was stopped yet, and none is started again before one is
unfoldable pub dice_of : ℕ → Dice
dice_of seed = record { rng = pcg32_of_seed (pcg32_seed 16 seed); stopped = 1 }

-- a number below n: the remainder of the generator's next word
unfoldable pub roll : ℕ → Dice → ℕ × Dice
roll n dice = ((pcg32 dice.rng).0 % n, record dice { rng = (pcg32 dice.rng).1 })

-- each of these in its turn: what they make, one behind the other, and what the last leaves
abbrev pub in_turn : {X Y : Type 0} → (X → Dice → List Y × Dice) → List X → Dice → List Y × Dice
in_turn make [] dice = ([], dice)
in_turn make (x ∷ xs) dice =
    let first = make x dice in
    let others = in_turn make xs first.1 in
    (first.0 ++ others.0, others.1)

-- first what the one makes, and then what the other makes
abbrev pub both : {Y : Type 0} → (Dice → List Y × Dice) → (Dice → List Y × Dice) → Dice → List Y × Dice
both one other dice =
    let first = one dice in
    let others = other first.1 in
    (first.0 ++ others.0, others.1)
