-- the lines of the rounds may stand there, and are not too many
use Rattle.std.specs.Prelude.{Bool, ◌/◌, ◌%◌, cond}
use Rattle.std.specs.List.{AllByRecursion, range_with_len}
use Rattle.std.proofs.Common.{◌≡◌, ℕ, zero, suc, ◌+◌, ◌*◌, ◌<◌, ◌≤◌, ◌^◌, List, [], ◌∷◌, length, true, false, refl, arith}
use Rattle.alp_lines.specs.declared.line.Line.{Line}
use Rattle.alp_drill.specs.declared.dice.Dice.{Dice}
use Rattle.alp_drill.specs.Rolls.{roll, in_turn, both}
use Rattle.alp_drill.specs.Shapes.{IsShape, drill_shape}
use Rattle.alp_drill.specs.Rounds.{is_stop, is_restart, stop_line, stopping, restart_lines, restarting, turn_of, round, rounds}
use Rattle.alp_drill.specs.Transactions.{transaction}
use Rattle.alp_drill.proofs.BoundLemmas.{all_words}
use Rattle.alp_drill.proofs.SteadyLemmas.{IsSteady, stop_steady, restart_steady, settle_steady, turns_client, a_server, within}
use Rattle.alp_drill.proofs.TransactionLemmas.{Stands, Are, Makes, makes_both, makes_turn, makes_less, nothing_made, in_all, rolled, below, IsOwn, IsTurn, transaction_made}

-- the sizes of a drill are some of a shape
pub drill_sizes : IsShape drill_shape
drill_sizes = record {
  some_servers = omega arith;
  few_servers = omega arith;
  some_owners = omega arith;
  few_owners = omega arith;
  some_groups = omega arith;
  few_groups = omega arith;
  some_pages = omega arith;
  few_pages = omega arith;
}

-- a line that may stand after the setup of a drill
abbrev pub IsLater : Line → Type 0
IsLater = IsSteady drill_shape (all_words drill_shape)

fourteen_each : (a k : ℕ) → in_all 14 (range_with_len a k) ≡ 14 * k
fourteen_each a zero = refl
fourteen_each a (suc k) = omega (arith, fourteen_each (a + 1) k)

stop_made : Makes IsLater 3 1 stop_line
stop_made dice stands =
    let server = roll 3 dice in
    let calls = roll 16 server.1 in
    let low : calls.0 < 16 = below 16 server.1 (omega arith) in
    let which : server.0 < 3 = below 3 dice (omega arith) in
    record {
      lines = (stop_steady drill_shape (all_words drill_shape) (1 + server.0) calls.0 drill_sizes (a_server drill_shape server.0 which) (omega (arith, low)), tt);
      few = omega arith;
      stands = record { least = omega arith; most_is = omega (arith, which) };
    }

stopping_by : (b : Bool) (dice : Dice) → Stands 3 dice → Are IsLater 3 1 (cond b (stop_line dice) ([], dice))
stopping_by true dice stands = stop_made dice stands
stopping_by false dice stands = nothing_made IsLater 3 dice stands 1

stopping_made : (period k : ℕ) → Makes IsLater 3 1 (stopping period k)
unfolding stopping
stopping_made period k dice stands = stopping_by (is_stop period k) dice stands

restart_made : Makes IsLater 3 2 restart_lines
restart_made dice stands =
    let pick = roll 8 dice in
    let low : pick.0 < 8 = below 8 dice (omega arith) in
    record {
      lines = (
        restart_steady drill_shape (all_words drill_shape) dice.stopped pick.0 drill_sizes (within 3 dice.stopped stands.least stands.most_is) (omega (arith, low)),
        (settle_steady drill_shape (all_words drill_shape) drill_sizes, tt),
      );
      few = omega arith;
      stands = rolled 8 3 dice stands;
    }

restarting_by : (b : Bool) (dice : Dice) → Stands 3 dice → Are IsLater 3 2 (cond b (restart_lines dice) ([], dice))
restarting_by true dice stands = restart_made dice stands
restarting_by false dice stands = nothing_made IsLater 3 dice stands 2

restarting_made : (period k : ℕ) → Makes IsLater 3 2 (restarting period k)
unfolding restarting
restarting_made period k dice stands = restarting_by (is_restart period k) dice stands

a_turn : (k : ℕ) → k < 2 ^ 32 → IsTurn (turn_of k)
a_turn k short = record { sizes = drill_sizes; client = turns_client drill_shape k drill_sizes; short = short }

own_made : (pages : List ℕ) (k : ℕ) → k < 2 ^ 32 → Makes IsLater 3 11 (transaction pages (turn_of k))
own_made pages k short =
    makes_less (IsOwn drill_shape (turn_of k).client) IsLater 3 11 (transaction pages (turn_of k)) (λ l own. own.steady) (transaction_made pages (turn_of k) (a_turn k short))

round_made : (pages : List ℕ) (period k : ℕ) → k < 2 ^ 32 → Makes IsLater 3 14 (round pages period k)
round_made pages period k short =
    makes_both IsLater 3 1 13 (stopping period k) (both (restarting period k) (transaction pages (turn_of k))) (stopping_made period k)
    (makes_both IsLater 3 2 11 (restarting period k) (transaction pages (turn_of k)) (restarting_made period k) (own_made pages k short))

pub numbers_below : (most a n : ℕ) → a + n ≤ most → AllByRecursion (λ (k : ℕ). k < most) (range_with_len a n)
numbers_below most a zero fits = tt
numbers_below most a (suc n) fits = (omega (arith, fits), numbers_below most (a + 1) n (omega (arith, fits)))

-- the lines of the rounds
pub record AreRounds (size : ℕ) (ls : List Line) : Type 0 where
  pub lines : AllByRecursion IsLater ls
  pub few : length ls ≤ 14 * size

pub rounds_made : (pages : List ℕ) (size : ℕ) (dice : Dice) → size ≤ 5000 → dice.stopped ≡ 1 → AreRounds size (rounds pages size dice).0
unfolding rounds
rounds_made pages size dice small first =
    let made = makes_turn IsLater 3 14 (λ (k : ℕ). k < 2 ^ 32) (round pages (size / 6 + 1)) (round_made pages (size / 6 + 1)) (range_with_len 0 size)
    (numbers_below (2 ^ 32) 0 size (omega (arith, small))) dice (record { least = omega (arith, first); most_is = omega (arith, first) }) in
    record { lines = made.lines; few = omega (arith, made.few, fourteen_each 0 size) }
