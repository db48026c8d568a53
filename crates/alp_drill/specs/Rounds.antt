-- the rounds of a drill: stops, restarts, and a transaction each
use Rattle.std.specs.Prelude.{ℕ, ◌+◌, ◌/◌, ◌%◌, Bool, ◌&&◌, ◌==◌, nat_lt, if◌then◌else◌}
use Rattle.std.specs.Prelude.{List, [], ◌∷◌, ◌++◌}
use Rattle.std.specs.List.{range_with_len}
use Rattle.alp_base.specs.declared.choices.Choice.TheVariants as choice
use Rattle.alp_lines.specs.declared.line.Line.{Line}
use Rattle.alp_lines.specs.declared.line.Line.TheVariants as line
use Rattle.alp_drill.specs.declared.dice.Dice.{Dice}
use Rattle.alp_drill.specs.declared.shape.Turn.{Turn}
use Rattle.alp_drill.specs.Rolls.{roll, in_turn, both}
use Rattle.alp_drill.specs.Shapes.{drill_shape}
use Rattle.alp_drill.specs.Files.{client_of}
use Rattle.alp_drill.specs.Transactions.{transaction}

-- a round, but not the first, whose number is a multiple of the period stops a server
abbrev pub is_stop : ℕ → ℕ → Bool
is_stop period k = nat_lt 0 k && k % period == 0

-- three rounds later it starts again
abbrev pub is_restart : ℕ → ℕ → Bool
is_restart period k = nat_lt period k && k % period == 3

-- `stop S K`: which server, and after how many further changing calls of its disk
abbrev pub stop_line : Dice → List Line × Dice
stop_line dice =
    let server = roll 3 dice in
    let calls = roll 16 server.1 in
    (line.Stop (1 + server.0) calls.0 ∷ [], record calls.1 { stopped = 1 + server.0 })

unfoldable pub stopping : ℕ → ℕ → Dice → List Line × Dice
stopping period k dice = if is_stop period k then stop_line dice else ([], dice)

-- `restart S P` of the server that was stopped last, and `settle`
abbrev pub restart_lines : Dice → List Line × Dice
restart_lines dice =
    let pick = roll 8 dice in
    (line.Restart dice.stopped pick.0 ∷ line.Settle ∷ [], pick.1)

unfoldable pub restarting : ℕ → ℕ → Dice → List Line × Dice
restarting period k dice = if is_restart period k then restart_lines dice else ([], dice)

-- the owners' clients take turns, and no call waits
abbrev pub turn_of : ℕ → Turn
turn_of k = record { shape = drill_shape; client = client_of drill_shape k; number = k; choice = choice.Fail }

abbrev pub round : List ℕ → ℕ → ℕ → Dice → List Line × Dice
round pages period k = both (stopping period k) (both (restarting period k) (transaction pages (turn_of k)))

-- so many rounds, from round 0 on, in which servers stop up to five times
unfoldable pub rounds : List ℕ → ℕ → Dice → List Line × Dice
rounds pages size = in_turn (round pages (size / 6 + 1)) (range_with_len 0 size)
