-- The command line of the program.
use Rattle.std.specs.Prelude.{◌≡◌, ◌-◌, ◌^◌, List, ℕ, Some, true, false, codes}
use Rattle.clap.specs.Words.{App, app_of, Rule, new_app, new_rule, with_rule, with_subcommand}
use Rattle.clap.specs.declared.builder.command.Command.{Command}
use Rattle.clap.specs.declared.builder.command.Command.TheViews.{out-Command}
use Rattle.clap.specs.declared.builder.action.ArgAction.TheVariants.{Set}
use Rattle.clap.specs.declared.builder.value_parser.ValueParser.TheVariants.{Unsigned}

-- an option that may stand once, with one value
abbrev pub option : List ℕ → Rule
option name = record (new_rule name) { long = Some name; action = Some Set }

-- an option that has to stand once, with one number from the least to the most
abbrev pub number : List ℕ → ℕ → ℕ → Rule
number name least most = record (option name) { required = true; parser = Some (Unsigned least most) }

-- `play [--folder DIR]`
abbrev pub play : App
play = with_rule (new_app (codes "play")) (option (codes "folder"))

-- `drill --seed N --size N [--folder DIR]`; a seed is any number of 64 bits, and a size is from 1 to 5,000
abbrev pub drill : App
drill =
    with_rule (with_rule (with_rule (new_app (codes "drill")) (number (codes "seed") 0 (2 ^ 64 - 1)))
    (number (codes "size") 1 5000)) (option (codes "folder"))

-- the first three options of `storm`
abbrev pub storm_counts : App
storm_counts =
    with_rule (with_rule (with_rule (new_app (codes "storm")) (number (codes "servers") 1 8))
    (number (codes "clients") 1 15)) (number (codes "size") 1 200)

-- `storm --servers N --clients N --size N --seed N --patience N [--folder DIR]`; up to 8 servers, 15 clients, 200 transactions of a
-- client, and a patience of 1,000
abbrev pub storm : App
storm =
    with_rule (with_rule (with_rule storm_counts (number (codes "seed") 0 (2 ^ 64 - 1)))
    (number (codes "patience") 1 1000)) (option (codes "folder"))

-- one of its subcommands has to be given
abbrev pub wants_one : App → App
wants_one a = record a { top = record a.top { subcommand_required = true } }

-- the whole command line
abbrev pub alpine : App
alpine = with_subcommand (with_subcommand (with_subcommand (wants_one (new_app (codes "alpine"))) play.top) drill.top) storm.top

-- a command that reads words as this one does, and that can be added to another
abbrev pub IsMade : App → Command → Type 0
IsMade a c = (app_of c ≡ a) × ((out-Command c).has_globals ≡ false)
