-- What the matches of a command line hold, where it takes the words.
use Rattle.std.proofs.Common.{◌≡◌, ◌∙◌, false, refl, sym, ap, subst, List, Option, Some, None, option_map, codes, true≢false}
use Rattle.std.specs.Box.{box_value}
use Rattle.std.specs.Prelude.{Box, option_and_then, is_some}
use Rattle.clap.specs.Faults.{fault_of}
use Rattle.clap.specs.Matches.{first_value, subcommand_name_of}
use Rattle.clap.specs.Simple.{subcommand_of, subcommand_rows, subcommand_rows_of}
use Rattle.clap.specs.Walk.{Row, Text, first_of, rows_of}
use Rattle.clap.specs.declared.parser.matches.ArgMatches.{ArgMatches}
use Rattle.clap.specs.declared.parser.matches.ArgMatches.TheViews.{out-ArgMatches, out-SubCommand}
use Rattle.clap.specs.declared.parser.matches.Found.{Found}
use Rattle.clap.specs.declared.parser.matches.SubCommand.{SubCommand}
use Rattle.clap.proofs.WalkLemmas.{first_value-rows}
use Rattle.alp_words.specs.Definition.{alpine}
use Rattle.alp_words.specs.Words.{are_any, IsOurs}
use Rattle.alp_words.proofs.TopLevel.{name_of, taken_is_ours}

module _ {Z : Type 0} where
  name_in : (sub : Option (Box SubCommand Z)) → option_map (λ b. (out-SubCommand (box_value b)).name.now) sub ≡ name_of (subcommand_rows sub)
  name_in None = refl
  name_in (Some b) = refl

-- they are those of a command of ours
pub is_ours : (all : List Text) (m : ArgMatches) → are_any (fault_of alpine all) ≡ false → subcommand_rows_of m ≡ subcommand_of alpine all
    → IsOurs (subcommand_name_of m)
is_ours all m taken rows =
    subst IsOurs (sym (name_in (out-ArgMatches m).subcommand ∙ ap name_of rows)) (taken_is_ours all taken)

-- the name is that of the command that the words name
pub same_name : (all : List Text) (m : ArgMatches) → subcommand_rows_of m ≡ subcommand_of alpine all → subcommand_name_of m ≡ name_of (subcommand_of alpine all)
same_name all m rows = name_in (out-ArgMatches m).subcommand ∙ ap name_of rows

-- the text of an option in them is the one that the words name
pub text_in_rows : (o : Option (Text × List Row)) (rows : List Row) (option : Text) → option_map (λ p. p.1) o ≡ Some rows
    → option_and_then (λ p. first_of option p.1) o ≡ first_of option rows
text_in_rows None rows option e = absurd (true≢false (sym (ap is_some e)))
text_in_rows (Some p) rows option e = ap (option_and_then (first_of option)) e

pub option_text : (found : Found) (option : Text) → first_value found option ≡ first_of option (rows_of found)
option_text found option = first_value-rows found option

pub first_text : (found : Found) → first_value found (codes "folder") ≡ first_of (codes "folder") (rows_of found)
first_text found = first_value-rows found (codes "folder")
