-- what the words name, by what stands in the matches
use Rattle.std.specs.Prelude.{◌&&◌, not, Bool, Option, None, Some, is_some, option_map, option_and_then, string_bytes, Result, Ok, Err, OnOk, IfOk, IfErr}
use Rattle.std.proofs.Common.{◌≡◌, ◌∙◌, ℕ, ◌≤◌, List, [], ◌∷◌, codes, true, false, refl, sym, ap, subst, true≢false}
use Rattle.std.proofs.lemmas.Bool.{and_right}
use Rattle.std.proofs.lemmas.Option.{same_Some}
use Rattle.clap.specs.Faults.{fault_of}
use Rattle.clap.specs.Matches.{subcommand_name_of}
use Rattle.clap.specs.Simple.{subcommand_of, subcommand_rows_of}
use Rattle.clap.specs.declared.parser.matches.ArgMatches.{ArgMatches}
use Rattle.clap.specs.Walk.{Row, Text, first_of}
use Rattle.alp_words.specs.Definition.{alpine}
use Rattle.alp_words.specs.Words.{are_any, are_refused, name_named, text_named, folder_named, number_in, lacks_in, lacks_of_storm, are_bad, PlayIsNamed, DrillIsNamed, StormIsNamed, StandsThere, StormStandsThere, IsDrillOf, IsStormOf, IsNamedBy}
use Rattle.alp_words.specs.declared.command.Command.{Command}
use Rattle.alp_words.specs.declared.command.Command.TheVariants as command
use Rattle.alp_words.specs.declared.fault.WordsFault.{WordsFault}
use Rattle.alp_words.specs.declared.fault.WordsFault.TheVariants as words_fault
use Rattle.alp_words.proofs.Matches.{text_in_rows, same_name}
use Rattle.alp_words.proofs.Numbers.{bounds_of}
use Rattle.alp_words.proofs.Taken.{DrillHas, StormHas, drill_has, storm_has}

-- the words name this command, and these rows are its matches
pub record Enters (words : List Text) (name : Text) (rows : List Row) : Type 0 where
  pub named : option_map (λ (p : Text × List Row). p.0) (subcommand_of alpine (codes "alpine" ∷ words)) ≡ Some name
  pub found : option_map (λ (p : Text × List Row). p.1) (subcommand_of alpine (codes "alpine" ∷ words)) ≡ Some rows

text_is : (words : List Text) (name option : Text) (rows : List Row) → Enters words name rows → text_named option words ≡ first_of option rows
unfolding text_named
text_is words name option rows enters = text_in_rows (subcommand_of alpine (codes "alpine" ∷ words)) rows option enters.found

name_is : (words : List Text) (name : Text) (rows : List Row) → Enters words name rows → name_named words ≡ Some name
unfolding name_named
name_is words name rows enters = enters.named

pub play_named : (words : List Text) (rows : List Row) (folder : Option (List ℕ)) → Enters words (codes "play") rows → folder ≡ first_of (codes "folder") rows → PlayIsNamed words folder
unfolding folder_named
play_named words rows folder enters same = record {
  name = name_is words (codes "play") rows enters;
  place = same ∙ sym (text_is words (codes "play") (codes "folder") rows enters);
}

pub enters_by : (all words : List Text) (name : Text) (rows : List Row) (m : ArgMatches) → all ≡ codes "alpine" ∷ words → subcommand_rows_of m ≡ subcommand_of alpine all
    → subcommand_name_of m ≡ Some name → option_map (λ (p : Text × List Row). p.1) (subcommand_rows_of m) ≡ Some rows → Enters words name rows
enters_by all words name rows m same found named rows_are =
    let is : subcommand_of alpine (codes "alpine" ∷ words) ≡ subcommand_rows_of m = ap (subcommand_of alpine) (sym same) ∙ sym found in
    record {
      named = ap (option_map (λ (p : Text × List Row). p.0)) (ap (subcommand_of alpine) (sym same)) ∙ sym (same_name all m found) ∙ named;
      found = ap (option_map (λ (p : Text × List Row). p.1)) is ∙ rows_are;
    }

pub good : (all words : List Text) → all ≡ codes "alpine" ∷ words → are_refused all ≡ false → are_bad words ≡ false
unfolding are_bad
good all words same taken = ap are_refused (sym same) ∙ taken

pub on_ok_of : {T E : Type 0} (r : Result T E) (P : Type 0) → P → OnOk r P
on_ok_of (Ok x) P holds = holds
on_ok_of (Err e) P holds = tt

-- a number of the command is the one that stands in its matches
number_is : (words : List Text) (name option : Text) (least most : ℕ) (rows : List Row) → Enters words name rows → number_in least most (text_named option words) ≡ number_in least most (first_of option rows)
number_is words name option least most rows enters = ap (number_in least most) (text_is words name option rows enters)

place_is : (words : List Text) (name : Text) (rows : List Row) → Enters words name rows → folder_named words ≡ first_of (codes "folder") rows
unfolding folder_named
place_is words name rows enters = text_is words name (codes "folder") rows enters

pub drill_named : (words : List Text) (rows : List Row) (seed size : ℕ) (folder : Option (List ℕ)) → Enters words (codes "drill") rows → StandsThere rows seed size folder → DrillIsNamed words seed size folder
drill_named words rows seed size folder enters there =
    let within = bounds_of 1 5000 (first_of (codes "size") rows) size there.of_size in
    record {
      name = name_is words (codes "drill") rows enters;
      of_seed = number_is words (codes "drill") (codes "seed") 0 18446744073709551615 rows enters ∙ there.of_seed;
      of_size = number_is words (codes "drill") (codes "size") 1 5000 rows enters ∙ there.of_size;
      least = within.0;
      most = within.1;
      place = there.place ∙ sym (place_is words (codes "drill") rows enters);
    }

pub storm_named : (words : List Text) (rows : List Row) (servers clients size seed patience : ℕ) (folder : Option (List ℕ)) → Enters words (codes "storm") rows
    → StormStandsThere rows servers clients size seed patience folder → StormIsNamed words servers clients size seed patience folder
storm_named words rows servers clients size seed patience folder enters there = record {
  name = name_is words (codes "storm") rows enters;
  of_servers = number_is words (codes "storm") (codes "servers") 1 8 rows enters ∙ there.of_servers;
  of_clients = number_is words (codes "storm") (codes "clients") 1 15 rows enters ∙ there.of_clients;
  of_size = number_is words (codes "storm") (codes "size") 1 200 rows enters ∙ there.of_size;
  of_seed = number_is words (codes "storm") (codes "seed") 0 18446744073709551615 rows enters ∙ there.of_seed;
  of_patience = number_is words (codes "storm") (codes "patience") 1 1000 rows enters ∙ there.of_patience;
  servers_within = bounds_of 1 8 (first_of (codes "servers") rows) servers there.of_servers;
  clients_within = bounds_of 1 15 (first_of (codes "clients") rows) clients there.of_clients;
  size_within = bounds_of 1 200 (first_of (codes "size") rows) size there.of_size;
  patience_within = bounds_of 1 1000 (first_of (codes "patience") rows) patience there.of_patience;
  place = there.place ∙ sym (place_is words (codes "storm") rows enters);
}

-- ---- no number is missing of words that are taken

-- what holds of the rows of a command that is entered holds of these
entered_by : (o : Option (Text × List Row)) (name : Text) (rows : List Row) (Q : List Row → Type 0) → option_map (λ (p : Text × List Row). p.0) o ≡ Some name → option_map (λ (p : Text × List Row). p.1) o ≡ Some rows
    → ((p : Text × List Row) → o ≡ Some p → p.0 ≡ name → Q p.1) → Q rows
entered_by None name rows Q named found has = absurd (true≢false (sym (ap is_some named)))
entered_by (Some p) name rows Q named found has = subst Q (same_Some p.1 rows found) (has p refl (same_Some p.0 name named))

entered_rows : (all words : List Text) (name : Text) (rows : List Row) (Q : List Row → Type 0) → Enters words name rows → all ≡ codes "alpine" ∷ words → are_refused all ≡ false
    → ((given : List Text) (p : Text × List Row) → are_any (fault_of alpine given) ≡ false → subcommand_of alpine given ≡ Some p → p.0 ≡ name → Q p.1) → Q rows
entered_rows all words name rows Q enters same taken has =
    entered_by (subcommand_of alpine (codes "alpine" ∷ words)) name rows Q enters.named enters.found
    (λ p is named. has (codes "alpine" ∷ words) p (ap are_refused (sym same) ∙ taken) is named)

drill_lacks_none : (rows : List Row) → DrillHas rows → lacks_in rows ≡ false
drill_lacks_none rows has = λ i. not (has.seed i && has.size i)

storm_lacks_none : (rows : List Row) → StormHas rows → lacks_of_storm rows ≡ false
storm_lacks_none rows has = λ i. not (has.servers i && (has.clients i && (has.size i && (has.seed i && has.patience i))))

-- ---- what is read

named_drill : (words : List Text) (rows : List Row) → Enters words (codes "drill") rows → (c : Command) → IsDrillOf rows c → IsNamedBy words c
named_drill words rows enters (command.Play folder) there = absurd there
named_drill words rows enters (command.Drill seed size folder) there = drill_named words rows seed size (option_map string_bytes folder) enters there
named_drill words rows enters (command.Storm servers clients size seed patience folder) there = absurd there

pub drill_is : (words : List Text) (rows : List Row) → Enters words (codes "drill") rows → (r : Result Command WordsFault) → IfOk r (IsDrillOf rows) → IfOk r (IsNamedBy words)
drill_is words rows enters (Ok c) there = named_drill words rows enters c there
drill_is words rows enters (Err e) there = tt

pub bad_drill : (all words : List Text) (rows : List Row) → Enters words (codes "drill") rows → all ≡ codes "alpine" ∷ words → are_refused all ≡ false → (r : Result Command WordsFault)
    → IfErr r (λ fault. fault ≡ words_fault.Bad → lacks_in rows ≡ true) → IfErr r (λ fault. fault ≡ words_fault.Bad → are_bad words ≡ true)
bad_drill all words rows enters same taken (Ok c) lacks = tt
bad_drill all words rows enters same taken (Err e) lacks = λ bad.
    absurd (true≢false (sym (lacks bad) ∙ drill_lacks_none rows (entered_rows all words (codes "drill") rows DrillHas enters same taken drill_has)))

named_storm : (words : List Text) (rows : List Row) → Enters words (codes "storm") rows → (c : Command) → IsStormOf rows c → IsNamedBy words c
named_storm words rows enters (command.Play folder) there = absurd there
named_storm words rows enters (command.Drill seed size folder) there = absurd there
named_storm words rows enters (command.Storm servers clients size seed patience folder) there =
    storm_named words rows servers clients size seed patience (option_map string_bytes folder) enters there

pub storm_is : (words : List Text) (rows : List Row) → Enters words (codes "storm") rows → (r : Result Command WordsFault) → IfOk r (IsStormOf rows) → IfOk r (IsNamedBy words)
storm_is words rows enters (Ok c) there = named_storm words rows enters c there
storm_is words rows enters (Err e) there = tt

pub bad_storm : (all words : List Text) (rows : List Row) → Enters words (codes "storm") rows → all ≡ codes "alpine" ∷ words → are_refused all ≡ false → (r : Result Command WordsFault)
    → IfErr r (λ fault. fault ≡ words_fault.Bad → lacks_of_storm rows ≡ true) → IfErr r (λ fault. fault ≡ words_fault.Bad → are_bad words ≡ true)
bad_storm all words rows enters same taken (Ok c) lacks = tt
bad_storm all words rows enters same taken (Err e) lacks = λ bad.
    absurd (true≢false (sym (lacks bad) ∙ storm_lacks_none rows (entered_rows all words (codes "storm") rows StormHas enters same taken storm_has)))

-- ---- a number that is missing

pub lacks_seed : (rows : List Row) → number_in 0 18446744073709551615 (first_of (codes "seed") rows) ≡ None → lacks_in rows ≡ true
lacks_seed rows e = ap (λ (o : Option ℕ). not (is_some o && is_some (number_in 1 5000 (first_of (codes "size") rows)))) e

pub lacks_size : (rows : List Row) → number_in 1 5000 (first_of (codes "size") rows) ≡ None → lacks_in rows ≡ true
lacks_size rows e = ap not (and_right (is_some (number_in 0 18446744073709551615 (first_of (codes "seed") rows))) _ (ap is_some e))

-- of a row of tests the first fails, or one after it
none_of : (a b : Bool) → a ≡ false → (a && b) ≡ false
none_of a b e = ap (λ (x : Bool). x && b) e

abbrev patience_there : List Row → Bool
patience_there rows = is_some (number_in 1 1000 (first_of (codes "patience") rows))

abbrev seed_there : List Row → Bool
seed_there rows = is_some (number_in 0 18446744073709551615 (first_of (codes "seed") rows)) && patience_there rows

abbrev size_there : List Row → Bool
size_there rows = is_some (number_in 1 200 (first_of (codes "size") rows)) && seed_there rows

abbrev clients_there : List Row → Bool
clients_there rows = is_some (number_in 1 15 (first_of (codes "clients") rows)) && size_there rows

from_clients : (rows : List Row) → clients_there rows ≡ false → lacks_of_storm rows ≡ true
from_clients rows e = ap not (and_right (is_some (number_in 1 8 (first_of (codes "servers") rows))) (clients_there rows) e)

from_size : (rows : List Row) → size_there rows ≡ false → lacks_of_storm rows ≡ true
from_size rows e = from_clients rows (and_right (is_some (number_in 1 15 (first_of (codes "clients") rows))) (size_there rows) e)

from_seed : (rows : List Row) → seed_there rows ≡ false → lacks_of_storm rows ≡ true
from_seed rows e = from_size rows (and_right (is_some (number_in 1 200 (first_of (codes "size") rows))) (seed_there rows) e)

pub storm_lacks_servers : (rows : List Row) → number_in 1 8 (first_of (codes "servers") rows) ≡ None → lacks_of_storm rows ≡ true
storm_lacks_servers rows e = ap not (none_of (is_some (number_in 1 8 (first_of (codes "servers") rows))) (clients_there rows) (ap is_some e))

pub storm_lacks_clients : (rows : List Row) → number_in 1 15 (first_of (codes "clients") rows) ≡ None → lacks_of_storm rows ≡ true
storm_lacks_clients rows e = from_clients rows (none_of (is_some (number_in 1 15 (first_of (codes "clients") rows))) (size_there rows) (ap is_some e))

pub storm_lacks_size : (rows : List Row) → number_in 1 200 (first_of (codes "size") rows) ≡ None → lacks_of_storm rows ≡ true
storm_lacks_size rows e = from_size rows (none_of (is_some (number_in 1 200 (first_of (codes "size") rows))) (seed_there rows) (ap is_some e))

pub storm_lacks_seed : (rows : List Row) → number_in 0 18446744073709551615 (first_of (codes "seed") rows) ≡ None → lacks_of_storm rows ≡ true
storm_lacks_seed rows e = from_seed rows (none_of (is_some (number_in 0 18446744073709551615 (first_of (codes "seed") rows))) (patience_there rows) (ap is_some e))

pub storm_lacks_patience : (rows : List Row) → number_in 1 1000 (first_of (codes "patience") rows) ≡ None → lacks_of_storm rows ≡ true
storm_lacks_patience rows e = from_seed rows (and_right (is_some (number_in 0 18446744073709551615 (first_of (codes "seed") rows))) (patience_there rows) (ap is_some e))

-- ---- all numbers are there

pub drill_has_both : (rows : List Row) (seed size : ℕ) → number_in 0 18446744073709551615 (first_of (codes "seed") rows) ≡ Some seed → number_in 1 5000 (first_of (codes "size") rows) ≡ Some size → lacks_in rows ≡ false
drill_has_both rows seed size a b = λ i. not (is_some (a i) && is_some (b i))

pub storm_has_all : (rows : List Row) (servers clients size seed patience : ℕ) → number_in 1 8 (first_of (codes "servers") rows) ≡ Some servers → number_in 1 15 (first_of (codes "clients") rows) ≡ Some clients → number_in 1 200 (first_of (codes "size") rows) ≡ Some size
    → number_in 0 18446744073709551615 (first_of (codes "seed") rows) ≡ Some seed → number_in 1 1000 (first_of (codes "patience") rows) ≡ Some patience → lacks_of_storm rows ≡ false
storm_has_all rows servers clients size seed patience a b c d e = λ i. not (is_some (a i) && (is_some (b i) && (is_some (c i) && (is_some (d i) && is_some (e i)))))
