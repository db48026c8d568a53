-- What the words of the program mean, those after its name.
use Rattle.std.specs.Prelude.{◌≡◌, ◌⊎◌, ◌&&◌, ◌≤◌, ℕ, Bool, true, false, not, cond}
use Rattle.std.specs.Prelude.{List, [], ◌∷◌, codes, string_bytes, Option, None, Some, is_some, option_map, option_and_then}
use Rattle.std.specs.Str.Parse.{digits_value, without_leading_plus}
use Rattle.clap.specs.ValueTests.{is_unsigned_in}
use Rattle.clap.specs.Words.{Kinds, Row, fault_of, first_of, subcommand_of}
use Rattle.alp_words.specs.Definition.{alpine}
use Rattle.alp_words.specs.declared.command.Command.{Command}
use Rattle.alp_words.specs.declared.command.Command.TheVariants as command

-- there is a kind of error
abbrev pub are_any : Kinds → Bool
are_any [] = false
are_any (kind ∷ kinds) = true

-- the command line refuses these words, the first of which is the program's name
abbrev pub are_refused : List (List ℕ) → Bool
are_refused words = are_any (fault_of alpine words)

-- the name of the command that they name
unfoldable pub name_named : List (List ℕ) → Option (List ℕ)
name_named words = option_map (λ p. p.0) (subcommand_of alpine (codes "alpine" ∷ words))

-- the text that they give an option of it, if any
unfoldable pub text_named : List ℕ → List (List ℕ) → Option (List ℕ)
text_named option words = option_and_then (λ p. first_of option p.1) (subcommand_of alpine (codes "alpine" ∷ words))

-- the folder that they name, if any
unfoldable pub folder_named : List (List ℕ) → Option (List ℕ)
folder_named words = text_named (codes "folder") words

-- the number that a text says in decimal digits, maybe behind a plus, where it is from the least to the most
unfoldable pub number_in : ℕ → ℕ → Option (List ℕ) → Option ℕ
number_in least most None = None
number_in least most (Some text) = cond (is_unsigned_in least most text) (Some (digits_value 10 (without_leading_plus text))) None

-- any number of 64 bits
abbrev pub seed_named : List (List ℕ) → Option ℕ
seed_named words = number_in 0 18446744073709551615 (text_named (codes "seed") words)

-- from 1 to 5,000
abbrev pub size_named : List (List ℕ) → Option ℕ
size_named words = number_in 1 5000 (text_named (codes "size") words)

-- the numbers of a storm: from 1 to 8, 15, 200 and 1,000
abbrev pub servers_named : List (List ℕ) → Option ℕ
servers_named words = number_in 1 8 (text_named (codes "servers") words)

abbrev pub clients_named : List (List ℕ) → Option ℕ
clients_named words = number_in 1 15 (text_named (codes "clients") words)

abbrev pub job_named : List (List ℕ) → Option ℕ
job_named words = number_in 1 200 (text_named (codes "size") words)

abbrev pub patience_named : List (List ℕ) → Option ℕ
patience_named words = number_in 1 1000 (text_named (codes "patience") words)

-- the name is one of the commands'
abbrev pub IsOurs : Option (List ℕ) → Type 0
IsOurs name = (name ≡ Some (codes "play")) ⊎ (name ≡ Some (codes "drill")) ⊎ (name ≡ Some (codes "storm"))

-- the words name no command
unfoldable pub are_bad : List (List ℕ) → Bool
are_bad words = are_refused (codes "alpine" ∷ words)

pub record PlayIsNamed (words : List (List ℕ)) (folder : Option (List ℕ)) : Type 0 where
  pub name : name_named words ≡ Some (codes "play")
  pub place : folder ≡ folder_named words

pub record DrillIsNamed (words : List (List ℕ)) (seed size : ℕ) (folder : Option (List ℕ)) : Type 0 where
  pub name : name_named words ≡ Some (codes "drill")
  pub of_seed : seed_named words ≡ Some seed
  pub of_size : size_named words ≡ Some size
  pub least : 1 ≤ size
  pub most : size ≤ 5000
  pub place : folder ≡ folder_named words

-- a number is from the least to the most
abbrev pub IsWithin : ℕ → ℕ → ℕ → Type 0
IsWithin least most n = (least ≤ n) × (n ≤ most)

pub record StormIsNamed (words : List (List ℕ)) (servers clients size seed patience : ℕ) (folder : Option (List ℕ)) : Type 0 where
  pub name : name_named words ≡ Some (codes "storm")
  pub of_servers : servers_named words ≡ Some servers
  pub of_clients : clients_named words ≡ Some clients
  pub of_size : job_named words ≡ Some size
  pub of_seed : seed_named words ≡ Some seed
  pub of_patience : patience_named words ≡ Some patience
  pub servers_within : IsWithin 1 8 servers
  pub clients_within : IsWithin 1 15 clients
  pub size_within : IsWithin 1 200 size
  pub patience_within : IsWithin 1 1000 patience
  pub place : folder ≡ folder_named words

-- they name this command
abbrev pub IsNamedBy : List (List ℕ) → Command → Type 0
IsNamedBy words (command.Play folder) = PlayIsNamed words (option_map string_bytes folder)
IsNamedBy words (command.Drill seed size folder) = DrillIsNamed words seed size (option_map string_bytes folder)
IsNamedBy words (command.Storm servers clients size seed patience folder) = StormIsNamed words servers clients size seed patience (option_map string_bytes folder)

-- a number of a drill is missing among what stands in the matches of its command
abbrev pub lacks_in : List Row → Bool
lacks_in rows =
    not (is_some (number_in 0 18446744073709551615 (first_of (codes "seed") rows))
    && is_some (number_in 1 5000 (first_of (codes "size") rows)))

-- what stands there is this drill
pub record StandsThere (rows : List Row) (seed size : ℕ) (folder : Option (List ℕ)) : Type 0 where
  pub of_seed : number_in 0 18446744073709551615 (first_of (codes "seed") rows) ≡ Some seed
  pub of_size : number_in 1 5000 (first_of (codes "size") rows) ≡ Some size
  pub place : folder ≡ first_of (codes "folder") rows

abbrev pub IsDrillOf : List Row → Command → Type 0
IsDrillOf rows (command.Play folder) = ⊥
IsDrillOf rows (command.Drill seed size folder) = StandsThere rows seed size (option_map string_bytes folder)
IsDrillOf rows (command.Storm servers clients size seed patience folder) = ⊥

-- a number of a storm is missing there
abbrev pub lacks_of_storm : List Row → Bool
lacks_of_storm rows =
    not (is_some (number_in 1 8 (first_of (codes "servers") rows))
    && (is_some (number_in 1 15 (first_of (codes "clients") rows))
    && (is_some (number_in 1 200 (first_of (codes "size") rows))
    && (is_some (number_in 0 18446744073709551615 (first_of (codes "seed") rows))
    && is_some (number_in 1 1000 (first_of (codes "patience") rows))))))

-- what stands there is this storm
pub record StormStandsThere (rows : List Row) (servers clients size seed patience : ℕ) (folder : Option (List ℕ)) : Type 0 where
  pub of_servers : number_in 1 8 (first_of (codes "servers") rows) ≡ Some servers
  pub of_clients : number_in 1 15 (first_of (codes "clients") rows) ≡ Some clients
  pub of_size : number_in 1 200 (first_of (codes "size") rows) ≡ Some size
  pub of_seed : number_in 0 18446744073709551615 (first_of (codes "seed") rows) ≡ Some seed
  pub of_patience : number_in 1 1000 (first_of (codes "patience") rows) ≡ Some patience
  pub place : folder ≡ first_of (codes "folder") rows

abbrev pub IsStormOf : List Row → Command → Type 0
IsStormOf rows (command.Play folder) = ⊥
IsStormOf rows (command.Drill seed size folder) = ⊥
IsStormOf rows (command.Storm servers clients size seed patience folder) = StormStandsThere rows servers clients size seed patience (option_map string_bytes folder)
