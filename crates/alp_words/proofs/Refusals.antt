-- What an error of the reader of words says of the words.
use Rattle.std.proofs.Common.{◌≡◌, ◌⊎◌, ◌∙◌, Bool, true, false, refl, sym, ap, inl, inr, List, [], ◌∷◌, true≢false}
use Rattle.clap.specs.Faults.{fault_of, is_simple_and_free}
use Rattle.clap.specs.Kinds.{HasKind, IsAmong, Kinds}
use Rattle.clap.specs.Simple.{App, HasMatchesOf, is_simple, subcommand_of, subcommand_rows_of}
use Rattle.clap.specs.Walk.{Text}
use Rattle.clap.specs.Values.{kind_of}
use Rattle.clap.specs.declared.error.Error.{Error}
use Rattle.clap.specs.declared.error.kind.ErrorKind.{ErrorKind}
use Rattle.clap.specs.declared.error.kind.ErrorKind.TheVariants as kind
use Rattle.clap.specs.declared.parser.matches.ArgMatches.{ArgMatches}
use Rattle.alp_words.specs.Definition.{alpine}
use Rattle.alp_words.specs.Faults.{told_as}
use Rattle.alp_words.specs.Words.{are_any}
use Rattle.alp_words.specs.declared.fault.WordsFault.{WordsFault}
use Rattle.alp_words.specs.declared.fault.WordsFault.TheVariants as words_fault

-- a fault is of the words
abbrev is_bad : WordsFault → Bool
is_bad words_fault.Bad = true
is_bad words_fault.OutOfMemory = false

-- a kind that is told as a fault of the words is one of those that the words cause
told_of : (kinds : Kinds) (k : ErrorKind) → (k ≡ kind.OutOfMemory) ⊎ IsAmong k kinds → told_as k ≡ words_fault.Bad → are_any kinds ≡ true
told_of kinds k (inl memory) told = absurd (true≢false (sym (ap is_bad told) ∙ ap (λ e. is_bad (told_as e)) memory))
told_of [] k (inr among) told = absurd among
told_of (x ∷ xs) k (inr among) told = refl

pub told : (kinds : Kinds) (e : Error) → HasKind kinds e → told_as (kind_of e) ≡ words_fault.Bad → are_any kinds ≡ true
told kinds e has bad = told_of kinds (kind_of e) has bad

-- ---- what the reader says of simple commands holds of the command line

alpine_simple : is_simple alpine ≡ true
alpine_simple = refl

alpine_free : is_simple_and_free alpine ≡ true
alpine_free = refl

-- words that it takes
pub taken : (a : App) (all : List Text) → a ≡ alpine → (is_simple_and_free a ≡ true → fault_of a all ≡ []) → are_any (fault_of alpine all) ≡ false
taken a all is none = ap (λ (x : App). are_any (fault_of x all)) (sym is) ∙ ap are_any (none (ap is_simple_and_free is ∙ alpine_free))

pub taken_rows : (a : App) (all : List Text) (m : ArgMatches) → a ≡ alpine → HasMatchesOf a all m → subcommand_rows_of m ≡ subcommand_of alpine all
taken_rows a all m is has = (has (ap is_simple is ∙ alpine_simple)).1 ∙ ap (λ (x : App). subcommand_of x all) is

-- and words that it refuses
pub refused : (a : App) (all : List Text) (e : Error) → a ≡ alpine → (is_simple_and_free a ≡ true → HasKind (fault_of a all) e) → told_as (kind_of e) ≡ words_fault.Bad
    → are_any (fault_of alpine all) ≡ true
refused a all e is has bad = ap (λ (x : App). are_any (fault_of x all)) (sym is) ∙ told (fault_of a all) e (has (ap is_simple_and_free is ∙ alpine_free)) bad
