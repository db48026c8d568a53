-- the lines of a transaction may stand there, are their client's, and are not too many
use Rattle.std.specs.Prelude.{Bool, ◌-◌, ◌==◌, min, cond, slice_index, Option, Some}
use Rattle.std.specs.List.{AllByRecursion, range_with_len}
use Rattle.std.proofs.Common.{◌≡◌, ℕ, zero, suc, ◌+◌, ◌*◌, ◌<◌, ◌≤◌, ◌^◌, List, [], ◌∷◌, ◌++◌, length, true, false, refl, sym, ◌∙◌, ap, subst, arith, length-append}
use Rattle.std.proofs.lemmas.Nat.{mod_below}
use Rattle.rand_pcg.specs.Pcg.{pcg32}
use Rattle.alp_base.specs.declared.choices.Access.TheVariants as access
use Rattle.alp_base.specs.declared.ids.Run.{Run}
use Rattle.alp_modes.specs.declared.Mode.TheVariants as mode
use Rattle.alp_lines.specs.Forms.{IsRunOfPages, IsText}
use Rattle.alp_lines.specs.Named.{client_named}
use Rattle.alp_lines.specs.declared.limits.TheConstants.{RUN_MOST}
use Rattle.alp_tokens.specs.declared.names.TheConstants.{TEXT_BYTES}
use Rattle.alp_lines.specs.declared.line.FileWord.TheVariants as file_word
use Rattle.alp_lines.specs.declared.line.Line.{Line}
use Rattle.alp_lines.specs.declared.line.Line.TheVariants as line
use Rattle.alp_drill.specs.declared.dice.Dice.{Dice}
use Rattle.alp_drill.specs.declared.shape.Shape.{Shape}
use Rattle.alp_drill.specs.declared.shape.Turn.{Turn}
use Rattle.alp_drill.specs.Rolls.{roll, in_turn, both}
use Rattle.alp_drill.specs.Shapes.{IsShape, files_of}
use Rattle.alp_drill.specs.Files.{file_name}
use Rattle.alp_drill.specs.Transactions.{beginning, text_of, writing, visit, visits, ending, transaction}
use Rattle.alp_drill.proofs.WordLemmas.{numbered_length}
use Rattle.alp_drill.proofs.BoundLemmas.{IsBound, all_words, all_bound}
use Rattle.alp_drill.proofs.SteadyLemmas.{IsSteady, IsOurClient, begin_steady, commit_steady, abort_steady, open_steady, read_steady, write_steady, a_server, steady_append}

-- the server that was stopped last is one of so many
pub record Stands (most : ℕ) (dice : Dice) : Type 0 where
  pub least : 1 ≤ dice.stopped
  pub most_is : dice.stopped ≤ most

-- lines of which each is so, at most so many, and dice that stand
pub record Are (P : Line → Type 0) (servers most : ℕ) (told : List Line × Dice) : Type 0 where
  pub lines : AllByRecursion P told.0
  pub few : length told.0 ≤ most
  pub stands : Stands servers told.1

abbrev pub Makes : (Line → Type 0) → ℕ → ℕ → (Dice → List Line × Dice) → Type 0
Makes P servers most make = (dice : Dice) → Stands servers dice → Are P servers most (make dice)

pub are_then : (P : Line → Type 0) (s m n : ℕ) (told : List Line × Dice) (make : Dice → List Line × Dice) → Are P s m told → Are P s n (make told.1)
    → Are P s (m + n) (told.0 ++ (make told.1).0, (make told.1).1)
are_then P s m n told make one other = record {
  lines = steady_append P told.0 (make told.1).0 one.lines other.lines;
  few = omega (arith, length-append told.0 (make told.1).0, one.few, other.few);
  stands = other.stands;
}

pub makes_both : (P : Line → Type 0) (s m n : ℕ) (one other : Dice → List Line × Dice) → Makes P s m one → Makes P s n other → Makes P s (m + n) (both one other)
makes_both P s m n one other f g dice stands = are_then P s m n (one dice) other (f dice stands) (g (one dice).1 (f dice stands).stands)

pub nothing_made : (P : Line → Type 0) (s : ℕ) (dice : Dice) → Stands s dice → (n : ℕ) → Are P s n ([], dice)
nothing_made P s dice stands n = record { lines = tt; few = omega arith; stands = stands }

-- n for each of them
abbrev pub in_all : ℕ → List ℕ → ℕ
in_all n [] = 0
in_all n (x ∷ xs) = n + in_all n xs

pub makes_turn : (P : Line → Type 0) (s n : ℕ) (Q : ℕ → Type 0) (make : ℕ → Dice → List Line × Dice) → ((x : ℕ) → Q x → Makes P s n (make x)) → (xs : List ℕ) → AllByRecursion Q xs
    → Makes P s (in_all n xs) (in_turn make xs)
makes_turn P s n Q make each [] all dice stands = nothing_made P s dice stands 0
makes_turn P s n Q make each (x ∷ xs) all dice stands =
    let here = each x all.0 dice stands in
    are_then P s n (in_all n xs) (make x dice) (in_turn make xs) here (makes_turn P s n Q make each xs all.1 (make x dice).1 here.stands)

three_each : (a k : ℕ) → in_all 3 (range_with_len a k) ≡ 3 * k
three_each a zero = refl
three_each a (suc k) = omega (arith, three_each (a + 1) k)

-- what each line is may be less
pub all_are : (P Q : Line → Type 0) → ((l : Line) → P l → Q l) → (ls : List Line) → AllByRecursion P ls → AllByRecursion Q ls
all_are P Q less [] all = tt
all_are P Q less (l ∷ ls) all = (less l all.0, all_are P Q less ls all.1)

pub makes_less : (P Q : Line → Type 0) (s n : ℕ) (make : Dice → List Line × Dice) → ((l : Line) → P l → Q l) → Makes P s n make → Makes Q s n make
makes_less P Q s n make less made dice stands =
    let are = made dice stands in
    record { lines = all_are P Q less (make dice).0 are.lines; few = are.few; stands = are.stands }

-- ---- what is rolled

pub rolled : (n s : ℕ) (dice : Dice) → Stands s dice → Stands s (roll n dice).1
unfolding roll
rolled n s dice stands = record { least = stands.least; most_is = stands.most_is }

pub below : (n : ℕ) (dice : Dice) → 0 < n → (roll n dice).0 < n
unfolding roll
below n dice some = mod_below (pcg32 dice.rng).0 n some

-- ---- one step after the other

-- the line may stand after the setup, and is this client's
pub record IsOwn (shape : Shape) (client : ℕ) (l : Line) : Type 0 where
  pub steady : IsSteady shape (all_words shape) l
  pub own : client_named l ≡ Some client

-- a transaction of a client of the run, whose number fits a text
pub record IsTurn (turn : Turn) : Type 0 where
  pub sizes : IsShape turn.shape
  pub client : IsOurClient turn.shape turn.client
  pub short : turn.number < 2 ^ 32

-- of a turn
abbrev MakesOwn : Turn → ℕ → (Dice → List Line × Dice) → Type 0
MakesOwn turn most make = Makes (IsOwn turn.shape turn.client) turn.shape.servers most make

beginning_made : (turn : Turn) → IsTurn turn → MakesOwn turn 1 (beginning turn)
unfolding beginning client_named
beginning_made turn is dice stands =
    let servers = turn.shape.servers in
    let server = roll servers dice in
    let low : server.0 < servers = below servers dice is.sizes.some_servers in
    record {
      lines = (record { steady = begin_steady turn.shape (all_words turn.shape) turn.client (1 + server.0) is.client (a_server turn.shape server.0 low); own = refl }, tt);
      few = omega arith;
      stands = rolled servers servers dice stands;
    }

short_text : (k : ℕ) → k < 2 ^ 32 → IsText (text_of k)
short_text k low = let text_most : TEXT_BYTES ≡ 64 = refl in record { some = omega arith; short = omega (arith, numbered_length (116 ∷ []) k low, text_most) }

writing_by : (b : Bool) (turn : Turn) (i : ℕ) (run : Run) (dice : Dice) → IsTurn turn → IsBound (all_words turn.shape) i → IsRunOfPages run → Stands turn.shape.servers dice
    → Are (IsOwn turn.shape turn.client) turn.shape.servers 1 (cond b (line.WritePages turn.client (file_word.Word (file_name i)) run (text_of turn.number) turn.choice ∷ []) [], dice)
unfolding client_named
writing_by true turn i run dice is bound fits stands = record {
  lines = (
    record {
      steady = write_steady turn.shape (all_words turn.shape) turn.client i run (text_of turn.number) turn.choice is.client bound fits (short_text turn.number is.short);
      own = refl;
    },
    tt,
  );
  few = omega arith;
  stands = stands;
}
writing_by false turn i run dice is bound fits stands = nothing_made (IsOwn turn.shape turn.client) turn.shape.servers dice stands 1

writing_made : (turn : Turn) (i : ℕ) (run : Run) → IsTurn turn → IsBound (all_words turn.shape) i → IsRunOfPages run → MakesOwn turn 1 (writing turn (file_word.Word (file_name i)) run)
unfolding writing
writing_made turn i run is bound fits dice stands = writing_by ((roll 2 dice).0 == 0) turn i run (roll 2 dice).1 is bound fits (rolled 2 turn.shape.servers dice stands)

visit_made : (pages : List ℕ) (turn : Turn) → IsTurn turn → MakesOwn turn 3 (visit pages turn)
unfolding visit client_named
visit_made pages turn is dice stands =
    let servers = turn.shape.servers in
    let files = files_of turn.shape in
    let place = roll files dice in
    let most = slice_index pages place.0 in
    let first = roll most place.1 in
    let more = roll 4 first.1 in
    let run : Run = record { first = first.0; count = 1 + min more.0 (most - first.0 - 1) } in
    let some : 0 < files = omega (arith, is.sizes.some_groups) in
    let bound : IsBound (all_words turn.shape) place.0 = all_bound turn.shape place.0 (below files dice some) in
    let few : more.0 < 4 = below 4 first.1 (omega arith) in
    let run_most : RUN_MOST ≡ 255 = refl in
    let fits : IsRunOfPages run = record { some = omega arith; few = omega (arith, few, run_most) } in
    let written = writing_made turn place.0 run is bound fits more.1 (rolled 4 servers first.1 (rolled most servers place.1 (rolled files servers dice stands))) in
    record {
      lines = (
        record { steady = open_steady turn.shape (all_words turn.shape) turn.client place.0 access.Change mode.IntendWrite turn.choice is.client bound; own = refl },
        (record { steady = read_steady turn.shape (all_words turn.shape) turn.client place.0 run turn.choice is.client bound fits; own = refl }, written.lines),
      );
      few = omega (arith, written.few);
      stands = written.stands;
    }

pub all_numbers : (a n : ℕ) → AllByRecursion (λ (i : ℕ). Unit {0}) (range_with_len a n)
all_numbers a zero = tt
all_numbers a (suc n) = (tt, all_numbers (a + 1) n)

visits_made : (pages : List ℕ) (turn : Turn) → IsTurn turn → MakesOwn turn 9 (visits pages turn)
unfolding visits
visits_made pages turn is dice stands =
    let more = roll 3 dice in
    let xs = range_with_len 0 (1 + more.0) in
    let made = makes_turn (IsOwn turn.shape turn.client) turn.shape.servers 3 (λ (n : ℕ). Unit {0}) (λ n. visit pages turn) (λ n all. visit_made pages turn is) xs (all_numbers 0 (1 + more.0))
    more.1 (rolled 3 turn.shape.servers dice stands) in
    let count : more.0 < 3 = below 3 dice (omega arith) in
    record { lines = made.lines; few = omega (arith, made.few, three_each 0 (1 + more.0), count); stands = made.stands }

ending_by : (b : Bool) (turn : Turn) (dice : Dice) → IsTurn turn → Stands turn.shape.servers dice
    → Are (IsOwn turn.shape turn.client) turn.shape.servers 1 (cond b (line.Abort turn.client ∷ []) (line.Commit turn.client ∷ []), dice)
unfolding client_named
ending_by true turn dice is stands = record {
  lines = (record { steady = abort_steady turn.shape (all_words turn.shape) turn.client is.client; own = refl }, tt);
  few = omega arith;
  stands = stands;
}
ending_by false turn dice is stands = record {
  lines = (record { steady = commit_steady turn.shape (all_words turn.shape) turn.client is.client; own = refl }, tt);
  few = omega arith;
  stands = stands;
}

ending_made : (turn : Turn) → IsTurn turn → MakesOwn turn 1 (ending turn.client)
unfolding ending
ending_made turn is dice stands = ending_by ((roll 20 dice).0 == 0) turn (roll 20 dice).1 is (rolled 20 turn.shape.servers dice stands)

pub transaction_made : (pages : List ℕ) (turn : Turn) → IsTurn turn → Makes (IsOwn turn.shape turn.client) turn.shape.servers 11 (transaction pages turn)
transaction_made pages turn is =
    makes_both (IsOwn turn.shape turn.client) turn.shape.servers 1 10 (beginning turn) (both (visits pages turn) (ending turn.client)) (beginning_made turn is)
    (makes_both (IsOwn turn.shape turn.client) turn.shape.servers 9 1 (visits pages turn) (ending turn.client) (visits_made pages turn is) (ending_made turn is))
