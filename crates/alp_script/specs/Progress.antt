-- a script that is read in pieces
use Rattle.std.specs.Prelude.{◌≡◌, ℕ, ◌+◌, ◌-◌, ◌*◌, ◌≤◌, ◌==◌, not, false, List, [], ◌++◌, length, All, Result, Ok, Err}
use Rattle.std.specs.List.{count_by, suffix_len}
use Rattle.std.specs.Str.Lines.{lines}
use Rattle.alp_script.specs.Known.{Known, nothing_known}
use Rattle.alp_script.specs.Script.{with_front, script_from}
use Rattle.alp_script.specs.declared.fault.ScriptFault.{ScriptFault}
use Rattle.alp_script.specs.declared.fault.ScriptFault.TheVariants as fault
use Rattle.alp_script.specs.declared.numbered.NumberedLine.{NumberedLine}
use Rattle.alp_script.specs.declared.numbered.TheConstants.{SCRIPT_LINES_MOST}
use Rattle.alp_tokens.specs.declared.words.TheConstants.{LINE_BYTES}

-- what the bytes so far gave: the lines that they say, what they tell of those that may follow, how many lines were
-- whole, and the bytes of the line that is not
pub record Progress : Type 0 where
  pub said : List NumberedLine
  pub known : Known
  pub lines : ℕ
  pub partial : List ℕ

-- nothing was read
abbrev pub at_start : Progress
at_start = record { said = []; known = nothing_known; lines = 0; partial = [] }

-- the whole lines are not too many, and the other has no end and is not much too long
pub record IsUnfinished (lines : ℕ) (partial : List ℕ) : Type 0 where
  pub few : lines ≤ SCRIPT_LINES_MOST
  pub short : length partial ≤ LINE_BYTES + 1
  pub open_ended : All (λ b. (b == 10) ≡ false) partial

-- what the whole script says, where this is the rest of it
unfoldable pub resume : Progress → List ℕ → Result (List NumberedLine) ScriptFault
resume p rest = with_front p.said (script_from p.known (p.lines + 1) (lines (p.partial ++ rest)))

-- a bound on the bytes that can follow before a line is outside
abbrev pub room : Progress → ℕ
room p = (SCRIPT_LINES_MOST - p.lines) * (LINE_BYTES + 2) + (LINE_BYTES + 1 - length p.partial)

-- how many lines end in these bytes
abbrev pub line_ends : List ℕ → ℕ
line_ends bytes = count_by (λ b. b == 10) bytes

-- how many bytes stand behind the last line's end
abbrev pub unended : List ℕ → ℕ
unended bytes = suffix_len (λ b. not (b == 10)) bytes

-- whatever follows the piece, the new progress and the rest say the same
pub record Follows (old new : Progress) (piece : List ℕ) : Type 0 where
  pub same : (rest : List ℕ) → resume old (piece ++ rest) ≡ resume new rest
  pub counted : new.lines ≡ old.lines + line_ends piece
  pub few : old.lines ≤ SCRIPT_LINES_MOST → new.lines ≤ SCRIPT_LINES_MOST
  pub held : unended new.partial ≡ unended (old.partial ++ piece)
  pub short : length old.partial ≤ LINE_BYTES + 1 → length new.partial ≤ LINE_BYTES + 1
  pub nearer : room new + length piece ≤ room old

-- whatever follows the piece, this is wrong with the script
pub record IsOutside (old : Progress) (piece : List ℕ) (flaw : ScriptFault) : Type 0 where
  pub always : (rest : List ℕ) → resume old (piece ++ rest) ≡ Err flaw

-- the reader took the piece, or found what is wrong with the script, unless memory ran out
abbrev pub Takes : {X : Type 0} → Progress → Progress → List ℕ → Result X ScriptFault → Type 0
Takes old new piece (Ok x) = Follows old new piece
Takes old new piece (Err (fault.Bad n)) = IsOutside old piece (fault.Bad n)
Takes old new piece (Err fault.TooLong) = IsOutside old piece fault.TooLong
Takes old new piece (Err fault.ReadFault) = ⊥
Takes old new piece (Err fault.OutOfMemory) = Unit {0}

-- the result, seen by view, is what is said, unless memory ran out
abbrev pub Gives : {X : Type 0} → (X → List NumberedLine) → Result X ScriptFault → Result (List NumberedLine) ScriptFault → Type 0
Gives view (Ok x) said = said ≡ Ok (view x)
Gives view (Err (fault.Bad n)) said = said ≡ Err (fault.Bad n)
Gives view (Err fault.TooLong) said = said ≡ Err fault.TooLong
Gives view (Err fault.ReadFault) said = ⊥
Gives view (Err fault.OutOfMemory) said = Unit {0}
