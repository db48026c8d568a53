-- a whole script: from its bytes to its numbered lines, or to what is wrong with it
use Rattle.std.specs.Prelude.{ℕ, ◌+◌, nat_le, List, [], ◌∷◌, ◌++◌, Option, None, Some, Result, Ok, Err, if◌then◌else◌}
use Rattle.std.specs.Str.Lines.{lines}
use Rattle.alp_tokens.specs.Words.{◌>>=◌}
use Rattle.alp_lines.specs.Grammar.{text_said}
use Rattle.alp_script.specs.Known.{Known, nothing_known, has_servers}
use Rattle.alp_script.specs.Order.{next}
use Rattle.alp_lines.specs.declared.line.Line.{Line}
use Rattle.alp_script.specs.declared.fault.ScriptFault.{ScriptFault}
use Rattle.alp_script.specs.declared.fault.ScriptFault.TheVariants as fault
use Rattle.alp_script.specs.declared.numbered.NumberedLine.{NumberedLine}
use Rattle.alp_script.specs.declared.numbered.TheConstants.{SCRIPT_LINES_MOST}

-- what is known after a line that says this, or nothing
abbrev pub step : Known → Option Line → Option Known
step k None = Some k
step k (Some l) = next k l

-- what the n-th line says behind lines that tell this, and what is known after it
unfoldable pub read_at : Known → ℕ → List ℕ → Option (Option Line × Known)
read_at k n text = if nat_le n SCRIPT_LINES_MOST then (do
  said ← text_said text
  after ← step k said
  Some (said, after)) else None

-- what is wrong where the n-th line is the first that is outside: a line behind the most is so whatever it holds
unfoldable pub flaw_at : ℕ → ScriptFault
flaw_at n = if nat_le n SCRIPT_LINES_MOST then fault.Bad n else fault.TooLong

-- these lines, and then those that are said
abbrev pub with_front : List NumberedLine → Result (List NumberedLine) ScriptFault → Result (List NumberedLine) ScriptFault
with_front front (Ok ls) = Ok (front ++ ls)
with_front front (Err flaw) = Err flaw

-- a script has its `servers` line; one without it is outside at the line after its last
abbrev pub ended : Known → ℕ → Result (List NumberedLine) ScriptFault
ended k n = if has_servers k then Ok [] else Err (fault.Bad n)

-- the n-th line, where it says something
abbrev pub numbered : ℕ → Option Line → List NumberedLine
numbered n None = []
numbered n (Some l) = record { number = n; line = l } ∷ []

-- the n-th line, and then more, where the line may stand there
abbrev pub line_then : ℕ → Option (Option Line × Known) → (Known → Result (List NumberedLine) ScriptFault) → Result (List NumberedLine) ScriptFault
line_then n None more = Err (flaw_at n)
line_then n (Some p) more = with_front (numbered n p.0) (more p.1)

-- the lines of these texts, the first of which is the n-th, or what is wrong with them
abbrev pub script_from : Known → ℕ → List (List ℕ) → Result (List NumberedLine) ScriptFault
script_from k n [] = ended k n
script_from k n (text ∷ texts) = line_then n (read_at k n text) (λ t. script_from t (n + 1) texts)

-- The lines of a script that say something; or the number of the first that is outside, counted from 1; or that it is too long.
-- A line ends at LF or at the end of the script, and a CR before its LF is no part of it.
unfoldable pub script : List ℕ → Result (List NumberedLine) ScriptFault
script bytes = script_from nothing_known 1 (lines bytes)
