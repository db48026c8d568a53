-- what the words of a line say
use Rattle.std.specs.Prelude.{Bool, true, false, ◌==◌, ℕ, List, [], ◌∷◌, codes, Option, None, Some, if◌then◌else◌}
use Rattle.std.specs.Option.{option_map}
use Rattle.alp_tokens.specs.Words.{◌>>=◌, when, says, is_line, words_of}
use Rattle.alp_tokens.specs.Numbers.{within}
use Rattle.alp_tokens.specs.Names.{name_of}
use Rattle.alp_lines.specs.Operands.{server_of, client_of}
use Rattle.alp_lines.specs.ClientLines.{bare_line, line_by_verb}
use Rattle.alp_lines.specs.EventLines.{tick_line, force_line, timeout_line, stop_line, restart_line, carry_line, lose_line, again_line}
use Rattle.alp_lines.specs.declared.limits.TheConstants.{PATIENCE_MOST, HOME_LEAST, HOME_MOST, AREA_LEAST, AREA_MOST}
use Rattle.alp_lines.specs.declared.line.Line.{Line}
use Rattle.alp_lines.specs.declared.line.Line.TheVariants as line

unfoldable pub servers_line : List (List ℕ) → Option Line
servers_line (count ∷ []) = do
  n ← server_of count
  Some (line.Servers n)
servers_line _ = None

-- the sizes of a new disk of a server, within the limits
unfoldable pub volume_line : List (List ℕ) → Option Line
volume_line (server ∷ home ∷ area ∷ []) = do
  s ← server_of server
  h ← within HOME_LEAST HOME_MOST home
  a ← within AREA_LEAST AREA_MOST area
  Some (line.Volume s h a)
volume_line _ = None

unfoldable pub client_line : List (List ℕ) → Option Line
client_line (client ∷ name ∷ []) = do
  c ← client_of client
  n ← name_of name
  Some (line.Client c n)
client_line _ = None

-- after how many asks for its reply a call that waits times out
unfoldable pub patience_line : List (List ℕ) → Option Line
patience_line (count ∷ []) = do
  n ← within 1 PATIENCE_MOST count
  Some (line.Patience n)
patience_line _ = None

-- whether messages and collects go by themselves
unfoldable pub auto_line : List (List ℕ) → Option Line
auto_line (word ∷ []) = if says word (codes "on") then Some (line.Auto true) else when (says word (codes "off")) (line.Auto false)
auto_line _ = None

-- a line that begins with a client's number
unfoldable pub line_of_client : List ℕ → List (List ℕ) → Option Line
line_of_client client (verb ∷ args) = do
  c ← client_of client
  line_by_verb c verb args
line_of_client client [] = None

-- a line by its first word, where that declares and sets nothing
unfoldable pub event_by : List ℕ → List (List ℕ) → Option Line
event_by first args =
    if says first (codes "timeout") then timeout_line args
    else if says first (codes "tick") then tick_line args
    else if says first (codes "force") then force_line args
    else if says first (codes "stop") then stop_line args
    else if says first (codes "restart") then restart_line args
    else if says first (codes "settle") then bare_line line.Settle args
    else if says first (codes "carry") then carry_line args
    else if says first (codes "lose") then lose_line args
    else if says first (codes "again") then again_line args
    else line_of_client first args

-- a line, by its first word
unfoldable pub line_by : List ℕ → List (List ℕ) → Option Line
line_by first args =
    if says first (codes "servers") then servers_line args
    else if says first (codes "volume") then volume_line args
    else if says first (codes "client") then client_line args
    else if says first (codes "patience") then patience_line args
    else if says first (codes "auto") then auto_line args
    else event_by first args

-- what the words of a line say
abbrev pub line_of : List (List ℕ) → Option Line
line_of [] = None
line_of (first ∷ args) = line_by first args

-- an empty line and a comment say nothing
abbrev pub is_skipped : List ℕ → Bool
is_skipped [] = true
is_skipped (b ∷ bs) = b == 35

unfoldable pub line_said : List ℕ → Option Line
line_said text = words_of text >>= line_of

-- what the text of a line says, where it is inside the language: maybe nothing
unfoldable pub text_said : List ℕ → Option (Option Line)
text_said text = if is_line text then (if is_skipped text then Some None else option_map Some (line_said text)) else None
