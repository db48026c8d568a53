-- what the words of a line say that is no client's
use Rattle.std.specs.Prelude.{ℕ, List, [], ◌∷◌, Option, None, Some}
use Rattle.alp_tokens.specs.Words.{◌>>=◌}
use Rattle.alp_tokens.specs.Numbers.{word32_of, word64_of}
use Rattle.alp_lines.specs.Operands.{server_of, client_of}
use Rattle.alp_lines.specs.declared.line.Line.{Line}
use Rattle.alp_lines.specs.declared.line.Line.TheVariants as line

-- the server that is the one word of a line
unfoldable pub one_server : List (List ℕ) → Option ℕ
one_server (server ∷ []) = server_of server
one_server _ = None

-- the two servers that are its words
unfoldable pub two_servers : List (List ℕ) → Option (ℕ × ℕ)
two_servers (from ∷ to ∷ []) = do
  f ← server_of from
  t ← server_of to
  Some (f, t)
two_servers _ = None

-- ---- what happens at a server

unfoldable pub tick_line : List (List ℕ) → Option Line
tick_line args = do
  s ← one_server args
  Some (line.Tick s)

unfoldable pub force_line : List (List ℕ) → Option Line
force_line args = do
  s ← one_server args
  Some (line.Force s)

-- the transaction of a client times out
unfoldable pub timeout_line : List (List ℕ) → Option Line
timeout_line (server ∷ client ∷ []) = do
  s ← server_of server
  c ← client_of client
  Some (line.Timeout s c)
timeout_line _ = None

-- the disk passes so many more calls that change it, and then stops
unfoldable pub stop_line : List (List ℕ) → Option Line
stop_line (server ∷ calls ∷ []) = do
  s ← server_of server
  n ← word32_of calls
  Some (line.Stop s n)
stop_line _ = None

-- the server falls, its disk crashes with that pick, and it starts again
unfoldable pub restart_line : List (List ℕ) → Option Line
restart_line (server ∷ pick ∷ []) = do
  s ← server_of server
  p ← word64_of pick
  Some (line.Restart s p)
restart_line _ = None

-- ---- the messages from one server to another

unfoldable pub carry_line : List (List ℕ) → Option Line
carry_line args = do
  p ← two_servers args
  Some (line.Carry p.0 p.1)

unfoldable pub lose_line : List (List ℕ) → Option Line
lose_line args = do
  p ← two_servers args
  Some (line.Lose p.0 p.1)

unfoldable pub again_line : List (List ℕ) → Option Line
again_line args = do
  p ← two_servers args
  Some (line.Again p.0 p.1)
