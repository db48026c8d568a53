-- what the lines of a script so far tell of those that may follow
use Rattle.std.specs.Prelude.{ℕ, Bool, false, nat_le, List, []}

pub record Known : Type 0 where
  -- how many servers there are, and 0 as long as they are not declared
  pub servers : ℕ
  -- the clients that are declared, in their order
  pub clients : List ℕ
  -- a line of a client stood
  pub begun : Bool
  -- what create lines bound, each once, in rising order
  pub words : List (List ℕ)

-- no line stood
abbrev pub nothing_known : Known
nothing_known = record { servers = 0; clients = []; begun = false; words = [] }

-- the servers are declared
abbrev pub has_servers : Known → Bool
has_servers k = nat_le 1 k.servers
