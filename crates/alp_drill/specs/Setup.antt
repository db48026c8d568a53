-- the lines that declare the clients, and those that make the owners
use Rattle.std.specs.Prelude.{ℕ, ◌+◌, List, [], ◌∷◌, ◌++◌, map, flat_map, codes}
use Rattle.std.specs.List.{range_with_len}
use Rattle.std.specs.Fmt.{decimal}
use Rattle.alp_base.specs.declared.choices.Choice.TheVariants as choice
use Rattle.alp_lines.specs.Operands.{its_owner}
use Rattle.alp_lines.specs.declared.line.Line.{Line}
use Rattle.alp_lines.specs.declared.line.Line.TheVariants as line
use Rattle.alp_drill.specs.declared.shape.Shape.{Shape}

-- `o1` and so on
abbrev pub owner : ℕ → List ℕ
owner k = codes "o" ++ decimal k

-- each owner has a client: `client 2 o1` and so on
abbrev pub client_line : ℕ → Line
client_line k = line.Client (k + 1) (owner k)

-- the administrator, and the clients of so many owners
abbrev pub clients : ℕ → List Line
clients owners = line.Client 1 (codes "Admin") ∷ map client_line (range_with_len 1 owners)

-- `1 mkowner S oK 100000 Owner`
abbrev pub owner_line : ℕ → ℕ → Line
owner_line server k = line.MakeOwner 1 server (owner k) 100000 its_owner choice.Fail

abbrev pub owners_at : ℕ → ℕ → List Line
owners_at owners server = map (owner_line server) (range_with_len 1 owners)

-- one transaction makes them all, at one server after the other
abbrev pub owners : Shape → List Line
owners shape = line.Begin 1 1 ∷ (flat_map (owners_at shape.owners) (range_with_len 1 shape.servers) ++ line.Commit 1 ∷ [])
