-- the files: how many pages each has, and the lines that create them
use Rattle.std.specs.Prelude.{◌≡◌, ℕ, ◌+◌, ◌*◌, ◌%◌, ◌<◌}
use Rattle.std.specs.Prelude.{List, [], ◌∷◌, ◌++◌, map, flat_map, length, slice_index, codes}
use Rattle.std.specs.List.{All, range_with_len}
use Rattle.std.specs.Fmt.{decimal}
use Rattle.alp_base.specs.declared.choices.Choice.TheVariants as choice
use Rattle.alp_lines.specs.Operands.{everyone}
use Rattle.alp_lines.specs.declared.line.Line.{Line}
use Rattle.alp_lines.specs.declared.line.Line.TheVariants as line
use Rattle.alp_drill.specs.declared.dice.Dice.{Dice}
use Rattle.alp_drill.specs.declared.shape.Shape.{Shape}
use Rattle.alp_drill.specs.Rolls.{roll, in_turn}
use Rattle.alp_drill.specs.Setup.{owner}
use Rattle.alp_drill.specs.Shapes.{files_of}

-- the clients of the owners, from 2 on, take turns
abbrev pub client_of : Shape → ℕ → ℕ
client_of shape turn = 2 + turn % shape.owners

abbrev pub server_of : Shape → ℕ → ℕ
server_of shape turn = 1 + turn % shape.servers

-- from 1 to so many pages
abbrev pub pages_of_file : ℕ → ℕ → Dice → List ℕ × Dice
pages_of_file most file dice = ((1 + (roll most dice).0) ∷ [], (roll most dice).1)

-- these are rolled first of all, for one file after the other
unfoldable pub pages_of_files : Shape → Dice → List ℕ × Dice
pages_of_files shape = in_turn (pages_of_file shape.pages) (range_with_len 0 (files_of shape))

-- each of the files has a page
pub record AreFiles (shape : Shape) (pages : List ℕ) : Type 0 where
  pub count : length pages ≡ files_of shape
  pub some : All (λ most. 0 < most) pages

-- `f0` and so on
abbrev pub file_name : ℕ → List ℕ
file_name i = codes "f" ++ decimal i

-- `C create S fI oK Z World World`, where K is the owner whose client C is
abbrev pub create_line : Shape → List ℕ → ℕ → ℕ → Line
create_line shape pages g i =
    line.Create (client_of shape g) (server_of shape g) (file_name i) (owner (1 + g % shape.owners)) (slice_index pages i) everyone everyone choice.Fail

-- a transaction creates ten files
abbrev pub group : Shape → List ℕ → ℕ → List Line
group shape pages g =
    line.Begin (client_of shape g) (server_of shape g)
    ∷ (map (create_line shape pages g) (range_with_len (10 * g) 10) ++ line.Commit (client_of shape g) ∷ [])

-- and there are so many of them
abbrev pub groups : Shape → List ℕ → List Line
groups shape pages = flat_map (group shape pages) (range_with_len 0 shape.groups)
