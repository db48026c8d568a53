-- what stands before the rounds or jobs
use Rattle.std.specs.Prelude.{ℕ, List, ◌++◌}
use Rattle.alp_lines.specs.declared.line.Line.{Line}
use Rattle.alp_drill.specs.declared.shape.Shape.{Shape}
use Rattle.alp_drill.specs.Setup.{clients, owners}
use Rattle.alp_drill.specs.Files.{groups}

-- the clients, their owners, and the files with so many pages each
abbrev pub setup : Shape → List ℕ → List Line
setup shape pages = clients shape.owners ++ (owners shape ++ groups shape pages)
