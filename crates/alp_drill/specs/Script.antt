-- the script of a drill
use Rattle.std.specs.Prelude.{ℕ, ◌+◌, List, [], ◌∷◌, ◌++◌}
use Rattle.alp_lines.specs.declared.line.Line.{Line}
use Rattle.alp_lines.specs.declared.line.Line.TheVariants as line
use Rattle.alp_script.specs.declared.numbered.NumberedLine.{NumberedLine}
use Rattle.alp_drill.specs.Rolls.{dice_of}
use Rattle.alp_drill.specs.Shapes.{drill_shape}
use Rattle.alp_drill.specs.Files.{pages_of_files}
use Rattle.alp_drill.specs.Start.{setup}
use Rattle.alp_drill.specs.Rounds.{rounds}

-- the lines that a seed and a number of rounds make
unfoldable pub drill_lines : ℕ → ℕ → List Line
drill_lines seed size =
    let pages = pages_of_files drill_shape (dice_of seed) in
    line.Servers 3 ∷ (setup drill_shape pages.0 ++ (rounds pages.0 size pages.1).0)

-- the lines with their numbers, which count from n
abbrev pub counted : ℕ → List Line → List NumberedLine
counted n [] = []
counted n (l ∷ ls) = record { number = n; line = l } ∷ counted (n + 1) ls

-- and the script, in which each line has its number
unfoldable pub drill_script : ℕ → ℕ → List NumberedLine
drill_script seed size = counted 1 (drill_lines seed size)
