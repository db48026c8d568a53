-- what a step of the making does
use Rattle.std.specs.Prelude.{◌≡◌, List, ◌++◌}
use Rattle.alp_lines.specs.declared.line.Line.{Line}
use Rattle.alp_drill.specs.declared.dice.Dice.{Dice}

-- the lines are followed by those that are told, and the dice are left as is told
pub record Adds (before after : List Line) (left : Dice) (told : List Line × Dice) : Type 0 where
  pub lines : after ≡ before ++ told.0
  pub dice : left ≡ told.1
