-- the sizes that the lines of a script give a new disk of a server
use Rattle.std.specs.Prelude.{ℕ, ◌==◌, List, Option, None, unwrap_or}
use Rattle.std.specs.List.{filter_map, last_or}
use Rattle.alp_base.specs.declared.faults.Sizes.{Sizes}
use Rattle.alp_tokens.specs.Words.{when}
use Rattle.alp_lines.specs.declared.line.Line.{Line}
use Rattle.alp_lines.specs.declared.line.Line.TheVariants as line
use Rattle.alp_script.specs.declared.numbered.NumberedLine.{NumberedLine}
use Rattle.alp_script.specs.declared.sizes.TheConstants.{NEW_HOME, NEW_AREA}

-- those of a new disk that no line speaks of
abbrev pub new_sizes : Sizes
new_sizes = record { home = NEW_HOME; area = NEW_AREA }

-- the sizes that a line says of the server's disk, if any
abbrev pub sizes_in : ℕ → Line → Option Sizes
sizes_in server (line.Volume s home area) = when (s == server) (record { home = home; area = area })
sizes_in server _ = None

-- of several lines that say the sizes of one disk the last counts
unfoldable pub sizes_said : List NumberedLine → ℕ → Sizes
sizes_said lines server = unwrap_or (last_or None (filter_map (λ l. sizes_in server l.line) lines)) new_sizes
