-- what holds of the lines of a script
use Rattle.std.specs.Prelude.{◌≡◌, ℕ, ◌+◌, ◌≤◌, ◌<◌, true, List, [], ◌∷◌, ◌++◌, length, Option, None, Some, IfSome}
use Rattle.std.specs.List.{AllByRecursion, Contains}
use Rattle.alp_script.specs.Known.{Known, nothing_known}
use Rattle.alp_lines.specs.Forms.{AreInLimits, IsForm}
use Rattle.alp_lines.specs.Named.{client_named}
use Rattle.alp_script.specs.Order.{next, names_ours, is_of_servers}
use Rattle.alp_script.specs.Volumes.{sizes_said}
use Rattle.alp_base.specs.declared.limits.TheConstants.{SERVERS}
use Rattle.alp_lines.specs.declared.line.FileWord.{FileWord}
use Rattle.alp_lines.specs.declared.line.Line.{Line}
use Rattle.alp_lines.specs.declared.line.Line.TheVariants as line
use Rattle.alp_script.specs.declared.numbered.NumberedLine.{NumberedLine}
use Rattle.alp_script.specs.declared.numbered.TheConstants.{SCRIPT_LINES_MOST}

-- each line stands where it may
abbrev pub LeadsFrom : Known → List NumberedLine → Type 0
LeadsFrom k [] = Unit {0}
LeadsFrom k (l ∷ ls) = (after : Known) × (next k l.line ≡ Some after) × LeadsFrom after ls

-- the numbers rise from n on to the most that a script has
abbrev pub RisesFrom : ℕ → List NumberedLine → Type 0
RisesFrom n [] = Unit {0}
RisesFrom n (l ∷ ls) = (n ≤ l.number) × (l.number ≤ SCRIPT_LINES_MOST) × RisesFrom (l.number + 1) ls

-- the client that a line declares, if any
abbrev pub declared_by : Line → List ℕ
declared_by (line.Client client name) = client ∷ []
declared_by _ = []

-- each line of a client stands behind the line that declares the client, where these are declared before
abbrev pub DeclaredFrom : List ℕ → List NumberedLine → Type 0
DeclaredFrom clients [] = Unit {0}
DeclaredFrom clients (l ∷ ls) = IfSome (client_named l.line) (Contains clients) × DeclaredFrom (clients ++ declared_by l.line) ls

-- how many servers a line declares
abbrev pub servers_in : Line → ℕ
servers_in (line.Servers count) = count
servers_in _ = 0

-- the first line of a script declares them
abbrev pub servers_said : List NumberedLine → ℕ
servers_said [] = 0
servers_said (l ∷ ls) = servers_in l.line

-- the file that a line is on, as its words name it
abbrev pub file_named : Line → Option FileWord
file_named (line.OpenFile client file access mode choice) = Some file
file_named (line.CloseFile client file) = Some file
file_named (line.DeleteFile client file choice) = Some file
file_named (line.ReadPages client file run mode choice) = Some file
file_named (line.WritePages client file run text choice) = Some file
file_named (line.LockPages client file run mode choice) = Some file
file_named (line.SetSize client file size choice) = Some file
file_named (line.ReadProps client file) = Some file
file_named (line.WriteProps client file change choice) = Some file
file_named _ = None

-- an id by which a line names a file is of one of so many servers
abbrev pub NamesOurFile : ℕ → Line → Type 0
NamesOurFile servers l = IfSome (file_named l) (λ file. is_of_servers servers file ≡ true)

pub record IsAccepted (lines : List NumberedLine) : Type 0 where
  pub leads : LeadsFrom nothing_known lines
  pub rises : RisesFrom 1 lines
  pub some : 0 < length lines
  pub few : length lines ≤ SCRIPT_LINES_MOST
  pub declared : DeclaredFrom [] lines
  pub least : 1 ≤ servers_said lines
  pub most : servers_said lines ≤ SERVERS
  pub ours : AllByRecursion (λ l. names_ours (servers_said lines) l.line ≡ true) lines
  pub files : AllByRecursion (λ l. NamesOurFile (servers_said lines) l.line) lines
  pub forms : AllByRecursion (λ l. IsForm l.line) lines
  pub sizes : (server : ℕ) → AreInLimits (sizes_said lines server)
