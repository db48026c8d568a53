-- What the lines of a script sent, in the order of the script, as the lists of the clients have it.
use Rattle.std.specs.Prelude.{ℕ, ◌==◌, List, [], ◌∷◌, ◌++◌, filter, flat_map, get_or, map as list_map, Option, None, Some, if◌then◌else◌, Vec}
use Rattle.std.specs.Global.{Global}
use Rattle.alp_journal.specs.declared.log.Item.{Item}
use Rattle.alp_script.specs.declared.numbered.NumberedLine.{NumberedLine}
use Rattle.alp_lines.specs.Named.{client_named}
use Rattle.alp_report.specs.Reports.{line_text}
use Rattle.alp_history.specs.RunLogs.{Lists}

-- a line of a client, with what it sent and was handed
pub record Turn : Type 0 where
  pub line : ℕ
  pub client : ℕ
  pub items : List Item

abbrev pub lists_in : List (Vec Item Global) → Lists
lists_in vs client = get_or (list_map (λ v. v.items) vs) client []

-- what the line with this number sent
abbrev pub turn_of : ℕ → Option ℕ → Lists → List Turn
turn_of n None lists = []
turn_of n (Some client) lists = record { line = n; client = client; items = filter (λ x. x.line == n) (lists client) } ∷ []

abbrev pub turns_of : List NumberedLine → Lists → List Turn
turns_of lines lists = flat_map (λ (l : NumberedLine). turn_of l.number (client_named l.line) lists) lines

-- what a client sent in all of them
abbrev pub own_in : ℕ → List Turn → List Item
own_in client [] = []
own_in client (t ∷ ts) = (if t.client == client then t.items else []) ++ own_in client ts

-- all that was sent, in order, each with its client
abbrev pub sent_in : List Turn → List (ℕ × Item)
sent_in turns = flat_map (λ (t : Turn). list_map (λ (x : Item). (t.client, x)) t.items) turns

-- the lines of the report
abbrev pub turns_text : List Turn → List ℕ
turns_text turns = flat_map (λ (t : Turn). line_text t.line t.items) turns
