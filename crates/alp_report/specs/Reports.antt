-- The texts of a report: that of a line of a client, and that of the summary.
use Rattle.std.specs.Prelude.{ℕ, List, [], ◌∷◌, ◌++◌, codes, length, flat_map, sum, Option, None, Some}
use Rattle.std.specs.Fmt.{decimal}
use Rattle.alp_base.specs.declared.cell.OwnerRecord.{OwnerRecord}
use Rattle.alp_files.specs.declared.reply.Reply.{Reply}
use Rattle.alp_files.specs.Cells.{Cells, sizes_of, owners_of}
use Rattle.alp_journal.specs.declared.log.Item.{Item}
use Rattle.alp_report.specs.Replies.{reply_text}

-- what was handed: silence has a word of its own
abbrev pub handed_text : Option Reply → List ℕ
handed_text (Some r) = reply_text r
handed_text None = codes "silent"

-- the last that was handed to a line, or `none` where it sent nothing
abbrev pub items_text : List Item → List ℕ
items_text [] = codes "none"
items_text (x ∷ []) = handed_text x.reply
items_text (x ∷ y ∷ xs) = items_text (y ∷ xs)

-- the line of the report for a line with this number that sent these
abbrev pub line_text : ℕ → List Item → List ℕ
line_text number items = decimal number ++ codes " " ++ items_text items ++ 10 ∷ []

-- so many files with so many pages
abbrev pub files_text : ℕ → ℕ → List ℕ
files_text files pages = codes " files " ++ decimal files ++ codes " pages " ++ decimal pages ++ 10 ∷ []

-- what a server holds at the end of a run: its cells, with its epoch and its clock then
pub record Holding : Type 0 where
  pub server : ℕ
  pub epoch : ℕ
  pub clock : ℕ
  pub cells : Cells

abbrev pub server_text : Holding → List ℕ
server_text h =
    codes "server " ++ decimal h.server ++ codes " epoch " ++ decimal h.epoch ++ codes " clock " ++ decimal h.clock
    ++ files_text (length (sizes_of h.cells)) (sum (sizes_of h.cells))

abbrev pub owner_line : ℕ → OwnerRecord → List ℕ
owner_line server o = codes "owner " ++ decimal server ++ codes " " ++ o.name ++ codes " charge " ++ decimal o.charge ++ codes " quota " ++ decimal o.quota ++ 10 ∷ []

abbrev pub owners_text : ℕ → List OwnerRecord → List ℕ
owners_text server owners = flat_map (owner_line server) owners

abbrev pub count_text : ℕ → ℕ → List ℕ
count_text committed aborted = codes "committed " ++ decimal committed ++ codes " aborted " ++ decimal aborted ++ 10 ∷ []

-- the owners of a server, in the order of their names
abbrev pub owned_by : Holding → List ℕ
owned_by h = owners_text h.server (owners_of h.cells)

-- what the servers hold at the end: a line for each, and then one for each owner of each; and how the run's transactions ended
abbrev pub summary_text : List Holding → ℕ → ℕ → List ℕ
summary_text servers committed aborted = flat_map server_text servers ++ flat_map owned_by servers ++ count_text committed aborted
