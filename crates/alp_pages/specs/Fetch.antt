-- What pages say of one page of a file.
use Rattle.std.specs.Prelude.{ℕ, ◌/◌, ◌%◌, ◌==◌, List, slice_index_or, Option, None, Some, if◌then◌else◌}
use Rattle.alp_base.specs.declared.ids.FileId.{FileId}
use Rattle.alp_pages.specs.Nodes.{Node, LeaderOf, IndexOf}
use Rattle.alp_pages.specs.Pages.{Pages}
use Rattle.alp_pages.specs.Volume.{row_of_node}

-- the place that a row names, if it names one there
abbrev pub named_in : Option (List ℕ) → ℕ → Option ℕ
named_in None j = None
named_in (Some row) j = if slice_index_or row j 0 == 0 then None else Some (slice_index_or row j 0)

-- the place that the page of a node names, if the node has a page
abbrev pub named_by : Pages → Node → Option ℕ → ℕ → Option ℕ
named_by pages k None j = None
named_by pages k (Some p) j = named_in (row_of_node k (pages p)) j

-- the place of the index page of a page, by the file's leader
abbrev pub place_of_index : Pages → FileId → ℕ → ℕ → Option ℕ
place_of_index pages f leader n = named_by pages (LeaderOf f) (Some leader) (n / 128)

-- the place of a page of the file whose leader stands there
abbrev pub place_of_page : Pages → FileId → ℕ → ℕ → Option ℕ
place_of_page pages f leader n = named_by pages (IndexOf f (n / 128)) (place_of_index pages f leader n) (n % 128)
