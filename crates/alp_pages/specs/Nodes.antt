-- What stands at a home place: a file's leader, the index page of a block of pages, a page of data.
use Rattle.std.specs.Prelude.{ℕ, Bool, false, ◌==◌, ◌&&◌}
use Rattle.alp_base.specs.declared.ids.FileId.{FileId}
use Rattle.alp_files.specs.Cells.{same_file}

pub data Node : Type 0 where
  LeaderOf : FileId → Node
  IndexOf : FileId → ℕ → Node
  DataOf : FileId → ℕ → Node

abbrev pub same_node : Node → Node → Bool
same_node (LeaderOf f) (LeaderOf g) = same_file f g
same_node (LeaderOf f) (IndexOf g b) = false
same_node (LeaderOf f) (DataOf g n) = false
same_node (IndexOf f a) (LeaderOf g) = false
same_node (IndexOf f a) (IndexOf g b) = same_file f g && a == b
same_node (IndexOf f a) (DataOf g n) = false
same_node (DataOf f i) (LeaderOf g) = false
same_node (DataOf f i) (IndexOf g b) = false
same_node (DataOf f i) (DataOf g n) = same_file f g && i == n

-- the file that a node belongs to
abbrev pub file_of : Node → FileId
file_of (LeaderOf f) = f
file_of (IndexOf f b) = f
file_of (DataOf f n) = f
