-- A server that fell, as its callers see it: what it was started on, its vault as a crash left it, its journal, and of the server
-- itself its number, how many servers there are, and its last epoch.
use Rattle.std.specs.Prelude.{ℕ, List}
use Rattle.alp_journal.specs.declared.entry.Entry.{Entry}
use Rattle.alp_node.specs.declared.opened.Opened.{Opened}

pub record DownState (V : Type 0) : Type 0 where
  pub opening : Opened V
  pub vault : V
  pub journal : List Entry
  pub server : ℕ
  pub servers : ℕ
  pub epoch : ℕ
