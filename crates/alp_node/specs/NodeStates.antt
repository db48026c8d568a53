-- A server as its callers see it: what it was started on, what it keeps, and its journal.
use Rattle.std.specs.Prelude.{ℕ, List}
use Rattle.alp_journal.specs.declared.entry.Entry.{Entry}
use Rattle.alp_node.specs.declared.opened.Opened.{Opened}
use Rattle.alp_node.specs.declared.server_state.ServerState.{ServerState}

pub record NodeState (V : Type 0) : Type 0 where
  pub opening : Opened V
  pub kept : ServerState V
  pub journal : List Entry
