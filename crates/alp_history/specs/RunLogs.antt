-- The log of a run as the program keeps it, read as the theorems do.
use Rattle.std.specs.Prelude.{ℕ, List, [], get_or, map as list_map, length, Option, None, Some}
use Rattle.alp_journal.specs.declared.opening.Opening.{Ghosts}
use Rattle.alp_journal.specs.declared.log.Item.{Item}
use Rattle.alp_journal.specs.declared.log.Mark.{Mark}
use Rattle.alp_journal.specs.declared.log.Mark.TheVariants as mark
use Rattle.alp_journal.specs.declared.log.RunLog.{RunLog}
use Rattle.alp_journal.specs.declared.log.Sent.{Sent}
use Rattle.alp_journal.specs.declared.log.Sent.TheVariants as sent
use Rattle.alp_journal.specs.declared.log.ServerLog.{ServerLog}
use Rattle.alp_journal.specs.Opening.{Start, start_at}
use Rattle.alp_history.specs.Items as items
use Rattle.alp_history.specs.Log as logs

-- ---- what clients sent and were handed

abbrev pub mark_of : Mark → items.Mark
mark_of mark.Own = items.Own
mark_of mark.Repeated = items.Repeated
mark_of mark.Raw = items.Raw

-- bytes that spell no call are none
abbrev pub sent_of : Sent → Option items.Sent
sent_of (sent.Call client epoch number call) = Some (record { client = client; epoch = epoch; number = number; call = call })
sent_of (sent.Bytes bytes) = None

abbrev pub item_of : Item → items.Item
item_of x = record { server = x.server; mark = mark_of x.mark; sent = sent_of x.sent; reply = x.reply; place = x.place }

-- all that each client sent, by its number
abbrev pub Lists : Type 0
Lists = ℕ → List Item

abbrev pub handed_of : Lists → items.Handed
handed_of lists client = list_map item_of (lists client)

module _ {O : Type 0} (G : Ghosts O) where
  -- what a server of so many was started on
  abbrev pub start_in : ℕ → ServerLog O → Start
  start_in servers x = start_at x.server servers (G.sizes x.opening) (G.cells x.opening) (G.notes x.opening)

  abbrev pub server_log : ℕ → ServerLog O → logs.ServerLog
  server_log servers x = record { opening = start_in servers x; journal = x.journal; ranks = x.ranks.items }

  abbrev pub lists_of : RunLog O → Lists
  lists_of run client = get_or (list_map (λ v. v.items) run.clients.items) client []

  -- the whole
  abbrev pub log_of : RunLog O → logs.Log
  log_of run = record { servers = list_map (server_log (length run.servers.items)) run.servers.items; handed = handed_of (lists_of run) }
