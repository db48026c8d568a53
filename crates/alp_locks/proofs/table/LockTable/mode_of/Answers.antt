use Rattle.std.proofs.Common.{Option, ap, sym, ◌∙◌, option_copied}
use Rattle.std.specs.Option.{unwrap_or}
use Rattle.std.specs.FinMap as map
use Rattle.std.specs.FinMap.{get-empty}
use Rattle.alp_base.specs.Orders.{resource_cmp}
use Rattle.alp_queue.specs.Rises.{Held}
use Rattle.alp_locks.specs.Tables.{Table, holding}
use Rattle.alp_locks.proofs.table.LockTable.mode_of.Goals as goal

pub returns-in-None : goal.returns-in-None
returns-in-None c =
    sym (get-empty resource_cmp c.args.at.now)
    ∙ ap (λ (o : Option Held). map.get (unwrap_or o map.empty) c.args.at.now) (ap option_copied (sym c.in-None.is) ∙ c.get.ensures)
    ∙ ap (λ (t : Table). holding t.held c.args.trans c.args.at.now) c.self.view_is
