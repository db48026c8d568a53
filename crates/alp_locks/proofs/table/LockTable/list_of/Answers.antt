use Rattle.std.proofs.Common.{◌≡◌, [], Option, ap, sym, ◌∙◌, option_copied, length}
use Rattle.std.specs.Option.{unwrap_or}
use Rattle.std.specs.FinMap as map
use Rattle.std.specs.FinMap.{from_sorted, entries-from_sorted, len-entries, empty_of_len}
use Rattle.alp_modes.specs.declared.Mode.{Mode}
use Rattle.alp_base.specs.Orders.{resource_cmp}
use Rattle.alp_queue.specs.Rises.{Held}
use Rattle.alp_locks.specs.Tables.{Table, held_of}
use Rattle.alp_locks.proofs.table.LockTable.list_of.Goals as goal

-- no locks at all
none : map.entries (map.empty {X = Mode} {R = resource_cmp}) ≡ []
none =
    let same : from_sorted [] ≡ map.empty {X = Mode} {R = resource_cmp} = empty_of_len (from_sorted []) (len-entries (from_sorted []) ∙ ap length (entries-from_sorted resource_cmp [] tt)) in
    ap (λ m. map.entries m) (sym same) ∙ entries-from_sorted resource_cmp [] tt

pub returns-in-None : goal.returns-in-None
returns-in-None c =
    c.new.ensures.items ∙ sym none
    ∙ ap (λ (o : Option Held). map.entries (unwrap_or o map.empty)) (ap option_copied (sym c.in-None.is) ∙ c.get.ensures)
    ∙ ap (λ (t : Table). map.entries (held_of t.held c.args.trans)) c.self.view_is
