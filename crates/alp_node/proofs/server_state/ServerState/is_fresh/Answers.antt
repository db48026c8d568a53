use Rattle.std.specs.Prelude.{not, is_some, Bool, false, ◌||◌}
use Rattle.std.specs.List.{list_any}
use Rattle.std.specs.Ordering.{eq_by_cmp}
use Rattle.std.proofs.Common.{◌≡◌, sym, ◌∙◌, ap}
use Rattle.alp_base.specs.Orders.{resource_cmp}
use Rattle.alp_files.specs.Holdings.{Holding}
use Rattle.alp_files.specs.Locks.{Need}
use Rattle.alp_locks.specs.Tables.{holding}
use Rattle.alp_node.proofs.LockCountLemmas.{held_or_asked}
use Rattle.alp_node.proofs.server_state.ServerState.is_fresh.Goals as goal

pub returns : goal.returns
returns g c =
    let held : Holding = holding c.args.self.now.locks.held c.args.trans in
    let before = c.args.before.now in
    let at = c.args.at.now in
    let free : is_some (held at) ≡ false = ap is_some (sym c.mode_of.ensures) ∙ sym c.is_some.ensures ∙ c.if-is_some.false in
    ap not (c.is_among.ensures ∙ sym (held_or_asked held before at ∙ ap (λ (b : Bool). b || list_any (λ (n : Need). eq_by_cmp resource_cmp at n.0) before) free))
