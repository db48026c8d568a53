use Rattle.std.proofs.Common.{◌≡◌, List, ap, sym, subst, ◌∙◌}
use Rattle.std.specs.FinMap as map
use Rattle.std.specs.FinMap.{find}
use Rattle.std.specs.Option.{option_or}
use Rattle.alp_base.specs.Orders.{resource_cmp}
use Rattle.alp_base.specs.declared.key.Resource.{Resource}
use Rattle.alp_modes.specs.declared.Mode.{Mode}
use Rattle.alp_queue.specs.declared.wanted.Wanted.{Wanted}
use Rattle.alp_queue.specs.Trees.{AreRising}
use Rattle.alp_locks.specs.Tables.{held_of}
use Rattle.alp_locks.specs.Wanted.{rising_in, wanted_in, is_converting}
use Rattle.alp_locks.proofs.RiseLemmas.{planned, risen-sorted, rising-all}
use Rattle.alp_locks.proofs.asking.waiter_for.Goals as goal

pub with_all-requires : goal.with_all-requires
with_all-requires c =
    let all : c.in_ok-all.all.items ≡ wanted_in c.in_ok-held.held c.args.needs = c.in_ok-all.ensures ∙ ap (wanted_in c.in_ok-held.held) c.as_slice.ensures in
    subst AreRising
    (sym (c.as_slice-3.ensures ∙ c.in_ok-rises.ensures ∙ ap rising_in (c.as_slice-2.ensures.value ∙ all) ∙ rising-all c.in_ok-held.held c.args.needs))
    (risen-sorted c.in_ok-held.held c.args.needs)

pub returns : goal.returns
returns c =
    let all : c.in_ok-all.all.items ≡ wanted_in c.in_ok-held.held c.args.needs = c.in_ok-all.ensures ∙ ap (wanted_in c.in_ok-held.held) c.as_slice.ensures in
    planned c.in_ok-held.held (held_of c.args.holders.now c.args.trans) c.args.trans c.args.needs c.in_ok-all.all.items c.in_ok-rises.rises c.in_ok-after.after c.converts.result
    c.in_ok-held.ensures all (c.in_ok-rises.ensures ∙ ap rising_in c.as_slice-2.ensures.value)
    (λ r. c.in_ok-after.ensures r ∙ ap (λ (xs : List (Resource × Mode)). option_or (find resource_cmp r xs) (map.get c.in_ok-held.held r)) c.as_slice-3.ensures)
    (c.converts.ensures ∙ ap is_converting c.as_slice-4.ensures.value)
