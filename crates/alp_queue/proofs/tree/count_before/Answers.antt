use Rattle.std.proofs.Common.{◌≤◌, length, not, ap, subst, sym, ◌∙◌}
use Rattle.std.specs.Option.{unwrap_or}
use Rattle.std.specs.Ordering.{is_lt}
use Rattle.std.proofs.lemmas.List.Sums.{prefix_len-le-length}
use Rattle.alp_base.specs.declared.key.Resource.{Resource}
use Rattle.alp_modes.specs.declared.Mode.{Mode}
use Rattle.alp_base.specs.Orders.{resource_cmp}
use Rattle.alp_queue.proofs.OrderLemmas.{at-or-end}
use Rattle.alp_queue.proofs.tree.count_before.Goals as goal

pub returns-clause-count : goal.returns-clause-count
returns-clause-count c =
    c.unwrap_or.ensures ∙ ap (λ o. unwrap_or o (length c.args.modes.now)) c.first_from.ensures
    ∙ at-or-end (λ (e : Resource × Mode). not (is_lt (resource_cmp e.0 c.args.key.now))) c.args.modes.now

pub returns-clause-within : goal.returns-clause-within
returns-clause-within c =
    subst (λ n. n ≤ length c.args.modes.now) (sym (returns-clause-count c)) (prefix_len-le-length (λ (e : Resource × Mode). not (not (is_lt (resource_cmp e.0 c.args.key.now)))) c.args.modes.now)
