use Rattle.std.proofs.Common.{◌≤◌, ap, sym, subst, ◌∙◌, List, insert, length}
use Rattle.alp_queue.specs.declared.waiter.Waiter.{Waiter}
use Rattle.alp_queue.specs.Order.{placed, place_in}
use Rattle.alp_queue.proofs.OrderLemmas.{placed-insert, place-within}
use Rattle.alp_queue.proofs.queue.Queue.enter.Goals as goal

pub insert-requires : goal.insert-requires
insert-requires c =
    subst (λ n. c.place_of-at.result ≤ n) c.as_slice.ensures.len
    (subst (λ n. n ≤ length c.as_slice.result.now) (sym c.place_of-at.ensures) (place-within c.as_slice.result.now c.args.waiter.converts))

pub returns-clause-ok : goal.returns-clause-ok
returns-clause-ok c =
    c.in_ok-insert.ensures.items
    ∙ ap (λ n. insert c.self.inside.waiters.items n c.args.waiter) (c.place_of-at.ensures ∙ ap (λ (ws : List Waiter). place_in ws c.args.waiter.converts) c.as_slice.ensures.value)
    ∙ sym (placed-insert c.self.inside.waiters.items c.args.waiter)
    ∙ ap (λ (ws : List Waiter). placed ws c.args.waiter) c.self.view_is
