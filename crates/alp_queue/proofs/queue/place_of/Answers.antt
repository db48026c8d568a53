use Rattle.std.proofs.Common.{ap, ◌∙◌, length, not, ◌&&◌}
use Rattle.std.specs.Option.{unwrap_or}
use Rattle.alp_queue.specs.declared.waiter.Waiter.{Waiter}
use Rattle.alp_queue.proofs.OrderLemmas.{at-or-end}
use Rattle.alp_queue.proofs.queue.place_of.Goals as goal

pub returns : goal.returns
returns c =
    c.unwrap_or.ensures ∙ ap (λ o. unwrap_or o (length c.args.waiters.now)) c.first_behind.ensures
    ∙ at-or-end (λ (w : Waiter). c.args.converts && not w.converts) c.args.waiters.now
