use Rattle.std.proofs.Common.{ap, ◌∙◌, List, rules}
use Rattle.std.proofs.lemmas.Fn.{filter_same}
use Rattle.alp_queue.specs.declared.waiter.Waiter.{Waiter}
use Rattle.alp_queue.specs.Order.{without}
use Rattle.alp_queue.proofs.queue.Queue.withdraw.Goals as goal

pub returns : goal.returns
returns c =
    filter_same _ _ _ (λ x b f' k. search rules) _ _ c.retain.ensures.filtered
    ∙ ap (λ (ws : List Waiter). without ws c.args.trans.now) c.self.view_is
