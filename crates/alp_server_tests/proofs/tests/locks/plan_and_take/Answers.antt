use Rattle.std.proofs.Common.{is_some, ap, ◌∙◌}
use Rattle.std.specs.FinMap as map
use Rattle.alp_queue.specs.declared.waiter.Waiter.{Waiter}
use Rattle.alp_locks.specs.Tables.{Table, held_of}
use Rattle.alp_locks.specs.Asks.{entered}
use Rattle.alp_locks.proofs.HeldLemmas.{insert-knows}
use Rattle.alp_server_tests.proofs.tests.locks.plan_and_take.Goals as goal

pub take-requires-clause-known : goal.take-requires-clause-known
take-requires-clause-known c =
    ap (λ (t : Table). is_some (map.get t.held c.in_ok-plan.plan.trans)) c.in_ok-enter.ensures.after
    ∙ ap (λ (w : Waiter). is_some (map.get (entered c.args.table.now c.trans-trans.result).held w.trans)) c.in_ok-plan.ensures
    ∙ insert-knows c.args.table.now.held c.trans-trans.result (held_of c.args.table.now.held c.trans-trans.result)
