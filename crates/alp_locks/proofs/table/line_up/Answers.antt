use Rattle.std.proofs.Common.{◌≡◌, true, false, not, is_some, ap, sym, ◌∙◌}
use Rattle.std.specs.FinMap as map
use Rattle.std.proofs.Math.Bool.{not-not}
use Rattle.alp_locks.specs.Tables.{Holders, held_of}
use Rattle.alp_locks.proofs.ResultLemmas.{on-err}
use Rattle.alp_locks.proofs.HeldLemmas.{insert-held, remove-insert}
use Rattle.alp_locks.proofs.table.line_up.Goals as goal

pub returns-then-not-branch-clause-err : goal.returns-then-not-branch-clause-err
returns-then-not-branch-clause-err c =
    let known : is_some (map.get c.args.holders.now c.args.waiter.trans) ≡ true =
    sym (not-not (is_some (map.get c.args.holders.now c.args.waiter.trans))) ∙ ap not (sym c.in_ok-enter.ensures.fresh ∙ c.if-not-branch.true) in
    on-err c.enter-then-not-branch.result _ _ c.enter-then-not-branch.ensures.err
    (λ same. (c.in_ok-enter.ensures.ok ∙ insert-held c.args.holders.now c.args.waiter.trans known, same))

pub returns-in-Err-clause-err : goal.returns-in-Err-clause-err
returns-in-Err-clause-err c =
    let unknown : is_some (map.get c.args.holders.now c.args.waiter.trans) ≡ false =
    sym (not-not (is_some (map.get c.args.holders.now c.args.waiter.trans))) ∙ ap not (sym c.in_ok-enter.ensures.fresh ∙ c.if-not-branch.false) in (
      c.remove.ensures
          ∙ ap (λ (p : Holders). map.remove p c.args.waiter.trans) c.in_ok-enter.ensures.ok
          ∙ remove-insert c.args.holders.now c.args.waiter.trans (held_of c.args.holders.now c.args.waiter.trans) unknown,
      c.in-Err.ensures.err,
    )
