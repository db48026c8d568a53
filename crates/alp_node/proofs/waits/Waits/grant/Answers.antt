use Rattle.std.proofs.Common.{true, slice_set, ap, sym, ◌∙◌}
use Rattle.alp_node.specs.Waits.{is_file_on}
use Rattle.alp_node.specs.declared.waits.WaitingCall.{WaitingCall}
use Rattle.alp_node.proofs.WaitLemmas.{marked_step, passed_step}
use Rattle.alp_node.proofs.waits.Waits.grant.Goals as goal
use Rattle.alp_node.proofs.waits.Waits.grant.Goals.{then-is_on, else-is_on}

pub loop-call-preserved : goal.loop-call-preserved
loop-call-preserved c =
    elim c.if-is_on.branch [
      | then-is_on w ↦ marked_step c.args.trans.now c.deref_mut-call-items.result.now c.loop-call.call-items c.if-is_on.call-items c.loop-call.call-index c.call-item.result c.loop-call-test.true c.loop-call.invariant c.call-item.is (ap (is_file_on c.args.trans.now) c.call-item.is ∙ sym c.is_on.ensures ∙ w.if-is_on.true) (w.call-items-is ∙ ap (λ (v : WaitingCall). slice_set c.loop-call.call-items c.loop-call.call-index (record v { is_granted = true })) (sym c.call-item.is))
      | else-is_on w ↦ passed_step c.args.trans.now c.deref_mut-call-items.result.now c.loop-call.call-items c.if-is_on.call-items c.loop-call.call-index c.call-item.result c.loop-call-test.true c.loop-call.invariant c.call-item.is (ap (is_file_on c.args.trans.now) c.call-item.is ∙ sym c.is_on.ensures ∙ w.if-is_on.false) w.call-items-is
    ]
