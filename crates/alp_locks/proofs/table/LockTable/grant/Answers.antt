use Rattle.std.specs.Prelude.{nat_eq, length}
use Rattle.std.proofs.Common.{◌≡◌, false, List, is_some, ap, sym, subst, ◌∙◌}
use Rattle.std.specs.FinMap as map
use Rattle.alp_base.specs.declared.key.Resource.{Resource}
use Rattle.alp_modes.specs.declared.Mode.{Mode}
use Rattle.alp_queue.specs.declared.waiter.Waiter.{Waiter}
use Rattle.alp_locks.specs.Tables.{Table, held_of}
use Rattle.alp_locks.specs.Asks.{entered, with_granted}
use Rattle.alp_locks.specs.Sound.{IsPrepared}
use Rattle.alp_locks.proofs.HeldLemmas.{insert-knows}
use Rattle.alp_locks.proofs.SoundLemmas.{entered-prepared}
use Rattle.alp_locks.proofs.PlanLemmas.{entered-granted}
use Rattle.alp_locks.proofs.table.LockTable.grant.Goals as goal

pub take-requires-clause-known : goal.take-requires-clause-known
take-requires-clause-known c =
    let here : c.enter.new.self ≡ entered c.args.self.now c.args.plan.trans = c.in_ok-enter.ensures.after ∙ ap (λ (w : Waiter). entered c.args.self.now w.trans) c.plan.view_is in
    ap (λ (t : Table). is_some (map.get t.held c.args.plan.trans)) here
    ∙ insert-knows c.args.self.now.held c.args.plan.trans (held_of c.args.self.now.held c.args.plan.trans)

pub take-requires-clause-prepared : goal.take-requires-clause-prepared
take-requires-clause-prepared c =
    let here : c.enter.new.self ≡ entered c.args.self.now c.args.plan.trans = c.in_ok-enter.ensures.after ∙ ap (λ (w : Waiter). entered c.args.self.now w.trans) c.plan.view_is in
    subst (λ (t : Table). IsPrepared t.held c.args.plan) (sym here) (entered-prepared c.args.self.now c.args.plan.trans c.args.plan c.requires)

pub returns-clause-after : goal.returns-clause-after
returns-clause-after c =
    let here : c.enter.new.self ≡ entered c.args.self.now c.args.plan.trans = c.in_ok-enter.ensures.after ∙ ap (λ (w : Waiter). entered c.args.self.now w.trans) c.plan.view_is in
    let some : nat_eq (length c.args.plan.rises) 0 ≡ false =
    ap (λ (w : Waiter). nat_eq (length w.rises) 0) (sym c.plan.view_is) ∙ ap (λ (rises : List (Resource × Mode)). nat_eq (length rises) 0) (sym c.as_slice.ensures) ∙ sym c.is_empty.ensures ∙ c.if-is_empty.false in
    c.take.ensures.after
    ∙ ap (λ (t : Table). with_granted t c.args.plan.trans c.args.plan.rises c.args.plan.after) here
    ∙ entered-granted c.args.self.now c.args.plan.trans c.args.plan.rises c.args.plan.after some
