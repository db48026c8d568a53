use Rattle.std.specs.Prelude.{nat_eq, length}
use Rattle.std.proofs.Common.{◌≡◌, false, List, ap, subst, sym, ◌∙◌}
use Rattle.std.specs.FinMap as map
use Rattle.alp_base.specs.declared.key.Resource.{Resource}
use Rattle.alp_modes.specs.declared.Mode.{Mode}
use Rattle.alp_queue.specs.declared.waiter.Waiter.{Waiter}
use Rattle.alp_locks.specs.Tables.{Holders, Table, are_known}
use Rattle.alp_locks.specs.Asks.{with_granted}
use Rattle.alp_locks.specs.Sound.{IsSound}
use Rattle.alp_locks.proofs.HeldLemmas.{known-insert}
use Rattle.alp_locks.proofs.SoundLemmas.{grant-sound}
use Rattle.alp_locks.proofs.PlanLemmas.{granted-some}
use Rattle.alp_locks.proofs.table.LockTable.take.Goals as goal

pub invariant_of-self : goal.invariant_of-self
invariant_of-self c = (
  ap (λ (p : Holders). are_known p c.self.inside.queue) c.replace.ensures
      ∙ known-insert c.self.inside.holders c.plan.inside.waiter.trans c.plan.inside.waiter.after c.self.inside.queue c.self.invariant.0,
  c.self.invariant.1,
)

pub returns-clause-sound : goal.returns-clause-sound
returns-clause-sound c s free idle =
    let t : Table = c.args.self.now in
    let plan : Waiter = c.args.plan in
    let table : Holders → Table = λ p. record { held = p; waiting = c.self.inside.queue; woken = c.self.inside.woken.items } in
    let some : nat_eq (length plan.rises) 0 ≡ false =
    ap (λ (w : Waiter). nat_eq (length w.rises) 0) (sym c.plan.view_is) ∙ ap (λ (rises : List (Resource × Mode)). nat_eq (length rises) 0) (sym c.as_slice.ensures) ∙ sym c.is_empty.ensures ∙ c.if-is_empty.false in
    let here : table c.replace.new.self ≡ with_granted t plan.trans plan.rises plan.after =
    ap table c.replace.ensures
    ∙ ap (λ (x : Table). record x { held = map.insert x.held c.plan.inside.waiter.trans c.plan.inside.waiter.after }) c.self.view_is
    ∙ ap (λ (w : Waiter). record t { held = map.insert t.held w.trans w.after }) c.plan.view_is
    ∙ sym (granted-some t plan.trans plan.rises plan.after some) in
    subst IsSound (sym here) (grant-sound t plan c.requires.prepared s free idle)
