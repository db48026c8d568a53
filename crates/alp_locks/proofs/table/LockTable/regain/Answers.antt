use Rattle.std.proofs.Common.{None, Some, is_some, ap, sym, subst, ◌∙◌}
use Rattle.std.specs.FinMap as map
use Rattle.alp_queue.specs.declared.waiter.Waiter.{Waiter}
use Rattle.alp_locks.specs.Tables.{Table, held_of, holding}
use Rattle.alp_locks.specs.Asks.{blocker, with_granted}
use Rattle.alp_locks.specs.Sound.{IsPrepared, IsSound}
use Rattle.alp_locks.proofs.HeldLemmas.{insert-knows}
use Rattle.alp_locks.proofs.SoundLemmas.{made-prepared, entered-prepared}
use Rattle.alp_locks.proofs.RegainLemmas.{regained, regained-holds, regained-sound, agrees-unless}
use Rattle.alp_locks.proofs.table.LockTable.regain.Goals as goal

pub take-requires-clause-known : goal.take-requires-clause-known
take-requires-clause-known c =
    ap (λ (w : Waiter). is_some (map.get c.enter.new.self.held w.trans)) c.in_ok-plan.ensures
    ∙ ap (λ (t : Table). is_some (map.get t.held c.args.trans)) c.in_ok-enter.ensures.after
    ∙ insert-knows c.args.self.now.held c.args.trans (held_of c.args.self.now.held c.args.trans)

pub take-requires-clause-prepared : goal.take-requires-clause-prepared
take-requires-clause-prepared c =
    subst (λ (t : Table). IsPrepared t.held c.in_ok-plan.plan) (sym c.in_ok-enter.ensures.after)
    (entered-prepared c.args.self.now c.args.trans c.in_ok-plan.plan (made-prepared c.args.self.now.held c.args.trans c.args.locks c.in_ok-plan.plan c.in_ok-plan.ensures))

pub returns-clause-answer : goal.returns-clause-answer
returns-clause-answer c = c.in_default.ensures ∙ ap (λ (w : Waiter). blocker c.args.self.now.held w.trans w.rises) c.in_ok-plan.ensures

pub returns-clause-after : goal.returns-clause-after
returns-clause-after c =
    c.take.ensures.after
    ∙ ap (λ (t : Table). with_granted t c.in_ok-plan.plan.trans c.in_ok-plan.plan.rises c.in_ok-plan.plan.after)
    (c.in_ok-enter.ensures.after)
    ∙ regained c.args.self.now c.args.trans c.args.locks c.in_ok-plan.plan c.in_ok-plan.ensures

pub returns-clause-held : goal.returns-clause-held
returns-clause-held c = λ u r. ap (λ (t : Table). holding t.held u r) (returns-clause-after c) ∙ regained-holds c.args.self.now c.args.trans c.args.locks None u r

pub returns-clause-agrees : goal.returns-clause-agrees
returns-clause-agrees c = λ unknown. agrees-unless c.args.self.now c.args.trans c.args.locks unknown None (returns-clause-answer c)

pub returns-clause-sound : goal.returns-clause-sound
returns-clause-sound c s = subst IsSound (sym (returns-clause-after c)) (regained-sound c.args.self.now c.args.trans c.args.locks c.requires (sym (returns-clause-answer c)) s)

pub returns-in-Some-clause-answer : goal.returns-in-Some-clause-answer
returns-in-Some-clause-answer c = sym c.in-Some.is ∙ c.in_way_of.ensures ∙ ap (λ (w : Waiter). blocker c.args.self.now.held w.trans w.rises) c.in_ok-plan.ensures

pub returns-in-Some-clause-held : goal.returns-in-Some-clause-held
returns-in-Some-clause-held c = λ u r. regained-holds c.args.self.now c.args.trans c.args.locks (Some c.in-Some.holder) u r

pub returns-in-Some-clause-agrees : goal.returns-in-Some-clause-agrees
returns-in-Some-clause-agrees c = λ unknown. agrees-unless c.args.self.now c.args.trans c.args.locks unknown (Some c.in-Some.holder) (returns-in-Some-clause-answer c)
