use Rattle.std.specs.Prelude.{cond, Bool, true, false, ◌==◌, ◌&&◌, Option, None, Some}
use Rattle.std.specs.Option.{option_copied}
use Rattle.std.specs.FinMap as map
use Rattle.std.proofs.Common.{◌≡◌, ℕ, List, [], ◌∷◌, ◌++◌, refl, ap, sym, subst, ◌∙◌}
use Rattle.alp_base.specs.declared.ids.TransId.{TransId}
use Rattle.alp_coord.specs.declared.course.Course.{Course}
use Rattle.alp_coord.specs.declared.begun.Settled.{Settled}
use Rattle.alp_coord.specs.declared.coordinator.Coordinator.{Coordinator}
use Rattle.std.proofs.Common.{◌-◌, length}
use Rattle.alp_coord.specs.declared.begun.Settled.TheVariants as settled
use Rattle.alp_coord.specs.Coordinators.{fate_in, settle_in}
use Rattle.alp_coord.proofs.MapLemmas.{length_set}
use Rattle.alp_coord.proofs.FateLemmas.{settled_placed}
use Rattle.alp_coord.proofs.MoveLemmas.{none_applied, not_applied, forgetting, forgetting_course, forgetting_open, forgetting_now, forgetting_old}
use Rattle.alp_coord.proofs.coordinator.Coordinator.forget.Goals as goal

pub returns-in_default-clause-forgotten : goal.returns-in_default-clause-forgotten
returns-in_default-clause-forgotten c = not_applied c.args.self.now c.args.trans.now (none_applied (fate_in c.args.self.now c.args.trans.now) (sym c.applied.ensures ∙ c.in_default.is))

pub returns-then-not-is_now-clause-forgotten : goal.returns-then-not-is_now-clause-forgotten
returns-then-not-is_now-clause-forgotten c =
    let k = c.args.self.now in
    let t = c.args.trans.now in
    let f = forgetting k t c.in-Some.ts (sym c.applied.ensures ∙ c.in-Some.is) in
    forgetting_old k t c.in-Some.ts f (sym c.is_now.ensures ∙ c.if-not-is_now.true) c.remove.new.self c.remove.ensures.after

pub returns-in_default-remove-clause-forgotten : goal.returns-in_default-remove-clause-forgotten
returns-in_default-remove-clause-forgotten c u =
    let k = c.args.self.now in
    let t = c.args.trans.now in
    let f = forgetting k t c.in-Some.ts (sym c.applied.ensures ∙ c.in-Some.is) in
    let wrong : Some f.there.course ≡ None = sym (forgetting_course k t c.in-Some.ts f) ∙ sym c.remove-2.ensures.before ∙ c.in_default-remove.is in
    cc

pub settle-requires-clause-some : goal.settle-requires-clause-some
settle-requires-clause-some c =
    let k = c.args.self.now in
    let t = c.args.trans.now in
    let f = forgetting k t c.in-Some.ts (sym c.applied.ensures ∙ c.in-Some.is) in
    (settled_placed k t settled.Open (forgetting_open k t c.in-Some.ts f (sym c.is_now.ensures ∙ c.if-not-is_now.false))).first

pub settle-requires-clause-begun : goal.settle-requires-clause-begun
settle-requires-clause-begun c =
    let k = c.args.self.now in
    let t = c.args.trans.now in
    let f = forgetting k t c.in-Some.ts (sym c.applied.ensures ∙ c.in-Some.is) in
    (settled_placed k t settled.Open (forgetting_open k t c.in-Some.ts f (sym c.is_now.ensures ∙ c.if-not-is_now.false))).within

pub returns-clause-along : goal.returns-clause-along
returns-clause-along c =
    let k = c.args.self.now in
    record { server_same = refl; epoch_same = refl; count_same = ap (λ (xs : List Settled). length xs) c.settle.ensures ∙ length_set k.begun (c.args.trans.now.counter - 1) (settled.Forgotten c.in-Some.ts c.in-Some-remove.course.members) }

pub returns-clause-forgotten : goal.returns-clause-forgotten
returns-clause-forgotten c =
    let k = c.args.self.now in
    let t = c.args.trans.now in
    let d = c.in-Some-remove.course in
    let f = forgetting k t c.in-Some.ts (sym c.applied.ensures ∙ c.in-Some.is) in
    let after : Coordinator = record k { begun = c.settle.new.self; courses = c.remove-2.new.self } in
    let same_ : after ≡ settle_in k t (settled.Forgotten c.in-Some.ts d.members) = λ i. record k { begun = c.settle.ensures i; courses = c.remove-2.ensures.after i } in
    forgetting_now k t c.in-Some.ts f d (sym c.is_now.ensures ∙ c.if-not-is_now.false) (sym c.remove-2.ensures.before ∙ c.in-Some-remove.is) after same_
