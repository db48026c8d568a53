use Rattle.std.specs.Prelude.{cond, Bool, true, false, ◌==◌, ◌&&◌, Option, None, Some}
use Rattle.std.specs.Option.{option_copied}
use Rattle.std.specs.FinMap as map
use Rattle.std.proofs.Common.{◌≡◌, ℕ, List, [], ◌∷◌, ◌++◌, refl, ap, sym, subst, ◌∙◌}
use Rattle.alp_base.specs.declared.ids.TransId.{TransId}
use Rattle.alp_coord.specs.declared.course.Course.{Course}
use Rattle.alp_coord.specs.declared.begun.Settled.{Settled}
use Rattle.alp_coord.specs.declared.coordinator.Coordinator.{Coordinator}
use Rattle.alp_coord.specs.Coordinators.{settled_in, if_open, if_standing}
use Rattle.alp_coord.proofs.coordinator.Coordinator.course.Goals as goal

pub returns-then-not-is_now : goal.returns-then-not-is_now
returns-then-not-is_now c =
    let s = c.args.self.now in
    let t = c.args.trans.now in
    c.course_before.ensures
    ∙ sym (ap (λ (b : Bool). cond {A = Option Course} b (if_open (settled_in s t) (map.get s.courses t)) (if_standing (map.get s.courses t))) (sym c.is_now.ensures ∙ c.if-not-is_now.true))

pub returns : goal.returns
returns c =
    let s = c.args.self.now in
    let t = c.args.trans.now in
    c.course_now.ensures
    ∙ sym (ap (λ (b : Bool). cond {A = Option Course} b (if_open (settled_in s t) (map.get s.courses t)) (if_standing (map.get s.courses t))) (sym c.is_now.ensures ∙ c.if-not-is_now.false))
