use Rattle.std.specs.Prelude.{cond, Bool, true, false, ◌==◌, ◌&&◌, Option, None, Some}
use Rattle.std.specs.Option.{option_copied}
use Rattle.std.specs.FinMap as map
use Rattle.std.proofs.Common.{◌≡◌, ℕ, List, [], ◌∷◌, ◌++◌, refl, ap, sym, subst, ◌∙◌}
use Rattle.alp_base.specs.declared.ids.TransId.{TransId}
use Rattle.alp_coord.specs.declared.course.Course.{Course}
use Rattle.alp_coord.specs.declared.begun.Settled.{Settled}
use Rattle.alp_coord.specs.declared.coordinator.Coordinator.{Coordinator}
use Rattle.alp_coord.specs.Coordinators.{settled_in, if_open}
use Rattle.alp_coord.proofs.coordinator.Coordinator.course_now.Goals as goal

pub returns-in_default : goal.returns-in_default
returns-in_default c =
    let s = c.args.self.now in
    let t = c.args.trans.now in
    sym (ap (λ (x : Option Settled). if_open x (map.get s.courses t)) (sym c.settled.ensures ∙ ap option_copied c.in_default.is))

pub returns-then-not-is_open : goal.returns-then-not-is_open
returns-then-not-is_open c =
    let s = c.args.self.now in
    let t = c.args.trans.now in
    sym (ap (λ (x : Option Settled). if_open x (map.get s.courses t)) (sym c.settled.ensures ∙ ap option_copied c.in-Some.is)
    ∙ ap (λ (b : Bool). cond {A = Option Course} b (map.get s.courses t) None) (sym c.is_open.ensures ∙ c.if-not-is_open.true))

pub returns : goal.returns
returns c =
    let s = c.args.self.now in
    let t = c.args.trans.now in
    c.get.ensures ∙ sym (ap (λ (x : Option Settled). if_open x (map.get s.courses t)) (sym c.settled.ensures ∙ ap option_copied c.in-Some.is)
    ∙ ap (λ (b : Bool). cond {A = Option Course} b (map.get s.courses t) None) (sym c.is_open.ensures ∙ c.if-not-is_open.false))
