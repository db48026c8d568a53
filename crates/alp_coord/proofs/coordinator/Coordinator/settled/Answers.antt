use Rattle.std.specs.Prelude.{cond, Bool, true, false, ◌==◌, ◌&&◌, Option, None, Some}
use Rattle.std.specs.Option.{option_copied}
use Rattle.std.specs.FinMap as map
use Rattle.std.proofs.Common.{◌≡◌, ℕ, List, [], ◌∷◌, ◌++◌, refl, ap, sym, subst, ◌∙◌}
use Rattle.alp_base.specs.declared.ids.TransId.{TransId}
use Rattle.alp_coord.specs.declared.course.Course.{Course}
use Rattle.alp_coord.specs.declared.begun.Settled.{Settled}
use Rattle.alp_coord.specs.declared.coordinator.Coordinator.{Coordinator}
use Rattle.alp_coord.specs.Begun.{settled_at}
use Rattle.alp_coord.proofs.coordinator.Coordinator.settled.Goals as goal

pub returns-then-not-is_here : goal.returns-then-not-is_here
returns-then-not-is_here c = sym (ap (λ (b : Bool). cond {A = Option Settled} b (settled_at c.args.self.now.begun c.args.trans.now.counter) None) (sym c.is_here.ensures ∙ c.if-not-is_here.true))

pub returns : goal.returns
returns c =
    c.get.ensures ∙ sym (ap (λ (b : Bool). cond {A = Option Settled} b (settled_at c.args.self.now.begun c.args.trans.now.counter) None) (sym c.is_here.ensures ∙ c.if-not-is_here.false))
