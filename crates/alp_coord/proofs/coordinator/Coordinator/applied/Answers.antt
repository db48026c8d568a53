use Rattle.std.specs.Prelude.{cond, Bool, true, false, ◌==◌, ◌&&◌, Option, None, Some}
use Rattle.std.specs.Option.{option_copied}
use Rattle.std.specs.FinMap as map
use Rattle.std.proofs.Common.{◌≡◌, ℕ, List, [], ◌∷◌, ◌++◌, refl, ap, sym, subst, ◌∙◌}
use Rattle.alp_base.specs.declared.ids.TransId.{TransId}
use Rattle.alp_coord.specs.declared.course.Course.{Course}
use Rattle.alp_coord.specs.declared.begun.Settled.{Settled}
use Rattle.alp_coord.specs.declared.coordinator.Coordinator.{Coordinator}
use Rattle.alp_coord.specs.Coordinators.{applied_time}
use Rattle.alp_coord.proofs.FateLemmas.{fate_course, fate_none}
use Rattle.alp_coord.proofs.MoveLemmas.{time_settled}
use Rattle.alp_coord.specs.Coordinators.{settled_in}
use Rattle.alp_coord.proofs.coordinator.Coordinator.applied.Goals as goal

pub returns-in-Some : goal.returns-in-Some
returns-in-Some c =
    let s = c.args.self.now in
    let t = c.args.trans.now in
    c.applied.ensures t ∙ sym (ap applied_time (fate_course s t c.in-Some.course.now (sym c.course.ensures ∙ ap option_copied c.in-Some.is)))

pub returns-in-None : goal.returns-in-None
returns-in-None c =
    let s = c.args.self.now in
    let t = c.args.trans.now in
    sym (ap applied_time (fate_none s t (sym c.course.ensures ∙ ap option_copied c.in-None.is)) ∙ time_settled t (settled_in s t))
