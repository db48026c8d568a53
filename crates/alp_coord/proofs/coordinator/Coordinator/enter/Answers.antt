use Rattle.std.specs.Prelude.{cond, Bool, true, false, ◌==◌, ◌&&◌, Option, None, Some}
use Rattle.std.specs.Option.{option_copied}
use Rattle.std.specs.FinMap as map
use Rattle.std.proofs.Common.{◌≡◌, ℕ, List, [], ◌∷◌, ◌++◌, refl, ap, sym, subst, ◌∙◌}
use Rattle.alp_base.specs.declared.ids.TransId.{TransId}
use Rattle.alp_coord.specs.declared.course.Course.{Course}
use Rattle.alp_coord.specs.declared.begun.Settled.{Settled}
use Rattle.alp_coord.specs.declared.coordinator.Coordinator.{Coordinator}
use Rattle.alp_files.proofs.UndoLemmas.{when_ok, when_err}
use Rattle.alp_coord.specs.declared.begun.Settled.TheVariants as settled
use Rattle.alp_coord.specs.Courses.{CourseMap}
use Rattle.alp_coord.proofs.coordinator.Coordinator.enter.Goals as goal

-- there is no room for the course
pub returns-then-is_err : goal.returns-then-is_err
returns-then-is_err c =
    let k = c.args.self.now in
    let begun : c.pop.new.self ≡ k.begun = c.pop.ensures k.begun settled.Open c.in_ok-push.ensures.ok in
    let courses : c.add.new.self ≡ k.courses = when_err c.add.result _ c.add.ensures.err (sym c.if-is_err.ensures.value) in
    record { ok = tt; err = λ i. record k { begun = begun i; courses = courses i } }

pub returns : goal.returns
returns c =
    let k = c.args.self.now in
    let put : c.add.new.self ≡ map.insert k.courses c.args.trans c.args.course = when_ok c.add.result _ c.add.ensures.ok (sym c.if-is_err.ensures.value) in
    record { ok = λ i. record k { begun = c.in_ok-push.ensures.ok i; courses = put i }; err = tt }
