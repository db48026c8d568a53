use Rattle.std.specs.FinMap as map
use Rattle.std.proofs.Common.{ap, sym, ◌∙◌}
use Rattle.alp_coord.specs.declared.course.Course.{Course}
use Rattle.alp_coord.proofs.FoundLemmas.{noted_before, noted_now}
use Rattle.alp_coord.proofs.coordinator.note.Goals as goal

pub returns-then-has : goal.returns-then-has
returns-then-has c = noted_before c.args.decision.now c.args.courses.now (sym c.has.ensures ∙ c.if-has.true)

pub returns : goal.returns
returns c =
    c.in_ok-add.ensures.ok ∙ ap (λ (d : Course). map.insert c.args.courses.now c.args.decision.now.stamp.trans d) c.in_ok-course.ensures ∙ noted_now c.args.decision.now c.args.courses.now (sym c.has.ensures ∙ c.if-has.false)
