use Rattle.std.specs.Option.{option_copied}
use Rattle.std.proofs.Common.{ap, sym, ◌∙◌}
use Rattle.alp_coord.proofs.WordLemmas.{runs-course, runs-none}
use Rattle.alp_coord.proofs.coordinator.Coordinator.is_running.Goals as goal

pub returns-in-Some : goal.returns-in-Some
returns-in-Some c = c.is_running.ensures ∙ sym (runs-course c.args.self.now c.args.trans.now c.in-Some.course.now (sym c.course.ensures ∙ ap option_copied c.in-Some.is))

pub returns-in-None : goal.returns-in-None
returns-in-None c = sym (runs-none c.args.self.now c.args.trans.now (sym c.course.ensures ∙ ap option_copied c.in-None.is))
