use Rattle.std.specs.Prelude.{cond, Bool, true, false, ◌==◌, ◌&&◌, Option, None, Some}
use Rattle.std.specs.Option.{option_copied}
use Rattle.std.specs.FinMap as map
use Rattle.std.proofs.Common.{◌≡◌, ℕ, List, [], ◌∷◌, ◌++◌, refl, ap, sym, subst, ◌∙◌}
use Rattle.alp_base.specs.declared.ids.TransId.{TransId}
use Rattle.alp_coord.specs.declared.course.Course.{Course}
use Rattle.alp_coord.specs.declared.begun.Settled.{Settled}
use Rattle.alp_coord.specs.declared.coordinator.Coordinator.{Coordinator}
use Rattle.std.proofs.Common.{length}
use Rattle.alp_coord.proofs.FoundLemmas.{found_known}
use Rattle.alp_coord.proofs.coordinator.Coordinator.regained.Goals as goal

pub returns-clause-run : goal.returns-clause-run
returns-clause-run c = record { server_same = refl; epoch_same = refl; count_same = ap (λ (xs : List Settled). length xs) c.new-begun.ensures }

pub returns-clause-found : goal.returns-clause-found
returns-clause-found c =
    found_known (record { alloc = c.args.alloc; server = c.args.server; epoch = c.args.epoch; begun = c.new-begun.result; courses = c.in_ok-courses.courses }) c.args.decisions.now c.new-begun.ensures c.in_ok-courses.ensures
