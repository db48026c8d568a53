use Rattle.std.specs.Prelude.{cond, Bool, true, false, ◌==◌, ◌&&◌, Option, None, Some}
use Rattle.std.specs.Option.{option_copied}
use Rattle.std.specs.FinMap as map
use Rattle.std.proofs.Common.{◌≡◌, ℕ, List, [], ◌∷◌, ◌++◌, refl, ap, sym, subst, ◌∙◌}
use Rattle.alp_base.specs.declared.ids.TransId.{TransId}
use Rattle.alp_coord.specs.declared.course.Course.{Course}
use Rattle.alp_coord.specs.declared.begun.Settled.{Settled}
use Rattle.alp_coord.specs.declared.coordinator.Coordinator.{Coordinator}
use Rattle.alp_journal.specs.declared.message.Message.{Message}
use Rattle.alp_coord.proofs.WordLemmas.{inquiry-placed, inquiry-unplaced}
use Rattle.alp_coord.proofs.coordinator.Coordinator.inquire_settled.Goals as goal

pub returns-in-Some : goal.returns-in-Some
returns-in-Some c =
    c.inquiry_settled.ensures ∙ inquiry-placed c.args.self.now c.args.trans.now c.args.join.now c.in-Some.settled.now (sym c.settled.ensures ∙ ap option_copied c.in-Some.is)

pub returns-in-None : goal.returns-in-None
returns-in-None c = ap (λ (m : Message). Some m) c.lost.ensures ∙ inquiry-unplaced c.args.self.now c.args.trans.now c.args.join.now (sym c.settled.ensures ∙ ap option_copied c.in-None.is)
