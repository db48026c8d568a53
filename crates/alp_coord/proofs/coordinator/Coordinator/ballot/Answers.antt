use Rattle.std.specs.Prelude.{cond, Bool, true, false, ◌==◌, ◌&&◌, Option, None, Some}
use Rattle.std.specs.Option.{option_copied}
use Rattle.std.specs.FinMap as map
use Rattle.std.proofs.Common.{◌≡◌, ℕ, List, [], ◌∷◌, ◌++◌, refl, ap, sym, subst, ◌∙◌}
use Rattle.alp_base.specs.declared.ids.TransId.{TransId}
use Rattle.alp_coord.specs.declared.course.Course.{Course}
use Rattle.alp_coord.specs.declared.begun.Settled.{Settled}
use Rattle.alp_coord.specs.declared.coordinator.Coordinator.{Coordinator}
use Rattle.alp_coord.specs.Coordinators.{ballot_of}
use Rattle.alp_coord.proofs.FateLemmas.{fate_course}
use Rattle.alp_coord.proofs.MoveLemmas.{ballot_none}
use Rattle.alp_coord.proofs.coordinator.Coordinator.ballot.Goals as goal

pub returns-in-Some : goal.returns-in-Some
returns-in-Some c =
    let s = c.args.self.now in
    let t = c.args.trans.now in
    c.ballot_of.ensures t ∙ ap (ballot_of c.args.join.now c.args.time c.args.least) (sym (fate_course s t c.in-Some.course.now (sym c.course.ensures ∙ ap option_copied c.in-Some.is)))

pub returns-in-None : goal.returns-in-None
returns-in-None c = sym (ballot_none c.args.self.now c.args.trans.now c.args.join.now c.args.time c.args.least (sym c.course.ensures ∙ ap option_copied c.in-None.is))
