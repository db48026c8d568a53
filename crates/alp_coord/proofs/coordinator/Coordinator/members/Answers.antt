use Rattle.std.specs.Prelude.{cond, Bool, true, false, ◌==◌, ◌&&◌, Option, None, Some}
use Rattle.std.specs.Option.{option_copied}
use Rattle.std.specs.FinMap as map
use Rattle.std.proofs.Common.{◌≡◌, ℕ, List, [], ◌∷◌, ◌++◌, refl, ap, sym, subst, ◌∙◌}
use Rattle.alp_base.specs.declared.ids.TransId.{TransId}
use Rattle.alp_coord.specs.declared.course.Course.{Course}
use Rattle.alp_coord.specs.declared.begun.Settled.{Settled}
use Rattle.alp_coord.specs.declared.coordinator.Coordinator.{Coordinator}
use Rattle.alp_base.specs.declared.ids.JoinNo.{JoinNo}
use Rattle.alp_journal.specs.Coordinator.{joins_of}
use Rattle.alp_coord.specs.declared.members.Member.{Member}
use Rattle.alp_coord.specs.Members.{joins}
use Rattle.alp_coord.proofs.FateLemmas.{fate_none}
use Rattle.alp_coord.proofs.MoveLemmas.{joins_course}
use Rattle.alp_coord.proofs.coordinator.Coordinator.members.Goals as goal

pub returns-in-Some : goal.returns-in-Some
returns-in-Some c = ap joins c.as_slice.ensures ∙ sym (joins_course c.args.self.now c.args.trans.now c.in-Some.course.now (sym c.course.ensures ∙ ap option_copied c.in-Some.is))

pub returns-in-None : goal.returns-in-None
returns-in-None c = c.settled_members.ensures ∙ sym (ap joins_of (fate_none c.args.self.now c.args.trans.now (sym c.course.ensures ∙ ap option_copied c.in-None.is)))
