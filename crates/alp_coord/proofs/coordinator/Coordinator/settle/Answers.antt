use Rattle.std.specs.Prelude.{cond, Bool, true, false, ◌==◌, ◌&&◌, Option, None, Some}
use Rattle.std.specs.Option.{option_copied}
use Rattle.std.specs.FinMap as map
use Rattle.std.proofs.Common.{◌≡◌, ℕ, List, [], ◌∷◌, ◌++◌, refl, ap, sym, subst, ◌∙◌}
use Rattle.alp_base.specs.declared.ids.TransId.{TransId}
use Rattle.alp_coord.specs.declared.course.Course.{Course}
use Rattle.alp_coord.specs.declared.begun.Settled.{Settled}
use Rattle.alp_coord.specs.declared.coordinator.Coordinator.{Coordinator}
use Rattle.alp_coord.specs.declared.begun.Settled.TheVariants as settled
use Rattle.alp_coord.specs.Coordinators.{settle_in}
use Rattle.alp_coord.proofs.FateLemmas.{settled_placed}
use Rattle.alp_coord.proofs.coordinator.Coordinator.settle.Goals as goal

pub settle-requires-clause-some : goal.settle-requires-clause-some
settle-requires-clause-some c = (settled_placed c.args.self.now c.args.trans.now settled.Open c.requires).first

pub settle-requires-clause-begun : goal.settle-requires-clause-begun
settle-requires-clause-begun c = (settled_placed c.args.self.now c.args.trans.now settled.Open c.requires).within

pub returns : goal.returns
returns c = λ i. record c.args.self.now { begun = c.settle.ensures i; courses = c.remove.ensures.after i }
