use Rattle.std.specs.Prelude.{Option, IfSome}
use Rattle.std.proofs.Common.{sym, ap, ◌∙◌, subst}
use Rattle.alp_rpc.specs.Frames.{request}
use Rattle.alp_rpc.specs.declared.frame.Request.{Request}
use Rattle.alp_jobs.specs.States.{JobState}
use Rattle.alp_session_tests.proofs.tests.jobs.answered.Goals as goal

pub hears-requires-clause-room : goal.hears-requires-clause-room
hears-requires-clause-room c = ap (λ (j : JobState). j.room) c.in_ok-make_room.ensures.now

pub hears-requires-clause-asked : goal.hears-requires-clause-asked
hears-requires-clause-asked c = c.in_ok-make_room.ensures.due ∙ c.requires.asked

pub hears-requires-clause-fits : goal.hears-requires-clause-fits
hears-requires-clause-fits c = subst (λ (o : Option Request). IfSome o request.Fits) (sym c.in_ok-make_room.ensures.asked) c.requires.fits
