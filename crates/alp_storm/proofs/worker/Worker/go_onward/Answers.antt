use Rattle.std.proofs.Common.{refl}
use Rattle.alp_storm.proofs.DeedLemmas.{gone, wanting}
use Rattle.alp_storm.proofs.worker.Worker.go_onward.Goals as goal

pub returns-in-Ok-clause-ok : goal.returns-in-Ok-clause-ok
returns-in-Ok-clause-ok g c = (
  refl,
  gone g.S.Story.base g.S.Host.log c.args.monitors.now c.args.self.now.number c.args.self.now.job c.args.self.now.ring.items c.args.self.now.ring.items c.goes_on.new.self c.in-Ok.ensures.now c.in-Ok.ensures.goes,
)

pub returns-in-Err-clause-err : goal.returns-in-Err-clause-err
returns-in-Err-clause-err g c =
    wanting g.S.Story.base g.S.Host.log c.args.monitors.now c.args.self.now.number c.args.self.now.job c.goes_on.new.self c.args.self.now.ring.items c.in-Err.ensures.err c.requires.ring
