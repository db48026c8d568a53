use Rattle.std.proofs.Common.{refl}
use Rattle.alp_storm.proofs.WorkLemmas.{begun}
use Rattle.alp_storm.proofs.worker.Worker.work.Goals as goal

pub loop-init : goal.loop-init
loop-init g c = (refl, begun g.S.Story.base g.S.Host.log c.args.monitors.now c.args.self.number c.args.self.job c.args.self.ring.items c.requires.ring c.requires.ready)
