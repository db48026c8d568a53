use Rattle.alp_storm.proofs.DeedLemmas.{still, wanting}
use Rattle.std.proofs.Common.{refl}
use Rattle.alp_storm.proofs.worker.Worker.go_once.Goals as goal

pub returns-in-Err-clause-err : goal.returns-in-Err-clause-err
returns-in-Err-clause-err g c =
    wanting g.S.Story.base g.S.Host.log c.args.monitors.now c.args.self.now.number c.args.self.now.job c.args.self.now.job c.args.self.now.ring.items refl c.requires.ring

pub returns-in-Done-clause-ok : goal.returns-in-Done-clause-ok
returns-in-Done-clause-ok g c = still g.S.Story.base g.S.Host.log c.args.monitors.now c.args.self.now.number c.args.self.now.job c.args.self.now.ring.items c.args.self.now.ring.items
