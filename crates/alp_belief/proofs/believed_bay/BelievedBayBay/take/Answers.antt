use Rattle.std.proofs.Common.{sym, subst}
use Rattle.alp_bay.specs.Bays.{IsTaken}
use Rattle.alp_belief.proofs.believed_bay.BelievedBayBay.take.Goals as goal

pub returns-clause-device : goal.returns-clause-device
returns-clause-device g c none told = subst (IsTaken g.B.Device.Disk (g.B.Bay.at c.args.self.now.bay c.args.server) c.args.pages) (sym c.new-3.ensures.device) (c.in-Ok.ensures.taken told)
