use Rattle.std.proofs.Common.{◌≡◌}
use Rattle.alp_storm.specs.Works.{HasWorked}
use Rattle.alp_storm.proofs.worker.Worker.work.Given as goal

abbrev pub invariant-loop : goal.invariant-loop
invariant-loop g l = (l.worker.number ≡ l.fn.self.number) × HasWorked g.S.Story.base g.S.Host.log l.monitors l.fn.self.number l.fn.self.job l.fn.self.ring.items l.worker.job l.worker.ring.items
