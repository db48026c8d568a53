use Rattle.std.proofs.Common.{◌≡◌, ◌≤◌}
use Rattle.std.specs.Vec.{vec_len, vec_capacity}
use Rattle.alp_monitor.proofs.Passes.{Dealt}
use Rattle.alp_monitor.proofs.monitor.Monitor.deal.Given as goal

abbrev pub invariant-loop : goal.invariant-loop
invariant-loop g l = Dealt g.S.Story.base l.fn.self l.founder l.counter l.made.items × (vec_len l.made ≡ l.counter) × (vec_capacity l.fn.made ≤ vec_capacity l.made)
