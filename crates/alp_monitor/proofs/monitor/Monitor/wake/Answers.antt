use Rattle.std.proofs.Common.{rules, ◌+◌, ◌==◌}
use prog.Atomic.{either}
use Rattle.alp_monitor.proofs.Rules.{marks, marked}
use Rattle.alp_monitor.proofs.monitor.Monitor.wake.Goals as goal

pub compare_exchange-found-requires : goal.compare_exchange-found-requires
compare_exchange-found-requires g c =
    (search rules, search rules, marks g.S.Story.base g.S.Story.entries _ _ _ _ _ (λ n. either (n == c.peek-waiting.result) (c.peek-waiting.result + 1) n) (marked c.peek-waiting.result (search rules)))
