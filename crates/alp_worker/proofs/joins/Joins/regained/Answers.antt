use Rattle.std.proofs.Common.{List, sym, subst}
use Rattle.alp_journal.specs.Deeds.{Restarts}
use Rattle.alp_journal.specs.State.{opened, state_deed}
use Rattle.alp_worker.specs.Joins.{AreJoinsOf}
use Rattle.alp_worker.specs.declared.live.LiveJoin.{LiveJoin}
use Rattle.alp_worker.proofs.RegainLemmas.{opened_kept, restart_kept}
use Rattle.alp_worker.proofs.joins.Joins.regained.Goals as goal

pub returns-clause-opened : goal.returns-clause-opened
returns-clause-opened c o here current noted fit =
    subst (λ (ls : List LiveJoin). AreJoinsOf (opened o) (record { server = c.args.server; epoch = c.args.epoch; drawn = 0; lives = ls })) (sym c.in_ok-lives.ensures)
    (opened_kept o c.args.server c.args.epoch c.args.parts.now here current noted fit)

pub returns-clause-restarted : goal.returns-clause-restarted
returns-clause-restarted c s before clock h here later stand =
    subst (λ (ls : List LiveJoin). AreJoinsOf (state_deed s (Restarts c.args.epoch clock)) (record { server = c.args.server; epoch = c.args.epoch; drawn = 0; lives = ls })) (sym c.in_ok-lives.ensures)
    (restart_kept s before h c.args.epoch later c.args.parts.now stand c.args.server clock here)
