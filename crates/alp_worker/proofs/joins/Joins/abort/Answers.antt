use Rattle.std.proofs.Common.{List, sym, subst}
use Rattle.alp_journal.specs.Deeds.{Aborts}
use Rattle.alp_journal.specs.State.{state_deed}
use Rattle.alp_worker.specs.Joins.{AreJoinsOf}
use Rattle.alp_worker.specs.declared.live.LiveJoin.{LiveJoin}
use Rattle.alp_worker.proofs.MoveLemmas.{aborts_kept}
use Rattle.alp_worker.proofs.joins.Joins.abort.Goals as goal

pub returns-clause-deed : goal.returns-clause-deed
returns-clause-deed c s client cause h =
    subst (λ (ls : List LiveJoin). AreJoinsOf (state_deed s (Aborts c.args.join.now c.args.trans.now client cause)) (record c.args.self.now { lives = ls })) (sym c.abort.ensures)
    (aborts_kept s c.args.self.now h c.args.join.now c.args.trans.now client cause)
