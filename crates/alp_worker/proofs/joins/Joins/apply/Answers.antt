use Rattle.std.proofs.Common.{List, sym, subst}
use Rattle.alp_journal.specs.Deeds.{Applies}
use Rattle.alp_journal.specs.State.{state_deed}
use Rattle.alp_worker.specs.Joins.{AreJoinsOf}
use Rattle.alp_worker.specs.declared.live.LiveJoin.{LiveJoin}
use Rattle.alp_worker.proofs.MoveLemmas.{applies_kept}
use Rattle.alp_worker.proofs.joins.Joins.apply.Goals as goal

pub returns-clause-deed : goal.returns-clause-deed
returns-clause-deed c s h =
    subst (λ (ls : List LiveJoin). AreJoinsOf (state_deed s (Applies c.args.join.now c.args.stamp.now)) (record c.args.self.now { lives = ls })) (sym c.apply.ensures)
    (applies_kept s c.args.self.now h c.args.join.now c.args.stamp.now)
