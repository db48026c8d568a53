use Rattle.std.proofs.Common.{List, sym, subst}
use Rattle.alp_journal.specs.Deeds.{Enters}
use Rattle.alp_journal.specs.State.{state_deed}
use Rattle.alp_worker.specs.Joins.{AreJoinsOf}
use Rattle.alp_worker.specs.declared.live.LiveJoin.{LiveJoin}
use Rattle.alp_worker.proofs.MoveLemmas.{enters_kept}
use Rattle.alp_worker.proofs.joins.Joins.enter.Goals as goal

pub returns-clause-deed : goal.returns-clause-deed
returns-clause-deed c s t client who h =
    subst (λ (ls : List LiveJoin). AreJoinsOf (state_deed s (Enters c.args.join.now t client who)) (record c.args.self.now { lives = ls })) (sym c.go_on.ensures)
    (enters_kept s c.args.self.now h c.args.join.now t client who)
