use Rattle.std.proofs.Common.{List, sym, subst}
use Rattle.alp_journal.specs.Deeds.{Readies}
use Rattle.alp_journal.specs.State.{state_deed}
use Rattle.alp_worker.specs.Joins.{AreJoinsOf}
use Rattle.alp_worker.specs.declared.live.LiveJoin.{LiveJoin}
use Rattle.alp_worker.proofs.MoveLemmas.{readies_kept}
use Rattle.alp_worker.proofs.joins.Joins.ready.Goals as goal

pub returns-clause-deed : goal.returns-clause-deed
returns-clause-deed c s t h =
    subst (λ (ls : List LiveJoin). AreJoinsOf (state_deed s (Readies c.args.join.now t c.args.ts)) (record c.args.self.now { lives = ls })) (sym c.go_on.ensures)
    (readies_kept s c.args.self.now h c.args.join.now t c.args.ts)
