use Rattle.std.proofs.Common.{◌+◌, List, sym, subst}
use Rattle.alp_journal.specs.Deeds.{Joins as JoinsOf}
use Rattle.alp_journal.specs.Moves.{next_join}
use Rattle.alp_journal.specs.State.{state_deed}
use Rattle.alp_worker.specs.Joins.{AreJoinsOf}
use Rattle.alp_worker.specs.declared.live.LiveJoin.{LiveJoin}
use Rattle.alp_worker.proofs.DrawLemmas.{draws_kept, next_said}
use Rattle.alp_worker.proofs.joins.Joins.draw.Goals as goal

pub returns-clause-next : goal.returns-clause-next
returns-clause-next c s h = next_said s c.args.self.now h

pub returns-clause-deed : goal.returns-clause-deed
returns-clause-deed c s h none =
    subst (λ (ls : List LiveJoin). AreJoinsOf (state_deed s (JoinsOf (next_join s) c.args.trans c.args.client c.args.who)) (record c.args.self.now { drawn = c.args.self.now.drawn + 1; lives = ls })) (sym c.in_ok-push.ensures.ok)
    (draws_kept s c.args.self.now c.args.trans c.args.client c.args.who h none)
