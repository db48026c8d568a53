use Rattle.std.proofs.Common.{List, sym, subst}
use Rattle.alp_journal.specs.State.{opened}
use Rattle.alp_worker.specs.Joins.{AreJoinsOf}
use Rattle.alp_worker.specs.declared.live.LiveJoin.{LiveJoin}
use Rattle.alp_worker.proofs.RegainLemmas.{new_kept}
use Rattle.alp_worker.proofs.joins.Joins.new.Goals as goal

pub returns-clause-opened : goal.returns-clause-opened
returns-clause-opened c o here current none pos =
    subst (λ (ls : List LiveJoin). AreJoinsOf (opened o) (record { server = c.args.server; epoch = c.args.epoch; drawn = 0; lives = ls })) (sym c.new.ensures)
    (new_kept o c.args.server c.args.epoch here current none pos)
