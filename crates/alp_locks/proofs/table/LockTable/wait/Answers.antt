use Rattle.std.proofs.Common.{ap, sym, subst, ◌∙◌}
use Rattle.alp_base.specs.declared.choices.Choice.TheVariants.{Wait}
use Rattle.alp_locks.specs.Asks.{with_waiter}
use Rattle.alp_locks.specs.Sound.{IsSound}
use Rattle.alp_locks.proofs.ResultLemmas.{either}
use Rattle.alp_locks.proofs.SoundLemmas.{refuse-sound}
use Rattle.alp_locks.proofs.table.LockTable.wait.Goals as goal

pub returns-clause-sound : goal.returns-clause-sound
returns-clause-sound c s =
    either c.let_in.result _ _ (IsSound c.let_in.new.self) c.let_in.ensures.after c.let_in.ensures.err
    (λ a. subst IsSound (sym (a ∙ ap (with_waiter c.args.self.now) c.plan.view_is)) (refuse-sound c.args.self.now c.args.plan Wait c.requires.prepared s c.requires.idle))
    (λ e. subst IsSound (sym e) s)
