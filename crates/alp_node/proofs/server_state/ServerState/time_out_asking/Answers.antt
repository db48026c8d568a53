use Rattle.std.specs.Prelude.{None, Ok}
use Rattle.std.proofs.Common.{List, ◌++◌, sym, subst}
use Rattle.alp_files.specs.declared.refusal.Cause.TheVariants as cause
use Rattle.alp_journal.specs.declared.event.Event.TheVariants as event
use Rattle.alp_worker.specs.declared.joins.Joins.{Joins}
use Rattle.alp_node.specs.Steps.{IsStepAs}
use Rattle.alp_node.specs.Timeouts.{deads_of}
use Rattle.alp_node.specs.declared.dead.DeadPart.{DeadPart}
use Rattle.alp_node.proofs.LateSteps.{late_asking_step}
use Rattle.alp_node.proofs.server_state.ServerState.time_out_asking.Goals as goal

pub returns : goal.returns
returns g c =
    let k = c.args.self.now in
    let t = c.args.trans in
    subst (λ (ds : List DeadPart). IsStepAs g.V.Vault None k (record k { dead = ds; joins = c.quit_all.new.joins }) (event.Timeout t) (Ok c.silence.result)) (sym c.in_ok-add_all.ensures.ok)
    (subst (λ (js : Joins). IsStepAs g.V.Vault None k (record k { dead = k.dead ++ deads_of t cause.TimedOut c.args.late.now; joins = js }) (event.Timeout t) (Ok c.silence.result)) (sym c.quit_all.ensures)
    (late_asking_step g.V.Vault k t c.args.late.now c.requires.late c.requires.told c.requires.up c.requires.ready c.requires.foreign c.requires.asking c.silence.result c.silence.ensures))
