use Rattle.std.specs.Prelude.{IfSome}
use Rattle.std.proofs.Common.{refl, sym, ap, ◌∙◌, subst, ℕ}
use Rattle.alp_jobs.specs.Deeds.{gives_tick}
use Rattle.alp_jobs.specs.Does.{tick_due}
use Rattle.alp_jobs.specs.Jobs.{Does, after_tick_given}
use Rattle.alp_jobs.specs.States.{JobState}
use Rattle.alp_storm.proofs.DeedLemmas.{ticked, stopped}
use Rattle.alp_storm.proofs.worker.Worker.tick.Goals as goal

pub returns-clause-ok : goal.returns-clause-ok
returns-clause-ok g c = (
  refl,
  ticked g.S.Story.base g.S.Host.log c.args.monitors.now c.args.self.now.number c.args.self.now.job c.args.self.now.ring.items c.turn.new.self.ring.items c.ticked.new.self c.args.server _ c.in-Ok.ensures.ok c.requires.due
      (c.ticked.ensures.now ∙ ap after_tick_given c.turn.ensures.still.1) (subst (λ (j : JobState). IfSome (tick_due j.stage) (λ n. Does j (gives_tick n) c.ticked.new.self)) c.turn.ensures.still.1 c.ticked.ensures.does),
)

pub returns-in-Err-clause-err : goal.returns-in-Err-clause-err
returns-in-Err-clause-err g c =
    stopped g.S.Story.base g.S.Host.log c.args.monitors.now c.args.self.now.number c.turn.new.self.number _ c.args.self.now.job c.turn.new.self.job c.args.self.now.ring.items c.turn.new.self.ring.items c.turn.ensures.still.0 c.turn.ensures.ring c.in-Err.ensures.err
