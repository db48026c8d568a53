use Rattle.std.specs.Prelude.{IfSome}
use Rattle.std.proofs.Common.{refl, sym, ap, ◌∙◌, subst, ℕ}
use Rattle.alp_base.specs.declared.ids.TransId.{TransId}
use Rattle.alp_jobs.specs.Deeds.{gives_timeout}
use Rattle.alp_jobs.specs.Jobs.{Does, timeout_due, after_timeout}
use Rattle.alp_jobs.specs.States.{JobState}
use Rattle.alp_storm.proofs.DeedLemmas.{timed_out, stopped}
use Rattle.alp_storm.proofs.worker.Worker.time_out.Goals as goal

pub returns-clause-ok : goal.returns-clause-ok
returns-clause-ok g c = (
  refl,
  timed_out g.S.Story.base g.S.Host.log c.args.monitors.now c.args.self.now.number c.args.self.now.job c.args.self.now.ring.items c.turn.new.self.ring.items c.timed_out.new.self c.args.server c.args.trans _ c.in-Ok.ensures.ok c.requires.due
      (c.timed_out.ensures.now ∙ ap after_timeout c.turn.ensures.still.1)
      (subst (λ (j : JobState). IfSome (timeout_due j) (λ (due : ℕ × TransId). Does j (gives_timeout due.0 due.1) c.timed_out.new.self)) c.turn.ensures.still.1 c.timed_out.ensures.does),
)

pub returns-in-Err-clause-err : goal.returns-in-Err-clause-err
returns-in-Err-clause-err g c =
    stopped g.S.Story.base g.S.Host.log c.args.monitors.now c.args.self.now.number c.turn.new.self.number _ c.args.self.now.job c.turn.new.self.job c.args.self.now.ring.items c.turn.new.self.ring.items c.turn.ensures.still.0 c.turn.ensures.ring c.in-Err.ensures.err
