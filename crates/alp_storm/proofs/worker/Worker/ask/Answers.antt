use Rattle.std.proofs.Common.{◌≡◌, refl, sym, ap, ◌∙◌, subst, List}
use Rattle.alp_journal.specs.declared.event.Event.TheVariants as event
use Rattle.alp_journal.specs.declared.log.Sent.{Sent}
use Rattle.alp_journal.specs.declared.log.Sent.TheVariants as sent
use Rattle.alp_session.specs.Frames.{read_as, sent_by}
use Rattle.alp_jobs.specs.Jobs.{after_unheard}
use Rattle.alp_jobs.specs.States.{JobState}
use Rattle.alp_monitor.specs.declared.monitor.Pass.{Pass}
use Rattle.alp_storm.specs.Works.{Hears, item_for, WorksOn, StopsIn}
use Rattle.alp_storm.specs.declared.fault.StormFault.TheVariants as fault
use Rattle.alp_storm.proofs.DeedLemmas.{heard, unheard, unread, stopped, wanting}
use Rattle.alp_storm.proofs.worker.Worker.ask.Goals as goal

pub turn-requires-clause-due : goal.turn-requires-clause-due
turn-requires-clause-due g c = record { frame = c.args.frame; due = c.requires.asked; there = refl; spelled = ap (read_as c.args.frame.bytes) c.in-Ok.ensures.ok.1 }

pub returns-in-Err-clause-err : goal.returns-in-Err-clause-err
returns-in-Err-clause-err g c =
    unread g.S.Story.base g.S.Host.log c.args.monitors.now c.args.self.now.number _ c.args.self.now.job c.args.self.now.ring.items c.args.frame c.requires.asked c.requires.fits c.in-Err.ensures.err c.requires.ring

pub returns-in_default-clause-err : goal.returns-in_default-clause-err
returns-in_default-clause-err g c = wanting g.S.Story.base g.S.Host.log c.args.monitors.now c.args.self.now.number c.args.self.now.job c.args.self.now.job c.args.self.now.ring.items refl c.requires.ring

pub returns-in-Err-turn-clause-err : goal.returns-in-Err-turn-clause-err
returns-in-Err-turn-clause-err g c =
    stopped g.S.Story.base g.S.Host.log c.args.monitors.now c.args.self.now.number c.turn.new.self.number _ c.args.self.now.job c.turn.new.self.job c.args.self.now.ring.items c.turn.new.self.ring.items c.turn.ensures.still.0 c.turn.ensures.ring c.in-Err-turn.ensures.err

pub returns-in-Ok-hear-clause-ok : goal.returns-in-Ok-hear-clause-ok
returns-in-Ok-hear-clause-ok g c =
    let r = c.in-Ok.request in
    let a = c.in-Ok-turn.answer in
    let t = c.in-Ok-turn.ensures.ok in (
      refl,
      subst (λ (l : List (Pass g.row.S.Denot g.row.S-Base.Denot g.row.S-Entry.Denot)). WorksOn g.S.Story.base g.S.Host.log c.args.monitors.now c.args.self.now.number c.args.self.now.job c.args.self.now.ring.items c.hear.new.self.job l)
          (sym (ap (λ v. v.items) c.hear.ensures.still.1))
          (heard g.S.Story.base g.S.Host.log c.args.monitors.now c.args.self.now.number c.args.self.now.job c.args.self.now.ring.items c.turn.new.self.ring.items c.hear.new.self.job c.args.frame r.client r.epoch r.number r.call a c.requires.asked t t.turned.went.was.sendable
          (subst (λ (x : JobState × Sent). Hears x.0 c.args.frame (item_for x.0.line c.args.frame x.1 a) r.client r.number a c.hear.new.self.job) (λ i. (c.turn.ensures.still.1 i, c.in-Ok-sent_of.ensures i)) c.in-Ok-hear.ensures.ok)),
    )

pub returns-in-Err-hear-clause-err : goal.returns-in-Err-hear-clause-err
returns-in-Err-hear-clause-err g c =
    let r = c.in-Ok.request in
    let a = c.in-Ok-turn.answer in
    subst (λ (l : List (Pass g.row.S.Denot g.row.S-Base.Denot g.row.S-Entry.Denot)). StopsIn g.S.Story.base g.S.Host.log c.args.monitors.now c.args.self.now.number fault.OutOfMemory c.args.self.now.job c.args.self.now.ring.items c.hear.new.self.job l)
    (sym (ap (λ v. v.items) c.hear.ensures.still.1))
    (unheard g.S.Story.base g.S.Host.log c.args.monitors.now c.args.self.now.number c.turn.new.self.number c.args.self.now.job c.hear.new.self.job c.args.self.now.ring.items c.turn.new.self.ring.items c.args.frame r.client r.epoch r.number r.call a
    c.turn.ensures.still.0 c.turn.ensures.ring c.requires.asked (ap (read_as c.args.frame.bytes) c.in-Ok.ensures.ok.1) c.in-Ok-turn.ensures.ok
    (c.in-Err-hear.ensures.err ∙ (λ i. after_unheard (c.turn.ensures.still.1 i) (item_for (c.turn.ensures.still.1 i).line c.args.frame (c.in-Ok-sent_of.ensures i) a))))
