use Rattle.std.specs.Prelude.{IfSome}
use Rattle.std.proofs.Common.{◌≡◌, refl, sym, ap, ◌∙◌, subst}
use Rattle.alp_jobs.specs.Jobs.{with_room}
use Rattle.alp_jobs.specs.States.{JobState}
use Rattle.alp_storm.proofs.DeedLemmas.{roomed, wanting, first_ok, first_err}
use Rattle.alp_storm.proofs.worker.Worker.send.Goals as goal

pub ask-requires-clause-room : goal.ask-requires-clause-room
ask-requires-clause-room g c = ap (λ (j : JobState). j.room) c.in-Ok.ensures.now

pub ask-requires-clause-asked : goal.ask-requires-clause-asked
ask-requires-clause-asked g c = c.in-Ok.ensures.due ∙ c.requires.asked

pub returns-in-Ok-clause-ok : goal.returns-in-Ok-clause-ok
returns-in-Ok-clause-ok g c =
    first_ok g.S.Story.base g.S.Host.log c.args.monitors.now c.args.self.now.number c.args.self.now.job c.make_room.new.self _ c.args.self.now.ring.items _ c.ask.result
    (roomed g.S.Story.base g.S.Host.log c.args.monitors.now c.args.self.now.number c.args.self.now.job c.args.self.now.ring.items c.args.self.now.ring.items c.make_room.new.self c.in-Ok.ensures.now c.in-Ok.ensures.goes) c.ask.ensures.ok

pub returns-in-Ok-clause-err : goal.returns-in-Ok-clause-err
returns-in-Ok-clause-err g c =
    first_err g.S.Story.base g.S.Host.log c.args.monitors.now c.args.self.now.number c.args.self.now.job c.make_room.new.self _ c.args.self.now.ring.items _ c.ask.result
    (roomed g.S.Story.base g.S.Host.log c.args.monitors.now c.args.self.now.number c.args.self.now.job c.args.self.now.ring.items c.args.self.now.ring.items c.make_room.new.self c.in-Ok.ensures.now c.in-Ok.ensures.goes) c.ask.ensures.err

pub returns-in-Err-clause-err : goal.returns-in-Err-clause-err
returns-in-Err-clause-err g c =
    wanting g.S.Story.base g.S.Host.log c.args.monitors.now c.args.self.now.number c.args.self.now.job c.make_room.new.self c.args.self.now.ring.items c.in-Err.ensures.err c.requires.ring
