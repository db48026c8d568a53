use Rattle.std.specs.Prelude.{Option, Some, OnErr}
use Rattle.std.proofs.Common.{◌≡◌, sym, ap, ◌∙◌, subst, refl}
use Rattle.alp_journal.specs.declared.log.Item.{Item}
use Rattle.alp_lines.specs.declared.line.Line.{Line}
use Rattle.alp_session.specs.Frames.{told_by, mark_of}
use Rattle.alp_jobs.specs.Deeds.{sends}
use Rattle.alp_jobs.specs.Jobs.{Does, after_frame, after_unheard}
use Rattle.alp_storm.specs.Works.{Hears, handed_by, item_for}
use Rattle.alp_storm.proofs.DeedLemmas.{on_ok, item_same, frame_of_item, hears_item, spelled_ok, spelled_is}
use Rattle.alp_storm.proofs.worker.Worker.hear.Goals as goal

pub hears-requires-clause-sent : goal.hears-requires-clause-sent
hears-requires-clause-sent g c =
    frame_of_item c.args.self.now.job.line c.args.frame c.args.sent c.args.answer _
    (item_same c.args.self.now.job.line c.args.frame c.args.sent c.args.answer c.mark_of.result c.spell-bytes.result.1 (c.mark_of.ensures ∙ ap (λ (l : Line). mark_of l) c.line.ensures) c.spell-bytes.ensures.reply) c.requires.sent

pub hears-requires-clause-told : goal.hears-requires-clause-told
hears-requires-clause-told g c =
    ap told_by (spelled_is (λ b. b ≡ handed_by c.args.answer.epoch c.args.head.0 c.args.head.1 c.args.answer.reply) c.spell-bytes.result.0 c.in-Ok.bytes c.in-Ok.is c.spell-bytes.ensures.bytes)
    ∙ (spelled_ok (told_by (handed_by c.args.answer.epoch c.args.head.0 c.args.head.1 c.args.answer.reply) ≡ c.args.answer.reply) c.spell-bytes.result.0 c.in-Ok.bytes c.in-Ok.is c.spell-bytes.ensures.told ∙ sym c.spell-bytes.ensures.reply)

pub returns-in-Ok-clause-ok : goal.returns-in-Ok-clause-ok
returns-in-Ok-clause-ok g c =
    let x : Item = record { line = 0; server = c.args.frame.server; mark = c.mark_of.result; sent = c.args.sent; reply = c.spell-bytes.result.1; place = Some c.args.answer.place } in
    on_ok (c.hears.new.self ≡ after_frame c.args.self.now.job c.args.frame x) (Does c.args.self.now.job (sends x) c.hears.new.self)
    (Hears c.args.self.now.job c.args.frame (item_for c.args.self.now.job.line c.args.frame c.args.sent c.args.answer) c.args.head.0 c.args.head.1 c.args.answer c.hears.new.self) c.hears.result
    (λ now does. hears_item c.args.self.now.job c.hears.new.self c.args.frame c.args.sent c.args.head.0 c.args.head.1 c.args.answer x
    (item_same c.args.self.now.job.line c.args.frame c.args.sent c.args.answer c.mark_of.result c.spell-bytes.result.1 (c.mark_of.ensures ∙ ap (λ (l : Line). mark_of l) c.line.ensures) c.spell-bytes.ensures.reply)
    (spelled_ok (told_by (handed_by c.args.answer.epoch c.args.head.0 c.args.head.1 c.args.answer.reply) ≡ c.args.answer.reply) c.spell-bytes.result.0 c.in-Ok.bytes c.in-Ok.is c.spell-bytes.ensures.told) now does)
    c.hears.ensures.now c.hears.ensures.does

pub returns-in-Ok-clause-err : goal.returns-in-Ok-clause-err
returns-in-Ok-clause-err g c =
    subst (λ (x : Item). OnErr c.hears.result (c.hears.new.self ≡ after_unheard c.args.self.now.job x))
    (item_same c.args.self.now.job.line c.args.frame c.args.sent c.args.answer c.mark_of.result c.spell-bytes.result.1 (c.mark_of.ensures ∙ ap (λ (l : Line). mark_of l) c.line.ensures) c.spell-bytes.ensures.reply) c.hears.ensures.err

pub returns-in-Err-clause-err : goal.returns-in-Err-clause-err
returns-in-Err-clause-err g c =
    c.keeps.ensures
    ∙ ap (after_unheard c.args.self.now.job) (item_same c.args.self.now.job.line c.args.frame c.args.sent c.args.answer c.mark_of.result c.spell-bytes.result.1 (c.mark_of.ensures ∙ ap (λ (l : Line). mark_of l) c.line.ensures) c.spell-bytes.ensures.reply)
