use Rattle.std.specs.Prelude.{Option}
use Rattle.std.proofs.Common.{sym, ◌∙◌, ap}
use Rattle.alp_files.specs.declared.reply.Reply.{Reply}
use Rattle.alp_session.specs.Frames.{told_by}
use Rattle.alp_session.proofs.FrameLemmas.{told_reply}
use Rattle.alp_course.specs.Happens.{handed_for}
use Rattle.alp_cluster.proofs.exchange.spell.Goals as goal

pub returns-in-Ok-clause-told : goal.returns-in-Ok-clause-told
returns-in-Ok-clause-told c = ap (λ (r : Option Reply). told_by (handed_for c.args.epoch c.args.client c.args.number r)) c.in-Some.is ∙ told_reply _ c.reply_fits.ensures ∙ sym c.in-Some.is

pub returns-in-Err-clause-told : goal.returns-in-Err-clause-told
returns-in-Err-clause-told c = ap (λ (r : Option Reply). told_by (handed_for c.args.epoch c.args.client c.args.number r)) c.in-Some.is ∙ told_reply _ c.reply_fits.ensures ∙ sym c.in-Some.is
