use Rattle.std.specs.Prelude.{Option}
use Rattle.std.proofs.Common.{sym, ◌∙◌, ap}
use Rattle.alp_files.specs.declared.reply.Reply.{Reply}
use Rattle.alp_session.specs.Frames.{told_by}
use Rattle.alp_session.proofs.FrameLemmas.{told_reply}
use Rattle.alp_storm.specs.Works.{handed_by}
use Rattle.alp_storm.proofs.exchange.spell.Goals as goal

pub returns-in-Ok-clause-told : goal.returns-in-Ok-clause-told
returns-in-Ok-clause-told c = ap (λ (r : Option Reply). told_by (handed_by c.args.epoch c.args.client c.args.number r)) c.in-Some.is ∙ told_reply _ c.in-Ok.ensures.fits ∙ sym c.in-Some.is
