use Rattle.std.specs.Prelude.{Option}
use Rattle.std.proofs.Common.{◌≡◌, ◌<◌, ◌^◌, ℕ, List, length, refl, sym, ◌∙◌, ap, subst, arith}
use Rattle.std.proofs.lemmas.Result.{IfOk-weaker}
use Rattle.alp_files.specs.declared.call.Call.{Call}
use Rattle.alp_files.specs.declared.reply.Reply.{Reply}
use Rattle.alp_journal.specs.declared.entry.Entry.{Entry}
use Rattle.alp_journal.specs.declared.log.Sent.TheVariants as sent
use Rattle.alp_session.specs.Frames.{told_by}
use Rattle.alp_cluster.specs.Exchanges.{event_of, place_for}
use Rattle.alp_course.specs.Happens.{handed_for}
use Rattle.alp_cluster.specs.Servers.{Steps}
use Rattle.alp_cluster.specs.declared.fault.RunFault.TheVariants as fault
use Rattle.alp_cluster.proofs.GoneLemmas.{one_nothing, one_handed, one_ok, end_on, end_any, handed_on}
use Rattle.alp_cluster.proofs.ReplyLemmas.{steps_epoch, steps_place, asked_sendable}
use Rattle.alp_cluster.proofs.ServedLemmas.{request_served}
use Rattle.alp_cluster.proofs.TakenLemmas.{untouched}
use Rattle.alp_cluster.proofs.exchange.ask.Goals as goal

pub returns-in_err-copied-clause-gone : goal.returns-in_err-copied-clause-gone
returns-in_err-copied-clause-gone g c =
    rw (handed_on fault.OutOfMemory c.from_residual.result c.from_residual.ensures.0 c.from_residual.ensures.1) (one_nothing g.V.Vault (Unit {0}) c.args.node.now.kept.vault _ tt tt refl)

pub returns-in_err-copied-clause-ended : goal.returns-in_err-copied-clause-ended
returns-in_err-copied-clause-ended g c =
    end_any fault.OutOfMemory c.from_residual.result _ (handed_on fault.OutOfMemory c.from_residual.result c.from_residual.ensures.0 c.from_residual.ensures.1) (untouched g.V.Vault c.args.node.now)

pub step-requires-clause-served : goal.step-requires-clause-served
step-requires-clause-served g c = request_served c.args.request c.requires.fits c.requires.request

pub returns-in_err-reply-clause-gone : goal.returns-in_err-reply-clause-gone
returns-in_err-reply-clause-gone g c =
    one_handed g.V.Vault (Unit {0}) c.args.node.now.kept.vault c.step.new.node.kept.vault c.in_err-reply.field-0.0 c.from_residual-in_err-reply.result c.in_err-reply.ensures.gone
    (handed_on c.in_err-reply.field-0.0 c.from_residual-in_err-reply.result c.from_residual-in_err-reply.ensures.0 c.from_residual-in_err-reply.ensures.1)

pub returns-in_err-reply-clause-ended : goal.returns-in_err-reply-clause-ended
returns-in_err-reply-clause-ended g c =
    end_on c.in_err-reply.field-0.0 c.from_residual-in_err-reply.result _ _ (handed_on c.in_err-reply.field-0.0 c.from_residual-in_err-reply.result c.from_residual-in_err-reply.ensures.0 c.from_residual-in_err-reply.ensures.1)
    (λ f ends. ends) c.in_err-reply.ensures.ended

pub spell-bytes-requires-clause-sendable : goal.spell-bytes-requires-clause-sendable
spell-bytes-requires-clause-sendable g c =
    asked_sendable g.V.Vault c.args.node.now c.step.new.node c.args.request c.in_ok-reply.reply c.requires.on c.in_ok-reply.ensures.steps

pub place_of-requires : goal.place_of-requires
place_of-requires g c down =
    let long : length c.entries-at.result.now ≡ length c.args.node.now.journal = ap (λ (js : List Entry). length js) (c.entries-at.ensures ∙ c.journal.ensures) in
    let low : length c.args.node.now.journal < 2 ^ 32 =
    steps_place g.V.Vault c.args.node.now c.step.new.node c.args.node.now.kept.is_down (event_of c.args.request) c.in_ok-reply.reply c.in_ok-reply.ensures.steps (sym c.is_down-is_down.ensures ∙ down) in
    omega (arith, long, low)

pub returns-clause-gone : goal.returns-clause-gone
returns-clause-gone g c = one_ok g.V.Vault (Unit {0}) c.args.node.now.kept.vault c.step.new.node.kept.vault c.in_ok-reply.reply _ c.in_ok-reply.ensures.gone

pub returns-clause-asked : goal.returns-clause-asked
returns-clause-asked g c =
    let q = c.args.request in
    let n = c.args.node.now in
    let m = c.step.new.node in
    let spelled = c.spell-bytes.ensures in
    let is_down : c.is_down-is_down.result ≡ n.kept.is_down = c.is_down-is_down.ensures in
    let epoch : c.epoch.result ≡ n.kept.epoch = c.epoch.ensures ∙ steps_epoch g.V.Vault n m n.kept.is_down (event_of q) c.in_ok-reply.reply c.in_ok-reply.ensures.steps in
    record {
      sent = ap (λ (x : Call). sent.Call q.client q.epoch q.number x) c.in_ok-copied.ensures;
      served = request_served q c.requires.fits c.requires.request;
      steps = subst (λ (r : Option Reply). Steps g.V.Vault n.kept.is_down n m (event_of q) r) (sym spelled.reply) c.in_ok-reply.ensures.steps;
      bytes = IfOk-weaker c.spell-bytes.result.0 _ _ (λ b is. is ∙ (λ i. handed_for (epoch i) q.client q.number (sym spelled.reply i))) spelled.bytes;
      told = (λ i. told_by (handed_for (sym epoch i) q.client q.number (spelled.reply i))) ∙ spelled.told ∙ sym spelled.reply;
      place = c.place_of.ensures ∙ (λ i. place_for (is_down i) (length ((c.entries-at.ensures ∙ c.journal.ensures) i)));
    }
