use Rattle.std.specs.Prelude.{None, Some, true, false}
use Rattle.std.specs.FinMap as map
use Rattle.std.proofs.Common.{◌≡◌, sym, ap, ◌∙◌}
use Rattle.alp_journal.specs.declared.event.Event.TheVariants as event
use Rattle.alp_journal.specs.declared.message.Message.TheVariants as msg
use Rattle.alp_worker.specs.declared.live.LiveJoin.{LiveJoin}
use Rattle.alp_worker.specs.declared.live.Stage.{Stage}
use Rattle.alp_worker.specs.declared.live.Stage.TheVariants as stage
use Rattle.alp_worker.specs.Lives.{join_at}
use Rattle.alp_node.specs.Arrivals.{unknown_acts}
use Rattle.alp_node.specs.Paired.{is_in}
use Rattle.alp_node.specs.Says.{said_to}
use Rattle.alp_node.specs.Steps.{told_answer}
use Rattle.alp_node.proofs.AgainLemmas.{unknown_step, again_step}
use Rattle.alp_node.proofs.JoinedLemmas.{join_found, found_as}
use Rattle.alp_node.proofs.SayLemmas.{said_or_wanting}
use Rattle.alp_node.proofs.server_state.ServerState.ask.Goals as goal

-- it is not here
pub returns-in_default : goal.returns-in_default
returns-in_default g c from =
    let k = c.args.self.now in
    let t = c.args.trans in
    let j = c.args.join in
    said_or_wanting g.V.Vault k (event.Arrive from (msg.Ask t j)) (λ x. x ≡ told_answer None (unknown_acts k t j)) c.unknown_join.result c.unknown_join.ensures
    (λ x so. unknown_step g.V.Vault k from t j c.requires.up x (sym c.join_at.ensures ∙ c.in_default.is) so)

-- it has voted
pub returns-in-Ready : goal.returns-in-Ready
returns-in-Ready g c from =
    let k = c.args.self.now in
    let t = c.args.trans in
    let j = c.args.join in
    said_or_wanting g.V.Vault k (event.Arrive from (msg.Ask t j)) (λ x. x ≡ told_answer None (said_to k t.server (msg.Ready t j c.in-Ready.ts))) c.word.result c.word.ensures
    (λ x so. again_step g.V.Vault k from t j c.requires.up x c.in-Some.live c.in-Ready.ts c.requires.ready (sym c.join_at.ensures ∙ c.in-Some.is) c.in-Ready.is so)

pub vote_early-requires-clause-asks : goal.vote_early-requires-clause-asks
vote_early-requires-clause-asks g c =
    (c.in-Joining.field-0, found_as c.args.trans c.args.join c.args.self.now.joins.lives c.in-Some.live (stage.Joining c.in-Joining.field-0) (sym c.join_at.ensures ∙ c.in-Some.is) c.in-Joining.is)

-- a part that was let in is live
pub why_not-requires-clause-live : goal.why_not-requires-clause-live
why_not-requires-clause-live g c none =
    let k = c.args.self.now in
    let y : LiveJoin = c.in-Some.live in
    let found = join_found c.args.trans (join_at k.joins.lives c.args.join) y (sym c.join_at.ensures ∙ c.in-Some.is) in
    let part = c.requires.ready.2.paired.joins c.args.join y found.there (ap is_in c.in-Active.is) in
    let wrong : None ≡ Some part.0 = sym none ∙ ap (map.get k.lives) (sym found.trans) ∙ part.1 in
    cc

pub vote_against-requires-clause-active : goal.vote_against-requires-clause-active
vote_against-requires-clause-active g c =
    (c.in-Active.field-0, found_as c.args.trans c.args.join c.args.self.now.joins.lives c.in-Some.live (stage.Active c.in-Active.field-0) (sym c.join_at.ensures ∙ c.in-Some.is) c.in-Active.is)

pub vote_against-requires-clause-told : goal.vote_against-requires-clause-told
vote_against-requires-clause-told g c a held h = c.in_ok-why-in-Active.ensures.journal a held h ∙ sym c.in_ok-why-in-Active.ensures.same ∙ c.in-Some-2.is

pub vote_for-requires-clause-active : goal.vote_for-requires-clause-active
vote_for-requires-clause-active g c =
    (c.in-Active.field-0, found_as c.args.trans c.args.join c.args.self.now.joins.lives c.in-Some.live (stage.Active c.in-Active.field-0) (sym c.join_at.ensures ∙ c.in-Some.is) c.in-Active.is)

pub vote_for-requires-clause-told : goal.vote_for-requires-clause-told
vote_for-requires-clause-told g c a held h = c.in_ok-why-in-Active.ensures.journal a held h ∙ sym c.in_ok-why-in-Active.ensures.same ∙ c.in-None.is
