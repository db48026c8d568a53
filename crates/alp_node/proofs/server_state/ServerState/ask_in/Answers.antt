use Rattle.std.specs.Prelude.{Some, None, true, Ok}
use Rattle.std.proofs.Common.{◌≡◌, ℕ, ◌+◌, ◌<◌, List, [], ◌∷◌, ◌++◌, arith, refl, sym, ap, ◌∙◌, subst, eq-eqb}
use Rattle.alp_base.specs.declared.ids.JoinNo.{JoinNo}
use Rattle.alp_files.specs.declared.call.Call.TheVariants as call
use Rattle.alp_files.specs.declared.refusal.Refusal.TheVariants as refusal
use Rattle.alp_files.specs.declared.reply.Reply.TheVariants as reply
use Rattle.alp_journal.specs.declared.act.Act.{Act}
use Rattle.alp_journal.specs.declared.act.Act.TheVariants as act
use Rattle.alp_journal.specs.declared.event.Event.TheVariants as event
use Rattle.alp_journal.specs.declared.message.Message.TheVariants as msg
use Rattle.alp_journal.specs.Account.{Account, state_of}
use Rattle.alp_journal.specs.Deeds as deed
use Rattle.alp_journal.specs.Moves.{next_join}
use Rattle.alp_journal.specs.State.{state_deed}
use Rattle.alp_coord.specs.Coordinators.{count_of}
use Rattle.alp_worker.specs.Joins.{AreJoinsOf, next_of, with_drawn}
use Rattle.alp_node.specs.Draws.{with_joining}
use Rattle.alp_node.specs.ServerState.{IsAs, IsReady}
use Rattle.alp_node.specs.Steps.{IsStep, Stepped, counted_in, refused_answer}
use Rattle.alp_node.specs.declared.server_state.ServerState.{ServerState}
use Rattle.alp_node.proofs.BehindLemmas.{same_without}
use Rattle.alp_node.proofs.EndLemmas.{many_none}
use Rattle.alp_node.proofs.JoinLemmas.{join_drawn_stepped, none_kept, far_from}
use Rattle.alp_node.proofs.MoreJoins.{drawn_ready, noted_more}
use Rattle.alp_node.proofs.SayLemmas.{away_told}
use Rattle.alp_node.proofs.StepLemmas.{plain_step}
use Rattle.alp_node.proofs.TurnLemmas.{counts_refused}
use Rattle.alp_node.proofs.WaitLemmas.{named_all}
use Rattle.alp_node.proofs.server_state.ServerState.ask_in.Goals as goal

pub returns : goal.returns
returns g c =
    let k = c.args.self.now in
    let G = g.V.Vault in
    let turn = c.args.turn.now in
    let t = c.args.trans in
    let faults = G.faults k.vault in
    let serves = G.serves k.vault in
    let ready = c.requires.ready.2 in
    let e = event.Call turn.client k.epoch turn.number (call.Join t) in
    let after : ServerState g.row.V.Denot = record (with_joining k turn t) { sessions = counted_in k.sessions turn (reply.Refused refusal.NotYet) } in
    let kept : record c.draw_join.new.self { sessions = c.count.new.self } ≡ after =
    (λ i. record (c.in_ok-join.ensures.ok i) { sessions = (c.count.ensures ∙ ap (λ (y : ServerState _). counted_in y.sessions turn (reply.Refused refusal.NotYet)) c.in_ok-join.ensures.ok) i }) in
    let asks : JoinNo → Act = λ j. act.Sent t.server (msg.Register t j turn.client) in
    let said : c.push_reserved.new.self.items ≡ asks (next_of k.joins) ∷ [] =
    c.push_reserved.ensures.items ∙ (λ i. c.in_ok-acts.ensures.items i ++ asks (c.in_ok-join.ensures.number i) ∷ []) in
    let so : c.refused.result ≡ refused_answer refusal.NotYet (asks (next_of k.joins) ∷ []) = c.refused.ensures ∙ ap (refused_answer refusal.NotYet) (c.new.ensures ∙ said) in
    subst (λ (y : ServerState _). IsStep G k y e (Ok c.refused.result)) (sym kept)
    (plain_step G k after turn (call.Join t) c.refused.result (reply.Refused refusal.NotYet) (asks (next_of k.joins) ∷ []) refl refl refl refl refl c.requires.up c.requires.up
    (λ notes q. noted_more k.joins t turn.client turn.who k.server k.servers k.epoch k.lives k.coordinator notes q) refl so refl (λ before now allowance. (tt, tt))
    (λ n h. drawn_ready n serves k turn t c.requires.turn c.requires.far c.requires.few (none_kept k turn.client t (far_from k t.server c.requires.far) c.requires.none) h)
    (λ told a h. (
    let far = far_from k t.server c.requires.far in
    let number : next_of k.joins ≡ next_join (state_of a) = (λ i. record { server = h.joins.server i; epoch = h.joins.current i; counter = h.joins.count i + 1 }) in
    join_drawn_stepped a faults faults (G.held k.vault) k turn t h c.requires.turn c.requires.up (named_all k.server k.epoch k.given (count_of k.coordinator) k.sizes k.lives k.waits ready.waits.calls) ready.raised c.requires.none
    (sym (away_told a (G.held k.vault) k t.server h) ∙ c.requires.far) c.refused.result (many_none k c.requires.few)
    (subst (λ (y : ServerState _). AreJoinsOf (state_deed (state_of a) (deed.Joins (next_join (state_of a)) t turn.client turn.who)) y.joins) c.in_ok-join.ensures.ok (c.in_ok-join.ensures.deed (state_of a) h.joins (none_kept k turn.client t far c.requires.none)))
    (so ∙ ap (λ (j : JoinNo). refused_answer refusal.NotYet (asks j ∷ [])) number)))
    (counts_refused k after turn c.requires.turn (call.Join t) refusal.NotYet tt refl refl))

pub returns-in_err-join : goal.returns-in_err-join
returns-in_err-join g c =
    let k = c.args.self.now in
    same_without g.V.Vault k c.draw_join.new.self (event.Call c.args.turn.now.client k.epoch c.args.turn.now.number (call.Join c.args.trans)) c.from_residual-in_err-join.result c.in_err-join.ensures.err c.from_residual-in_err-join.ensures.0
