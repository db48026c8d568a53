use Rattle.std.specs.Prelude.{Bool, true, false, not, ◌&&◌, ◌==◌, nat_le, nat_lt, Option, None, Some}
use Rattle.std.proofs.Common.{◌≡◌, ℕ, ◌+◌, ◌<◌, [], length, refl, sym, ap, ◌∙◌, subst}
use Rattle.alp_files.specs.declared.call.Call.TheVariants as call
use Rattle.alp_files.specs.declared.refusal.Refusal.{Refusal}
use Rattle.alp_files.specs.declared.refusal.Refusal.TheVariants as refusal
use Rattle.alp_files.specs.declared.refusal.What.TheVariants as what
use Rattle.alp_files.specs.declared.reply.Reply.{Reply}
use Rattle.alp_files.specs.declared.reply.Reply.TheVariants as reply
use Rattle.alp_journal.specs.Account.{state_of}
use Rattle.alp_coord.specs.Coordinators.{count_of, counted_of}
use Rattle.alp_worker.specs.Again.{is_other}
use Rattle.alp_node.specs.Says.{is_away}
use Rattle.alp_node.specs.Releases.{buried}
use Rattle.alp_node.specs.Steps.{counted_in, refused_answer}
use Rattle.alp_node.proofs.EndLemmas.{many_of, over_is, few_of}
use Rattle.alp_node.proofs.JoinLemmas.{buried_step, join_unknown_stepped, join_many_stepped}
use Rattle.alp_node.proofs.SayLemmas.{away_told}
use Rattle.alp_node.proofs.StepLemmas.{refused_step}
use Rattle.alp_node.proofs.WaitLemmas.{named_all}
use Rattle.alp_node.proofs.server_state.ServerState.join_new.Goals as goal

pub returns-then-not-is_other : goal.returns-then-not-is_other
returns-then-not-is_other g c =
    let k = c.args.self.now in
    let G = g.V.Vault in
    let turn = c.args.turn.now in
    let t = c.args.trans in
    let refuse = c.refuse in
    let near : is_away k t.server ≡ false = sym c.is_other.ensures ∙ c.if-not-is_other.true in
    refused_step G k refuse.new.self turn (call.Join t) refuse.result refusal.UnknownTrans refl c.requires.turn c.requires.up refuse.ensures.kept refuse.ensures.answer
    (λ told a h. join_unknown_stepped a (G.faults k.vault) (G.faults k.vault) (G.held k.vault) k turn t refuse.result h c.requires.turn c.requires.up c.requires.none (sym (away_told a (G.held k.vault) k t.server h) ∙ near) refuse.ensures.answer)
    tt

-- as many count as there may be
pub returns-in-Some : goal.returns-in-Some
returns-in-Some g c =
    let k = c.args.self.now in
    let G = g.V.Vault in
    let turn = c.args.turn.now in
    let t = c.args.trans in
    let refuse = c.refuse_joining in
    let f : Refusal = refusal.TooMany what.Transactions 64 in
    let far : is_away k t.server ≡ true = sym c.is_other.ensures ∙ c.if-not-is_other.false in
    let same : c.in-Some.refusal ≡ f = over_is (nat_le 64 (counted_of k.coordinator + length k.joins.lives)) f c.in-Some.refusal (sym c.too_many.ensures ∙ c.in-Some.is) in
    let many : many_of k ≡ Some f = sym c.too_many.ensures ∙ c.in-Some.is ∙ ap Some same in
    let kept = refuse.ensures.kept ∙ ap (λ (x : Refusal). record (buried k turn.client) { sessions = counted_in k.sessions turn (reply.Refused x) }) same in
    let so = refuse.ensures.answer ∙ ap (λ (x : Refusal). refused_answer x []) same in
    buried_step G k refuse.new.self turn t refuse.result (reply.Refused f) kept c.requires.turn c.requires.up refl (record { inside = tt; times = tt }) tt so
    (λ told a h. join_many_stepped a (G.faults k.vault) (G.faults k.vault) (G.held k.vault) k turn t h c.requires.turn c.requires.up (named_all k.server k.epoch k.given (count_of k.coordinator) k.sizes k.lives k.waits c.requires.ready.2.waits.calls)
    c.requires.ready.2.raised c.requires.none (sym (away_told a (G.held k.vault) k t.server h) ∙ far) refuse.result many so)

pub ask_in-requires-clause-far : goal.ask_in-requires-clause-far
ask_in-requires-clause-far g c = sym c.is_other.ensures ∙ c.if-not-is_other.false

pub ask_in-requires-clause-few : goal.ask_in-requires-clause-few
ask_in-requires-clause-few g c = few_of c.args.self.now (sym c.too_many.ensures ∙ c.in_default.is)
