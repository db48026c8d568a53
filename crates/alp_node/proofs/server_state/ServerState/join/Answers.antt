use Rattle.std.proofs.Common.{◌≡◌, refl, sym, ap, ◌∙◌}
use Rattle.std.specs.Prelude.{true}
use Rattle.alp_files.specs.declared.refusal.Refusal.TheVariants as refusal
use Rattle.alp_files.specs.declared.reply.Reply.TheVariants as reply
use Rattle.alp_coord.specs.Coordinators.{count_of}
use Rattle.alp_node.specs.Standings.{is_no_standing}
use Rattle.alp_node.proofs.JoinLemmas.{buried_step, join_finishing_stepped, join_joining_stepped}
use Rattle.alp_node.proofs.WaitLemmas.{named_all}
use Rattle.alp_node.proofs.server_state.ServerState.join.Goals as goal

pub returns-in-Finishing : goal.returns-in-Finishing
returns-in-Finishing g c =
    let k = c.args.self.now in
    let G = g.V.Vault in
    let turn = c.args.turn.now in
    let t = c.args.trans in
    let refuse = c.refuse_joining in
    buried_step G k refuse.new.self turn t refuse.result (reply.Refused refusal.Finishing) refuse.ensures.kept c.requires.turn c.requires.up refl (record { inside = tt; times = tt }) tt refuse.ensures.answer
    (λ told a h. join_finishing_stepped a (G.faults k.vault) (G.faults k.vault) (G.held k.vault) k turn t h c.requires.turn c.requires.up (named_all k.server k.epoch k.given (count_of k.coordinator) k.sizes k.lives k.waits c.requires.ready.2.waits.calls)
    refuse.result (sym c.standing.ensures ∙ c.in-Finishing.is) refuse.ensures.answer)

pub returns-in-Joining : goal.returns-in-Joining
returns-in-Joining g c =
    let k = c.args.self.now in
    let G = g.V.Vault in
    let turn = c.args.turn.now in
    let t = c.args.trans in
    let refuse = c.refuse_joining-in-Joining in
    buried_step G k refuse.new.self turn t refuse.result (reply.Refused refusal.NotYet) refuse.ensures.kept c.requires.turn c.requires.up refl (record { inside = tt; times = tt }) tt refuse.ensures.answer
    (λ told a h. join_joining_stepped a (G.faults k.vault) (G.faults k.vault) (G.held k.vault) k turn t h c.requires.turn c.requires.up (named_all k.server k.epoch k.given (count_of k.coordinator) k.sizes k.lives k.waits c.requires.ready.2.waits.calls)
    refuse.result (sym c.standing.ensures ∙ c.in-Joining.is) refuse.ensures.answer)

pub join_again-requires-clause-works : goal.join_again-requires-clause-works
join_again-requires-clause-works g c = sym c.standing.ensures ∙ c.in-Work.is

pub join_new-requires-clause-none : goal.join_new-requires-clause-none
join_new-requires-clause-none g c = ap is_no_standing (sym c.standing.ensures ∙ c.in-Unknown.is)

pub join_new-requires-in-Ended-clause-none : goal.join_new-requires-in-Ended-clause-none
join_new-requires-in-Ended-clause-none g c = ap is_no_standing (sym c.standing.ensures ∙ c.in-Ended.is)
