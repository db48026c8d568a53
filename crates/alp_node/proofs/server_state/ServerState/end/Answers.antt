use Rattle.std.proofs.Common.{ℕ, ap, subst, ◌∙◌}
use Rattle.alp_journal.specs.Deeds.{Ends}
use Rattle.alp_coord.specs.declared.coordinator.Coordinator.{Coordinator}
use Rattle.alp_coord.specs.Coordinators.{IsAlong, Comes}
use Rattle.alp_files.specs.declared.refusal.Refusal.TheVariants as refusal
use Rattle.alp_files.specs.declared.reply.Reply.{Reply}
use Rattle.alp_files.specs.declared.reply.Reply.TheVariants as reply
use Rattle.alp_node.specs.Dead.{without_part}
use Rattle.alp_node.specs.Releases.{let_go}
use Rattle.alp_node.specs.Steps.{counted_in}
use Rattle.alp_node.specs.Waits.{without_calls_of}
use Rattle.alp_node.specs.declared.server_state.ServerState.{ServerState}
use Rattle.alp_node.proofs.ReleaseLemmas.{let_go_of}
use Rattle.alp_node.proofs.server_state.ServerState.end.Goals as goal

pub returns-clause-kept : goal.returns-clause-kept
returns-clause-kept g c =
    let k = c.args.self.now in
    let turn = c.args.turn.now in
    let t = c.args.trans in
    let r : Reply = reply.Refused (refusal.Aborted c.args.cause) in
    let z = c.end.new.self in
    (λ i. record (c.release.new.self) { coordinator = z; waits = c.remove_of.ensures i; dead = c.remove.ensures i; sessions = c.count.ensures i })
    ∙ ap (λ (y : ServerState _). record y { coordinator = z; waits = without_calls_of turn.client t y.waits; dead = without_part turn.client t y.dead; sessions = counted_in y.sessions turn r }) c.release.ensures.after
    ∙ (λ i. record (let_go k t) {
      coordinator = z;
      waits = without_calls_of turn.client t (let_go k t).waits;
      dead = without_part turn.client t (let_go_of k t i).dead;
      sessions = counted_in (let_go_of k t i).sessions turn r;
    })

pub returns-clause-along : goal.returns-clause-along
returns-clause-along g c =
    let k = c.args.self.now in
    subst (λ (x : Coordinator). IsAlong x c.end.new.self) (ap (λ (y : ServerState _). y.coordinator) (c.release.ensures.after ∙ let_go_of k c.args.trans)) c.end.ensures.along

pub returns-clause-ends : goal.returns-clause-ends
returns-clause-ends g c =
    let k = c.args.self.now in
    subst (λ (x : Coordinator). (client : ℕ) → Comes (Ends c.args.trans client c.args.cause) x c.end.new.self) (ap (λ (y : ServerState _). y.coordinator) (c.release.ensures.after ∙ let_go_of k c.args.trans)) c.end.ensures.ended
