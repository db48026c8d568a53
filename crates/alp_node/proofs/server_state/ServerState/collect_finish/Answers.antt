use Rattle.std.specs.Prelude.{None, Some}
use Rattle.std.proofs.Common.{◌≡◌, [], refl, sym, ◌∙◌, subst, le_refl}
use Rattle.alp_base.specs.declared.ids.Stamp.{Stamp}
use Rattle.alp_files.specs.declared.call.Call.TheVariants as call
use Rattle.alp_files.specs.declared.reply.Reply.{Reply}
use Rattle.alp_files.specs.declared.reply.Ended.TheVariants as ending
use Rattle.alp_files.specs.declared.reply.Reply.TheVariants as reply
use Rattle.alp_node.specs.Outcomes.{stamp_of}
use Rattle.alp_node.specs.Steps.{counted_in}
use Rattle.alp_node.specs.Turns.{TellsUpTo}
use Rattle.alp_node.specs.Waits.{without_other_at}
use Rattle.alp_node.specs.declared.server_state.ServerState.{ServerState}
use Rattle.alp_node.proofs.OtherCollects.{collected_step, committed_stepped, stamp_some}
use Rattle.alp_node.proofs.OutcomeLemmas.{IsTold, ending_here, ending_past, ending_told, outcome_of}
use Rattle.alp_node.proofs.TurnLemmas.{counts_on}
use Rattle.alp_node.proofs.server_state.ServerState.collect_finish.Goals as goal

-- it is decided
pub returns-in-Some : goal.returns-in-Some
returns-in-Some g c =
    let G = g.V.Vault in
    let k = c.args.self.now in
    let turn = c.args.turn.now in
    let n = c.args.number in
    let t = c.args.trans in
    let w = c.requires.waiting in
    let x = c.collect_committed.result in
    let stamp : Stamp = c.in-Some.stamp in
    let r : Reply = reply.Committed stamp in
    let after : ServerState g.row.V.Denot = record k { waits = without_other_at turn.client n k.waits; sessions = counted_in k.sessions turn r } in
    let known : IsTold k t (ending.Committed stamp) = ending_told k t (ending.Committed stamp) (stamp_some (outcome_of k t) stamp (sym c.stamp_of.ensures ∙ c.in-Some.is)) in
    let past : TellsUpTo k.clock r = subst (λ e. TellsUpTo k.clock (reply.Ended e)) known.is (ending_past c.requires.ready.0 (G.serves k.vault) k t c.requires.ready.2) in
    collected_step G k c.collect_committed.new.self turn n r x c.requires.turn c.requires.up (record { inside = tt; times = past }) refl c.collect_committed.ensures.kept c.collect_committed.ensures.answer
    (λ told a h. committed_stepped a (G.faults k.vault) (G.faults k.vault) (G.held k.vault) k turn n w.0 c.requires.ready.0 (G.serves k.vault) c.requires.ready.2 w.1 w.2 w.3 h c.requires.turn c.requires.up t w.4 stamp x known.is c.collect_committed.ensures.answer)
    (counts_on k after turn c.requires.turn (call.Collect n) r tt (le_refl k.clock) past tt refl)

pub collect_undecided-requires-clause-none : goal.collect_undecided-requires-clause-none
collect_undecided-requires-clause-none g c = sym c.stamp_of.ensures ∙ c.in-None.is
