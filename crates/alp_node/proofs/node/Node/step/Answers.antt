use Rattle.std.specs.Prelude.{IsTrue, IfOk, MatchResult, max}
use Rattle.std.proofs.Common.{◌≡◌, ◌+◌, ◌≤◌, List, length, ap, subst, sym, arith}
use Rattle.alp_journal.specs.declared.entry.Entry.{Entry}
use Rattle.alp_node.specs.Durable.{Leaves, HeldOr, IsSaidThen}
use Rattle.alp_node.specs.NodeStates.{NodeState}
use Rattle.alp_node.specs.Nodes.{Answered, HasRoom, IsConsistent, start_in, state_of}
use Rattle.alp_node.specs.Orders.{order_in}
use Rattle.alp_coord.specs.Coordinators.{fate_in}
use Rattle.alp_node.specs.Steps.{seen_with}
use Rattle.alp_node.specs.Turns.{HasTurned}
use Rattle.alp_node.proofs.NodeLemmas.{right_sound, entered_kept, entered_durable, entered_answered, entered_turned}
use Rattle.alp_node.proofs.TimelySteps.{entered_timely}
use Rattle.alp_node.proofs.node.Node.step.Goals as goal

pub answer-requires-clause-known : goal.answer-requires-clause-known
answer-requires-clause-known g c tells = ((c.self.invariant.right tells).state, (c.self.invariant.right tells).kept)

pub answer-requires-clause-noted : goal.answer-requires-clause-noted
answer-requires-clause-noted g c = c.self.invariant.noted

pub answer-requires-clause-on : goal.answer-requires-clause-on
answer-requires-clause-on g c = record { server = c.self.invariant.number; servers = c.self.invariant.all; sizes = c.self.invariant.sizes }

pub answer-requires-clause-sound : goal.answer-requires-clause-sound
answer-requires-clause-sound g c tells =
    let old : NodeState g.row.V.Denot = record { opening = c.self.inside.opening; kept = c.self.inside.kept; journal = c.self.inside.journal } in
    right_sound g.V.Vault old (g.V.Vault.held old.kept.vault) (c.self.invariant.right tells) c.if-self.false

pub invariant_of-self-2 : goal.invariant_of-self-2
invariant_of-self-2 g c =
    let old : NodeState g.row.V.Denot = record { opening = c.self.inside.opening; kept = c.self.inside.kept; journal = c.self.inside.journal } in
    entered_kept g.V.Vault old c.answer.new.kept c.answer.new.journal c.args.event (order_in old.kept c.args.event) c.self.invariant c.if-self.false c.answer.ensures.settled.0 c.answer.ensures.settled.1 c.answer.result
    (let long : length c.entries.result.now ≡ length old.journal = ap length c.entries.ensures in omega (arith, c.if-entries-ge-MOST_ENTRIES.false, long))
    (c.answer.ensures.entered old.journal (c.in_ok-make_place.ensures.ok.0) (c.in_ok-make_place.ensures.ok.1))

pub returns-clause-answered : goal.returns-clause-answered
returns-clause-answered g c up room =
    let G = g.V.Vault in
    let old : NodeState g.row.V.Denot = record { opening = c.self.inside.opening; kept = c.self.inside.kept; journal = c.self.inside.journal } in
    let kept = c.answer.new.kept in
    let journal = c.answer.new.journal in
    subst (λ (n : NodeState g.row.V.Denot). IfOk c.answer.result (λ r. Answered (order_in n.kept c.args.event) (G.tells n.kept.vault) (state_of (start_in G n) n.journal) n.journal journal c.args.event r (G.faults n.kept.vault) (G.faults kept.vault) (G.allowance kept.vault) kept.is_down))
    c.self.view_is
    (entered_answered G old kept journal c.args.event (order_in old.kept c.args.event) c.answer.result c.self.invariant (c.answer.ensures.entered old.journal (c.in_ok-make_place.ensures.ok.0) (c.in_ok-make_place.ensures.ok.1)))

pub returns-clause-durable : goal.returns-clause-durable
returns-clause-durable g c told up room =
    let G = g.V.Vault in
    let old : NodeState g.row.V.Denot = record { opening = c.self.inside.opening; kept = c.self.inside.kept; journal = c.self.inside.journal } in
    let kept = c.answer.new.kept in
    let journal = c.answer.new.journal in
    subst (λ (n : NodeState g.row.V.Denot). MatchResult c.answer.result (λ _. Leaves G n.kept.vault kept.vault (HeldOr (G.held n.kept.vault) (IsSaidThen (state_of (start_in G (record old { kept = kept; journal = journal })) journal))))
    (λ _. Leaves G n.kept.vault kept.vault (λ x. x ≡ G.held n.kept.vault))) c.self.view_is
    (entered_durable G old kept journal c.args.event (order_in old.kept c.args.event) c.self.invariant c.if-self.false c.answer.ensures.settled.0 c.answer.ensures.settled.1 c.answer.result
    (subst (λ (n : NodeState g.row.V.Denot). HasRoom n) (sym c.self.view_is) room)
    (c.answer.ensures.entered old.journal (c.in_ok-make_place.ensures.ok.0) (c.in_ok-make_place.ensures.ok.1)) (subst (λ (n : NodeState g.row.V.Denot). IsTrue (G.tells n.kept.vault)) (sym c.self.view_is) told))

pub returns-clause-turned : goal.returns-clause-turned
returns-clause-turned g c room up =
    let G = g.V.Vault in
    let old : NodeState g.row.V.Denot = record { opening = c.self.inside.opening; kept = c.self.inside.kept; journal = c.self.inside.journal } in
    let kept = c.answer.new.kept in
    let journal = c.answer.new.journal in
    subst (λ (n : NodeState g.row.V.Denot). IfOk c.answer.result (λ r. HasTurned (order_in n.kept c.args.event) n.kept kept c.args.event r)) c.self.view_is
    (entered_turned G old kept journal c.args.event (order_in old.kept c.args.event) c.answer.result (c.answer.ensures.entered old.journal (c.in_ok-make_place.ensures.ok.0) (c.in_ok-make_place.ensures.ok.1)) up)

-- there was no place for its entry
pub invariant_of-self : goal.invariant_of-self
invariant_of-self g c =
    subst (λ (j : List Entry). IsConsistent g.V.Vault (record { opening = c.self.inside.opening; kept = c.self.inside.kept; journal = j })) (sym c.in_err-make_place.ensures.err) c.self.invariant

-- the clock came with the event
pub returns-clause-clock : goal.returns-clause-clock
returns-clause-clock g c told =
    let G = g.V.Vault in
    let old : NodeState g.row.V.Denot = record { opening = c.self.inside.opening; kept = c.self.inside.kept; journal = c.self.inside.journal } in
    subst (λ (n : NodeState g.row.V.Denot). c.answer.new.kept.clock ≤ max n.kept.clock (seen_with (fate_in n.kept.coordinator) c.args.event) + 1) c.self.view_is
    (let right = c.self.invariant.right (subst (λ (n : NodeState g.row.V.Denot). IsTrue (G.tells n.kept.vault)) (sym c.self.view_is) told) in
    entered_timely G (order_in old.kept c.args.event) old.kept c.answer.new.kept old.journal c.answer.new.journal c.args.event c.answer.result right.state right.kept
    (subst (λ (n : NodeState g.row.V.Denot). IsTrue (G.tells n.kept.vault)) (sym c.self.view_is) told) (c.answer.ensures.entered old.journal (c.in_ok-make_place.ensures.ok.0) (c.in_ok-make_place.ensures.ok.1)))
