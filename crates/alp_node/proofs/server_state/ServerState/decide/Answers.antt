use Rattle.std.proofs.Common.{◌≡◌, ◌≤◌, sym, ap, ◌∙◌, subst}
use Rattle.alp_base.specs.declared.ids.TransId.{TransId}
use Rattle.alp_journal.specs.Coordinator.{Fate, has_votes, votes_in}
use Rattle.alp_journal.specs.Laws.{latest_vote}
use Rattle.alp_journal.specs.Deeds.{Finishes}
use Rattle.alp_coord.specs.declared.coordinator.Coordinator.{Coordinator}
use Rattle.alp_coord.specs.Coordinators.{Comes, IsAlong}
use Rattle.alp_node.specs.Writes.{HasKept, KeepsPlaces, WasKept}
use Rattle.alp_node.specs.declared.decide.Decided.{Decided}
use Rattle.alp_node.proofs.FinishedFates.{finished_at, kept_coordinator}
use Rattle.alp_node.proofs.server_state.ServerState.decide.Goals as goal

-- the fate is that of a finishing transaction then
pub decide-requires-clause-voted : goal.decide-requires-clause-voted
decide-requires-clause-voted g c =
    let k = c.args.self.now in
    let G = g.V.Vault in
    let t : TransId = c.args.pending.stamp.trans in
    let h : HasKept G k c.keep.new.self c.args.pending c.in-Made.acts.items = subst (λ (d : Decided). WasKept G k c.keep.new.self c.args.pending d) c.in-Made.is c.in_ok-kept.ensures.made in
    ap has_votes (finished_at k.coordinator c.keep.new.self.coordinator c.finish.new.self t (kept_coordinator G k c.keep.new.self c.args.pending c.in-Made.acts.items h) c.finish.ensures.finished) ∙ c.requires.voted

pub decide-requires-clause-late : goal.decide-requires-clause-late
decide-requires-clause-late g c =
    let k = c.args.self.now in
    let G = g.V.Vault in
    let t : TransId = c.args.pending.stamp.trans in
    let h : HasKept G k c.keep.new.self c.args.pending c.in-Made.acts.items = subst (λ (d : Decided). WasKept G k c.keep.new.self c.args.pending d) c.in-Made.is c.in_ok-kept.ensures.made in
    subst (λ (f : Fate). latest_vote 0 (votes_in f) ≤ c.args.pending.stamp.ts)
    (sym (finished_at k.coordinator c.keep.new.self.coordinator c.finish.new.self t (kept_coordinator G k c.keep.new.self c.args.pending c.in-Made.acts.items h) c.finish.ensures.finished)) c.requires.late

pub returns-in-Made-clause-made : goal.returns-in-Made-clause-made
returns-in-Made-clause-made g c =
    let k = c.args.self.now in
    let G = g.V.Vault in
    let p = c.args.pending in
    let t : TransId = p.stamp.trans in
    let mid : Coordinator = c.finish.new.self in
    let z : Coordinator = c.decide.new.self in
    let h : HasKept G k c.keep.new.self p c.in-Made.acts.items = subst (λ (d : Decided). WasKept G k c.keep.new.self p d) c.in-Made.is c.in_ok-kept.ensures.made in
    let was : c.keep.new.self.coordinator ≡ k.coordinator = kept_coordinator G k c.keep.new.self p c.in-Made.acts.items h in
    record {
      made = h.made;
      mid = mid;
      part = h.part;
      kept = λ i. record (h.kept i) { coordinator = z };
      writes = h.writes;
      first = subst (λ (x : Coordinator). IsAlong x mid) was c.finish.ensures.along;
      finished = subst (λ (x : Coordinator). Comes (Finishes t) x mid) was c.finish.ensures.finished;
      second = c.decide.ensures.along;
      decided = c.decide.ensures.decided;
      said = h.said;
    }

pub returns-in-Made-clause-capacity : goal.returns-in-Made-clause-capacity
returns-in-Made-clause-capacity g c = subst (KeepsPlaces c.args.pending) c.in-Made.is c.in_ok-kept.ensures.capacity

pub returns-in-Halted-clause-made : goal.returns-in-Halted-clause-made
returns-in-Halted-clause-made g c = subst (λ (d : Decided). WasKept g.V.Vault c.args.self.now c.keep.new.self c.args.pending d) c.in-Halted.is c.in_ok-kept.ensures.made
