-- a server whose vault was told how many calls pass
use Rattle.std.specs.Prelude.{Bool, IsTrue}
use Rattle.std.proofs.Common.{◌≡◌, ℕ, ◌∙◌, length, refl, sym, ap, subst}
use Rattle.alp_base.specs.Crashes.{SameOutcomes}
use Rattle.alp_vault.specs.Contents.{Contents}
use Rattle.alp_vault.specs.Vault.{IsSameVault}
use Rattle.alp_vault.specs.declared.vault.Vault.{Ghosts}
use Rattle.alp_node.specs.Durable.{IsDurable}
use Rattle.alp_node.specs.NodeStates.{NodeState}
use Rattle.alp_node.specs.Noted.{AreNotesFor}
use Rattle.alp_node.specs.Nodes.{IsConsistent, IsRight, state_of, start_in}
use Rattle.alp_node.specs.ServerState.{IsReady}
use Rattle.alp_node.specs.declared.server_state.ServerState.{ServerState}
use Rattle.alp_node.proofs.KeptLemmas.{as_with}
use Rattle.alp_node.proofs.NodeLemmas.{still_right}

-- with another vault that serves as the old one did
ready_beside : {V : Type 0} (n : ℕ) (before serves : Bool) (k : ServerState V) (v : V) → serves ≡ before → IsReady n before k → IsReady n serves (record k { vault = v })
ready_beside n before serves k v same h = record {
  serving = λ up. subst IsTrue (sym same) (h.serving up);
  halted = λ down. same ∙ h.halted down;
  sound = h.sound;
  taken = h.taken;
  waits = h.waits;
  known = h.known;
  joins = h.joins;
  paired = h.paired;
  idle = h.idle;
  opens = h.opens;
  opened = h.opened;
  alive = h.alive;
  places = h.places;
  calls = h.calls;
  replies = h.replies;
  drawn = h.drawn;
  given = h.given;
  most = h.most;
  fits = h.fits;
  within = h.within;
  sized = h.sized;
  clock = h.clock;
  raised = h.raised;
  fated = h.fated;
  last = h.last;
  unheld = h.unheld;
  seat = h.seat;
  times = h.times;
}

module _ {V : Type 0} (G : Ghosts V) (old : NodeState V) (v : V) (h : IsConsistent G old) (same : IsSameVault G.tells G.volume G.server G.servers old.kept.vault v) (serves : G.serves v ≡ G.serves old.kept.vault)
    (held : G.held v ≡ G.held old.kept.vault) (outcomes : SameOutcomes (G.may_leave old.kept.vault) (G.may_leave v)) where
  abbrev moved : NodeState V
  moved = record old { kept = record (old.kept) { vault = v } }

  told_before : IsTrue (G.tells v) → IsTrue (G.tells old.kept.vault)
  told_before told = subst IsTrue same.telling told

  pub stopped_kept : IsConsistent G moved
  stopped_kept = record {
    number = same.number ∙ h.number;
    all = same.of_all ∙ h.all;
    sizes = h.sizes ∙ sym same.sizes;
    ready = ready_beside (length old.journal) (G.serves old.kept.vault) (G.serves v) old.kept v serves h.ready;
    noted = λ up. subst (λ (c : Contents). AreNotesFor moved.kept c.notes) (sym held) (h.noted up);
    said = h.said;
    right = λ told. (
        let r : IsRight (start_in G old) (G.held old.kept.vault) old = h.right (told_before told) in
        still_right (start_in G old) (G.held old.kept.vault) (G.held v) old moved r (as_with r.state (G.held old.kept.vault) (G.held v) old.kept v held r.kept) refl
        );
    durable = λ told. (
        let d : IsDurable (state_of (start_in G old) old.journal) (G.may_leave old.kept.vault) = h.durable (told_before told) in
        record { up = λ up c here. d.up up c (outcomes.no_more c here); down = λ c here. d.down c (outcomes.no_more c here) }
        );
  }
