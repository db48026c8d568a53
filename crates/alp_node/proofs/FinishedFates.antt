-- a transaction that is decided was finishing, with all its votes
use Rattle.std.specs.Prelude.{cond, Bool}
use Rattle.std.proofs.Common.{◌≡◌, List, ap, ◌∙◌}
use Rattle.alp_base.specs.declared.ids.TransId.{TransId}
use Rattle.alp_files.specs.Cells.{Cells}
use Rattle.alp_journal.specs.Coordinator.{Fate}
use Rattle.alp_journal.specs.Coordinator as fate
use Rattle.alp_journal.specs.Deeds.{Finishes}
use Rattle.alp_journal.proofs.IdLemmas.{same_trans-itself}
use Rattle.alp_coord.specs.declared.coordinator.Coordinator.{Coordinator}
use Rattle.alp_coord.specs.Coordinators.{Comes, fate_in}
use Rattle.alp_journal.specs.declared.act.Act.{Act}
use Rattle.alp_vault.specs.declared.vault.Vault.{Ghosts}
use Rattle.alp_node.specs.Writes.{HasKept, HasMade}
use Rattle.alp_node.specs.declared.decide.Pending.{Pending}
use Rattle.alp_node.specs.declared.server_state.ServerState.{ServerState}
use Rattle.alp_node.proofs.ReleaseLemmas.{let_go_of}

pub made_coordinator : {V : Type 0} (tells : Bool) (cells : Cells) (k made : ServerState V) (t : TransId) → HasMade tells cells k made t → made.coordinator ≡ k.coordinator
made_coordinator tells cells k made t part = ap (λ (y : ServerState _). y.coordinator) part.kept ∙ ap (λ (y : ServerState _). y.coordinator) (let_go_of k t)

pub finished_at : (before was mid : Coordinator) (t : TransId) → was ≡ before → Comes (Finishes t) was mid → fate_in mid t ≡ fate.finishing (fate_in before t)
finished_at before was mid t same comes =
    comes t ∙ ap (λ (b : Bool). cond {A = Fate} b (fate.finishing (fate_in was t)) (fate_in was t)) (same_trans-itself t) ∙ ap (λ (x : Coordinator). fate.finishing (fate_in x t)) same

pub kept_coordinator : {V : Type 0} (G : Ghosts V) (k new : ServerState V) (p : Pending) (acts : List Act) → HasKept G k new p acts → new.coordinator ≡ k.coordinator
kept_coordinator G k new p acts h = ap (λ (y : ServerState _). y.coordinator) h.kept ∙ made_coordinator (G.tells k.vault) (G.held k.vault).cells k h.made p.stamp.trans h.part
