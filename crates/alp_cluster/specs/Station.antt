-- A server of a run with the ranks of its entries.
use Rattle.std.specs.Prelude.{◌≡◌, ℕ, ◌+◌, max, Bool, List, [], ◌∷◌, ◌++◌, length, take, Option, None, Some, Result}
use Rattle.alp_journal.specs.declared.entry.Entry.{Entry}
use Rattle.alp_journal.specs.declared.event.Event.{Event}
use Rattle.alp_node.specs.DownStates.{DownState}
use Rattle.alp_node.specs.NodeStates.{NodeState}
use Rattle.alp_node.specs.Nodes.{start_in}
use Rattle.alp_vault.specs.declared.vault.Vault.{Ghosts}
use Rattle.alp_fields.specs.Forms.{whole}
use Rattle.alp_rpc.specs.Frames.{request}
use Rattle.alp_rpc.specs.declared.frame.Request.{Request}
use Rattle.alp_course.specs.Courses.{Seat, no_seat, last_rank, ranks_with}
use Rattle.alp_course.specs.Happens.{Stand}
use Rattle.alp_cluster.specs.Exchanges.{IsHanded, event_of}
use Rattle.alp_cluster.specs.Goes.{GoesBy}
use Rattle.alp_cluster.specs.Servers.{IsOn, IsFree, HasGone, HasNoRoom, IsUntouched, HasFailedIn, StaysDown, stand_of}
use Rattle.alp_cluster.specs.declared.exchange.Handed.{Handed}
use Rattle.alp_cluster.specs.declared.fault.RunFault.{RunFault}
use Rattle.alp_cluster.specs.declared.fault.RunFault.TheVariants as fault
use Rattle.alp_cluster.specs.declared.server.Server.{Server}
use Rattle.alp_cluster.specs.declared.server.Server.TheVariants.{Up, Fallen}
use Rattle.alp_cluster.specs.declared.station.Station.{Station}

-- it stands, up or down
abbrev pub standing : {V : Type 0} → NodeState V → Option (Server V)
standing n = Some (Up n)

-- its vault
abbrev pub HasVault : {V : Type 0} → Option (Server V) → V → Type 0
HasVault (Some (Up n)) v = v ≡ n.kept.vault
HasVault (Some (Fallen d)) v = v ≡ d.vault
HasVault None v = ⊥

-- where it stands in the course of its run
abbrev pub seat_for : {V : Type 0} → Ghosts V → Bool → List ℕ → Option (Server V) → Seat
seat_for G is_fused ranks (Some (Up n)) = record { opening = start_in G n; tells = G.tells n.kept.vault; stand = stand_of G is_fused n; journal = n.journal; ranks = ranks }
seat_for G is_fused ranks s = no_seat

abbrev pub seat_of : {V : Type 0} → Ghosts V → Station V → Seat
seat_of G s = seat_for G s.is_fused s.ranks.items s.server

-- This server stands there, with a rank for each of its entries.
pub record Keeps {V : Type 0} (G : Ghosts V) (s : Station V) (n : NodeState V) : Type 0 where
  pub stands : s.server ≡ standing n
  pub on : IsOn G n
  pub free : IsFree G s.is_fused n
  pub ranked : length s.ranks.items ≡ length n.journal

-- it went on by entries that are made so, with ranks above all that they saw
pub record WentBy {V : Type 0} (G : Ghosts V) (seen : ℕ) (Makes : Stand → List Entry → Stand → Type 0) (old new : Station V) (before : NodeState V) : Type 0 where
  pub after : NodeState V
  pub stands : new.server ≡ standing after
  pub goes : GoesBy G old.is_fused new.is_fused Makes before after
  pub ranks : new.ranks.items ≡ ranks_with old.ranks.items seen goes.entries

-- what a call leaves of its vault, whether it went well or not
abbrev pub LeavesVault : {V T : Type 0} → Ghosts V → Type 0 → (old new : Station V) → Result T RunFault → Type 0
LeavesVault {V} G P old new r = (n : NodeState V) → old.server ≡ standing n → (v : V) × HasVault new.server v × HasGone G P n.kept.vault v r

-- it is as it was
pub record IsStill {V : Type 0} (old new : Station V) : Type 0 where
  pub server : new.server ≡ old.server
  pub ranks : new.ranks.items ≡ old.ranks.items
  pub fused : new.is_fused ≡ old.is_fused

-- one rank for each of so many entries, where there may be one entry more
abbrev pub ranks_for : List ℕ → ℕ → List ℕ
ranks_for rs count = take count (rs ++ (max (last_rank rs) 0 + 1) ∷ [])

-- it was handed a frame, and this is what came of it
pub record WasHanded {V : Type 0} (G : Ghosts V) (old new : Station V) (before : NodeState V) (client : ℕ) (frame : List ℕ) (h : Handed) : Type 0 where
  pub after : NodeState V
  pub stands : new.server ≡ standing after
  pub fused : new.is_fused ≡ old.is_fused
  pub handed : IsHanded G before after client frame (whole request frame) h
  pub ranks : new.ranks.items ≡ ranks_for old.ranks.items (length after.journal)

-- memory was wanting: its server took no step
pub record IsLeftUntouched {V : Type 0} (G : Ghosts V) (old new : Station V) (before : NodeState V) : Type 0 where
  pub after : NodeState V
  pub stands : new.server ≡ standing after
  pub untouched : IsUntouched G before after
  pub ranks : new.ranks.items ≡ old.ranks.items
  pub fused : new.is_fused ≡ old.is_fused

-- the device of its server failed in the step of this event, which saw that rank: the entry has its rank
pub record IsLeftFailed {V : Type 0} (G : Ghosts V) (seen : ℕ) (e : Event) (old new : Station V) (before : NodeState V) : Type 0 where
  pub after : NodeState V
  pub stands : new.server ≡ standing after
  pub failed : HasFailedIn G before after e
  pub ranks : new.ranks.items ≡ old.ranks.items ++ (max (last_rank old.ranks.items) seen + 1) ∷ []
  pub fused : new.is_fused ≡ old.is_fused

-- a step of this event, which saw that rank, was not taken as it is to be
abbrev pub EndsEvent : {V : Type 0} → Ghosts V → RunFault → ℕ → Event → (old new : Station V) → NodeState V → Type 0
EndsEvent G fault.JournalFull seen e old new n = HasNoRoom n n × IsStill old new
EndsEvent G fault.OutOfMemory seen e old new n = IsLeftUntouched G old new n
EndsEvent G (fault.DiskFault server) seen e old new n = (server ≡ n.kept.server) × IsLeftFailed G seen e old new n
EndsEvent G (fault.Start server f) seen e old new n = ⊥

-- nor was one by the bytes of a frame: where they spell no request, memory was wanting
abbrev pub EndsFrame : {V : Type 0} → Ghosts V → RunFault → Option Request → (old new : Station V) → NodeState V → Type 0
EndsFrame G f None old new n = (f ≡ fault.OutOfMemory) × IsLeftUntouched G old new n
EndsFrame G f (Some asked) old new n = EndsEvent G f 0 (event_of asked) old new n

-- where it did not start again, it fell with that pick, and is left so
abbrev pub EndsHere : {V : Type 0} → Ghosts V → ℕ → RunFault → NodeState V → Option (Server V) → Type 0
EndsHere {V} G pick (fault.Start server f) n s = (d : DownState V) × (s ≡ Some (Fallen d)) × (server ≡ n.kept.server) × StaysDown G pick n d f
EndsHere {V} G pick f n s = ⊥

-- it did not start again, or memory was wanting before it fell
abbrev pub EndsRestart : {V : Type 0} → Ghosts V → ℕ → RunFault → (old new : Station V) → NodeState V → Type 0
EndsRestart G pick fault.OutOfMemory old new n = IsStill old new
EndsRestart G pick f old new n = EndsHere G pick f n new.server
