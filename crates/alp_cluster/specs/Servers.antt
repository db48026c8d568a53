-- A server of a run, up or down, on a disk that lines may stop.
use Rattle.std.specs.Prelude.{◌≡◌, ◌≢◌, ◌⊎◌, ℕ, ◌≤◌, ◌||◌, Bool, true, false, IsTrue, List, [], ◌∷◌, ◌++◌, length, Option, None, Some, is_some, Result, Ok, Err}
use Rattle.std.specs.List.{list_any, AllByRecursion}
use Rattle.alp_base.specs.Allowances.{Sets}
use Rattle.alp_base.specs.Causes.{Rose}
use Rattle.alp_base.specs.declared.allowance.Allowance.TheVariants.{Free}
use Rattle.alp_base.specs.declared.faults.VaultFault.{VaultFault}
use Rattle.alp_base.specs.declared.faults.VaultFault.TheVariants as vault_fault
use Rattle.alp_files.specs.declared.refusal.Refusal.TheVariants.{Down}
use Rattle.alp_files.specs.declared.reply.Reply.{Reply}
use Rattle.alp_files.specs.declared.reply.Reply.TheVariants as reply
use Rattle.alp_vault.specs.Vault.{IsSameVault}
use Rattle.alp_vault.specs.declared.vault.Vault.{Ghosts}
use Rattle.alp_journal.specs.Account.{Account}
use Rattle.alp_journal.specs.Along.{Along}
use Rattle.alp_journal.specs.State.{State, opened}
use Rattle.alp_journal.specs.declared.act.Act.{Act}
use Rattle.alp_journal.specs.declared.act.Act.TheVariants as act
use Rattle.alp_journal.specs.declared.entry.Entry.{Entry}
use Rattle.alp_journal.specs.declared.event.Event.{Event}
use Rattle.alp_journal.specs.declared.event.Event.TheVariants as event
use Rattle.alp_base.specs.declared.ids.TransId.{TransId}
use Rattle.alp_journal.specs.Moves.{next, stops}
use Rattle.alp_journal.specs.Answered.{IsAnsweredEntry, is_read_fault}
use Rattle.alp_journal.specs.Desk.{Session}
use Rattle.alp_rpc.specs.Replies.{IsSendable}
use Rattle.alp_node.specs.Nodes as node
use Rattle.alp_node.specs.Nodes.{IsConsistent, HasRoom, IsFull, start_in}
use Rattle.alp_node.specs.NodeStates.{NodeState}
use Rattle.alp_node.specs.ServerState.{IsAs}
use Rattle.alp_node.specs.DownStates.{DownState}
use Rattle.alp_node.specs.Downs.{IsFallen, HasFallen, HasRestarted, IsStillDown}
use Rattle.alp_node.specs.Sessions.{no_sessions, session_at}
use Rattle.alp_node.specs.Orders.{order_in, is_answered}
use Rattle.alp_node.specs.Turns.{HasTurned}
use Rattle.alp_node.specs.declared.server_state.ServerState.{ServerState}
use Rattle.alp_node.specs.declared.start.StartFault.{StartFault}
use Rattle.alp_node.specs.declared.start.StartFault.TheVariants as start_fault
use Rattle.alp_course.specs.Happens.{Stand}
use Rattle.alp_cluster.specs.declared.fault.RunFault.{RunFault}
use Rattle.alp_cluster.specs.declared.fault.RunFault.TheVariants as fault

-- what its journal says
abbrev pub state_of : {V : Type 0} → Ghosts V → NodeState V → State
state_of G n = node.state_of (start_in G n) n.journal

-- where its run stands, on a disk that may be stopped, or not
abbrev pub stand_of : {V : Type 0} → Ghosts V → Bool → NodeState V → Stand
stand_of G is_fused n = record { server = n.kept.server; epoch = n.kept.epoch; is_down = n.kept.is_down; is_fused = is_fused; place = length n.journal; state = state_of G n }

-- a disk that no line lets be stopped passes all calls
abbrev pub IsFree : {V : Type 0} → Ghosts V → Bool → NodeState V → Type 0
IsFree G is_fused n = is_fused ≡ false → G.allowance n.kept.vault ≡ Free

-- the device failed in the entry
abbrev pub is_failure : Act → Bool
is_failure act.Failed = true
is_failure a = false

abbrev pub fails : Entry → Bool
fails e = list_any is_failure e.acts

abbrev pub is_failed_at : Option Entry → Bool
is_failed_at None = false
is_failed_at (Some e) = fails e

-- an entry that has its cause, where no device failed; it may have been stopped
abbrev pub IsDone : State → Entry → Type 0
IsDone s e = (fails e ≡ false) × IsAnsweredEntry false s e

-- no entry of a journal stopped its server
abbrev pub AreCalm : List Entry → Type 0
AreCalm es = AllByRecursion (λ (e : Entry). stops e ≡ false) es

-- ---- what it keeps of its clients

-- It has a frame, and so a repeat may be answered. It does not say that a read failed: the first such reply ends the run. That to
-- the greeting is the welcome of this epoch.
pub record IsKeptReply (epoch : ℕ) (w : Session) : Type 0 where
  pub sendable : IsSendable w.reply
  pub calm : is_read_fault (Some w.reply) ≡ false
  pub counted : 1 ≤ w.last
  pub greeting : w.last ≡ 1 → w.reply ≡ reply.Welcome epoch

-- of each session, while the server is up: one that is down answers nothing else
abbrev pub AreKept : {V : Type 0} → ServerState V → Type 0
AreKept k = (client : ℕ) (w : Session) → session_at k.sessions client ≡ Some w → IsKeptReply k.epoch w

-- ---- a server of a run

-- It is what its journal says; where its vault tells what it holds, its device did not fail in any entry.
pub record IsOn {V : Type 0} (G : Ghosts V) (n : NodeState V) : Type 0 where
  pub kept : IsConsistent G n
  pub all : G.servers n.opening.vault.value ≡ n.kept.servers
  pub replies : n.kept.is_down ≡ false → AreKept n.kept
  pub answered : IsTrue (G.tells n.kept.vault) → Along next IsDone (opened (start_in G n)) n.journal

-- it did nothing yet, and nobody stops it
pub record IsIdle {V : Type 0} (G : Ghosts V) (n : NodeState V) : Type 0 where
  pub opening : n.opening.vault.value ≡ n.kept.vault
  pub journal : n.journal ≡ []
  pub sessions : n.kept.sessions ≡ no_sessions
  pub up : n.kept.is_down ≡ false
  pub free : G.allowance n.kept.vault ≡ Free

-- ---- how often its device failed

-- a fault of the vault, of its count of faults
abbrev pub AreCountedFor : VaultFault → ℕ → ℕ → Type 0
AreCountedFor vault_fault.Failed before now = Rose before now
AreCountedFor vault_fault.OutOfMemory before now = now ≡ before
AreCountedFor f before now = Unit {0}

-- a server that does not start again
abbrev pub AreCountedAt : StartFault → ℕ → ℕ → Type 0
AreCountedAt (start_fault.Vault f) before now = AreCountedFor f before now
AreCountedAt start_fault.EpochEnd before now = now ≡ before
AreCountedAt start_fault.BadNote before now = now ≡ before

-- a fault of a run, at the server of this number
abbrev pub AreCounted : ℕ → RunFault → ℕ → ℕ → Type 0
AreCounted here (fault.DiskFault server) before now = (server ≡ here → Rose before now) × (server ≢ here → now ≡ before)
AreCounted here fault.OutOfMemory before now = now ≡ before
AreCounted here fault.JournalFull before now = now ≡ before
AreCounted here (fault.Start server f) before now = (server ≡ here → AreCountedAt f before now) × (server ≢ here → now ≡ before)

abbrev pub AreCountedIn : {T : Type 0} → ℕ → Result T RunFault → ℕ → ℕ → Type 0
AreCountedIn here (Ok x) before now = now ≡ before
AreCountedIn here (Err f) before now = AreCounted here f before now

-- the device failed, where that is the fault; one that is started again is not stopped
abbrev pub IsFailureAt : StartFault → ℕ → ℕ → Type 0
IsFailureAt (start_fault.Vault vault_fault.Failed) before now = Rose before now
IsFailureAt (start_fault.Vault vault_fault.Stopped) before now = ⊥
IsFailureAt f before now = Unit {0}

-- a fault names a server that may be named, and where it is this one its device failed
abbrev pub IsFailure : {T : Type 0} → (ℕ → Type 0) → ℕ → Result T RunFault → ℕ → ℕ → Type 0
IsFailure N here (Ok x) before now = Unit {0}
IsFailure N here (Err (fault.DiskFault server)) before now = N server × (server ≡ here → Rose before now)
IsFailure N here (Err (fault.Start server f)) before now = N server × (server ≡ here → IsFailureAt f before now)
IsFailure N here (Err f) before now = Unit {0}

-- A vault that tells what it holds is found to be a volume in its format, as it is started again, and its notes are not at fault.
abbrev pub IsOfVolumeAt : StartFault → Type 0
IsOfVolumeAt (start_fault.Vault (vault_fault.NotAVolume found)) = ⊥
IsOfVolumeAt (start_fault.Vault (vault_fault.Damaged place)) = ⊥
IsOfVolumeAt start_fault.BadNote = ⊥
IsOfVolumeAt f = Unit {0}

abbrev pub IsToldFault : {T : Type 0} → (here : ℕ) → Result T RunFault → Type 0
IsToldFault here (Err (fault.Start server f)) = server ≡ here → IsOfVolumeAt f
IsToldFault here r = Unit {0}

-- What a call leaves of the vault of a server, whether it went well or not: it is the vault that it was, and its count of faults
-- did not fall. It rose where its device failed; a fault names one of the servers that may be named. Where nobody stopped it before,
-- and this holds, nobody stops it, and the count stays where the call went well, memory was wanting, the journal was full, the epochs
-- are used up, the notes are at fault or the fault is of another server.
pub record HasGoneBy {V T : Type 0} (G : Ghosts V) (N : ℕ → Type 0) (P : Type 0) (old new : V) (result : Result T RunFault) : Type 0 where
  pub same : IsSameVault G.tells G.volume G.server G.servers old new
  pub later : G.faults old ≤ G.faults new
  pub failed : IsFailure N (G.server old) result (G.faults old) (G.faults new)
  pub told : IsTrue (G.tells old) → IsToldFault (G.server old) result
  pub free : P → G.allowance old ≡ Free → G.allowance new ≡ Free
  pub counted : P → G.allowance old ≡ Free → AreCountedIn (G.server old) result (G.faults old) (G.faults new)

-- and where a fault names this server alone
abbrev pub HasGone : {V T : Type 0} → Ghosts V → Type 0 → (old new : V) → Result T RunFault → Type 0
HasGone G P old new result = HasGoneBy G (λ server. server ≡ G.server old) P old new result

-- ---- one step

-- it took no step: its journal has no room for another entry
pub record HasNoRoom {V : Type 0} (old new : NodeState V) : Type 0 where
  pub up : old.kept.is_down ≡ false
  pub full : IsFull old
  pub same : new ≡ old

-- Memory was wanting: it took no step, and stands as it stood: it keeps what it kept, and its vault holds, counts and allows what it did. The
-- vault may have other pages at hand.
pub record IsUntouched {V : Type 0} (G : Ghosts V) (old new : NodeState V) : Type 0 where
  pub journal : new.journal ≡ old.journal
  pub opening : new.opening ≡ old.opening
  pub server : new.kept.server ≡ old.kept.server
  pub epoch : new.kept.epoch ≡ old.kept.epoch
  pub down : new.kept.is_down ≡ old.kept.is_down
  pub start : start_in G new ≡ start_in G old
  pub telling : G.tells new.kept.vault ≡ G.tells old.kept.vault
  pub held : G.held new.kept.vault ≡ G.held old.kept.vault
  pub faults : G.faults new.kept.vault ≡ G.faults old.kept.vault
  pub allowance : G.allowance new.kept.vault ≡ G.allowance old.kept.vault
  pub sessions : new.kept.sessions ≡ old.kept.sessions
  pub clock : new.kept.clock ≡ old.kept.clock
  pub kept : (a : Account) → IsAs a (G.held old.kept.vault) old.kept → IsAs a (G.held new.kept.vault) new.kept

-- an entry shows that the device failed in it: by its reply, or by an act
abbrev pub ShowsFault : Entry → Type 0
ShowsFault e = (is_read_fault e.reply ≡ true) ⊎ (fails e ≡ true)

-- Its device failed in the step of this event: there is one entry more, which shows it, and its count of faults rose.
pub record HasFailedIn {V : Type 0} (G : Ghosts V) (old new : NodeState V) (e : Event) : Type 0 where
  pub up : old.kept.is_down ≡ false
  pub room : HasRoom old
  pub server : new.kept.server ≡ old.kept.server
  pub opening : new.opening ≡ old.opening
  pub start : start_in G new ≡ start_in G old
  pub telling : G.tells new.kept.vault ≡ G.tells old.kept.vault
  pub entry : Entry
  pub event : entry.event ≡ e
  pub journal : new.journal ≡ old.journal ++ entry ∷ []
  pub shows : ShowsFault entry
  pub rose : Rose (G.faults old.kept.vault) (G.faults new.kept.vault)

-- a step was not taken as it is to be: its journal has no room, memory was wanting, or its device failed
abbrev pub EndsStep : {V : Type 0} → Ghosts V → RunFault → (old new : NodeState V) → Event → Type 0
EndsStep G fault.JournalFull old new e = HasNoRoom old new
EndsStep G fault.OutOfMemory old new e = IsUntouched G old new
EndsStep G (fault.DiskFault server) old new e = (server ≡ old.kept.server) × HasFailedIn G old new e
EndsStep G (fault.Start server f) old new e = ⊥

-- it is down, and takes no step
pub record IsShut {V : Type 0} (old new : NodeState V) (r : Option Reply) : Type 0 where
  pub down : old.kept.is_down ≡ true
  pub reply : r ≡ Some (reply.Refused Down)
  pub same : new ≡ old

-- One event was answered so: one entry more, and the device did not fail, which the entry shows where the vault tells. It may have
-- been stopped, if it was let; where it was not, its count of faults stays.
pub record HasStepped {V : Type 0} (G : Ghosts V) (old new : NodeState V) (e : Event) (r : Option Reply) : Type 0 where
  pub on : IsOn G new
  pub up : old.kept.is_down ≡ false
  pub room : HasRoom old
  pub server : new.kept.server ≡ old.kept.server
  pub servers : new.kept.servers ≡ old.kept.servers
  pub opening : new.opening ≡ old.opening
  pub start : start_in G new ≡ start_in G old
  pub epoch : new.kept.epoch ≡ old.kept.epoch
  pub telling : G.tells new.kept.vault ≡ G.tells old.kept.vault
  pub free : G.allowance old.kept.vault ≡ Free → G.allowance new.kept.vault ≡ Free
  pub acts : List Act
  pub journal : new.journal ≡ old.journal ++ (record { event = e; reply = r; acts = acts }) ∷ []
  pub down : new.kept.is_down ≡ stops (record { event = e; reply = r; acts = acts })
  pub halts : new.kept.is_down ≡ true → G.allowance old.kept.vault ≢ Free
  pub counted : new.kept.is_down ≡ false → G.faults new.kept.vault ≡ G.faults old.kept.vault
  pub closes : new.kept.is_down ≡ true → r ≡ Some (reply.Refused Down)
  pub done : IsTrue (G.tells old.kept.vault) → IsDone (state_of G old) (record { event = e; reply = r; acts = acts })
  pub turned : new.kept.is_down ≡ false → HasTurned (order_in old.kept e) old.kept new.kept e r
  pub replies : is_some r ≡ (is_answered (order_in old.kept e) || new.kept.is_down)

-- it did, or it is down
abbrev pub Steps : {V : Type 0} → Ghosts V → Bool → (old new : NodeState V) → Event → Option Reply → Type 0
Steps G true old new e r = IsShut old new r
Steps G false old new e r = HasStepped G old new e r

-- an event that is no call came to it, whatever it answered
abbrev pub HasComeTo : {V : Type 0} → Ghosts V → (old new : NodeState V) → Event → Type 0
HasComeTo G old new e = (r : Option Reply) × Steps G old.kept.is_down old new e r

-- a timeout did, if there was a transaction
abbrev pub HasTimed : {V : Type 0} → Ghosts V → (old new : NodeState V) → Option TransId → Type 0
HasTimed G old new None = new ≡ old
HasTimed G old new (Some t) = HasComeTo G old new (event.Timeout t)

-- its disk passes so many more changing calls, where it is up, unless it ignores numbers, and nothing else changed
pub record HasStopSet {V : Type 0} (G : Ghosts V) (calls : ℕ) (old new : NodeState V) : Type 0 where
  pub kept : IsConsistent G new
  pub same : IsSameVault G.tells G.volume G.server G.servers old.kept.vault new.kept.vault
  pub faults : G.faults new.kept.vault ≡ G.faults old.kept.vault
  pub rest : new ≡ record old { kept = record old.kept { vault = new.kept.vault } }
  pub down : old.kept.is_down ≡ true → new ≡ old
  pub allowance : old.kept.is_down ≡ false → Sets (Some calls) (G.allowance old.kept.vault) (G.allowance new.kept.vault)

-- nobody stops its disk any more, and nothing else changed
pub record IsLifted {V : Type 0} (G : Ghosts V) (old new : NodeState V) : Type 0 where
  pub kept : IsConsistent G new
  pub same : IsSameVault G.tells G.volume G.server G.servers old.kept.vault new.kept.vault
  pub faults : G.faults new.kept.vault ≡ G.faults old.kept.vault
  pub rest : new ≡ record old { kept = record old.kept { vault = new.kept.vault } }
  pub free : G.allowance new.kept.vault ≡ Free

-- ---- a restart

-- It fell, with that pick of what a crash leaves, and started again: one entry more.
pub record StartsAgain {V : Type 0} (G : Ghosts V) (pick : ℕ) (old new : NodeState V) : Type 0 where
  pub on : IsOn G new
  pub fallen : DownState V
  pub falls : HasFallen G pick old fallen
  pub starts : HasRestarted G fallen new
  pub opening : new.opening ≡ old.opening
  pub start : start_in G new ≡ start_in G old

-- it fell, and did not start again
pub record StaysDown {V : Type 0} (G : Ghosts V) (pick : ℕ) (old : NodeState V) (down : DownState V) (f : StartFault) : Type 0 where
  pub fallen : DownState V
  pub falls : HasFallen G pick old fallen
  pub stood : IsFallen G fallen
  pub stays : IsStillDown G fallen down f
  pub free : G.allowance down.vault ≡ Free
