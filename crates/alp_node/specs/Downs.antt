-- Servers that fell, and how they start again.
use Rattle.std.specs.Prelude.{◌≡◌, ◌⊎◌, ℕ, ◌+◌, ◌<◌, ◌≤◌, ◌^◌, false, IsTrue, List, [], ◌∷◌, ◌++◌, None, Some}
use Rattle.std.specs.List.{AllByRecursion}
use Rattle.std.specs.FinMap as map
use Rattle.alp_base.specs.Crashes.{NoMore, Adds}
use Rattle.alp_base.specs.Faults.{HasFaultCause, IsCountKept, IsOfVolume}
use Rattle.alp_base.specs.declared.allowance.Allowance.TheVariants.{Free}
use Rattle.alp_base.specs.declared.ids.JoinNo.{JoinNo}
use Rattle.alp_base.specs.declared.ids.Stamp.{Stamp}
use Rattle.alp_base.specs.declared.ids.TransId.{TransId}
use Rattle.alp_base.specs.declared.key.Resource.{Resource}
use Rattle.alp_base.specs.declared.faults.Sizes.{Sizes}
use Rattle.alp_base.specs.declared.faults.VaultFault.{VaultFault}
use Rattle.alp_base.specs.declared.faults.VaultFault.TheVariants as vault_fault
use Rattle.alp_fields.specs.ClockNote.{clock_kept}
use Rattle.alp_fields.specs.declared.clock_note.ClockNote.{ClockNote}
use Rattle.alp_files.specs.Apart.{IsWithin as AreWithin}
use Rattle.alp_files.specs.Holdings.{IsIntended}
use Rattle.alp_files.specs.Locks.{Writes}
use Rattle.alp_vault.specs.Contents.{Contents}
use Rattle.alp_vault.specs.Vault.{IsSameVault, IsOneOf}
use Rattle.alp_vault.specs.declared.vault.Vault.{Ghosts}
use Rattle.alp_journal.specs.declared.act.Act.TheVariants as act
use Rattle.alp_journal.specs.declared.event.Event.TheVariants as event
use Rattle.alp_journal.specs.declared.entry.Entry.{Entry}
use Rattle.alp_journal.specs.declared.message.Envelope.{Envelope}
use Rattle.alp_journal.specs.Along.{state_after}
use Rattle.alp_journal.specs.Holder.{Life}
use Rattle.alp_journal.specs.Opening.{Start, ready_kept, decisions_kept}
use Rattle.alp_journal.specs.State.{State, state_deed}
use Rattle.alp_journal.specs.Laws.{IsLawful}
use Rattle.alp_journal.specs.Answered.{IsAnswered}
use Rattle.alp_journal.specs.Account.{Account, state_of as account_state, IsQuiet, AreEarlier}
use Rattle.alp_regain.specs.Together.{AreNotesTogether, AreTogether}
use Rattle.alp_node.specs.Covers.{AreHeld, AreSizedEdits}
use Rattle.alp_node.specs.DownStates.{DownState}
use Rattle.alp_node.specs.NodeStates.{NodeState}
use Rattle.alp_node.specs.Durable.{IsStoredBy, Leaves}
use Rattle.alp_node.specs.Found.{FindsAll, GoApart, HasBegun, KeepsFound, joins_noted, stamps_noted}
use Rattle.alp_node.specs.Halts.{MaySay}
use Rattle.alp_node.specs.Nodes.{IsSoundStart, state_of, start_by, sent_in}
use Rattle.alp_node.specs.ServerState.{SeesNoneToCome, PutNoneBeyond, AreMade}
use Rattle.alp_node.specs.Starts.{with_clock}
use Rattle.alp_node.specs.declared.found.Found.{Found}
use Rattle.alp_node.specs.declared.server_state.ServerState.{ServerState}
use Rattle.alp_node.specs.declared.start.StartFault.{StartFault}
use Rattle.alp_node.specs.declared.start.StartFault.TheVariants as fault

-- ---- what a crash left

-- what the journal says with all that was tried last
abbrev pub state_then : State → State
state_then s = state_after state_deed s s.pending

-- It is what the journal says that the vault holds, or that with the whole of what was tried last; and the note has the last epoch, or
-- the one after it, if there is one, which a restart put that was refused then.
pub record IsLeftOf (s : State) (c : Contents) : Type 0 where
  pub epoch : ℕ
  pub near : (epoch ≡ s.ids.epoch) ⊎ (epoch ≡ s.ids.epoch + 1)
  pub last : epoch < 2 ^ 32
  pub either : IsStoredBy epoch s c ⊎ IsStoredBy epoch (state_then s) c

-- ---- a server that fell

-- What a restart asks of a part that voted: it may write what it changes under its locks, which are on just these resources, beside
-- their intentions.
pub record IsPartPast (l : Life) (locked : List Resource) : Type 0 where
  pub within : AreWithin (Writes l.held) l.edits
  pub intended : IsIntended l.held
  pub sized : AreSizedEdits l.edits
  pub known : AreHeld l.held locked

-- Of the state that a server fell in these stay: which it is, one of so many; its parts; the ids of files that it gave and those that
-- it did not; what was applied; that it was quiet; and that its notes go together, for the epoch after its last one: those of what the
-- journal says, and those of that with the whole of what was tried last.
pub record IsPast (a : Account) (server servers epoch : ℕ) (sizes : Sizes) : Type 0 where
  pub number : a.holder.server ≡ server
  pub among : a.servers ≡ servers
  pub volume : a.sizes ≡ sizes
  pub now : a.ids.epoch ≡ epoch
  pub parts : (t : TransId) (l : Life) → a.holder.lives t ≡ Some l → IsPartPast l (a.locked t)
  pub unborn : (t : TransId) (l : Life) → a.holder.lives t ≡ Some l → PutNoneBeyond a.holder.server a.ids.epoch a.ids.files l.edits
  pub made : AreMade a.holder.server a.ids.epoch a.ids.files a.holder.made
  pub born : SeesNoneToCome a.holder.server a.ids.epoch a.ids.files (map.get a.holder.cells)
  pub earlier : AreEarlier a.holder.kept a.holder.applied
  pub quiet : IsQuiet a
  pub together : (near : ℕ) (c : Contents) → a.ids.epoch ≤ near → IsStoredBy near (account_state a) c ⊎ IsStoredBy near (state_then (account_state a)) c → AreTogether a.holder.server a.servers (a.ids.epoch + 1) a.sizes c.cells c.notes

-- its journal is lawful, and each of its entries has its cause
pub record IsPastRight {V : Type 0} (o : Start) (sizes : Sizes) (d : DownState V) : Type 0 where
  pub opening : IsSoundStart o
  pub lawful : IsLawful o d.journal
  pub caused : IsAnswered o d.journal
  pub state : Account
  pub says : state_of o d.journal ≡ account_state state
  pub past : IsPast state d.server d.servers d.epoch sizes

-- what it was started on
abbrev pub start_of : {V : Type 0} → Ghosts V → DownState V → Start
start_of G d = start_by G d.server d.opening.vault.value

-- What holds of each server that fell: the vault is of this server, does not serve before it is recovered, and passes all calls; what
-- was said to other servers may be said; and where the vault tells what it holds, the journal is as it should be, and a crash leaves
-- what it says.
pub record IsFallen {V : Type 0} (G : Ghosts V) (d : DownState V) : Type 0 where
  pub number : G.server d.vault ≡ d.server
  pub all : G.servers d.vault ≡ d.servers
  pub raised : 0 < d.epoch
  pub last : d.epoch < 2 ^ 32
  pub rests : G.serves d.vault ≡ false
  pub free : G.allowance d.vault ≡ Free
  pub said : AllByRecursion (λ (x : Envelope). MaySay x.message) (sent_in d.journal)
  pub right : IsTrue (G.tells d.vault) → IsPastRight (start_of G d) (G.volume d.vault) d
  pub left : IsTrue (G.tells d.vault) → (c : Contents) → G.may_leave d.vault c → IsLeftOf (state_of (start_of G d) d.journal) c

-- The server fell: its vault came back from a crash with that pick, and nothing else changed.
pub record HasFallen {V : Type 0} (G : Ghosts V) (pick : ℕ) (n : NodeState V) (d : DownState V) : Type 0 where
  pub opening : d.opening ≡ n.opening
  pub journal : d.journal ≡ n.journal
  pub server : d.server ≡ n.kept.server
  pub servers : d.servers ≡ n.kept.servers
  pub epoch : d.epoch ≡ n.kept.epoch
  pub crashed : G.crashed n.kept.vault pick d.vault
  pub same : IsSameVault G.tells G.volume G.server G.servers n.kept.vault d.vault
  pub faults : G.faults d.vault ≡ G.faults n.kept.vault

-- ---- starting again

-- the clock of the note that was found, in the epoch after the last one
abbrev pub next_clock : ℕ → Contents → ClockNote
next_clock last found = record { epoch = last + 1; clock = (clock_kept found.notes).clock }

-- It is what a crash might have left before, or that with the note of the epoch after the last one, where there is one and its notes go
-- together as those of this server, one of so many.
abbrev pub IsLeftOrRaised : {V : Type 0} → Ghosts V → (server servers last : ℕ) → V → Contents → Type 0
IsLeftOrRaised G server servers last v c = G.may_leave v c ⊎ (found : Contents) × (last < 4294967295) × G.may_leave v found × AreNotesTogether server servers (last + 1) (G.volume v).area found.notes × (c ≡ with_clock found (next_clock last found))

-- the vault holds what a crash left, whose notes go together, also with the files, with the note of the next epoch
pub record HasRegained {V : Type 0} (G : Ghosts V) (server servers : ℕ) (old new : V) (found : Contents) (clock : ClockNote) : Type 0 where
  pub left : G.may_leave old found
  pub together : AreTogether server servers clock.epoch (G.volume old) found.cells found.notes
  pub held : G.held new ≡ with_clock found clock

-- the entry of the restart that finds these joins ready and these decisions standing
abbrev pub entry_again : ClockNote → List JoinNo → List Stamp → Entry
entry_again clock joins stamps = record { event = event.Restart; reply = None; acts = act.Regained clock.epoch clock.clock joins stamps ∷ [] }

-- ---- a vault

-- it serves again, with what a crash left
pub record IsRecovered {V : Type 0} (G : Ghosts V) (old new : V) : Type 0 where
  pub serving : IsTrue (G.serves new)
  pub left : IsTrue (G.tells old) → G.may_leave old (G.held new)
  pub no_more : NoMore (G.may_leave old) (G.may_leave new)
  pub time : Adds G.left_since old new (G.may_leave new)
  pub same : IsSameVault G.tells G.volume G.server G.servers old new
  pub free : G.allowance new ≡ Free
  pub counted : G.faults new ≡ G.faults old

-- it does not, for that cause
pub record IsUnrecovered {V : Type 0} (G : Ghosts V) (old new : V) (f : VaultFault) : Type 0 where
  pub rests : G.serves new ≡ false
  pub no_more : NoMore (G.may_leave old) (G.may_leave new)
  pub time : Adds G.left_since old new (G.may_leave old)
  pub same : IsSameVault G.tells G.volume G.server G.servers old new
  pub free : G.allowance new ≡ Free
  pub cause : HasFaultCause (G.faults old) (G.faults new) (G.allowance new) f
  pub later : G.faults old ≤ G.faults new
  pub still : IsCountKept (G.faults old) (G.faults new) f
  pub volume : IsTrue (G.tells old) → IsOfVolume f

-- why a vault has no note to begin the epoch after the last one with: there was no memory, or its notes go apart
abbrev pub HasNextCause : {V : Type 0} → Ghosts V → ℕ → V → StartFault → Type 0
HasNextCause G last v (fault.Vault f) = f ≡ vault_fault.OutOfMemory
HasNextCause G last v fault.BadNote = GoApart (G.tells v) (G.server v) (G.servers v) (last + 1) (G.volume v) (G.held v)
HasNextCause G last v fault.EpochEnd = ⊥

-- the note that it begins that epoch with
pub record IsNext {V : Type 0} (G : Ghosts V) (last : ℕ) (v : V) (clock : ClockNote) : Type 0 where
  pub next : clock ≡ next_clock last (G.held v)
  pub within : clock.clock ≤ 2 ^ 62

-- Why a vault does not begin the epoch after the last one: it was refused, and what it tells is a volume in its format, or the notes that
-- a crash may leave go apart, or that epoch is the last there is. The count of faults never falls. It stays where memory was wanting and
-- where the notes are at fault.
abbrev pub HasRaiseCause : {V : Type 0} → Ghosts V → ℕ → V → V → StartFault → Type 0
HasRaiseCause G last old new (fault.Vault f) =
    HasFaultCause (G.faults old) (G.faults new) (G.allowance new) f × (IsTrue (G.tells old) → IsOfVolume f) × (G.faults old ≤ G.faults new) × (f ≡ vault_fault.OutOfMemory → G.faults new ≡ G.faults old)
HasRaiseCause G last old new fault.BadNote = (G.faults new ≡ G.faults old) × (IsTrue (G.tells old) → (c : Contents) × G.may_leave old c × GoApart (G.tells old) (G.server old) (G.servers old) (last + 1) (G.volume old) c)
HasRaiseCause G last old new fault.EpochEnd = (last ≡ 4294967295) × (new ≡ old)

-- It serves in the epoch after the last one, at the clock that was found, and this is found in what it held. Through the whole step a
-- crash leaves what it might have left before, or that with the note of the next epoch.
pub record HasBegunEpoch {V : Type 0} (G : Ghosts V) (server servers last : ℕ) (old new : V) (clock : ClockNote) (f : Found) : Type 0 where
  pub low : last < 4294967295
  pub found : Contents
  pub serving : IsTrue (G.serves new)
  pub next : clock ≡ next_clock last found
  pub within : clock.clock ≤ 2 ^ 62
  pub alone : AreNotesTogether server servers clock.epoch (G.volume old).area found.notes
  pub finds : FindsAll (G.tells old) found.cells server clock.epoch found.notes f
  pub notes : (G.held new).notes ≡ (with_clock found clock).notes
  pub regained : IsTrue (G.tells old) → HasRegained G server servers old new found clock
  pub same : IsSameVault G.tells G.volume G.server G.servers old new
  pub free : G.allowance new ≡ Free
  pub counted : G.faults new ≡ G.faults old
  pub crash : IsTrue (G.tells old) → Leaves G old new (IsLeftOrRaised G server servers last old)

-- A vault was powered off with that pick, and comes back from the crash.
pub record IsPoweredOff {V : Type 0} (G : Ghosts V) (pick : ℕ) (old new : V) : Type 0 where
  pub crashed : G.crashed old pick new
  pub left : IsTrue (G.tells old) → IsOneOf (G.may_leave old) (G.may_leave new)
  pub rests : G.serves new ≡ false
  pub same : IsSameVault G.tells G.volume G.server G.servers old new
  pub faults : G.faults new ≡ G.faults old
  pub free : G.allowance new ≡ Free

-- A vault comes back from a call through which a crash leaves just what is so. Where it does not serve then, it comes back as it is.
-- Where it serves, nothing of it is half made, and it is powered off with pick 0: what it holds stays.
pub record IsHandedBack {V : Type 0} (G : Ghosts V) (old new : V) (P : Contents → Type 0) : Type 0 where
  pub mid : V
  pub same : IsSameVault G.tells G.volume G.server G.servers old mid
  pub crash : IsTrue (G.tells old) → Leaves G old mid P
  pub back : (new ≡ mid) ⊎ (IsTrue (G.serves mid) × IsPoweredOff G 0 mid new)

-- it does not serve, for that cause
pub record HasNotBegun {V : Type 0} (G : Ghosts V) (server servers last : ℕ) (old new : V) (f : StartFault) : Type 0 where
  pub rests : G.serves new ≡ false
  pub same : IsSameVault G.tells G.volume G.server G.servers old new
  pub free : G.allowance new ≡ Free
  pub cause : HasRaiseCause G last old new f
  pub back : IsHandedBack G old new (IsLeftOrRaised G server servers last old)

-- ---- a server

-- the server that begins the next epoch with what it found, of which the journal has the entry
pub record HasEntered {V : Type 0} (G : Ghosts V) (server servers last : ℕ) (old : V) (before after : List Entry) (k : ServerState V) : Type 0 where
  pub clock : ClockNote
  pub all : Found
  pub begun : HasBegunEpoch G server servers last old k.vault clock all
  pub state : HasBegun (G.volume k.vault) server servers clock all k.vault k
  pub journal : after ≡ before ++ entry_again clock all.ready all.decided ∷ []

-- The server is up again in the epoch after its last one, with one entry more. It keeps what the notes keep that were found, and nothing
-- else of a client: the entry has the joins that are ready and the stamps of the decisions, by the names of their notes. The note of its
-- vault has its epoch and its clock, of any vault. Through the whole call a crash leaves what it might have left before, or that with the
-- note of the next epoch.
pub record HasRestarted {V : Type 0} (G : Ghosts V) (d : DownState V) (n : NodeState V) : Type 0 where
  pub low : d.epoch < 4294967295
  pub opening : n.opening ≡ d.opening
  pub server : n.kept.server ≡ d.server
  pub servers : n.kept.servers ≡ d.servers
  pub epoch : n.kept.epoch ≡ d.epoch + 1
  pub joins : List JoinNo
  pub stamps : List Stamp
  pub journal : n.journal ≡ d.journal ++ entry_again (record { epoch = n.kept.epoch; clock = n.kept.clock }) joins stamps ∷ []
  pub found : Contents
  pub alone : AreNotesTogether d.server d.servers n.kept.epoch (G.volume d.vault).area found.notes
  pub ready : joins ≡ joins_noted (ready_kept found.notes)
  pub decided : stamps ≡ stamps_noted (decisions_kept found.notes)
  pub time : n.kept.clock ≡ (clock_kept found.notes).clock
  pub nobody : KeepsFound (G.tells d.vault) found n.kept
  pub regained : IsTrue (G.tells d.vault) → HasRegained G d.server d.servers d.vault n.kept.vault found (record { epoch = n.kept.epoch; clock = n.kept.clock })
  pub same : IsSameVault G.tells G.volume G.server G.servers d.vault n.kept.vault
  pub faults : G.faults n.kept.vault ≡ G.faults d.vault
  pub allowance : G.allowance n.kept.vault ≡ Free
  pub note : clock_kept (G.held n.kept.vault).notes ≡ record { epoch = n.kept.epoch; clock = n.kept.clock }
  pub crash : IsTrue (G.tells d.vault) → Leaves G d.vault n.kept.vault (IsLeftOrRaised G d.server d.servers d.epoch d.vault)

-- It is the same server, which may be started again. Just where its last epoch is the last there is, that is the cause, whatever else is
-- wanting. Where its vault tells what it holds the notes are never at fault, in whatever it went down: what a crash leaves of them is in the
-- format and goes together, with the files too.
pub record IsStillDown {V : Type 0} (G : Ghosts V) (old new : DownState V) (f : StartFault) : Type 0 where
  pub opening : new.opening ≡ old.opening
  pub journal : new.journal ≡ old.journal
  pub server : new.server ≡ old.server
  pub servers : new.servers ≡ old.servers
  pub epoch : new.epoch ≡ old.epoch
  pub same : IsSameVault G.tells G.volume G.server G.servers old.vault new.vault
  pub cause : HasRaiseCause G old.epoch old.vault new.vault f
  pub end : old.epoch ≡ 4294967295 → f ≡ fault.EpochEnd
  pub sound : IsTrue (G.tells old.vault) → f ≡ fault.BadNote → ⊥
  pub back : IsHandedBack G old.vault new.vault (IsLeftOrRaised G old.server old.servers old.epoch old.vault)
