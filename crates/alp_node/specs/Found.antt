-- What a server finds in its notes as it begins an epoch, and what it keeps of it.
use Rattle.std.specs.Prelude.{◌≡◌, ℕ, ◌<◌, Bool, false, IsTrue, List, [], ◌∷◌, Option, None, Some, Result, Ok, Err, map as list_map}
use Rattle.std.specs.FinMap as map
use Rattle.alp_base.specs.Faults.{IsOfVolume}
use Rattle.alp_base.specs.Notes.{Notes}
use Rattle.alp_base.specs.declared.faults.Sizes.{Sizes}
use Rattle.alp_base.specs.declared.faults.VaultFault.TheVariants as vault_fault
use Rattle.alp_base.specs.declared.ids.JoinNo.{JoinNo}
use Rattle.alp_base.specs.declared.ids.Stamp.{Stamp}
use Rattle.alp_fields.specs.declared.clock_note.ClockNote.{ClockNote}
use Rattle.alp_files.specs.Cells.{Cells}
use Rattle.alp_calls.specs.Looks.{fault_as}
use Rattle.alp_calls.specs.Parts.{IsPart}
use Rattle.alp_calls.specs.declared.fault.CallFault.{CallFault}
use Rattle.alp_calls.specs.declared.fault.CallFault.TheVariants as call_fault
use Rattle.alp_coord.specs.Coordinators.{IsOf, Finds, noted}
use Rattle.alp_coord.specs.declared.coordinator.Coordinator.{Coordinator}
use Rattle.alp_coord.specs.declared.decision.Decision.{Decision}
use Rattle.alp_journal.specs.Deeds.{Restarts}
use Rattle.alp_journal.specs.Opening.{Start, ReadyNote, DecisionNote, ready_kept, decisions_kept}
use Rattle.alp_journal.specs.State.{State, state_deed, opened}
use Rattle.alp_locks.specs.Tables.{Table}
use Rattle.alp_regain.specs.Regained.{ArePartsOf, AreLocksOf}
use Rattle.alp_regain.specs.Together.{clock_before, AreNotesTogether, AreTogether}
use Rattle.alp_regain.specs.declared.fault.RegainFault.{RegainFault}
use Rattle.alp_regain.specs.declared.fault.RegainFault.TheVariants as regain_fault
use Rattle.alp_regain.specs.declared.part.RegainedPart.{RegainedPart}
use Rattle.alp_regain.specs.declared.regaining.Regained.{Regained}
use Rattle.alp_vault.specs.Contents.{Contents}
use Rattle.alp_worker.specs.Joins.{AreJoinsOf}
use Rattle.alp_worker.specs.Regained.{part_noted, joins_regained, AreNoted, DoNotesStand}
use Rattle.alp_worker.specs.declared.joins.Joins.{Joins}
use Rattle.alp_worker.specs.declared.regain.ReadyPart.{ReadyPart}
use Rattle.alp_node.specs.Sessions.{no_sessions}
use Rattle.alp_node.specs.Totals.{LiveMap}
use Rattle.alp_node.specs.declared.found.Found.{Found}
use Rattle.alp_node.specs.declared.lives.Live.{Live}
use Rattle.alp_node.specs.declared.server_state.ServerState.{ServerState}
use Rattle.alp_node.specs.declared.start.StartFault.{StartFault}
use Rattle.alp_node.specs.declared.start.StartFault.TheVariants as fault

-- ---- parts

-- a regained part as it is live: of whom it acts for nothing is known
abbrev pub live_of : RegainedPart → Live
live_of p = record { client = p.client; who = None; part = p.part; locks = p.locks; join = Some p.join }

-- those that are live, by their transactions
abbrev pub lives_of : List RegainedPart → LiveMap
lives_of [] = map.empty
lives_of (p ∷ ps) = map.insert (lives_of ps) p.trans (live_of p)

-- each is within the limits of a part and of a transaction of its own
abbrev pub AreLive : List RegainedPart → Type 0
AreLive [] = Unit {0}
AreLive (p ∷ ps) = (map.get (lives_of ps) p.trans ≡ None) × IsPart p.part × AreLive ps

-- what the joins keep of it
abbrev pub ready_of : RegainedPart → ReadyPart
ready_of p = record { join = p.join; trans = p.trans; client = p.client; ts = p.ts }

abbrev pub join_of : RegainedPart → JoinNo
join_of p = p.join

abbrev pub stamp_of : Decision → Stamp
stamp_of d = d.stamp

-- the joins are those of a server that opens, or starts again, with just these parts ready
abbrev pub OpensWith : (server epoch : ℕ) → List ReadyPart → Joins → Type 0
OpensWith server epoch ps k = (o : Start) → o.server ≡ server → o.epoch ≡ epoch → list_map part_noted o.ready ≡ ps → AreNoted server epoch ps → AreJoinsOf (opened o) k

abbrev pub RestartsWith : (server epoch : ℕ) → List ReadyPart → Joins → Type 0
RestartsWith server epoch ps k = (s : State) (before : Joins) (clock : ℕ) → AreJoinsOf s before → s.holder.server ≡ server → s.ids.epoch < epoch → DoNotesStand ps s.phases → AreJoinsOf (state_deed s (Restarts epoch clock)) k

-- what is made of what was regained
pub record IsMadeOf (server epoch : ℕ) (r : Regained) (f : Found) : Type 0 where
  pub lives : f.lives ≡ lives_of r.parts.items
  pub locks : f.locks ≡ r.locks
  pub joins : f.joins ≡ joins_regained server epoch (list_map ready_of r.parts.items)
  pub opens : OpensWith server epoch (list_map ready_of r.parts.items) f.joins
  pub restarts : RestartsWith server epoch (list_map ready_of r.parts.items) f.joins
  pub run : IsOf server epoch 0 f.coordinator
  pub finds : Finds (list_map noted r.decisions.items) f.coordinator
  pub ready : f.ready ≡ list_map join_of r.parts.items
  pub decided : f.decided ≡ list_map stamp_of r.decisions.items

-- ---- what the notes say

abbrev pub joins_noted : List ReadyNote → List JoinNo
joins_noted ns = list_map (λ (n : ReadyNote). n.join) ns

abbrev pub stamps_noted : List DecisionNote → List Stamp
stamps_noted ds = list_map (λ (d : DecisionNote). d.stamp) ds

-- The parts are those of the ready notes, with just their locks, the joins are theirs, and the decisions are those of the notes. Nothing began
-- in this epoch.
pub record IsFoundIn (tells : Bool) (m : Cells) (server epoch : ℕ) (notes : Notes) (l : LiveMap) (t : Table) (k : Joins) (c : Coordinator) : Type 0 where
  pub parts : List RegainedPart
  pub of : ArePartsOf tells m server (clock_before epoch notes).epoch parts (ready_kept notes)
  pub lives : l ≡ lives_of parts
  pub locks : AreLocksOf t (ready_kept notes)
  pub joins : k ≡ joins_regained server epoch (list_map part_noted (ready_kept notes))
  pub opens : OpensWith server epoch (list_map part_noted (ready_kept notes)) k
  pub restarts : RestartsWith server epoch (list_map part_noted (ready_kept notes)) k
  pub run : IsOf server epoch 0 c
  pub finds : Finds (decisions_kept notes) c

-- A server keeps that of these contents, and nothing else of a client.
pub record KeepsFound {V : Type 0} (tells : Bool) (found : Contents) (k : ServerState V) : Type 0 where
  pub all : IsFoundIn tells found.cells k.server k.epoch found.notes k.lives k.locks k.joins k.coordinator
  pub given : k.given ≡ 0
  pub sessions : k.sessions ≡ no_sessions
  pub dead : k.dead ≡ []
  pub waits : k.waits ≡ []
  pub up : k.is_down ≡ false

-- all that is found, and in which order
pub record FindsAll (tells : Bool) (m : Cells) (server epoch : ℕ) (notes : Notes) (f : Found) : Type 0 where
  pub found : IsFoundIn tells m server epoch notes f.lives f.locks f.joins f.coordinator
  pub ready : f.ready ≡ joins_noted (ready_kept notes)
  pub decided : f.decided ≡ stamps_noted (decisions_kept notes)

-- a server that begins an epoch with this clock on this vault, with all that was found
pub record HasBegun {V : Type 0} (sizes : Sizes) (server servers : ℕ) (clock : ClockNote) (f : Found) (v : V) (k : ServerState V) : Type 0 where
  pub number : k.server ≡ server
  pub of_all : k.servers ≡ servers
  pub volume : k.sizes ≡ sizes
  pub epoch : k.epoch ≡ clock.epoch
  pub time : k.clock ≡ clock.clock
  pub given : k.given ≡ 0
  pub coordinator : k.coordinator ≡ f.coordinator
  pub joins : k.joins ≡ f.joins
  pub sessions : k.sessions ≡ no_sessions
  pub lives : k.lives ≡ f.lives
  pub dead : k.dead ≡ []
  pub waits : k.waits ≡ []
  pub locks : k.locks ≡ f.locks
  pub vault : k.vault ≡ v
  pub up : k.is_down ≡ false

-- ---- where nothing is found

-- Where the vault tells, the notes are not together. Whatever it tells, either they are not, each by itself, or there is a part that is ready.
pub record GoApart (tells : Bool) (server servers epoch : ℕ) (s : Sizes) (held : Contents) : Type 0 where
  pub told : IsTrue tells → AreTogether server servers epoch s held.cells held.notes → ⊥
  pub alone : ready_kept held.notes ≡ [] → AreNotesTogether server servers epoch s.area held.notes → ⊥

-- the fault of a look into the vault, if it was one
abbrev pub look_in : {T : Type 0} → Result T StartFault → Option CallFault
look_in (Ok x) = None
look_in (Err (fault.Vault f)) = Some (fault_as f)
look_in (Err fault.BadNote) = None
look_in (Err fault.EpochEnd) = None

-- a fault of the vault, which is a volume in its format, or notes that are not together
abbrev pub WasNotFound : (tells : Bool) (server servers epoch : ℕ) → Sizes → Contents → StartFault → Type 0
WasNotFound tells server servers epoch s held (fault.Vault f) = IsOfVolume f
WasNotFound tells server servers epoch s held fault.BadNote = GoApart tells server servers epoch s held
WasNotFound tells server servers epoch s held fault.EpochEnd = ⊥

-- a fault of regaining as a start tells it
abbrev pub IsToldAs : RegainFault → StartFault → Type 0
IsToldAs regain_fault.BadNote f = f ≡ fault.BadNote
IsToldAs (regain_fault.Vault call_fault.Failed) f = f ≡ fault.Vault vault_fault.Failed
IsToldAs (regain_fault.Vault call_fault.Stopped) f = f ≡ fault.Vault vault_fault.Stopped
IsToldAs (regain_fault.Vault call_fault.OutOfMemory) f = f ≡ fault.Vault vault_fault.OutOfMemory
