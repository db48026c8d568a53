-- What a server writes of a transaction: the notes that change with it, and what the state is behind.
use Rattle.std.specs.Prelude.{◌≡◌, ◌⊎◌, ℕ, ◌+◌, ◌≤◌, max, Bool, true, IsTrue, List, [], ◌∷◌, ◌++◌, length, Some, Result, Ok, Err, OnOk, IsErrOf, vec_capacity}
use Rattle.std.specs.FinMap as map
use Rattle.alp_base.specs.Allowances.{Spends}
use Rattle.alp_base.specs.Notes.{Notes, notes_after}
use Rattle.alp_base.specs.declared.faults.Sizes.{Sizes}
use Rattle.alp_base.specs.declared.bytes.NoteChange.{NoteChange}
use Rattle.alp_base.specs.declared.ids.JoinNo.{JoinNo}
use Rattle.alp_base.specs.declared.ids.Stamp.{Stamp}
use Rattle.alp_base.specs.declared.ids.TransId.{TransId}
use Rattle.alp_base.specs.declared.key.Key.{Key}
use Rattle.alp_fields.specs.ClockNote.{clock_name, clock_form}
use Rattle.alp_fields.specs.declared.clock_note.ClockNote.{ClockNote}
use Rattle.alp_fields.specs.DecisionNote.{decision_form, decision_name, decision_noted}
use Rattle.alp_files.specs.Cells.{Cells}
use Rattle.alp_files.specs.Changes.{edits_of}
use Rattle.alp_files.specs.Edits.{edits_map}
use Rattle.alp_journal.specs.declared.act.Act.{Act}
use Rattle.alp_journal.specs.declared.act.Act.TheVariants as act
use Rattle.alp_journal.specs.Coordinator.{joins_of}
use Rattle.alp_journal.specs.Deeds.{Finishes, Decides}
use Rattle.alp_coord.specs.declared.coordinator.Coordinator.{Coordinator}
use Rattle.alp_coord.specs.Coordinators.{IsAlong, Comes, fate_in}
use Rattle.alp_trans.specs.declared.part.Part.{Part}
use Rattle.alp_trans.specs.Parts.{change_of}
use Rattle.alp_vault.specs.Vault.{IsSameVault}
use Rattle.alp_vault.specs.Volumes.{record_pages, live_bytes, commit_bytes}
use Rattle.alp_vault.specs.declared.vault.Vault.{Ghosts}
use Rattle.alp_node.specs.Durable.{Leaves, Besides, NoOther, IsWritten}
use Rattle.alp_node.specs.Eases.{eased, new_blocks}
use Rattle.alp_node.specs.Halts.{Ends}
use Rattle.alp_node.specs.Releases.{let_go, granted_behind, grant_acts}
use Rattle.alp_node.specs.declared.decide.Decided.{Decided}
use Rattle.alp_node.specs.declared.decide.Decided.TheVariants as decided
use Rattle.alp_node.specs.declared.decide.Pending.{Pending}
use Rattle.alp_node.specs.declared.lives.Live.{Live}
use Rattle.alp_node.specs.declared.server_state.ServerState.{ServerState}
use Rattle.alp_node.specs.declared.stored.StoreFault.{StoreFault}
use Rattle.alp_node.specs.declared.stored.StoreFault.TheVariants as fault

-- ---- notes

-- the note of this epoch and clock
abbrev pub clock_put : ClockNote → NoteChange
clock_put c = record { name = clock_name; value = Some (clock_form.spell c) }

-- that of a decision, where it has parts on other servers
abbrev pub decision_put : Stamp → List JoinNo → List NoteChange
decision_put stamp [] = []
decision_put stamp (j ∷ js) = decision_noted stamp.trans (record { ts = stamp.ts; joins = j ∷ js }) ∷ []

abbrev pub decision_changes : (epoch : ℕ) → Stamp → List JoinNo → List NoteChange
decision_changes epoch stamp js = clock_put (record { epoch = epoch; clock = stamp.ts }) ∷ decision_put stamp js

abbrev pub FitDecision : Stamp → List JoinNo → Type 0
FitDecision stamp [] = Unit {0}
FitDecision stamp (j ∷ js) = decision_form.Fits (record { ts = stamp.ts; joins = j ∷ js }) × decision_name.Fits stamp.trans

-- ---- what a decision takes of memory

-- what the entry of a decision says first
abbrev pub decided_acts : Stamp → List JoinNo → List Act
decided_acts stamp js = act.Decided stamp js ∷ act.Released stamp.trans ∷ []

-- the notes of the decision, what its entry says, and what that of a server says that goes down in it; with places for who is granted
-- and for what is said
pub record IsPending {V : Type 0} (k : ServerState V) (x : Stamp) (js : List JoinNo) (p : Pending) : Type 0 where
  pub stamp : p.stamp ≡ x
  pub notes : p.notes.items ≡ decision_changes k.epoch x js
  pub fits : FitDecision x js
  pub acts : p.acts.items ≡ decided_acts x js
  pub room : 2 + length k.locks.waiting + length js ≤ vec_capacity p.acts
  pub halted : p.halted.items ≡ act.Decided x js ∷ []
  pub place : 2 ≤ vec_capacity p.halted

-- ---- a write

-- what a write of a part with these changes of notes leaves in the vault
pub record Writes {V : Type 0} (G : Ghosts V) (old new : V) (p : Part) (changes : List NoteChange) (r : Result (Unit {0}) StoreFault) : Type 0 where
  pub same : IsSameVault G.tells G.volume G.server G.servers old new
  pub cells : IsTrue (G.tells old) → OnOk r ((G.held new).cells ≡ edits_map (edits_of (change_of p.intents)) (G.held old).cells)
  pub notes : OnOk r ((G.held new).notes ≡ notes_after changes (G.held old).notes)
  pub leaves : IsTrue (G.tells old) → Leaves G old new (Besides G old (IsWritten p.intents changes (G.held old)))
  pub memory : IsTrue (G.tells old) → IsErrOf r fault.OutOfMemory → Leaves G old new (Besides G old NoOther)
  pub spends : Spends (G.allowance old) (G.allowance new)
  pub ended : Ends G old new r

-- The intents of the part are cells, its locks are gone, who waited has them in turn, and the other parts need no place any more for the
-- blocks that got their first page.
pub record HasMade {V : Type 0} (tells : Bool) (cells : Cells) (k new : ServerState V) (t : TransId) : Type 0 where
  pub blocks : List Key
  pub opened : IsTrue tells → (l : Live) → map.get k.lives t ≡ Some l → blocks ≡ new_blocks cells l.part.intents.puts
  pub kept : new ≡ record (let_go k t) { lives = eased blocks (let_go k t).lives (map.keys k.lives); vault = new.vault }

-- the log has room for the record of a part with these notes
abbrev pub HasLogFor : Notes → Sizes → Live → List NoteChange → Type 0
HasLogFor notes s l changes = record_pages (live_bytes notes) + record_pages (commit_bytes l.part.counts.cells changes) ≤ s.area

-- ---- a decision

-- the part was made, and the clock is not before the stamp
pub record HasKept {V : Type 0} (G : Ghosts V) (k new : ServerState V) (p : Pending) (acts : List Act) : Type 0 where
  pub made : ServerState V
  pub part : HasMade (G.tells k.vault) (G.held k.vault).cells k made p.stamp.trans
  pub kept : new ≡ record made { clock = max k.clock p.stamp.ts }
  pub writes : (l : Live) → map.get k.lives p.stamp.trans ≡ Some l → Writes G k.vault made.vault l.part p.notes.items (Ok tt)
  pub said : acts ≡ p.acts.items ++ grant_acts (granted_behind k p.stamp.trans)

-- the part was made, and the transaction is decided
pub record HasDecided {V : Type 0} (G : Ghosts V) (k new : ServerState V) (p : Pending) (acts : List Act) : Type 0 where
  pub made : ServerState V
  pub mid : Coordinator
  pub part : HasMade (G.tells k.vault) (G.held k.vault).cells k made p.stamp.trans
  pub kept : new ≡ record made { clock = max k.clock p.stamp.ts; coordinator = new.coordinator }
  pub writes : (l : Live) → map.get k.lives p.stamp.trans ≡ Some l → Writes G k.vault made.vault l.part p.notes.items (Ok tt)
  pub first : IsAlong k.coordinator mid
  pub finished : Comes (Finishes p.stamp.trans) k.coordinator mid
  pub second : IsAlong mid new.coordinator
  pub decided : Comes (Decides p.stamp (joins_of (fate_in mid p.stamp.trans))) mid new.coordinator
  pub said : acts ≡ p.acts.items ++ grant_acts (granted_behind k p.stamp.trans)

-- the server is down
pub record HasHalted {V : Type 0} (G : Ghosts V) (k new : ServerState V) (p : Pending) (acts : List Act) : Type 0 where
  pub why : StoreFault
  pub shown : Act
  pub of : ((why ≡ fault.Failed) × (shown ≡ act.Failed)) ⊎ ((why ≡ fault.Stopped) × (shown ≡ act.Stopped))
  pub kept : new ≡ record k { is_down = true; vault = new.vault }
  pub writes : (l : Live) → map.get k.lives p.stamp.trans ≡ Some l → Writes G k.vault new.vault l.part p.notes.items (Err why)
  pub said : acts ≡ p.halted.items ++ shown ∷ []

abbrev pub WasKept : {V : Type 0} → Ghosts V → ServerState V → ServerState V → Pending → Decided → Type 0
WasKept G k new p (decided.Made acts) = HasKept G k new p acts.items
WasKept G k new p (decided.Halted acts) = HasHalted G k new p acts.items

abbrev pub WasDecided : {V : Type 0} → Ghosts V → ServerState V → ServerState V → Pending → Decided → Type 0
WasDecided G k new p (decided.Made acts) = HasDecided G k new p acts.items
WasDecided G k new p (decided.Halted acts) = HasHalted G k new p acts.items

-- the places of its acts stand
abbrev pub KeepsPlaces : Pending → Decided → Type 0
KeepsPlaces p (decided.Made acts) = vec_capacity acts ≡ vec_capacity p.acts
KeepsPlaces p (decided.Halted acts) = Unit {0}

-- memory was wanting: only the vault was asked
pub record HasNone {V : Type 0} (G : Ghosts V) (k new : ServerState V) (p : Pending) : Type 0 where
  pub kept : new ≡ record k { vault = new.vault }
  pub writes : (l : Live) → map.get k.lives p.stamp.trans ≡ Some l → Writes G k.vault new.vault l.part p.notes.items (Err fault.OutOfMemory)
