-- What a server's vault holds by its journal, and what a crash leaves of it.
use Rattle.std.specs.Prelude.{◌≡◌, ◌⊎◌, ◌≤◌, ℕ, true, false, IsTrue, List, Option, None, Some, is_some, [], length}
use Rattle.alp_base.specs.Crashes.{Only, NoMore, Adds}
use Rattle.alp_base.specs.Notes.{Notes, notes_after}
use Rattle.alp_base.specs.declared.bytes.NoteChange.{NoteChange}
use Rattle.alp_base.specs.declared.ids.JoinNo.{JoinNo}
use Rattle.alp_base.specs.declared.ids.TransId.{TransId}
use Rattle.alp_base.specs.declared.key.Resource.{Resource}
use Rattle.alp_fields.specs.ClockNote.{clock_kept}
use Rattle.alp_fields.specs.DecisionNote.{decision_name}
use Rattle.alp_fields.specs.ReadyNote.{ready_name}
use Rattle.alp_fields.specs.declared.decision_note.Decision.{Decision}
use Rattle.alp_fields.specs.declared.ready_note.ReadyPart.{ReadyPart}
use Rattle.alp_files.specs.Changes.{edits_of}
use Rattle.alp_files.specs.Edits.{edits_map}
use Rattle.alp_files.specs.Holdings.{held_by}
use Rattle.alp_files.specs.Needs.{Intents, intents_of, changed}
use Rattle.alp_trans.specs.Parts.{change_of}
use Rattle.alp_vault.specs.Contents.{Contents}
use Rattle.alp_vault.specs.Volumes.{AreServerNotes, changed_cells}
use Rattle.alp_vault.specs.declared.vault.Vault.{Ghosts}
use Rattle.alp_journal.specs.declared.entry.Entry.{Entry}
use Rattle.alp_journal.specs.Along.{state_after}
use Rattle.alp_journal.specs.Counts.{with_resources}
use Rattle.alp_journal.specs.Deeds.{Deed}
use Rattle.alp_journal.specs.Holder.{Life}
use Rattle.alp_journal.specs.Moves.{tried}
use Rattle.alp_journal.specs.Participant.{Phase, Ready, is_ready}
use Rattle.alp_journal.specs.State.{State, state_deed}
use Rattle.alp_ready.specs.NoteLooks.{ready_at, decision_at}
use Rattle.alp_node.specs.Noted.{decision_kept}

-- ---- what is held

-- the note has the locks of the part and what it intends, and names no resource and no cell twice
pub record IsKeptOf (l : Life) (p : ReadyPart) : Type 0 where
  pub held : (r : Resource) → held_by p.locks r ≡ l.held r
  pub intents : intents_of (edits_of p.change) ≡ intents_of l.edits
  pub once : length p.locks ≡ length (with_resources p.locks [])
  pub cells : changed_cells p.change ≡ changed (edits_of p.change)

abbrev pub IsKeptIf : Option Life → ReadyPart → Type 0
IsKeptIf None p = ⊥
IsKeptIf (Some l) p = IsKeptOf l p

-- A ready part has its note, with its transaction, its client and the time of its vote; and no other join has one.
abbrev pub IsReadyNote : (TransId → Option Life) → Phase → Option ReadyPart → Type 0
IsReadyNote lives (Ready t client ts) None = ⊥
IsReadyNote lives (Ready t client ts) (Some p) = (p.trans ≡ t) × (p.client ≡ client) × (p.ts ≡ ts) × IsKeptIf (lives t) p
IsReadyNote lives phase x = x ≡ None

-- What the notes of a server keep by its journal: that epoch and the clock that a restart finds; each part that voted and whose
-- outcome is not known; each decision that a part on another server has not applied. Nothing else stands. Each of them has a name that
-- can be spelled, and no decision is later than the clock.
pub record AreNotesOf (s : State) (epoch : ℕ) (notes : Notes) : Type 0 where
  pub clock : clock_kept notes ≡ record { epoch = epoch; clock = s.holder.kept }
  pub ready : (j : JoinNo) → ready_name.Fits j → IsReadyNote s.holder.lives (s.phases j) (ready_at notes j)
  pub decided : (t : TransId) → decision_name.Fits t → decision_at notes t ≡ decision_kept (s.fates t)
  pub fit : (j : JoinNo) → is_ready (s.phases j) ≡ true → ready_name.Fits j
  pub fit_decided : (t : TransId) → is_some (decision_kept (s.fates t)) ≡ true → decision_name.Fits t
  pub timely : (t : TransId) (d : Decision) → decision_kept (s.fates t) ≡ Some d → d.ts ≤ s.holder.kept
  pub format : AreServerNotes s.holder.server s.servers notes

-- the vault has the cells that the journal says, and its notes, of that epoch
pub record IsStoredBy (epoch : ℕ) (s : State) (c : Contents) : Type 0 where
  pub cells : c.cells ≡ s.holder.cells
  pub notes : AreNotesOf s epoch c.notes

-- it holds what the journal says
abbrev pub IsSaid : State → Contents → Type 0
IsSaid s c = IsStoredBy s.ids.epoch s c

-- and what that comes to with these deeds besides
abbrev pub IsSaidWith : State → List Deed → Contents → Type 0
IsSaidWith s ds c = IsStoredBy s.ids.epoch (state_after state_deed s ds) c

-- what the vault would hold with all that an entry was to bring about
abbrev pub IsSaidBy : State → Entry → Contents → Type 0
IsSaidBy s e c = IsSaidWith s (tried s e) c

-- and with all that a stopped server tried last
abbrev pub IsSaidThen : State → Contents → Type 0
IsSaidThen s c = IsSaidWith s s.pending c

-- one of the two
abbrev pub HeldOr : Contents → (Contents → Type 0) → Contents → Type 0
HeldOr held P c = (c ≡ held) ⊎ P c

-- ---- what a crash leaves

-- A crash leaves what the journal says, and nothing else. Where the server went down as it wrote, it may also leave that with
-- the whole of what was written.
pub record IsDurable (s : State) (leaves : Contents → Type 0) : Type 0 where
  pub up : s.is_down ≡ false → NoMore (IsSaid s) leaves
  pub down : NoMore (λ c. IsSaid s c ⊎ IsSaidThen s c) leaves

-- a vault that serves has nothing half made: a crash leaves what it holds
abbrev pub IsSettled : {V : Type 0} → Ghosts V → V → Type 0
IsSettled G v = IsTrue (G.tells v) → IsTrue (G.serves v) → Only (G.held v) (G.may_leave v)

-- from one moment to another a crash leaves just what is so
pub record Leaves {V : Type 0} (G : Ghosts V) (old new : V) (P : Contents → Type 0) : Type 0 where
  pub crash : NoMore P (G.may_leave new)
  pub time : Adds G.left_since old new P

-- what a crash may have left before a step, or what is held there, or what has P
abbrev pub Besides : {V : Type 0} → Ghosts V → V → (Contents → Type 0) → Contents → Type 0
Besides G v P c = G.may_leave v c ⊎ (c ≡ G.held v) ⊎ P c

-- nothing besides
abbrev pub NoOther : Contents → Type 0
NoOther c = ⊥

-- what was held, with these intents and these changes of notes
pub record IsWritten (intents : Intents) (changes : List NoteChange) (before c : Contents) : Type 0 where
  pub cells : c.cells ≡ edits_map (edits_of (change_of intents)) before.cells
  pub notes : c.notes ≡ notes_after changes before.notes
