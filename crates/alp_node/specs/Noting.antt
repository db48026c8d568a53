-- Notes of a server that change in a write of their own.
use Rattle.std.specs.Prelude.{◌≡◌, ℕ, ◌+◌, ◌≤◌, List, [], ◌∷◌, length, Result}
use Rattle.std.specs.FinMap.{find}
use Rattle.alp_base.specs.Notes.{Notes}
use Rattle.alp_base.specs.declared.bytes.NoteChange.{NoteChange}
use Rattle.alp_base.specs.declared.faults.Sizes.{Sizes}
use Rattle.alp_base.specs.declared.ids.JoinNo.{JoinNo}
use Rattle.alp_base.specs.declared.ids.TransId.{TransId}
use Rattle.alp_base.specs.declared.key.Resource.{Resource}
use Rattle.alp_base.specs.Orders.{resource_cmp}
use Rattle.alp_fields.specs.ReadyNote.{ready_name, ready_form, ready_noted}
use Rattle.alp_fields.specs.declared.ready_note.ReadyPart.{ReadyPart}
use Rattle.alp_files.specs.Changes.{edits_of}
use Rattle.alp_files.specs.Holdings.{held_by}
use Rattle.alp_files.specs.Needs.{intents_of, no_intents}
use Rattle.alp_modes.specs.declared.Mode.{Mode}
use Rattle.alp_trans.specs.declared.part.Part.{Part}
use Rattle.alp_vault.specs.Volumes.{record_pages, live_bytes, commit_bytes, changed_cells}
use Rattle.alp_vault.specs.declared.vault.Vault.{Ghosts}
use Rattle.alp_node.specs.Writes.{Writes}
use Rattle.alp_node.specs.declared.stored.StoreFault.{StoreFault}

-- the log has room for the record of these changes alone
abbrev pub HasRoomFor : Notes → Sizes → List NoteChange → Type 0
HasRoomFor notes s changes = record_pages (live_bytes notes) + record_pages (commit_bytes 0 changes) ≤ s.area

-- they were written, with a part that intends nothing
pub record HasNoted {V : Type 0} (G : Ghosts V) (old new : V) (changes : List NoteChange) (r : Result (Unit {0}) StoreFault) : Type 0 where
  pub part : Part
  pub idle : part.intents ≡ no_intents
  pub writes : Writes G old new part changes r

-- the note of a part that votes: what it intends and what it has locked
pub record IsVoteNote (j : JoinNo) (t : TransId) (client ts : ℕ) (p : Part) (locks : List (Resource × Mode)) (changes : List NoteChange) : Type 0 where
  pub kept : ReadyPart
  pub trans : kept.trans ≡ t
  pub owner : kept.client ≡ client
  pub time : kept.ts ≡ ts
  pub count : length kept.locks ≡ length locks
  pub held : (r : Resource) → held_by kept.locks r ≡ find resource_cmp r locks
  pub cells : changed_cells kept.change ≡ p.counts.cells
  pub intents : intents_of (edits_of kept.change) ≡ p.intents
  pub fits : ready_form.Fits kept
  pub named : ready_name.Fits j
  pub written : changes ≡ ready_noted j kept ∷ []
