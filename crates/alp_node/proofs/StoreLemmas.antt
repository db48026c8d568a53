-- a commit of a part with changes of notes
use Rattle.std.specs.Prelude.{Err}
use Rattle.std.specs.FinMap as map
use Rattle.std.specs.FinMap.{len-entries}
use Rattle.std.proofs.lemmas.List.{length-map}
use Rattle.std.proofs.Common.{◌≡◌, ℕ, ◌+◌, ◌≤◌, List, sym, ◌∙◌, subst, arith}
use Rattle.alp_base.specs.Notes.{Notes}
use Rattle.alp_base.specs.declared.bytes.NoteChange.{NoteChange}
use Rattle.alp_base.specs.declared.faults.Sizes.{Sizes}
use Rattle.alp_base.specs.declared.ids.FileId.{FileId}
use Rattle.alp_files.specs.Needs.{changed_by}
use Rattle.alp_trans.specs.Parts.{change_of}
use Rattle.alp_trans.specs.declared.part.Part.{Part}
use Rattle.alp_calls.specs.Parts.{IsPart}
use Rattle.alp_calls.proofs.PartLaws.{change_once, change_fits}
use Rattle.alp_vault.specs.Volumes.{AreNoteChanges, IsCommit, changed_cells, commit_bytes, live_bytes, record_pages}
use Rattle.alp_vault.specs.declared.vault.Vault.{Ghosts}
use Rattle.alp_node.specs.Halts.{Ends}
use Rattle.alp_node.specs.declared.stored.StoreFault.{StoreFault}
use Rattle.alp_node.specs.declared.stored.StoreFault.TheVariants as store_fault

-- it is all that a commit asks
pub part_commit : (s : Sizes) (server servers : ℕ) (live : Notes) (p : Part) (changes : List NoteChange) → IsPart p → AreNoteChanges server servers live changes
    → record_pages (live_bytes live) + record_pages (commit_bytes p.counts.cells changes) ≤ s.area → IsCommit s server servers live (change_of p.intents) changes
part_commit s server servers live p changes is noted room = record {
  once = change_once p.intents;
  puts = change_fits p.intents is.fit;
  noted = noted;
  log = subst (λ (n : ℕ). record_pages (live_bytes live) + record_pages (commit_bytes n changes) ≤ s.area) (is.cells ∙ sym cells) room;
}
  where
    cells : changed_cells (change_of p.intents) ≡ changed_by p.intents
    cells = omega (arith, len-entries p.intents.puts, len-entries p.intents.cuts, len-entries p.intents.drops, length-map (map.entries p.intents.drops) (λ (e : FileId × Unit {0}). e.0))

-- ---- how it ends

-- the count of faults never falls
pub ends_later : {V : Type 0} (G : Ghosts V) (old new : V) (f : StoreFault) → Ends {T = Unit {0}} G old new (Err f) → G.faults old ≤ G.faults new
ends_later G old new store_fault.OutOfMemory h = omega (arith, h.1.faults)
ends_later G old new store_fault.Failed h = h.2
ends_later G old new store_fault.Stopped h = h.2
