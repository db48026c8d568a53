-- what a commit asks of a vault
use Rattle.std.specs.Prelude.{true}
use Rattle.std.proofs.Common.{◌≡◌, ℕ, ◌+◌, ◌*◌, ◌≤◌, List, [], ◌∷◌, sym, subst, arith}
use Rattle.alp_base.specs.Notes.{Notes}
use Rattle.alp_base.specs.declared.bytes.NoteChange.{NoteChange}
use Rattle.alp_base.specs.declared.faults.Sizes.{Sizes}
use Rattle.alp_fields.specs.ClockNote.{IsClockNote}
use Rattle.alp_base.specs.declared.change.Change.{Change}
use Rattle.alp_files.specs.Changes.{ArePutOnce}
use Rattle.alp_vault.specs.Volumes.{IsCommit, AreNotesSoFar, AreChangesSoFar, changed_cells, fit_keys}
use Rattle.alp_vault.proofs.VolumeLemmas.{changed_notes, changes_so_far, log_room}

pub can_commit : (s : Sizes) (server servers : ℕ) (live : Notes) (c : Change) (n : NoteChange) (changes : List NoteChange) → ArePutOnce c.puts → changes ≡ n ∷ [] → IsClockNote n
    → fit_keys c.puts ≡ true → AreNotesSoFar server servers live → 6 * changed_cells c + 30 ≤ s.area → IsCommit s server servers live c changes
can_commit s server servers live c n changes once one is puts are room =
    subst (λ (xs : List NoteChange). IsCommit s server servers live c xs) (sym one)
    (record { once = once; puts = puts; noted = changes_so_far server servers live (n ∷ []) noted; log = log_room server servers s.area 0 live c (n ∷ []) noted (omega (arith, room)) })
  where
    noted : AreChangesSoFar server servers live (n ∷ [])
    noted = record { before = are; after = changed_notes server servers live (n ∷ []) are is; each = is }
